use Rattle.std.proofs.lemmas.List.{map_push}
use Rattle.abc_trace_lines.specs.Plain.{hearer_text}
use Rattle.abc_trace_lines.specs.Spelled.{IsHearer}
use Rattle.abc_trace_lines.proofs.Hearers.{hearer_split}
use Rattle.abc_trace_lines.proofs.ItemLists.{parted_not_first, parted_not_next, parted_more}
use Rattle.abc_trace_lines.proofs.heard.read_each_hearer.Goals as goal

pub returns-in_default : goal.returns-in_default
returns-in_default c = parted_not_first hearer_text IsHearer hearer_split _ c.in_default.ensures

pub returns-in_default-read_hearer : goal.returns-in_default-read_hearer
returns-in_default-read_hearer c =
    parted_not_next hearer_text IsHearer hearer_split _ _ _ _ c.loop-next.invariant
    c.in-Some-behind.ensures c.in_default-read_hearer.ensures

pub loop-next-preserved : goal.loop-next-preserved
loop-next-preserved c =
    rw (c.in_ok-push-2.ensures.ok, map_push)
    (parted_more hearer_text IsHearer hearer_split _ _ _ _ _ _ c.loop-next.invariant
    c.in-Some-behind.ensures c.in-Some-read_hearer.ensures)
