use Rattle.abc_trace_lines.proofs.Hearers.{hearer_not_place}
use Rattle.abc_trace_lines.proofs.heard.read_hearer.Goals as goal

pub returns-in_default-place : goal.returns-in_default-place
returns-in_default-place c = hearer_not_place _ _ _ c.in-Some.ensures c.in_default-place.ensures
