use Rattle.std.proofs.Common.{map, sym, ap, ◌∙◌, subst, eqb-true}
use Rattle.std.proofs.lemmas.List.{nil_from_length, length-map}
use Rattle.abc_text.specs.Meanings.{AreDifferent}
use Rattle.abc_trace_lines.proofs.EntryLists.{entries_not_inside, entries_not_some, entries_not_end, entries_not_once, entries_are, not_none}
use Rattle.abc_trace_lines.proofs.WordsDiffer.{words_kept}
use Rattle.abc_trace_lines.proofs.env.read_entries.Goals as goal

pub returns-in_default-2 : goal.returns-in_default-2
returns-in_default-2 c =
    entries_not_inside _ _ c.if-is_text.ensures c.in-Some.ensures
    (rw c.in_default-2.is at c.in_ok-entries.ensures)

pub returns-then-is_empty : goal.returns-then-is_empty
returns-then-is_empty c =
    entries_not_some _ _ _ _ c.if-is_text.ensures c.in-Some.ensures
    (rw c.in-Some-2.is at c.in_ok-entries.ensures)
    (length-map _ _ ∙ eqb-true _ _ (sym c.if-is_empty.ensures))

pub returns-then-not-is_empty : goal.returns-then-not-is_empty
returns-then-not-is_empty c =
    entries_not_end _ _ _ _ c.if-is_text.ensures c.in-Some.ensures
    (rw c.in-Some-2.is at c.in_ok-entries.ensures) c.if-not-is_empty.ensures

pub returns-then-branch : goal.returns-then-branch
returns-then-branch c =
    let once = rw c.if-branch.true at c.in_ok-words_differ.ensures in
    entries_are _ _ _ _ c.in-Some.ensures (rw c.in-Some-2.is at c.in_ok-entries.ensures)
    (not_none _ _ c.if-is_empty.ensures)
    (nil_from_length _ (eqb-true _ _ (sym c.if-not-is_empty.ensures)))
    (subst AreDifferent (ap (λ es. map (λ e. e.0.now) es) c.as_slice.ensures ∙ words_kept _) once)

pub returns : goal.returns
returns c =
    let twice = rw c.if-branch.false at c.in_ok-words_differ.ensures in
    entries_not_once _ _ _ _ c.if-is_text.ensures c.in-Some.ensures
    (rw c.in-Some-2.is at c.in_ok-entries.ensures)
    (λ h. twice (subst AreDifferent
    (sym (ap (λ es. map (λ e. e.0.now) es) c.as_slice.ensures ∙ words_kept _)) h))
