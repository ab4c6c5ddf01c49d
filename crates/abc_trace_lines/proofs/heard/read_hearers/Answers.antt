use Rattle.std.proofs.Common.{map, sym, ap, ◌∙◌, subst, eqb-true}
use Rattle.std.proofs.lemmas.List.{nil_from_length}
use Rattle.abc_text.specs.Meanings.{AreDifferent}
use Rattle.abc_trace_lines.proofs.Hearers.{hearers_not, hearers_not_end, hearers_not_once, hearers_are}
use Rattle.abc_trace_lines.proofs.WordsDiffer.{words_kept}
use Rattle.abc_trace_lines.proofs.heard.read_hearers.Goals as goal

pub returns-in_default : goal.returns-in_default
returns-in_default c =
    hearers_not _ c.if-is_text.ensures (rw c.in_default.is at c.in_ok-heard.ensures)

pub returns-then-not-is_empty : goal.returns-then-not-is_empty
returns-then-not-is_empty c =
    hearers_not_end _ _ _ c.if-is_text.ensures
    (rw c.in-Some.is at c.in_ok-heard.ensures) c.if-not-is_empty.ensures

pub returns-then-branch : goal.returns-then-branch
returns-then-branch c =
    let once = rw c.if-branch.true at c.in_ok-words_differ.ensures in
    hearers_are _ _ _ (rw c.in-Some.is at c.in_ok-heard.ensures)
    (nil_from_length _ (eqb-true _ _ (sym c.if-not-is_empty.ensures)))
    (subst AreDifferent (ap (λ es. map (λ e. e.0.now) es) c.as_slice.ensures ∙ words_kept _) once)

pub returns : goal.returns
returns c =
    let twice = rw c.if-branch.false at c.in_ok-words_differ.ensures in
    hearers_not_once _ _ _ c.if-is_text.ensures (rw c.in-Some.is at c.in_ok-heard.ensures)
    (λ h. twice (subst AreDifferent
    (sym (ap (λ es. map (λ e. e.0.now) es) c.as_slice.ensures ∙ words_kept _)) h))
