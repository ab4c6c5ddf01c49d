-- What a trace is made of.
use Rattle.std.proofs.Common.{◌≡◌, ℕ, suc, ◌+◌, ◌<◌, refl, ap, sym, subst}
use Rattle.std.proofs.Common.{List, [], ◌∷◌, ◌++◌, length, take, get_or}
use Rattle.std.proofs.lemmas.List.{take_more}
use Rattle.abc_pred.specs.Maps.{Entries}
use Rattle.abc_term.specs.declared.terms.Program.{Program}
use Rattle.abc_system.specs.declared.row.StepRow.{StepRow}
use Rattle.abc_system.specs.Systems.{row_of}
use Rattle.abc_trace.specs.declared.trace.Head.{Head}
use Rattle.abc_trace.specs.declared.trace.Line.{Line}
use Rattle.abc_trace.specs.declared.trace.Trace.{Trace}
use Rattle.abc_run_trace.specs.Telling.{TellsRow, TellEach, finals_of}

-- As many lines as rows,
pub tell_many : (p : Program) (rows : List StepRow) (lines : List Line) →
    TellEach p rows lines → length rows ≡ length lines
tell_many p [] [] h = refl
tell_many p [] (l ∷ lines) h = absurd h
tell_many p (r ∷ rows) [] h = absurd h
tell_many p (r ∷ rows) (l ∷ lines) h = ap suc (tell_many p rows lines h.1)

-- and one more for one row more.
tell_both : (p : Program) (rows : List StepRow) (lines : List Line) (row : StepRow) (line : Line) →
    TellEach p rows lines → TellsRow p (row_of row) line →
    TellEach p (rows ++ row ∷ []) (lines ++ line ∷ [])
tell_both p [] [] row line h tells = (tells, tt)
tell_both p [] (l ∷ lines) row line h tells = absurd h
tell_both p (r ∷ rows) [] row line h tells = absurd h
tell_both p (r ∷ rows) (l ∷ lines) row line h tells =
    (h.0, tell_both p rows lines row line h.1 tells)

-- one step more of the loop that tells them
pub tell_more : (p : Program) (rows : List StepRow) (i : ℕ) (row : StepRow)
    (lines next : List Line) (line : Line) →
    i < length rows → row ≡ get_or rows i row → TellEach p (take i rows) lines →
    TellsRow p (row_of row) line → next ≡ lines ++ line ∷ [] → TellEach p (take (i + 1) rows) next
tell_more p rows i row lines next line within is so tells more =
    let now : TellEach p (take i rows ++ row ∷ []) next =
    subst (TellEach p (take i rows ++ row ∷ [])) (sym more)
    (tell_both p (take i rows) lines row line so tells) in
    subst (λ (rs : List StepRow). TellEach p rs next) (sym (take_more rows i row within))
    (subst (λ (r : StepRow). TellEach p (take i rows ++ r ∷ []) next) is now)

-- The program's names, the head, a line for each row and for each environment, and what the nodes
-- handled.
pub record IsMadeOf (p : Program) (h : Head) (rows : List StepRow) (envs : List Entries)
    (ks : List ℕ) (t : Trace) : Type 0 where
  pub names : t.names ≡ p.names
  pub head : t.head ≡ h
  pub lines : TellEach p rows t.lines
  pub finals : t.finals ≡ finals_of p.components envs
  pub handled : t.handled ≡ ks
