-- The text of a run that is made from what a program begins with is that of the run from its first system.
use Rattle.std.proofs.Common.{◌≡◌, ◌⊎◌, ◌∙◌, inl, inr, ℕ, ◌≤◌, List, [], ◌∷◌, ◌++◌, length, map, refl, ap, sym, subst, append-nil}
use Rattle.abc_pred.specs.Maps.{Entries}
use Rattle.abc_term.specs.Processes as term
use Rattle.abc_term.specs.Standing.{definitions_of, system_of}
use Rattle.abc_term.specs.Systems.{IsSilent}
use Rattle.abc_term.specs.declared.terms.Program.{Program}
use Rattle.abc_steps.specs.Alike.{AreAlike}
use Rattle.abc_steps.specs.Rows.{TellTurns}
use Rattle.abc_steps.proofs.AlikeSteps.{alike_silent}
use Rattle.abc_steps.proofs.Rows.{turns_tell_runs}
use Rattle.abc_steps.proofs.RowTurns.{turn_rows_are_turns, alike_turn_rows}
use Rattle.abc_system.specs.declared.system.System.{System}
use Rattle.abc_system.specs.Running.{system_in, definitions_in, envs_of}
use Rattle.abc_trace.specs.declared.trace.Head.TheVariants.{Solo}
use Rattle.abc_trace.specs.Lines.{head_text, end_text}
use Rattle.abc_trace.specs.Texts.{numbered}
use Rattle.abc_run_text.specs.TextOf.{row_text, envs_text}
use Rattle.abc_run_text.specs.SoloTexts.{IsSoloText, WritesSteps, EndsSteps}

-- alike systems have the same environments
alike_envs : (S T : term.System) → AreAlike S T → envs_of S ≡ envs_of T
alike_envs [] [] a = refl
alike_envs [] (D ∷ T) a = elim a [ ]
alike_envs (C ∷ S) [] a = elim a [ ]
alike_envs (C ∷ S) (D ∷ T) a = λ i. a.0.env i ∷ alike_envs S T a.1 i

-- the first line, the lines of the steps, those of the environments, and the last line
pub record WritesAll (p : Program) (limit pick made : ℕ) (first now : System) (envs : List Entries) (out₀ out₁ out₂ out₃ : List ℕ) : Type 0 where
  pub head : out₀ ≡ head_text (Solo limit pick)
  pub steps : WritesSteps p pick first now made out₀ out₁
  pub ends : EndsSteps limit first now made
  pub envs_now : envs ≡ envs_of (system_in now)
  pub envs_text : out₂ ≡ out₁ ++ envs_text p.names p.components envs
  pub end : out₃ ≡ out₂ ++ end_text limit made

pub solo_from :
    (p : Program) (limit pick made : ℕ) (first now : System) (envs : List Entries) (out₀ out₁ out₂ out₃ : List ℕ)
    → AreAlike (system_in first) (system_of p) → definitions_in first ≡ definitions_of p.definitions
    → WritesAll p limit pick made first now envs out₀ out₁ out₂ out₃ → IsSoloText p limit pick out₃
solo_from p limit pick made first now envs out₀ out₁ out₂ out₃ alike program all =
    let defs = definitions_of p.definitions in
    let S = system_in first in
    let T = system_in now in
    let rows = all.steps.rows in
    let turns = subst (λ (d : term.Definitions). TellTurns d pick S rows T) program all.steps.turns in
    let there = alike_turn_rows defs pick S (system_of p) rows T alike turns in
    let U = there.0 in
    let most : length rows ≤ limit = subst (λ (n : ℕ). n ≤ limit) (sym all.steps.count) all.ends.0 in
    let ended : (length rows ≡ limit) ⊎ IsSilent defs U =
    elim all.ends.1 [
      | inl e ↦ inl (all.steps.count ∙ e)
      | inr s ↦ inr (alike_silent defs T U there.1 (subst (λ (d : term.Definitions). IsSilent d T) program s))
    ] in
    let lines = numbered (row_text p) 1 rows in
    let same_envs : envs ≡ map (λ C. C.env) U = all.envs_now ∙ alike_envs T U there.1 in
    record {
      rows = rows;
      last = U;
      run = record {
        told = turns_tell_runs defs pick (system_of p) rows U there.2;
        ruled = turn_rows_are_turns defs limit pick (system_of p) rows U there.2 most ended;
      };
      written =
          all.end
          ∙ ap (λ (t : List ℕ). t ++ end_text limit made)
          (all.envs_text
          ∙ ap (λ (t : List ℕ). t ++ envs_text p.names p.components envs)
          (all.steps.written ∙ ap (λ (t : List ℕ). t ++ lines) all.head))
          ∙ ap (λ (es : List Entries). ((head_text (Solo limit pick) ++ lines) ++ envs_text p.names p.components es) ++ end_text limit made) same_envs
          ∙ ap (λ (n : ℕ). ((head_text (Solo limit pick) ++ lines) ++ envs_text p.names p.components (map (λ C. C.env) U)) ++ end_text limit n)
          (sym all.steps.count)
          ∙ ap (λ (t : List ℕ). t ++ end_text limit (length rows))
          (sym (append-nil ((head_text (Solo limit pick) ++ lines) ++ envs_text p.names p.components (map (λ C. C.env) U))));
    }
