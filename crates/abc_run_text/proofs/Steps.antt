-- Steps that are written as they are made.
use Rattle.std.proofs.Common.{◌≡◌, ◌∙◌, ℕ, ◌+◌, List, [], ◌∷◌, ◌++◌, length, ap, sym, subst, append_assoc, length-append, arith}
use Rattle.abc_term.specs.Processes as term
use Rattle.abc_term.specs.declared.terms.Program.{Program}
use Rattle.abc_steps.specs.Rows.{Row, TellsTurn}
use Rattle.abc_steps.proofs.Rows.{turns_more}
use Rattle.abc_system.specs.declared.system.System.{System}
use Rattle.abc_system.specs.Running.{system_in, definitions_in}
use Rattle.abc_trace.specs.Texts.{numbered}
use Rattle.abc_trace.proofs.Numbered.{numbered-more}
use Rattle.abc_run_text.specs.TextOf.{row_text}
use Rattle.abc_run_text.specs.SoloTexts.{WritesSteps}

-- one step more
pub steps_more :
    (p : Program) (pick : ℕ) (before now : System) (made : ℕ) (text text' text'' : List ℕ) (row : Row) (next : System)
    → WritesSteps p pick before now made text text' → TellsTurn (definitions_in now) (system_in now) (pick + made) row (system_in next)
    → definitions_in next ≡ definitions_in now → text'' ≡ text' ++ row_text p (made + 1) row
    → WritesSteps p pick before next (made + 1) text text''
steps_more p pick before now made text text' text'' row next so step same more =
    let defs = definitions_in before in
    let lines = numbered (row_text p) 1 so.rows in
    let told : TellsTurn defs (system_in now) (pick + length so.rows) row (system_in next) =
    subst (λ (n : ℕ). TellsTurn defs (system_in now) (pick + n) row (system_in next)) (sym so.count)
    (subst (λ (d : term.Definitions). TellsTurn d (system_in now) (pick + made) row (system_in next)) so.program step) in
    let number : made + 1 ≡ 1 + length so.rows = omega (arith, so.count) in
    record {
      rows = so.rows ++ row ∷ [];
      turns = turns_more defs pick (system_in before) so.rows (system_in now) row (system_in next) so.turns told;
      count = length-append so.rows (row ∷ []) ∙ ap (λ (n : ℕ). n + 1) so.count;
      program = same ∙ so.program;
      written =
          more
          ∙ ap (λ (t : List ℕ). t ++ row_text p (made + 1) row) so.written
          ∙ append_assoc text lines (row_text p (made + 1) row)
          ∙ ap (λ (n : ℕ). text ++ (lines ++ row_text p n row)) number
          ∙ ap (λ (t : List ℕ). text ++ t) (sym (numbered-more (row_text p) 1 so.rows row));
    }
