use Rattle.std.proofs.Common.{length, sym, subst, arith}
use Rattle.abc_grammar.specs.Limits.{IsTooLarge}
use Rattle.abc_grammar.specs.Refusals.{IsSomeProgram}
use Rattle.abc_readers.specs.Operands.{Tokens}
use Rattle.abc_phrases.specs.Fitting.{SetsFit}
use Rattle.abc_parse.specs.declared.reading.Tried.TheVariants as tried
use Rattle.abc_parse.specs.Programs.{IsTriedAs}
use Rattle.abc_parse.proofs.Lists.{take_all}
use Rattle.abc_parse.proofs.Fits.{front_fits}
use Rattle.abc_parse.proofs.Programs.{found_refused, found_ends}
use Rattle.abc_parse.proofs.reading.read_program.Goals as goal

pub try_program-requires : goal.try_program-requires
try_program-requires c = record {
  fits = subst (λ (us : Tokens). SetsFit us) (take_all c.args.lexemes.now)
      (front_fits IsSomeProgram IsTooLarge c.args.lexemes.now (length c.args.lexemes.now) c.in-Within.ensures (length c.args.lexemes.now) (omega arith));
}

pub returns-in-Refused : goal.returns-in-Refused
returns-in-Refused c =
    let t : IsTriedAs c.args.lexemes.now (tried.Refused c.in-Refused.number) = rw c.in-Refused.is at c.in_ok-items-in-Within.ensures in
    let lt = t.0 in
    found_refused c.args.lexemes.now (length c.args.lexemes.now) c.in-Refused.number (omega arith)
    (λ k below d. c.in-Within.ensures k (omega (arith, lt, below)) d)
    (subst (λ (us : Tokens). IsTriedAs us (tried.Refused c.in-Refused.number)) (sym (take_all c.args.lexemes.now)) t)

pub returns-in-Ends : goal.returns-in-Ends
returns-in-Ends c =
    let t : IsTriedAs c.args.lexemes.now tried.Ends = rw c.in-Ends.is at c.in_ok-items-in-Within.ensures in
    found_ends c.args.lexemes.now c.in-Within.ensures t
