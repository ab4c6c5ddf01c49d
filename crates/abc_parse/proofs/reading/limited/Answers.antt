use Rattle.std.proofs.Common.{◌+◌, take, sym, subst, arith}
use Rattle.abc_grammar.specs.Limits.{IsTooLarge}
use Rattle.abc_grammar.specs.Refusals.{IsSomeProgram}
use Rattle.abc_readers.specs.Operands.{Tokens}
use Rattle.abc_phrases.specs.Fitting.{SetsFit}
use Rattle.abc_parse.specs.declared.reading.Tried.TheVariants as tried
use Rattle.abc_parse.specs.Items.{plain_items}
use Rattle.abc_parse.specs.Programs.{IsTriedAs}
use Rattle.abc_parse.proofs.Lists.{take_short}
use Rattle.abc_parse.proofs.Fits.{front_fits}
use Rattle.abc_parse.proofs.Programs.{program_begins, found_refused, found_limit}
use Rattle.abc_parse.proofs.reading.limited.Goals as goal

pub try_program-requires : goal.try_program-requires
try_program-requires c = record {
  fits = subst (λ (us : Tokens). SetsFit us) (sym c.split_at.ensures.front)
      (front_fits IsSomeProgram IsTooLarge c.args.lexemes.now c.args.number c.requires.limit.within (c.args.number + 1) (omega arith));
}

pub returns-in-Refused : goal.returns-in-Refused
returns-in-Refused c =
    let t : IsTriedAs (take (c.args.number + 1) c.args.lexemes.now) (tried.Refused c.in-Refused.place) =
    rw c.split_at.ensures.front at (rw c.in-Refused.is at c.in_ok-place.ensures) in
    let short = take_short (c.args.number + 1) c.args.lexemes.now in
    let range = c.requires.limit.exists in
    let lt = t.0 in
    found_refused c.args.lexemes.now (c.args.number + 1) c.in-Refused.place (omega (arith, range))
    (λ k below d. c.requires.limit.within k (omega (arith, lt, short, below)) d) t

pub returns-in-Ends : goal.returns-in-Ends
returns-in-Ends c =
    let t : IsTriedAs (take (c.args.number + 1) c.args.lexemes.now) tried.Ends =
    rw c.split_at.ensures.front at (rw c.in-Ends.is at c.in_ok-place.ensures) in
    found_limit c.args.lexemes.now c.args.number c.args.cause c.requires.limit t.0

pub returns-in-Program : goal.returns-in-Program
returns-in-Program c =
    let t : IsTriedAs (take (c.args.number + 1) c.args.lexemes.now) (tried.Program c.in-Program.items) =
    rw c.split_at.ensures.front at (rw c.in-Program.is at c.in_ok-place.ensures) in
    found_limit c.args.lexemes.now c.args.number c.args.cause c.requires.limit
    (program_begins (take (c.args.number + 1) c.args.lexemes.now) (plain_items c.in-Program.items) t)
