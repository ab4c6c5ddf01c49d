use Rattle.std.proofs.Common.{◌+◌, take, arith}
use Rattle.abc_parse.specs.declared.front.Tried.TheVariants as tried
use Rattle.abc_parse.specs.Fronting.{IsTried}
use Rattle.abc_parse.proofs.Fronts.{with_limit, limit_found, limit_ends, limit_refused}
use Rattle.std.proofs.Common.{sym, subst}
use Rattle.abc_grammar.specs.Limits.{BeginsExtraToken}
use Rattle.abc_grammar.specs.Refusals.{IsSomePred}
use Rattle.abc_readers.specs.Operands.{Tokens}
use Rattle.abc_phrases.specs.Fitting.{SetsFit}
use Rattle.abc_parse.proofs.Fits.{front_fits}
use Rattle.abc_parse.proofs.front.limited.Goals as goal

pub split_at-requires : goal.split_at-requires
split_at-requires c = let h = with_limit c.args.lexemes.now c.args.number c.args.cause c.requires.limit in let lt = h.exists in omega (arith, lt)

pub returns-in-Refused : goal.returns-in-Refused
returns-in-Refused c =
    let h = with_limit c.args.lexemes.now c.args.number c.args.cause c.requires.limit in
    let with : IsTried (take (c.args.number + 1) c.args.lexemes.now) (tried.Refused c.in-Refused.field-0) = rw c.split_at.ensures.front at (rw c.in-Refused.is at c.in_ok-try_front.ensures) in
    limit_refused c.args.lexemes.now c.args.number c.args.cause h c.requires.ends c.in-Refused.field-0 with

pub returns-in-Pred : goal.returns-in-Pred
returns-in-Pred c =
    let h = with_limit c.args.lexemes.now c.args.number c.args.cause c.requires.limit in
    let with : IsTried (take (c.args.number + 1) c.args.lexemes.now) (tried.Pred c.in-Pred.found c.in-Pred.field-1) = rw c.split_at.ensures.front at (rw c.in-Pred.is at c.in_ok-try_front.ensures) in
    limit_found c.args.lexemes.now c.args.number c.args.cause h c.requires.ends c.in-Pred.found c.in-Pred.field-1 with

pub returns-in-Ends : goal.returns-in-Ends
returns-in-Ends c =
    let h = with_limit c.args.lexemes.now c.args.number c.args.cause c.requires.limit in
    let with : IsTried (take (c.args.number + 1) c.args.lexemes.now) tried.Ends = rw c.split_at.ensures.front at (rw c.in-Ends.is at c.in_ok-try_front.ensures) in
    limit_ends c.args.lexemes.now c.args.number c.args.cause h c.requires.ends with

pub prove-unreachable-requires : goal.prove-unreachable-requires
prove-unreachable-requires c = let h = with_limit c.args.lexemes.now c.args.number c.args.cause c.requires.limit in let lt = h.exists in omega (arith, lt, c.if-prove.true)

pub try_front-requires : goal.try_front-requires
try_front-requires c =
    let h = with_limit c.args.lexemes.now c.args.number c.args.cause c.requires.limit in record {
      fits = subst (λ (us : Tokens). SetsFit us) (sym c.split_at.ensures.front)
          (front_fits IsSomePred BeginsExtraToken c.args.lexemes.now c.args.number h.bounds.none (c.args.number + 1) (omega arith));
    }
