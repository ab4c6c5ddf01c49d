use Rattle.std.proofs.Common.{length, take, sym, subst, arith}
use Rattle.abc_parse.specs.declared.front.Tried.TheVariants as tried
use Rattle.abc_readers.specs.Operands.{Tokens}
use Rattle.abc_parse.specs.Fronting.{IsTried}
use Rattle.abc_grammar.specs.Limits.{BeginsExtraToken}
use Rattle.abc_grammar.specs.Refusals.{IsSomePred}
use Rattle.abc_phrases.specs.Fitting.{SetsFit}
use Rattle.abc_parse.proofs.Lists.{take_all}
use Rattle.abc_parse.proofs.Fits.{front_fits}
use Rattle.abc_parse.proofs.Fronts.{without_limit, with_limit, found, refused, ends}
use Rattle.abc_parse.proofs.front.front_of.Goals as goal

pub split_at-requires : goal.split_at-requires
split_at-requires c = let h = with_limit c.args.lexemes.now c.in-Some.number c.in-Some.cause (sym c.in-Some.ensures) in let lt = h.exists in omega (arith, lt)

pub returns-in-Pred : goal.returns-in-Pred
returns-in-Pred c =
    let b = without_limit c.args.lexemes.now (sym c.in-None.ensures) in
    let t : IsTried c.args.lexemes.now (tried.Pred c.in-Pred.found c.in-Pred.count) = rw c.in-Pred.is at c.in_ok-found-in-None.ensures in
    found c.args.lexemes.now (length c.args.lexemes.now) c.in-Pred.count c.in-Pred.found b (subst (λ (ts : Tokens). IsTried ts (tried.Pred c.in-Pred.found c.in-Pred.count)) (sym (take_all c.args.lexemes.now)) t)

pub returns-in-Refused : goal.returns-in-Refused
returns-in-Refused c =
    let b = without_limit c.args.lexemes.now (sym c.in-None.ensures) in
    let t : IsTried c.args.lexemes.now (tried.Refused c.in-Refused.number) = rw c.in-Refused.is at c.in_ok-found-in-None.ensures in
    refused c.args.lexemes.now (length c.args.lexemes.now) c.in-Refused.number b (subst (λ (ts : Tokens). IsTried ts (tried.Refused c.in-Refused.number)) (sym (take_all c.args.lexemes.now)) t)

pub returns-in-Ends : goal.returns-in-Ends
returns-in-Ends c =
    let b = without_limit c.args.lexemes.now (sym c.in-None.ensures) in
    let t : IsTried c.args.lexemes.now tried.Ends = rw c.in-Ends.is at c.in_ok-found-in-None.ensures in
    ends c.args.lexemes.now b (subst (λ (ts : Tokens). IsTried ts tried.Ends) (sym (take_all c.args.lexemes.now)) t)

pub returns-in-Pred-2 : goal.returns-in-Pred-2
returns-in-Pred-2 c =
    let h = with_limit c.args.lexemes.now c.in-Some.number c.in-Some.cause (sym c.in-Some.ensures) in
    let t : IsTried (take c.in-Some.number c.args.lexemes.now) (tried.Pred c.in-Pred-2.found c.in-Pred-2.count) = rw c.split_at.ensures.front at (rw c.in-Pred-2.is at c.in_ok-found-in-Some.ensures) in
    found c.args.lexemes.now c.in-Some.number c.in-Pred-2.count c.in-Pred-2.found h.bounds t

pub returns-in-Refused-2 : goal.returns-in-Refused-2
returns-in-Refused-2 c =
    let h = with_limit c.args.lexemes.now c.in-Some.number c.in-Some.cause (sym c.in-Some.ensures) in
    let t : IsTried (take c.in-Some.number c.args.lexemes.now) (tried.Refused c.in-Refused-2.number) = rw c.split_at.ensures.front at (rw c.in-Refused-2.is at c.in_ok-found-in-Some.ensures) in
    refused c.args.lexemes.now c.in-Some.number c.in-Refused-2.number h.bounds t

pub try_front-requires : goal.try_front-requires
try_front-requires c =
    let b = without_limit c.args.lexemes.now (sym c.in-None.ensures) in record {
      fits = subst (λ (us : Tokens). SetsFit us) (take_all c.args.lexemes.now)
          (front_fits IsSomePred BeginsExtraToken c.args.lexemes.now (length c.args.lexemes.now) b.none (length c.args.lexemes.now) (omega arith));
    }

pub try_front-requires-in-Some : goal.try_front-requires-in-Some
try_front-requires-in-Some c =
    let h = with_limit c.args.lexemes.now c.in-Some.number c.in-Some.cause (sym c.in-Some.ensures) in record {
      fits = subst (λ (us : Tokens). SetsFit us) (sym c.split_at.ensures.front)
          (front_fits IsSomePred BeginsExtraToken c.args.lexemes.now c.in-Some.number h.bounds.none c.in-Some.number (omega arith));
    }
