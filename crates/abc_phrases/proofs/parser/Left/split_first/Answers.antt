use Rattle.std.proofs.Common.{subst}
use Rattle.abc_readers.specs.Operands.{Tokens}
use Rattle.abc_phrases.specs.Fitting.{SetsFit}
use Rattle.abc_phrases.proofs.Fitting.{fits_behind}
use Rattle.abc_phrases.proofs.parser.Left.split_first.Goals as goal

pub invariant_of-result : goal.invariant_of-result
invariant_of-result c = record {
  fits = fits_behind c.in_ok-first.first.now c.in_ok-first.more.now (subst (λ (us : Tokens). SetsFit us) c.in_ok-first.ensures.cases.0 c.args.self.fits);
}
