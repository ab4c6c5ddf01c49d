use Rattle.std.proofs.Common.{refl, arith}
use Rattle.std.proofs.lemmas.List.Elements.{All-replicate}
use Rattle.abc_value.specs.Text.{IsPrintable}
use Rattle.abc_value.proofs.Numbers.{numbers_rise}
use Rattle.abc_value.proofs.laws.limits_of_values.Goals as goal

pub returns : goal.returns
returns c = record {
  set_of_256 = record { rises = numbers_rise 256 0; fits = omega arith };
  none_of_257 = λ s. let f = s.fits in omega arith;
  fitted_256 = refl;
  fitted_257 = refl;
  text_of_64 = (omega arith, All-replicate IsPrintable 64 97 (omega arith, omega arith));
  none_of_65 = λ t. let f = t.0 in omega arith;
  below_space = λ p. let f = p.0 in omega arith;
  space = (omega arith, omega arith);
  tilde = (omega arith, omega arith);
  delete = λ p. let f = p.1 in omega arith;
  greatest = refl;
  too_great = refl;
  least = refl;
  too_small = refl;
}
