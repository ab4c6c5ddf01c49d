-- The worked examples of what is read and of what is put for variables, computed.
use Rattle.std.proofs.Common.{refl, lit<, lit≤}
use Rattle.abc_term.specs.Examples.ReadsBeforeUpdate.{OldIsRead}
use Rattle.abc_term.specs.Examples.PassedOn.{ValueIsPut, IsPassedOn}
use Rattle.abc_term.specs.Examples.OtherLength.{OnlySameLength}
use Rattle.abc_term.specs.Examples.BoundAnew.{OuterStopsThere, InnerIsItsOwn}

pub old_is_read : OldIsRead
old_is_read = record { exists = lit< tt; hearers = tt; moves = (((refl, refl, refl, refl), refl), tt) }

pub value_is_put : ValueIsPut
value_is_put = record {
  exists = lit< tt;
  hearers = (lit≤ tt, lit< tt, (λ e. cc), tt);
  moves = (((refl, refl, refl, refl), refl), (((refl, refl, refl, refl), refl), tt));
}

pub is_passed_on : IsPassedOn
is_passed_on = record { exists = lit< tt; hearers = tt; moves = ((refl, refl), (((refl, (refl, refl, refl, refl)), refl), tt)) }

pub only_same_length : OnlySameLength
only_same_length = record {
  exists = lit< tt;
  hearers = (lit≤ tt, lit< tt, (λ e. cc), tt);
  moves = (((refl, refl, refl, refl), refl), ((refl, refl), (((refl, refl, refl, refl), refl), ((refl, refl), tt))));
}

pub outer_stops_there : OuterStopsThere
outer_stops_there = record {
  exists = lit< tt;
  hearers = (lit≤ tt, lit< tt, (λ e. cc), tt);
  moves = (((refl, refl, refl, refl), refl), (((refl, refl, refl, refl), refl), tt));
}

pub inner_is_its_own : InnerIsItsOwn
inner_is_its_own = record {
  exists = lit< tt;
  hearers = (lit≤ tt, lit< tt, (λ e. cc), tt);
  moves = (((refl, refl, refl, refl), refl), (((refl, refl, refl, refl), refl), tt));
}
