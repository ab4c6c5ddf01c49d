-- The worked examples of places, sides and steps of nobody, computed.
use Rattle.std.proofs.Common.{◌<◌, inl, inr, refl, lit<, lit≤, arith}
use Rattle.abc_term.specs.Processes.{Nil}
use Rattle.abc_term.specs.Examples.Interleaving.{LeftSpeaks, RightSpeaks}
use Rattle.abc_term.specs.Examples.TwoWays.{LeftTellsRight, RightTellsLeft}
use Rattle.abc_term.specs.Examples.NobodySpeaks.{PassingStays, NobodyPasses, NobodySpeaks, NothingIsHeard}

pub left_speaks : LeftSpeaks
left_speaks = record { exists = lit< tt; hearers = tt; moves = ((inl (Nil, (refl, refl, refl, refl), refl), refl), tt) }

pub right_speaks : RightSpeaks
right_speaks = record { exists = lit< tt; hearers = tt; moves = ((inr (0, Nil, refl, (refl, refl, refl, refl), refl), refl), tt) }

pub left_tells_right : LeftTellsRight
left_tells_right = record {
  exists = lit< tt;
  hearers = (lit≤ tt, lit< tt, (λ e. cc), tt);
  moves = ((inl (refl, refl, refl, refl), refl), ((inr (0, refl, (refl, refl, refl, refl)), refl), tt));
}

pub right_tells_left : RightTellsLeft
right_tells_left = record {
  exists = lit< tt;
  hearers = (lit≤ tt, lit< tt, (λ e. cc), tt);
  moves = ((inr (0, refl, (refl, refl, refl, refl)), refl), ((inl (refl, refl, refl, refl), refl), tt));
}

pub passing_stays : PassingStays
passing_stays = ((lit< tt, refl, refl), (lit< tt, refl, refl))

not_there : 2 < 2 → ⊥
not_there h = omega arith

pub nobody_passes : NobodyPasses
nobody_passes S h = not_there h.0

pub nobody_speaks : NobodySpeaks
nobody_speaks place S h = not_there h.1.exists

pub nothing_is_heard : NothingIsHeard
nothing_is_heard S h = let none = h.1 in cc
