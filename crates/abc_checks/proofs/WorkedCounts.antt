-- The worked examples, computed.
use Rattle.std.proofs.Common.{◌<◌, [], refl, lit<, lit≤, arith}
use Rattle.abc_checks.specs.Measures.{width_of, IsLeastSolution}
use Rattle.abc_checks.specs.Worked.{each, ParsAreFound, RepeatsAreFound, WidthsAreCounted, WidthsAreCapped, WidthsHaveALimit, BreadthsAreCounted, BreadthsAreCapped, BreadthsHaveALimit, ComponentsHaveALimit}

pub pars_are_found : ParsAreFound
pars_are_found = (refl, refl, refl)

pub repeats_are_found : RepeatsAreFound
repeats_are_found = (refl, refl)

pub widths_are_counted : WidthsAreCounted
widths_are_counted = (refl, refl, refl, refl)

pub widths_are_capped : WidthsAreCapped
widths_are_capped = (refl, refl, refl, refl)

-- without definitions each name stands for 0
ones : IsLeastSolution width_of [] (each 1)
ones = record { solution = record { from_one = λ c. lit≤ tt; solves = λ c. refl }; least = λ other s c. s.from_one c }

not_below : 64 < 64 → ⊥
not_below h = omega arith

pub widths_have_a_limit : WidthsHaveALimit
widths_have_a_limit = (λ wide. not_below wide.2, (each 1, ones, lit< tt))

pub breadths_are_counted : BreadthsAreCounted
breadths_are_counted = (refl, refl, refl, refl, refl, refl)

pub breadths_are_capped : BreadthsAreCapped
breadths_are_capped = (refl, refl, refl, refl, refl, refl)

pub breadths_have_a_limit : BreadthsHaveALimit
breadths_have_a_limit = (refl, refl, refl, refl, refl, refl, refl)

pub components_have_a_limit : ComponentsHaveALimit
components_have_a_limit p = (λ h. h, λ h. h)
