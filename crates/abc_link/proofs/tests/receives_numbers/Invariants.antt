use Rattle.abc_link.specs.Links.{SameIn}
use Rattle.abc_link.proofs.tests.receives_numbers.Given as goal

abbrev pub invariant-receiving : goal.invariant-receiving
invariant-receiving l = SameIn l.initial.into l.into
