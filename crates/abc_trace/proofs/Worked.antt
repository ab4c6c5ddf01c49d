-- The worked examples compute.
use Rattle.std.proofs.Common.{refl}
use Rattle.std.specs.Fmt.{digits}
use Rattle.abc_trace.specs.Examples.{WorkedHeads, WorkedLines, WorkedEnds, WorkedTraces}

pub heads : WorkedHeads
unfolding digits
heads = record { solo = refl; cluster = refl; ring = refl; tree = refl }

pub lines : WorkedLines
unfolding digits
lines = record { one_heard = refl; two_heard = refl; nobody_heard = refl; nothing_said = refl }

pub ends : WorkedEnds
unfolding digits
ends = record {
  no_attribute = refl;
  one_attribute = refl;
  two_attributes = refl;
  node = refl;
  at_the_limit = refl;
  below_the_limit = refl;
  at_once = refl;
}

pub traces : WorkedTraces
unfolding digits
traces = record { solo = refl; net = refl }
