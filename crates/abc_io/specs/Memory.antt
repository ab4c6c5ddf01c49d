-- Devices in memory, as their calls see them.
use Rattle.std.specs.Prelude.{ℕ, List, ◌++◌, drop, Contains}
use Rattle.abc_io.specs.Devices.{counted_on}

-- The next call is one of those that fail. Calls are numbered from 1; the number stands still at
-- the greatest u64.
abbrev pub IsDue : List ℕ → ℕ → Type 0
IsDue failing calls = Contains failing (counted_on calls)

-- A source: the bytes left, the most bytes that a call gives, the numbers of the calls that fail,
-- how many calls there were, and how many of them failed.
pub record Feed : Type 0 where
  pub left : List ℕ
  pub piece : ℕ
  pub failing : List ℕ
  pub calls : ℕ
  pub faults : ℕ

-- a source after a call that gave n bytes
abbrev pub feed_after : Feed → ℕ → Feed
feed_after s n = record s { left = drop n s.left; calls = counted_on s.calls }

-- a source after a call that failed
abbrev pub feed_failed : Feed → Feed
feed_failed s = record s { calls = counted_on s.calls; faults = counted_on s.faults }

-- A sink: the bytes written, how many it has room for in all, the most bytes that a call takes,
-- the numbers of the calls that fail, how many calls there were, and how many of them failed.
pub record Store : Type 0 where
  pub written : List ℕ
  pub room : ℕ
  pub piece : ℕ
  pub failing : List ℕ
  pub calls : ℕ
  pub faults : ℕ

-- a sink after a call that took these bytes
abbrev pub store_after : Store → List ℕ → Store
store_after s bytes = record s { written = s.written ++ bytes; calls = counted_on s.calls }

-- a sink after a call that failed
abbrev pub store_failed : Store → Store
store_failed s = record s { calls = counted_on s.calls; faults = counted_on s.faults }
