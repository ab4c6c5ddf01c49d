-- What contracts see of a plain counter.
use Rattle.std.specs.Prelude.{ℕ, Bool}

-- its limit, how many numbers it drew, and whether it answered Closed
pub record Counter : Type 0 where
  pub limit : ℕ
  pub count : ℕ
  pub closed : Bool
