-- What the one counter of a network keeps.
use Rattle.std.specs.Prelude.{◌≡◌, ℕ, true}
use Rattle.abc_number.specs.Counter.{Counter}

-- Its limit, and that it answered Closed only after it had given all numbers.
pub record IsOneCounter (limit : ℕ) (c : Counter) : Type 0 where
  pub same : limit ≡ c.limit
  pub all : c.closed ≡ true → c.count ≡ c.limit
