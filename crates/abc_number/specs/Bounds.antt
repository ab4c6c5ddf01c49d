-- What a plain counter keeps.
use Rattle.std.specs.Prelude.{◌≡◌, ℕ, ◌<◌, ◌≤◌, Bool, true}
use Rattle.abc_number.specs.declared.limits.TheConstants.{MOST_LIMIT}

-- the limit is in range, no more is drawn than the limit, and a counter that has closed drew all
pub record IsCounter (limit count : ℕ) (closed : Bool) : Type 0 where
  pub some : 0 < limit
  pub bounded : limit ≤ MOST_LIMIT
  pub within : count ≤ limit
  pub all_drawn : closed ≡ true → count ≡ limit
