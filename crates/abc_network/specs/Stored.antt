-- Stored maps: items beside their numbers, in whatever order.
use Rattle.std.specs.Prelude.{◌≡◌, ℕ, ◌+◌, List, length, Some, None}
use Rattle.abc_wait.specs.Waits.{item_beside}
use Rattle.abc_wait.specs.Changes.{put}

-- An item is now stored under a number, and all else is as before.
pub record Gains {T : Type 0} (old : List (ℕ × T)) (number : ℕ) (item : T)
    (new : List (ℕ × T)) : Type 0 where
  pub items : (n : ℕ) → item_beside new n ≡ put (item_beside old) number (Some item) n
  pub count : length new ≡ length old + 1

-- The item under a number is gone, and all else is as before.
pub record Loses {T : Type 0} (old : List (ℕ × T)) (number : ℕ) (new : List (ℕ × T)) : Type 0 where
  pub items : (n : ℕ) → item_beside new n ≡ put (item_beside old) number None n
  pub count : length new + 1 ≡ length old
