-- What a call changes in a wait list.
use Rattle.std.specs.Prelude.{◌≡◌, ℕ, ◌+◌, ◌==◌, Option, Some, None, if◌then◌else◌}
use Rattle.abc_wait.specs.Waits.{Waits, item_at, count_of}

-- a map in which this item, or none, is under this number, and all others as before
abbrev pub put : {T : Type 0} → (ℕ → Option T) → ℕ → Option T → ℕ → Option T
put items number item n = if n == number then item else items n

-- an item was stored under a number that had none, and nothing else changed
pub record Stores {T : Type 0} (old new : Waits T) (number : ℕ) (item : T) : Type 0 where
  pub first : new.first ≡ old.first
  pub items : (n : ℕ) → item_at new n ≡ put (item_at old) number (Some item) n
  pub count : count_of new ≡ count_of old + 1

-- the item under a number was taken, the numbers up to it are past, and nothing else changed
pub record Takes {T : Type 0} (old new : Waits T) (number : ℕ) : Type 0 where
  pub first : new.first ≡ number + 1
  pub items : (n : ℕ) → item_at new n ≡ put (item_at old) number None n
  pub count : count_of new + 1 ≡ count_of old
