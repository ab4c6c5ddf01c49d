-- Laws of wait lists.
use Rattle.std.specs.Prelude.{◌≡◌, ℕ, ◌<◌, None}
use Rattle.abc_wait.specs.Waits.{Waits, item_at, IsInOrder}

-- a wait list is its first number and the item under each number, and nothing more
abbrev pub AreTheirItems : Type 0 → Type 0
AreTheirItems T =
    (v w : Waits T) → IsInOrder v → IsInOrder w
    → v.first ≡ w.first → ((n : ℕ) → item_at v n ≡ item_at w n) → v ≡ w

-- under a number that is past nothing waits
abbrev pub NothingPast : Type 0 → Type 0
NothingPast T = (w : Waits T) (n : ℕ) → IsInOrder w → n < w.first → item_at w n ≡ None
