-- What is always so of the state of a node.
use Rattle.std.specs.Prelude.{◌≡◌, ℕ, ◌+◌, ◌<◌, ◌≤◌, None}
use Rattle.abc_packet.specs.declared.limits.TheConstants.{MOST_NUMBER}
use Rattle.abc_wait.specs.Waits.{Waits, item_at}

-- Messages wait under numbers from the next on that packets brought.
pub record IsStock {T : Type 0} (next : ℕ) (waits : Waits T) : Type 0 where
  pub within : next ≤ MOST_NUMBER + 1
  pub ahead : waits.first ≤ next
  pub past : (n : ℕ) → n < next → item_at waits n ≡ None
  pub most : (n : ℕ) → MOST_NUMBER < n → item_at waits n ≡ None
