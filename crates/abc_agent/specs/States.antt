-- What is always so of an agent's state, beside that its body is sound.
use Rattle.std.specs.Prelude.{◌≡◌, ℕ, ◌+◌, ◌<◌, ◌≤◌, None}
use Rattle.abc_packet.specs.declared.limits.TheConstants.{MOST_NUMBER}
use Rattle.abc_wait.specs.Waits.{Waits, item_at}
use Rattle.abc_agent.specs.declared.standing.Standing.{Standing}
use Rattle.abc_agent.specs.declared.standing.Standing.TheVariants.{NotAsking, HasAsked}
use Rattle.abc_agent.specs.declared.standing.Standing.TheVariants.{HasNumber, FoundClosed}

-- A number that the agent has is one that a packet brought, and no message waits under it.
abbrev pub IsOwn : {T : Type 0} → Standing → Waits T → Type 0
IsOwn (HasNumber n) waits = (n ≤ MOST_NUMBER) × (item_at waits n ≡ None)
IsOwn NotAsking waits = Unit {0}
IsOwn HasAsked waits = Unit {0}
IsOwn FoundClosed waits = Unit {0}

-- Messages wait under numbers above the front that packets brought.
pub record IsKept {T : Type 0} (front : ℕ) (standing : Standing) (waits : Waits T) : Type 0 where
  pub within : front ≤ MOST_NUMBER
  pub ahead : waits.first ≤ front + 1
  pub past : (n : ℕ) → n ≤ front → item_at waits n ≡ None
  pub most : (n : ℕ) → MOST_NUMBER < n → item_at waits n ≡ None
  pub own : IsOwn standing waits
