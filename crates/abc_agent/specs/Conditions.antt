-- When an agent can make which micro-step, by its own state alone.
use Rattle.std.specs.Prelude.{◌≡◌, ◌+◌, Some}
use Rattle.abc_packet.specs.declared.packets.Content.{Content}
use Rattle.abc_body.specs.Meanings.{Meaning, CanSpeak}
use Rattle.abc_wait.specs.Waits.{item_beside}
use Rattle.abc_network.specs.Agents.{AgentState, Idle, Granted}

-- It has not asked, and its body can speak.
abbrev pub CanAsk : {B L : Type 0} → Meaning B L → AgentState B L → Type 0
CanAsk m s = (s.asking ≡ Idle) × CanSpeak m s.body

-- The message of the next number waits.
abbrev pub CanTake : {B L : Type 0} → AgentState B L → Type 0
CanTake {B} {L} s = (content : Content L) × (item_beside s.stored (s.front + 1) ≡ Some content)

-- The next number is the agent's own.
abbrev pub CanTurn : {B L : Type 0} → AgentState B L → Type 0
CanTurn s = s.asking ≡ Granted (s.front + 1)
