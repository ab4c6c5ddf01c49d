-- A cluster of one agent and one node, in which the agent speaks once.
use Rattle.std.specs.Prelude.{◌≡◌, ℕ, List, [], ◌∷◌, Some, None, length}
use Rattle.abc_value.specs.declared.grant.Grant.TheVariants.{Number}
use Rattle.abc_packet.specs.declared.packets.Content.TheVariants.{Said}
use Rattle.abc_packet.specs.declared.packets.Packet.TheVariants.{Request, Reply, Message}
use Rattle.abc_packet.specs.declared.log.Deed.TheVariants.{Asked, Arrived, Turned}
use Rattle.abc_packet.specs.declared.log.Entry.{Entry}
use Rattle.abc_term.specs.declared.terms.Program.{Program}
use Rattle.abc_term.specs.Standing.{definitions_of}
use Rattle.abc_moves.specs.declared.label.Label.{Label}
use Rattle.abc_moves.specs.Lives.{StartsAs}
use Rattle.abc_body.specs.Meanings.{CanSpeak}
use Rattle.abc_live_body.specs.Running.{RunningComponent}
use Rattle.abc_live_body.specs.AbcMeaning.{abc}
use Rattle.abc_history.specs.Histories.{entry_of}

-- It asks, has number 1, and speaks.
abbrev pub speaker_log : {L : Type 0} → ℕ → L → List (Entry L)
speaker_log place label =
    entry_of 1 Asked
    ∷ entry_of 3 (Arrived 1 (record { clock = 2; packet = Reply 0 (Number 1) }) None)
    ∷ entry_of 4 (Turned 1 (Some place) (Said label))
    ∷ []

-- The node draws number 1, and has nobody to send the message to.
abbrev pub node_log : {L : Type 0} → L → List (Entry L)
node_log label =
    entry_of 2 (Arrived 0 (record { clock = 1; packet = Request 0 }) (Some (Number 1)))
    ∷ entry_of 5 (Arrived 0 (record { clock = 4; packet = Message 1 0 (Said label) }) None)
    ∷ []

-- The only component of a program says the label at the place that turn 0 picks, and nothing after it.
-- The other label is the same.
pub record SpeaksOnce (p : Program) (place : ℕ) (label other : Label) : Type 0 where
  pub one : length p.components ≡ 1
  pub first : RunningComponent
  pub last : RunningComponent
  pub starts : StartsAs p 0 first.component
  pub under : first.definitions ≡ definitions_of p.definitions
  pub speaks : abc.speaks first place label last
  pub placed : abc.placed first None 0 (Some place)
  pub silent : CanSpeak abc last → ⊥
  pub same : other ≡ label
