-- Neither way in which a record may end can be left out: a record of each, in a cluster of one
-- agent and one node.
use Rattle.std.specs.Prelude.{◌≡◌, ◌≢◌, ℕ, List, [], ◌∷◌, Some, None}
use Rattle.abc_value.specs.declared.grant.Grant.TheVariants.{Closed}
use Rattle.abc_packet.specs.declared.packets.Packet.TheVariants.{Request, Reply}
use Rattle.abc_packet.specs.declared.log.Deed.TheVariants.{Asked, Arrived}
use Rattle.abc_packet.specs.declared.log.Entry.{Entry}
use Rattle.abc_body.specs.declared.tally.TheConstants.{FULL}
use Rattle.abc_body.specs.Tallies.{tally}
use Rattle.abc_network.specs.Networks.{Rules}
use Rattle.abc_network.specs.Shapes.{cluster_rules}
use Rattle.abc_network.specs.Worked.{did, sent_at}
use Rattle.abc_schedule.specs.Legal.{IsLegal}
use Rattle.abc_record_ends.specs.Ends.{NobodyCanSpeak}

abbrev pub one_and_one : ℕ → Rules ℕ (Unit {0})
one_and_one limit = cluster_rules 1 1 limit 0

-- The agent asks, the node's draw is answered with Closed, and the agent is told so.
abbrev pub asks : Entry ℕ
asks = did 1 Asked

abbrev pub draws_none : Entry ℕ
draws_none = did 2 (Arrived 0 (sent_at 1 (Request 0)) (Some Closed))

abbrev pub is_told : Entry ℕ
is_told = did 3 (Arrived 1 (sent_at 2 (Reply 0 Closed)) None)

abbrev pub logs_at_limit : List (List (Entry ℕ))
logs_at_limit = (asks ∷ is_told ∷ []) ∷ (draws_none ∷ []) ∷ []

pub record EndsBothWays : Type 0 where
  -- there is no number to draw, and at the end the body could still say its count
  pub at_limit : (l : IsLegal tally (one_and_one 0) (0 ∷ []) logs_at_limit)
      × (l.count ≡ 0) × (NobodyCanSpeak tally l.last → ⊥)
  -- a tally that is full says nothing, and so number 1 was not drawn
  pub in_silence : (l : IsLegal tally (one_and_one 1) (FULL ∷ []) ([] ∷ [] ∷ []))
      × (l.count ≢ 1) × NobodyCanSpeak tally l.last
