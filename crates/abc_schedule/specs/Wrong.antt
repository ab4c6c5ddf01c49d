-- Laws that would be wrong: with less than the law asks, a merge is no run. Two actors are enough,
-- each with a link to the other.
use Rattle.std.specs.Prelude.{◌≡◌, ℕ, ◌-◌, ◌*◌, List, [], ◌∷◌, Some, None}
use Rattle.abc_value.specs.declared.grant.Grant.TheVariants.{Number}
use Rattle.abc_packet.specs.declared.packets.Content.TheVariants.{Empty}
use Rattle.abc_packet.specs.declared.packets.Packet.TheVariants.{Request, Message}
use Rattle.abc_packet.specs.declared.stamped.Stamped.{Stamped}
use Rattle.abc_packet.specs.declared.log.Deed.{Deed}
use Rattle.abc_packet.specs.declared.log.Deed.TheVariants.{Asked, Arrived, Took, Turned, Passed}
use Rattle.abc_packet.specs.declared.log.Deed.TheVariants.{Stray}
use Rattle.abc_packet.specs.declared.log.Entry.{Entry}
use Rattle.abc_body.specs.Tallies.{tally}
use Rattle.abc_network.specs.Networks.{Net, AgentDid, NodeDid, Netrun}
use Rattle.abc_network.specs.Worked.{two_and_one, at_first, did, sent_at}
use Rattle.abc_schedule.specs.Machines.{Machine, Web, WebRun}

-- What an actor sends on its own link: what it turns, as a message of that number.
abbrev pub says : ℕ → ℕ → Deed ℕ → List (ℕ × Stamped ℕ)
says actor clock (Turned n place content) = (actor, sent_at clock (Message n actor Empty)) ∷ []
says actor clock Asked = []
says actor clock (Arrived link stamped drew) = []
says actor clock (Took n place) = []
says actor clock (Passed n) = []
says actor clock (Stray link stamped) = []

-- Two such actors: link 0 leads from actor 0 to actor 1, and link 1 back.
abbrev pub two_talk : Machine (Unit {0}) ℕ
two_talk = record {
  now = λ s. 0;
  from = λ l. l;
  into = λ l. 1 - l;
  Step = λ actor s e out s'. out ≡ says actor e.clock e.deed;
}

-- At first nothing is on a link.
abbrev pub silence : Web (Unit {0}) ℕ
silence = record { states = λ a. tt; links = λ l. [] }

-- At a clock, an actor says a number, and one takes number n that the other sent at a clock.
abbrev pub says_at : ℕ → ℕ → Entry ℕ
says_at clock n = did clock (Turned n None Empty)

-- And it takes what the other said.
abbrev pub takes_at : ℕ → ℕ → ℕ → ℕ → Entry ℕ
takes_at clock other n sent = did clock (Arrived other (sent_at sent (Message n other Empty)) None)

-- These entries, in this order, are no run.
abbrev pub IsNoRun : List (ℕ × Entry ℕ) → Type 0
IsNoRun xs = (last : Web (Unit {0}) ℕ) → WebRun two_talk silence xs last → ⊥

-- The draws of two requests.
abbrev pub draws : ℕ → ℕ → ℕ → Entry ℕ
draws clock agent n = did clock
    (Arrived (2 * agent) (sent_at 1 (Request agent)) (Some (Number n)))

-- What the laws would say wrongly.
pub record WrongLawsFall : Type 0 where
  -- what actor 1 says at 1, actor 0 takes at 2: that is a run,
  pub right : (last : Web (Unit {0}) ℕ)
      × WebRun two_talk silence ((1, says_at 1 7) ∷ (0, takes_at 2 1 7 1) ∷ []) last
  -- but not if it is taken at the clock of its sending, by an actor with a lower number,
  pub equal_clock : IsNoRun ((0, takes_at 1 1 7 1) ∷ (1, says_at 1 7) ∷ [])
  -- nor if the merge goes by actor before clock
  pub actor_first : IsNoRun ((0, takes_at 2 1 7 1) ∷ (1, says_at 1 7) ∷ [])
  -- where each took what the other said later, no order is a run
  pub crossed_0 : (rest : List (ℕ × Entry ℕ)) → IsNoRun ((0, takes_at 1 1 7 4) ∷ rest)
  pub crossed_1 : (rest : List (ℕ × Entry ℕ)) → IsNoRun ((1, takes_at 1 0 7 4) ∷ rest)
  -- a link swaps no two packets,
  pub swapped : IsNoRun ((0, says_at 1 7) ∷ (0, says_at 2 8) ∷ (1, takes_at 3 0 8 2)
      ∷ (1, takes_at 4 0 7 1) ∷ [])
  -- and leaves none behind
  pub skipped : IsNoRun ((0, says_at 1 7) ∷ (0, says_at 2 8) ∷ (1, takes_at 3 0 8 2) ∷ [])
  -- in a cluster, number 1 is not drawn twice
  pub twice : (last : Net ℕ ℕ (Unit {0})) → Netrun tally two_and_one at_first
      (AgentDid 0 (did 1 Asked) ∷ AgentDid 1 (did 1 Asked) ∷ NodeDid 0 (draws 2 0 1)
      ∷ NodeDid 0 (draws 3 1 1) ∷ []) last → ⊥
