-- What was said and heard at each number, out of the events and the logs of a run.
use Rattle.std.specs.Prelude.{ℕ, zero, suc, ◌+◌, ◌==◌, List, [], ◌∷◌, ◌++◌, Option, Some, None}
use Rattle.std.specs.Prelude.{if◌then◌else◌}
use Rattle.abc_packet.specs.declared.choice.Choice.{Choice}
use Rattle.abc_packet.specs.declared.packets.Content.{Content}
use Rattle.abc_packet.specs.declared.log.Deed.{Deed}
use Rattle.abc_packet.specs.declared.log.Deed.TheVariants.{Asked, Arrived, Took, Turned, Passed}
use Rattle.abc_packet.specs.declared.log.Deed.TheVariants.{Stray}
use Rattle.abc_packet.specs.declared.log.Entry.{Entry}
use Rattle.abc_network.specs.Networks.{Event, AgentDid, NodeDid}

-- What was turned at one number: by whom, at which place, and what was said.
pub record Turn (L : Type 0) : Type 0 where
  pub sender : ℕ
  pub place : Option ℕ
  pub content : Content L

-- The turns of a run, in order.
abbrev pub turn_of : {L : Type 0} → ℕ → Deed L → List (Turn L)
turn_of i (Turned n place content) = record { sender = i; place = place; content = content } ∷ []
turn_of i Asked = []
turn_of i (Arrived link stamped drew) = []
turn_of i (Took n place) = []
turn_of i (Passed n) = []
turn_of i (Stray link stamped) = []

abbrev pub turns_in : {L : Type 0} → Event L → List (Turn L)
turns_in (AgentDid i e) = turn_of i e.deed
turns_in (NodeDid k e) = []

abbrev pub turns_of : {L : Type 0} → List (Event L) → List (Turn L)
turns_of [] = []
turns_of (e ∷ es) = turns_in e ++ turns_of es

-- The numbers that were turned in a run, in order.
abbrev pub number_in : {L : Type 0} → Deed L → List ℕ
number_in (Turned n place content) = n ∷ []
number_in Asked = []
number_in (Arrived link stamped drew) = []
number_in (Took n place) = []
number_in (Passed n) = []
number_in (Stray link stamped) = []

abbrev pub numbers_of : {L : Type 0} → List (Event L) → List ℕ
numbers_of [] = []
numbers_of (AgentDid i e ∷ es) = number_in e.deed ++ numbers_of es
numbers_of (NodeDid k e ∷ es) = numbers_of es

-- The places of an agent's log: one for each number that it took or turned, in order.
abbrev pub place_of : {L : Type 0} → Deed L → List (Option ℕ)
place_of (Took n place) = place ∷ []
place_of (Turned n place content) = place ∷ []
place_of Asked = []
place_of (Arrived link stamped drew) = []
place_of (Passed n) = []
place_of (Stray link stamped) = []

abbrev pub places_of : {L : Type 0} → List (Entry L) → List (Option ℕ)
places_of [] = []
places_of (e ∷ es) = place_of e.deed ++ places_of es

-- The numbers that an agent took or turned, by its log.
abbrev pub taken_number : {L : Type 0} → Deed L → List ℕ
taken_number (Took n place) = n ∷ []
taken_number (Turned n place content) = n ∷ []
taken_number Asked = []
taken_number (Arrived link stamped drew) = []
taken_number (Passed n) = []
taken_number (Stray link stamped) = []

abbrev pub taken_numbers : {L : Type 0} → List (Entry L) → List ℕ
taken_numbers [] = []
taken_numbers (e ∷ es) = taken_number e.deed ++ taken_numbers es

-- Those that heard at one number, each with its place: all that have one, from agent i on, but the
-- sender.
abbrev pub heard_from : ℕ → ℕ → List (Option ℕ) → List (ℕ × ℕ)
heard_from i sender [] = []
heard_from i sender (None ∷ row) = heard_from (i + 1) sender row
heard_from i sender (Some place ∷ row) =
    if i == sender then heard_from (i + 1) sender row else (i, place) ∷ heard_from
    (i + 1) sender row

-- The choice made at one number, from its turn and the places of all agents at that number.
abbrev pub choice_at : {L : Type 0} → Turn L → List (Option ℕ) → Choice
choice_at t row = record { sender = t.sender; place = t.place; heard = heard_from 0 t.sender row }

-- The first place of each agent, and the places after it.
abbrev pub heads : List (List (Option ℕ)) → List (Option ℕ)
heads [] = []
heads ([] ∷ columns) = None ∷ heads columns
heads ((p ∷ ps) ∷ columns) = p ∷ heads columns

abbrev pub tails : List (List (Option ℕ)) → List (List (Option ℕ))
tails [] = []
tails ([] ∷ columns) = [] ∷ tails columns
tails ((p ∷ ps) ∷ columns) = ps ∷ tails columns

-- The places of all agents at each of the first k numbers.
abbrev pub rows_of : ℕ → List (List (Option ℕ)) → List (List (Option ℕ))
rows_of zero columns = []
rows_of (suc k) columns = heads columns ∷ rows_of k (tails columns)

-- The choices of the first numbers, one for each turn that has a row.
abbrev pub choices_of : {L : Type 0} → List (Turn L) → List (List (Option ℕ)) → List Choice
choices_of [] rows = []
choices_of (t ∷ ts) [] = []
choices_of (t ∷ ts) (row ∷ rows) = choice_at t row ∷ choices_of ts rows
