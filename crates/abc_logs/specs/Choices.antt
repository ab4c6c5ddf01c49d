-- The choices that logs tell: for each number who turned it, and who heard it where.
use Rattle.std.specs.Prelude.{◌≡◌, ℕ, zero, suc, ◌+◌, ◌≤◌, ◌==◌, List, [], ◌∷◌, ◌++◌, Option, Some}
use Rattle.std.specs.Prelude.{None, length, if◌then◌else◌}
use Rattle.abc_packet.specs.declared.choice.Choice.{Choice}
use Rattle.abc_packet.specs.declared.log.Deed.{Deed}
use Rattle.abc_packet.specs.declared.log.Deed.TheVariants.{Asked, Arrived, Took, Turned, Passed}
use Rattle.abc_packet.specs.declared.log.Deed.TheVariants.{Stray}
use Rattle.abc_packet.specs.declared.log.Entry.{Entry}
use Rattle.abc_network.specs.Numbering.{taken_numbers}

-- The place of the turn, where a deed turned number n.
abbrev pub turned_by : {L : Type 0} → ℕ → Deed L → List (Option ℕ)
turned_by n (Turned number place content) = if number == n then place ∷ [] else []
turned_by n Asked = []
turned_by n (Arrived link stamped drew) = []
turned_by n (Took number place) = []
turned_by n (Passed number) = []
turned_by n (Stray link stamped) = []

-- The place, where a deed took number n at one.
abbrev pub some_place : Option ℕ → List ℕ
some_place (Some place) = place ∷ []
some_place None = []

abbrev pub heard_by : {L : Type 0} → ℕ → Deed L → List ℕ
heard_by n (Took number place) = if number == n then some_place place else []
heard_by n Asked = []
heard_by n (Arrived link stamped drew) = []
heard_by n (Turned number place content) = []
heard_by n (Passed number) = []
heard_by n (Stray link stamped) = []

-- The same of a whole log.
abbrev pub turned_in : {L : Type 0} → ℕ → List (Entry L) → List (Option ℕ)
turned_in n [] = []
turned_in n (e ∷ entries) = turned_by n e.deed ++ turned_in n entries

abbrev pub heard_in : {L : Type 0} → ℕ → List (Entry L) → List ℕ
heard_in n [] = []
heard_in n (e ∷ entries) = heard_by n e.deed ++ heard_in n entries

-- Each beside the agent.
abbrev pub beside : {X : Type 0} → ℕ → List X → List (ℕ × X)
beside agent [] = []
beside agent (x ∷ xs) = (agent, x) ∷ beside agent xs

-- Of these agents' logs in order, from agent i on: who turned number n, with the place,
abbrev pub senders_from : {L : Type 0} → ℕ → ℕ → List (List (Entry L)) → List (ℕ × Option ℕ)
senders_from n i [] = []
senders_from n i (log ∷ logs) = beside i (turned_in n log) ++ senders_from n (i + 1) logs

-- and who heard it, with the place.
abbrev pub hearers_from : {L : Type 0} → ℕ → ℕ → List (List (Entry L)) → List (ℕ × ℕ)
hearers_from n i [] = []
hearers_from n i (log ∷ logs) = beside i (heard_in n log) ++ hearers_from n (i + 1) logs

-- The choice of number n: its one sender with its place, and those that heard, in order of agent.
pub record IsChoice {L : Type 0} (logs : List (List (Entry L))) (n : ℕ) (c : Choice) :
    Type 0 where
  pub sender : senders_from n 0 logs ≡ (c.sender, c.place) ∷ []
  pub heard : hearers_from n 0 logs ≡ c.heard

-- The choices of the numbers from n on.
abbrev pub AreChoices : {L : Type 0} → List (List (Entry L)) → ℕ → List Choice → Type 0
AreChoices logs n [] = Unit {0}
AreChoices logs n (c ∷ choices) = IsChoice logs n c × AreChoices logs (n + 1) choices

-- The numbers from n on, so many.
abbrev pub numbers_from : ℕ → ℕ → List ℕ
numbers_from n zero = []
numbers_from n (suc count) = n ∷ numbers_from (n + 1) count

-- Each of these agents took or turned the numbers from 1 up to `count`, in order, and no others.
abbrev pub AllTook : {L : Type 0} → ℕ → List (List (Entry L)) → Type 0
AllTook count [] = Unit {0}
AllTook count (log ∷ logs) = (taken_numbers log ≡ numbers_from 1 count) × AllTook count logs

-- And each of these numbers was turned by one of them.
pub record AreNumbered {L : Type 0} (logs : List (List (Entry L))) (count : ℕ) : Type 0 where
  pub took : AllTook count logs
  pub one : (n : ℕ) → 1 ≤ n → n ≤ count → length (senders_from n 0 logs) ≡ 1
