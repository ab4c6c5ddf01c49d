-- The copies in a tree, counted: what a network adds up.
use Rattle.std.specs.Prelude.{◌≡◌, ℕ, zero, suc, ◌+◌, ◌-◌, ◌*◌, ◌<◌, ◌==◌, ◌||◌}
use Rattle.std.specs.Prelude.{nat_lt, Bool, not, List, [], ◌∷◌, ◌++◌, filter, sum_by, All, if◌then◌else◌}
use Rattle.abc_shape.specs.declared.shape.Shape.TheVariants.{Tree}
use Rattle.abc_shape.specs.declared.layout.Layout.{Layout}
use Rattle.abc_shape.specs.Plans.{IsLayout, actor_of, home, step_up, IsLink}
use Rattle.abc_shape_laws.specs.Copies.{SendsOn}

abbrev pub bit : Bool → ℕ
bit b = if b then 1 else 0

-- So many numbers, from one on.
abbrev pub numbers_from : ℕ → ℕ → List ℕ
numbers_from zero n = []
numbers_from (suc count) n = n ∷ numbers_from count (n + 1)

-- Whether a node is in the subtree below another, found in so many steps up.
abbrev pub is_under_in : ℕ → ℕ → ℕ → Bool
is_under_in zero top k = k == top
is_under_in (suc steps) top k = k == top || is_under_in steps top (step_up k)

abbrev pub is_under : ℕ → ℕ → Bool
is_under top k = is_under_in k top k

-- The node at which an actor is: an agent at its home, a node at itself.
abbrev pub place : Layout → ℕ → ℕ
place p actor = if nat_lt actor p.agents then home p actor else actor - p.agents

-- The actors to which a node of a tree is linked: its agents in order, its parent, its children in order.
abbrev pub homed : Layout → ℕ → List ℕ
homed p k = filter (λ i. home p i == k) (numbers_from p.agents 0)

abbrev pub above : Layout → ℕ → List ℕ
above p k = if k == 0 then [] else actor_of p (step_up k) ∷ []

abbrev pub below : Layout → ℕ → List ℕ
below p c = if nat_lt c p.nodes then actor_of p c ∷ [] else []

abbrev pub neighbours : Layout → ℕ → List ℕ
neighbours p k = homed p k ++ above p k ++ below p (2 * k + 1) ++ below p (2 * k + 2)

-- To these it sends on what came from one of them.
abbrev pub sent_on : Layout → ℕ → ℕ → List ℕ
sent_on p k from = filter (λ to. not (to == from)) (neighbours p k)

-- How often a number is in a list.
abbrev pub times : ℕ → List ℕ → ℕ
times n xs = sum_by (λ x. bit (n == x)) xs

-- The links on which node k sends on what came to it lead to the actors of the list, to each of them one, and to no others.
pub record SentOnce (p : Layout) (k from came : ℕ) : Type 0 where
  pub linked : All (λ to. (link : ℕ) × IsLink p link (actor_of p k) to) (sent_on p k from)
  pub listed : (sender link to : ℕ) → SendsOn p sender k came link → IsLink p link (actor_of p k) to → times to (sent_on p k from) ≡ 1
  pub not_listed : (sender link to : ℕ) → (SendsOn p sender k came link → ⊥) → IsLink p link (actor_of p k) to → times to (sent_on p k from) ≡ 0

abbrev pub TreeSends : Type 0
TreeSends = (p : Layout) (k from came : ℕ) → IsLayout p → p.shape ≡ Tree → k < p.nodes → IsLink p came from (actor_of p k) → SentOnce p k from came

-- 1 where a copy that is on the link between two actors will come to the goal, else 0: on a link to an agent, where that is
-- the goal; on a link from an agent, where another is; down the tree, where the goal is at a node under the lower end; up the
-- tree, where it is not.
abbrev pub leads : Layout → ℕ → ℕ → ℕ → ℕ
leads p from to goal =
    if nat_lt to p.agents then bit (goal == to)
    else (if nat_lt from p.agents then 1 - bit (goal == from)
    else (if nat_lt from to then bit (is_under (to - p.agents) (place p goal)) else 1 - bit (is_under (from - p.agents) (place p goal))))

-- A copy that came to node k is there for what it was to come to, and what it sends on for the rest.
abbrev pub TreeFlow : Type 0
TreeFlow =
    (p : Layout) (k from link goal : ℕ) → IsLayout p → p.shape ≡ Tree → IsLink p link from (actor_of p k) → goal < p.agents + p.nodes →
    leads p from (actor_of p k) goal ≡ bit (goal == actor_of p k) + sum_by (λ to. leads p (actor_of p k) to goal) (sent_on p k from)
