-- The node of a tree.
use Rattle.std.specs.Prelude.{◌≡◌, ◌≢◌, ℕ, zero, suc, ◌+◌, ◌*◌, ◌<◌, ◌==◌, nat_lt, List, [], ◌∷◌}
use Rattle.std.specs.Prelude.{◌++◌, Option, Some, None, if◌then◌else◌}
use Rattle.abc_value.specs.declared.grant.Grant.{Grant}
use Rattle.abc_packet.specs.declared.packets.Packet.{Packet}
use Rattle.abc_packet.specs.declared.packets.Packet.TheVariants.{Request, Reply, Message}
use Rattle.abc_shape.specs.declared.layout.Layout.{Layout}
use Rattle.abc_shape.specs.Plans.{IsLink, actor_of, home, step_up}
use Rattle.abc_shape.specs.Routes.{IsRoute}
use Rattle.abc_network.specs.Links.{to_home, from_home, to_parent, from_parent}
use Rattle.abc_network.specs.Stores.{StoreKind}

-- A message comes from any neighbour.
pub record TreeAccepts (p : Layout) (k l sender : ℕ) : Type 0 where
  pub known : sender < p.agents
  pub from : ℕ
  pub ends : IsLink p l from (actor_of p k)

-- Link l comes to node k from the neighbour to which the link `out` leads.
abbrev pub ComesBack : Layout → ℕ → ℕ → ℕ → Type 0
ComesBack p k out l = (neighbour : ℕ) × IsLink p out (actor_of p k) neighbour
    × IsLink p l neighbour (actor_of p k)

-- What node k does with what comes from an agent, or is for one. The way to the agent is `route`.
abbrev pub TreeAsks : {L : Type 0} → Layout → ℕ → ℕ → Packet L → Option Grant →
    List (ℕ × Packet L) → Type 0
-- A request, from the neighbour to which the route to its agent leads: the root draws and replies
-- on the route,
TreeAsks p k l (Request agent) (Some grant) out =
    (agent < p.agents) × (k ≡ 0)
    × ((route : ℕ) × IsRoute p k agent route × ComesBack p k route l
    × (out ≡ (route, Reply agent grant) ∷ []))
-- and every other node sends it to its parent.
TreeAsks p k l (Request agent) None out =
    (agent < p.agents) × (k ≢ 0)
    × ((route : ℕ) × IsRoute p k agent route × ComesBack p k route l
    × (out ≡ (to_parent p.agents k, Request agent) ∷ []))
-- A reply from the parent, where the route to its agent doesn't lead to the parent: it goes on on
-- the route.
TreeAsks p k l (Reply agent grant) None out =
    (agent < p.agents) × (k ≢ 0) × IsLink p l (actor_of p (step_up k)) (actor_of p k)
    × ((route : ℕ) × IsRoute p k agent route
    × (IsLink p route (actor_of p k) (actor_of p (step_up k)) → ⊥)
    × (out ≡ (route, Reply agent grant) ∷ []))
TreeAsks p k l (Reply agent grant) (Some drawn) out = ⊥
TreeAsks p k l (Message n sender content) drew out = ⊥

-- The links to those of `count` agents from agent i on that are homed at k, in order, but none to
-- the one from which it came.
abbrev pub agents_of : Layout → ℕ → ℕ → ℕ → ℕ → List ℕ
agents_of p k came i zero = []
agents_of p k came i (suc count) =
    if home p i == k
    then (if came == to_home i then agents_of p k came (i + 1) count
    else from_home i ∷ agents_of p k came (i + 1) count)
    else agents_of p k came (i + 1) count

-- The link to the parent, where there is one and it didn't come from there.
abbrev pub parent_of : Layout → ℕ → ℕ → List ℕ
parent_of p k came =
    if k == 0 then []
    else (if came == from_parent p.agents k then [] else to_parent p.agents k ∷ [])

-- The link to node c, a child, where there is one and it didn't come from there.
abbrev pub child_of : Layout → ℕ → ℕ → List ℕ
child_of p c came =
    if nat_lt c p.nodes
    then (if came == to_parent p.agents c then [] else from_parent p.agents c ∷ [])
    else []

-- A message goes to every neighbour but the one from which it came: agents first, then the parent,
-- then the children. The children of node k are 2k + 1 and 2k + 2.
abbrev pub tree_outs : Layout → ℕ → ℕ → ℕ → List ℕ
tree_outs p k sender came =
    agents_of p k came 0 p.agents
    ++ (parent_of p k came ++ (child_of p (2 * k + 1) came ++ child_of p (2 * k + 2) came))

abbrev pub tree_kind : {L : Type 0} → Layout → StoreKind L
tree_kind p = record { accepts = TreeAccepts p; outs = tree_outs p; asking = TreeAsks p }
