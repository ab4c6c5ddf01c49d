-- The rows of a tree's node, by what its tests tell.
use Rattle.std.proofs.Common.{ℕ, ◌<◌, List, [], ◌∷◌, Bool, true, false, MatchBool, refl}
use Rattle.std.specs.Prelude.{Option, Some, None}
use Rattle.abc_value.specs.declared.grant.Grant.{Grant}
use Rattle.abc_packet.specs.declared.packets.Packet.{Packet}
use Rattle.abc_packet.specs.declared.packets.Packet.TheVariants.{Request, Reply}
use Rattle.abc_shape.specs.declared.layout.Layout.{Layout}
use Rattle.abc_network.specs.Trees.{TreeAccepts, TreeAsks}
use Rattle.abc_tree.specs.Seats.{EndsAt, ComesFrom, GoesDown}

-- A message of a known sender is taken where its link ends at the node.
pub accepts-tested : (p : Layout) (k link sender : ℕ) (b : Bool) → sender < p.agents → MatchBool b (EndsAt p k link) (EndsAt p k link → ⊥) →
    MatchBool b (TreeAccepts p k link sender) (TreeAccepts p k link sender → ⊥)
accepts-tested p k link sender true low ends = record { known = low; from = ends.0; ends = ends.1 }
accepts-tested p k link sender false low never = λ accepts. never (accepts.from, accepts.ends)

module _ {L : Type 0} where
  -- There is no row for a request that doesn't come from where its agent is,
  pub no-request : (p : Layout) (k link agent : ℕ) → ((route : ℕ) → ComesFrom p k link agent route → ⊥) → (drew : Option Grant)
      (out : List (ℕ × Packet L)) → TreeAsks p k link (Request agent) drew out → ⊥
  no-request p k link agent never (Some grant) out (low, root, (route, is, back, sends)) = never route (low, is, back)
  no-request p k link agent never None out (low, some, (route, is, back, sends)) = never route (low, is, back)

  -- nor for a reply that doesn't go down.
  pub no-reply : (p : Layout) (k link agent : ℕ) (grant : Grant) → ((route : ℕ) → GoesDown p k link agent route → ⊥) → (drew : Option Grant)
      (out : List (ℕ × Packet L)) → TreeAsks p k link (Reply agent grant) drew out → ⊥
  no-reply p k link agent grant never (Some drawn) out none = none
  no-reply p k link agent grant never None out (low, some, parent, (route, is, other, sends)) = never route (low, (some, parent), is, other)

  -- One that does is sent on.
  pub reply-on : (p : Layout) (k link agent on : ℕ) (grant : Grant) → GoesDown p k link agent on →
      TreeAsks {L = L} p k link (Reply agent grant) None ((on, Reply agent grant) ∷ [])
  reply-on p k link agent on grant (low, (some, parent), is, other) = (low, some, parent, (on, is, other, refl))
