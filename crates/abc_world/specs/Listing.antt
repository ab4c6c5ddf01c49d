-- Lists of what can be done next.
use Rattle.std.specs.Prelude.{◌≡◌, ℕ, ◌<◌, List, [], ◌∷◌, ◌++◌, Some, slice_get}
use Rattle.abc_packet.specs.declared.stamped.Stamped.{Stamped}
use Rattle.abc_shape.specs.declared.layout.Layout.{Layout}
use Rattle.abc_shape.specs.Plans.{IsLink}
use Rattle.abc_body.specs.Meanings.{Meaning}
use Rattle.abc_network.specs.Nodes.{NodeMachine}
use Rattle.abc_network.specs.Quiets.{IsStill}
use Rattle.abc_network_laws.specs.Kept.{Each}
use Rattle.abc_world.specs.declared.event.Event.{Event}
use Rattle.abc_world.specs.declared.event.EventKind.{EventKind}
use Rattle.abc_world.specs.Enabled.{Enabled}
use Rattle.abc_world.specs.Runnings.{Running, rules_of}

-- A list gained what is so, or it gained nothing, since there is none.
pub record Listed {X : Type 0} (Is : X → Type 0) (None : Type 0) (old new : List X) : Type 0 where
  pub more : List X
  pub grown : new ≡ old ++ more
  pub each : Each Is more
  pub none : more ≡ [] → None

-- This event can be made in this state of a network,
abbrev pub CanMake : {B L N : Type 0} → Meaning B L → (Layout → NodeMachine L N) → N → Running B L N →
    Event → Type 0
CanMake m machine blank n e =
    Enabled m (rules_of machine blank n.plan n.limit n.pick) e.kind e.actor n.net

-- and an actor can make none.
abbrev pub Rests : {B L N : Type 0} → Meaning B L → (Layout → NodeMachine L N) → N → Running B L N →
    ℕ → Type 0
Rests m machine blank n actor =
    (kind : EventKind) → Enabled m (rules_of machine blank n.plan n.limit n.pick) kind actor n.net → ⊥

-- It is still.
abbrev pub IsStillIn : {B L N : Type 0} → Meaning B L → (Layout → NodeMachine L N) → N →
    Running B L N → Type 0
IsStillIn m machine blank n = IsStill m (rules_of machine blank n.plan n.limit n.pick) n.net

-- These links end at the actor, and no others.
pub record AreLinksInto (p : Layout) (actor : ℕ) (links : List ℕ) : Type 0 where
  pub end : Each (λ link. (from : ℕ) × IsLink p link from actor) links
  pub all : (link from : ℕ) → IsLink p link from actor →
      (place : ℕ) × (slice_get links place ≡ Some link)

-- Nothing is on the first of these links, so many.
abbrev pub AreEmpty : {B L N : Type 0} → Running B L N → List ℕ → ℕ → Type 0
AreEmpty {B} {L} n links count =
    (place link : ℕ) → place < count → slice_get links place ≡ Some link →
    (x : Stamped L) (q : List (Stamped L)) → slice_get n.net.links link ≡ Some (x ∷ q) → ⊥
