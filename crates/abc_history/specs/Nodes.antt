-- What contracts see of a node, and of the arrival of a packet at one.
use Rattle.std.specs.Prelude.{◌≡◌, ℕ, List, [], ◌∷◌, Bool, Option, Some, None}
use Rattle.abc_value.specs.declared.grant.Grant.{Grant}
use Rattle.abc_packet.specs.declared.stamped.Stamped.{Stamped}
use Rattle.abc_packet.specs.Outlets.{Lists}
use Rattle.abc_shape.specs.declared.layout.Layout.{Layout}
use Rattle.abc_number.specs.Draws.{Granted}
use Rattle.abc_network.specs.Networks.{Actor, drawn_in}
use Rattle.abc_logs.specs.MicroSteps.{Table, Makes}
use Rattle.abc_history.specs.Histories.{Past}

-- An actor in this state, with this history.
abbrev pub acting : {S L : Type 0} → S → Past L → Actor S L
acting state past = record { state = state; clock = past.clock; log = past.log }

-- A node in code: its number, the plan of its network, and the actor that it is.
pub record SeenNode (S L : Type 0) : Type 0 where
  pub number : ℕ
  pub plan : Layout
  pub actor : Actor S L

-- What was done to a counter. Where nothing was drawn it is as before; else one draw was made, with
-- this answer.
abbrev pub Drew : {N : Type 0} → (N → ℕ) → (N → List ℕ) → (N → Bool) → (N → N → Type 0) →
    Option Grant → N → N → Type 0
Drew limit drawn closed stays None old new = new ≡ old
Drew limit drawn closed stays (Some grant) old new =
    stays old new × (limit new ≡ limit old)
    × Granted (limit old) (drawn old) (closed old) grant (drawn new) (closed new)

-- A packet arrives on a link: one micro-step by the table, and what it says that it drew was drawn.
pub record Arrives {S L : Type 0} (does : Table S L) (link : ℕ) (stamped : Stamped L)
    (old new : Actor S L) (before after : Lists L) (drew : Option Grant → Type 0) : Type 0 where
  pub made : Makes does ((link, stamped) ∷ []) old new before after
  pub draws : drew (drawn_in made.entry.deed)
