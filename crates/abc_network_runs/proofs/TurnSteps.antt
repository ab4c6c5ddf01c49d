-- An agent that may turn has an event in which it does, and the other way round.
use Rattle.std.proofs.Common.{◌≡◌, ℕ, zero, suc, ◌+◌, List, [], ◌∷◌, ◌++◌, refl, ap, ◌∙◌}
use Rattle.std.proofs.Common.{subst, inl, inr}
use Rattle.std.specs.Prelude.{◌⊎◌, max, Option, Some, None, slice_get}
use Rattle.abc_packet.specs.declared.packets.Content.{Content}
use Rattle.abc_packet.specs.declared.packets.Content.TheVariants.{Said, Empty}
use Rattle.abc_packet.specs.declared.packets.Packet.{Packet}
use Rattle.abc_packet.specs.declared.packets.Packet.TheVariants.{Message}
use Rattle.abc_packet.specs.declared.log.Deed.TheVariants.{Turned}
use Rattle.abc_packet.specs.declared.log.Entry.{Entry}
use Rattle.abc_body.specs.Meanings.{Meaning, CanSpeak}
use Rattle.abc_network.specs.Agents.{AgentState, Idle, Granted, Speaking, PicksToSpeak}
use Rattle.abc_network.specs.Networks.{Net, Actor, Rules, Swaps, AgentStep, sent}
use Rattle.abc_network_runs.proofs.Concrete.{old-is}
use Rattle.abc_network_runs.specs.Turning.{SpeaksAsPicked, MayTurn, CanTurn, NoTurnWaits}

-- A list with another element at one place.
abbrev pub with-at : {X : Type 0} → ℕ → X → List X → List X
with-at i y [] = []
with-at zero y (x ∷ xs) = y ∷ xs
with-at (suc i) y (x ∷ xs) = x ∷ with-at i y xs

-- It is one in which that element changed.
pub swaps-at : {X : Type 0} (i : ℕ) (x y : X) (xs : List X) → slice_get xs i ≡ Some x →
    Swaps i x y xs (with-at i y xs)
swaps-at i x y [] at = absurd (cc)
swaps-at zero x y (a ∷ xs) at = let e : a ≡ x = cc in (e, refl, refl)
swaps-at (suc i) x y (a ∷ xs) at = (refl, swaps-at i x y xs at)

module _ {B L N : Type 0} (m : Meaning B L) (r : Rules L N) (w : Net B L N) (i : ℕ)
    (a : Actor (AgentState B L) L) (at : slice_get w.agents i ≡ Some a) where
  -- What an agent logs at its turn,
  abbrev turn-entry : Option ℕ → Content L → Entry L
  turn-entry place content = record {
    clock = max a.clock 0 + 1;
    deed = Turned (a.state.front + 1) place content;
  }

  -- what it sends,
  abbrev turn-sends : Content L → List (ℕ × Packet L)
  turn-sends content = (r.way i a.state.packets, Message (a.state.front + 1) i content) ∷ []

  -- what it is then,
  abbrev turned-agent : Option ℕ → Content L → B → Actor (AgentState B L) L
  turned-agent place content b' = record {
    state = record {
      body = b';
      front = a.state.front + 1;
      asking = Idle;
      stored = a.state.stored;
      packets = a.state.packets + 1;
    };
    clock = max a.clock 0 + 1;
    log = a.log ++ turn-entry place content ∷ [];
  }

  -- and the network after it.
  abbrev turned-net : Option ℕ → Content L → B → Net B L N
  turned-net place content b' = record {
    agents = with-at i (turned-agent place content b') w.agents;
    nodes = w.nodes;
    links = sent (max a.clock 0 + 1) (turn-sends content) w.links;
    drawn = w.drawn;
  }

  -- This is a step of the network, where the body speaks so.
  turn-step : (place : Option ℕ) (content : Content L) (b' : B) →
      a.state.asking ≡ Granted (a.state.front + 1) → Speaking m a.state.body place content b' →
      PicksToSpeak m a.state.body (r.pick + a.state.front) place content →
      AgentStep m r w i (turn-entry place content) (turned-net place content b')
  turn-step place content b' granted speaks picks = record {
    old = a;
    new = turned-agent place content b';
    sends = turn-sends content;
    left = w.links;
    row = record {
      next = refl;
      granted = granted;
      speaks = speaks;
      picks = picks;
      sends = refl;
      after = refl;
    };
    logs = (refl, refl, refl);
    at = swaps-at i a (turned-agent place content b') w.agents at;
    first = refl;
    links = refl;
    draws = refl;
    rest = refl;
  }

  -- So an agent that may turn can.
  can-turn : MayTurn m r.pick a.state → CanTurn m r w i
  can-turn may = elim may.body [
    | inl s ↦ (
      max a.clock 0 + 1,
      a.state.front + 1,
      Some s.0,
      Said s.1,
      turned-net (Some s.0) (Said s.1) s.2,
      turn-step (Some s.0) (Said s.1) s.2 may.granted s.3 s.4,
    )
    | inr none ↦ (
      max a.clock 0 + 1,
      a.state.front + 1,
      None,
      Empty,
      turned-net None Empty a.state.body,
      turn-step None Empty a.state.body may.granted (none, refl) tt,
    )
  ]

  -- What a body says at a turn it says as the turn picks; where it says nothing it can't speak.
  spoke : (b b' : B) (turn : ℕ) (place : Option ℕ) (content : Content L) →
      Speaking m b place content b' → PicksToSpeak m b turn place content →
      SpeaksAsPicked m b turn ⊎ (CanSpeak m b → ⊥)
  spoke b b' turn (Some place) (Said label) s p = inl (place, label, b', s, p)
  spoke b b' turn None Empty s p = inr s.0
  spoke b b' turn None (Said label) s p = absurd s
  spoke b b' turn (Some place) Empty s p = absurd s

  -- So an agent that turns may.
  may-turn : CanTurn m r w i → MayTurn m r.pick a.state
  may-turn can =
      let s = can.5 in
      let row = s.row in
      let may : MayTurn m r.pick s.old.state = record {
        granted = row.granted ∙ ap Granted row.next;
        body = spoke s.old.state.body s.new.state.body (r.pick + s.old.state.front) can.2 can.3
            row.speaks row.picks;
      } in
      subst (λ (v : Actor (AgentState B L) L). MayTurn m r.pick v.state)
      (old-is i s.old s.new a w.agents can.4.agents s.at at) may

-- The agent's own state tells whether it can turn.
pub no-turn-waits : {B L N : Type 0} (m : Meaning B L) (r : Rules L N) → NoTurnWaits m r
no-turn-waits m r = λ w i a at. (may-turn m r w i a at, can-turn m r w i a at)
