-- Where a record ends, nobody waits and nobody has a number; who can speak was told that no number is left.
use Rattle.std.proofs.Common.{◌≡◌, ◌∙◌, ℕ, ◌<◌, List, [], refl, sym, ap, subst, arith, inl, inr}
use Rattle.std.specs.Prelude.{Some, slice_get, ◌⊎◌, ◌==◌, if◌then◌else◌}
use Rattle.std.proofs.lemmas.Bool.{cases_eq, cases_lt}
use Rattle.abc_packet.specs.declared.log.Entry.{Entry}
use Rattle.abc_body.specs.Meanings.{Meaning}
use Rattle.abc_network.specs.Agents.{AgentState, Asking, Granted, Idle, Shut, Waiting}
use Rattle.abc_network.specs.Networks.{Actor, Event, Rules, start_of, times}
use Rattle.abc_network.specs.Numbering.{Turn, turns_of}
use Rattle.abc_network_laws.specs.Flows.{Carries, Ends, Flow, Placed, Ways, asks_on, not_waiting}
use Rattle.abc_network_laws.specs.Kept.{Kept, Relays, holds, holds_number, total}
use Rattle.abc_network_laws.proofs.Astray.{total-at}
use Rattle.abc_network_laws.proofs.Holds.{placed-run}
use Rattle.abc_network_laws.proofs.Keeps.{keeps-run}
use Rattle.abc_network_laws.proofs.Lists.{get-within}
use Rattle.abc_network_laws.proofs.Places.{bit-no, bit-yes}
use Rattle.abc_network_laws.proofs.Settles.{over-zero, placed-start, settled}
use Rattle.abc_network_laws.proofs.Simulates.{kept-start}
use Rattle.abc_logs.specs.Merges.{events_at}
use Rattle.abc_schedule.specs.Legal.{IsLegal, KeepsRecords, times_closed}
use Rattle.abc_schedule.specs.Laws.{IsJoinedByRuns}
use Rattle.abc_schedule.specs.Schedules.{times_drawn}
use Rattle.abc_record_ends.specs.Ends.{EndsRight, NobodyCanSpeak}
use Rattle.abc_record_ends.proofs.Closing.{ClosesByDraws, closed-within, agent_has_closed, has_closed}

-- How an agent stands to the numbers is one of four.
asking-is : (a : Asking) → (a ≡ Idle) ⊎ (a ≡ Waiting) ⊎ ((n : ℕ) × (a ≡ Granted n)) ⊎ (a ≡ Shut)
asking-is Idle = inl refl
asking-is Waiting = inr (inl refl)
asking-is (Granted n) = inr (inr (inl (n, refl)))
asking-is Shut = inr (inr (inr refl))

-- An agent that has a number counts for it.
has-one : (n : ℕ) (a : Asking) → a ≡ Granted n → holds n a ≡ 1
has-one n a h = ap (holds n) h ∙ bit-yes n n 1 refl

module _ {B L N : Type 0} (m : Meaning B L) (r : Rules L N) (f : Flow L N) (ways : Ways f r)
    (carries : Carries f r) (ends : Ends f r) (relays : Relays r.node) (draws : ClosesByDraws r.node)
    (joined : IsJoinedByRuns m r) (keeps : KeepsRecords m r) (bodies : List B) (logs : List (List (Entry L)))
    (l : IsLegal m r bodies logs) where
  abbrev events : List (Event L)
  events = events_at r.plan.agents logs l.merged

  abbrev ts : List (Turn L)
  ts = turns_of events

  -- What is known of the network at the end,
  kept : Kept m r bodies ts l.last
  kept = keeps-run m r bodies relays events (start_of r bodies) l.last [] l.run
      (kept-start m r bodies ends.blank_holds)

  -- and where its packets are.
  placed : Placed f ts l.last
  placed =
      (placed-run m r f ways carries relays bodies events (start_of r bodies) l.last [] l.run
      (kept-start m r bodies ends.blank_holds) (placed-start r f bodies ways ends l.joined.many_bodies)).0

  -- An agent that waits has a request or a reply under way, and there is none.
  none-waits : (i : ℕ) (a : Actor (AgentState B L) L) → slice_get l.last.agents i ≡ Some a →
      a.state.asking ≡ Waiting → ⊥
  none-waits i a at waits =
      let low : i < f.agents = (let g = get-within l.last.agents i a at in let c = placed.agents in omega arith) in
      let one = placed.asked i low in
      let on_links = over-zero (λ k q. total (λ x. asks_on i k x.packet) q) l.last.links
      (λ k q there. ap (total (λ x. asks_on i k x.packet)) (l.quiet.still.links k q there)) in
      let at_agents = over-zero (λ j b. if j == i then not_waiting b.state.asking else 0) l.last.agents
      (λ j b there. elim (cases_eq j i) [
        | inl e ↦
            let got : slice_get l.last.agents i ≡ Some b = subst (λ v. slice_get l.last.agents v ≡ Some b) e there in
            let same : a ≡ b = cc in
            bit-yes j i (not_waiting b.state.asking) e
            ∙ (ap (λ v. not_waiting v.state.asking) (sym same) ∙ ap not_waiting waits)
        | inr e ↦ bit-no j i (not_waiting b.state.asking) e
      ]) in
      let at_nodes = over-zero (λ k b. 0) l.last.nodes (λ k b there. refl) in
      absurd (omega arith)

  -- An agent that has a number has one that was drawn, and each of these was turned.
  none-granted : (i : ℕ) (a : Actor (AgentState B L) L) → slice_get l.last.agents i ≡ Some a →
      (n : ℕ) → a.state.asking ≡ Granted n → ⊥
  none-granted i a at n has =
      let here = total-at (holds_number n) l.last.agents i a at in
      let one = has-one n a.state.asking has in
      let drawn = kept.live_drawn n in
      let logged : times n l.last.drawn ≡ times_drawn n logs =
      (joined bodies events l.last l.joined.many_bodies l.run).1 n ∙ ap (times_drawn n) l.are_logs in
      let front = keeps.fronts bodies logs l i a at in
      let all =
      (settled m r f ways carries ends relays bodies l.joined.many_bodies events l.last l.run).fronts l.quiet.still i a at in
      elim (cases_lt n 1) [
        | inl zero ↦ (let none = l.no_others n (inl zero) in absurd (omega arith))
        | inr low ↦ elim (cases_lt l.count n) [
          | inl past ↦ (let none = l.no_others n (inr past) in absurd (omega arith))
          | inr high ↦ (let none = (kept.turned n (omega arith) (omega arith)).1 in absurd (omega arith))
        ]
      ]

  -- Where no draw was answered so, no agent was told that no number is left.
  none-shut : times_closed logs ≡ 0 → (i : ℕ) (a : Actor (AgentState B L) L) → slice_get l.last.agents i ≡ Some a →
      a.state.asking ≡ Shut → ⊥
  none-shut none i a at was =
      let here = total-at agent_has_closed l.last.agents i a at in
      let one : has_closed a.state.asking ≡ 1 = ap has_closed was in
      let within = closed-within m r draws bodies events l.last l.run in
      let same = ap times_closed l.are_logs in absurd (omega arith)

  -- Every other agent is idle, and an idle agent that can speak asks.
  none-speaks : times_closed logs ≡ 0 → NobodyCanSpeak m l.last
  none-speaks none i a at can = elim (asking-is a.state.asking) [
    | inl idle ↦ (l.quiet.still.agents i a at).no_ask idle can
    | inr other ↦ elim other [
      | inl waits ↦ none-waits i a at waits
      | inr more ↦ elim more [
        | inl has ↦ none-granted i a at has.0 has.1
        | inr was ↦ none-shut none i a at was
      ]
    ]
  ]

  -- The limit is reached, or nobody can speak.
  pub right : (l.count ≡ r.limit) ⊎ NobodyCanSpeak m l.last
  right = elim (cases_lt 0 (times_closed logs)) [
    | inl some ↦ inl (l.closed (omega arith))
    | inr none ↦ inr (none-speaks (omega arith))
  ]

-- Records end right in every network that settles, whose nodes answer that no number is left only where a draw said so.
pub ends-right : {B L N : Type 0} (m : Meaning B L) (r : Rules L N) (f : Flow L N) → Ways f r → Carries f r → Ends f r →
    Relays r.node → ClosesByDraws r.node → IsJoinedByRuns m r → KeepsRecords m r → EndsRight m r
ends-right m r f ways carries ends relays draws joined keeps = λ bodies logs l.
    right m r f ways carries ends relays draws joined keeps bodies logs l
