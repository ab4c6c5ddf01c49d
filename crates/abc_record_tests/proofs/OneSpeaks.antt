-- The run of a cluster of one agent and one node in which the agent speaks once; its record is legal.
use Rattle.std.proofs.Common.{◌≡◌, ℕ, zero, suc, ◌+◌, ◌<◌, ◌≤◌, List, [], ◌∷◌, refl, sym, ap, subst, lit<, lit≤, arith, All, ◌∙◌}
use Rattle.std.specs.Prelude.{Some, None, slice_get, length, if◌then◌else◌}
use Rattle.std.proofs.lemmas.Bool.{ne_eqb}
use Rattle.std.proofs.lemmas.List.Elements.{All-nil, All-cons}
use Rattle.abc_value.specs.declared.grant.Grant.TheVariants.{Number}
use Rattle.abc_packet.specs.declared.packets.Content.TheVariants.{Said}
use Rattle.abc_packet.specs.declared.packets.Packet.{Packet}
use Rattle.abc_packet.specs.declared.packets.Packet.TheVariants.{Request, Reply, Message}
use Rattle.abc_packet.specs.declared.log.Deed.{Deed}
use Rattle.abc_packet.specs.declared.log.Deed.TheVariants.{Asked, Arrived, Turned}
use Rattle.abc_packet.specs.declared.log.Entry.{Entry}
use Rattle.abc_packet.specs.declared.stamped.Stamped.{Stamped}
use Rattle.abc_shape.specs.Plans.{IsLayout, layout_of, cluster_up, cluster_down}
use Rattle.abc_shape.specs.declared.shape.Shape.TheVariants.{Cluster}
use Rattle.abc_packet.specs.declared.log.Log.{Log}
use Rattle.abc_term.specs.declared.terms.Program.{Program}
use Rattle.abc_term.specs.Standing.{definitions_of}
use Rattle.abc_moves.specs.declared.label.Label.{Label}
use Rattle.abc_moves.specs.Lives.{StartsAs}
use Rattle.abc_body.specs.Meanings.{Meaning, CanSpeak}
use Rattle.abc_live_body.specs.Running.{RunningComponent}
use Rattle.abc_live_body.specs.AbcMeaning.{abc}
use Rattle.abc_net.specs.Records.{entries_of}
use Rattle.abc_record_text.specs.LegalRecords.{IsLegalFor}
use Rattle.abc_history.specs.Histories.{entry_of}
use Rattle.abc_network.specs.Agents.{AgentState, Asking, Idle, Waiting, Granted}
use Rattle.abc_network.specs.Networks.{Actor, Net, Rules, AgentDid, NodeDid, AgentStep, NodeStep, Netrun, start_of, times}
use Rattle.abc_network.specs.Quiets.{AgentRests, IsStill}
use Rattle.abc_network.specs.Shapes.{cluster_rules}
use Rattle.abc_network_laws.specs.Settling.{NoGap}
use Rattle.abc_schedule.specs.Legal.{IsLegal}
use Rattle.abc_schedule.proofs.ByShape.{cluster-records}
use Rattle.abc_record_tests.specs.OneSpeaker.{SpeaksOnce, speaker_log, node_log}

abbrev stamped : {L : Type 0} → ℕ → Packet L → Stamped L
stamped clock packet = record { clock = clock; packet = packet }

-- The states of the network: of its one agent, its one node, and its two links.
abbrev agent : {B L : Type 0} → B → ℕ → Asking → ℕ → ℕ → List (Entry L) → Actor (AgentState B L) L
agent body front asking packets clock log = record {
  state = record { body = body; front = front; asking = asking; stored = []; packets = packets };
  clock = clock;
  log = log;
}

abbrev node : {L : Type 0} → ℕ → List (Entry L) → Actor (Unit {0}) L
node clock log = record { state = tt; clock = clock; log = log }

abbrev world : {B L : Type 0} → Actor (AgentState B L) L → Actor (Unit {0}) L → List (Stamped L) → List (Stamped L) → List ℕ →
    Net B L (Unit {0})
world a n up down drawn = record { agents = a ∷ []; nodes = n ∷ []; links = up ∷ down ∷ []; drawn = drawn }

abbrev rules : {L : Type 0} → Rules L (Unit {0})
rules = cluster_rules 1 1 10 0

one-of-each : IsLayout (layout_of Cluster 1 1)
one-of-each = record { some_agents = lit≤ tt; most_agents = lit≤ tt; some_nodes = lit≤ tt; most_nodes = lit≤ tt }

module _ {B L : Type 0} (m : Meaning B L) (b b' : B) (place : ℕ) (label : L) (spoke : m.speaks b place label b')
    (placed : m.placed b None 0 (Some place)) where
  abbrev asks : Entry L
  asks = entry_of 1 Asked

  abbrev draws : Entry L
  draws = entry_of 2 (Arrived 0 (stamped 1 (Request 0)) (Some (Number 1)))

  abbrev has : Entry L
  has = entry_of 3 (Arrived 1 (stamped 2 (Reply 0 (Number 1))) None)

  abbrev turns : Entry L
  turns = entry_of 4 (Turned 1 (Some place) (Said label))

  abbrev sends : Entry L
  sends = entry_of 5 (Arrived 0 (stamped 4 (Message 1 0 (Said label))) None)

  abbrev w0 : Net B L (Unit {0})
  w0 = world (agent b 0 Idle 0 0 []) (node 0 []) [] [] []

  abbrev w1 : Net B L (Unit {0})
  w1 = world (agent b 0 Waiting 1 1 (asks ∷ [])) (node 0 []) (stamped 1 (Request 0) ∷ []) [] []

  abbrev w2 : Net B L (Unit {0})
  w2 = world (agent b 0 Waiting 1 1 (asks ∷ [])) (node 2 (draws ∷ [])) [] (stamped 2 (Reply 0 (Number 1)) ∷ []) (1 ∷ [])

  abbrev w3 : Net B L (Unit {0})
  w3 = world (agent b 0 (Granted 1) 1 3 (asks ∷ has ∷ [])) (node 2 (draws ∷ [])) [] [] (1 ∷ [])

  abbrev w4 : Net B L (Unit {0})
  w4 = world (agent b' 1 Idle 2 4 (asks ∷ has ∷ turns ∷ [])) (node 2 (draws ∷ [])) (stamped 4 (Message 1 0 (Said label)) ∷ []) [] (1 ∷ [])

  abbrev w5 : Net B L (Unit {0})
  w5 = world (agent b' 1 Idle 2 4 (asks ∷ has ∷ turns ∷ [])) (node 5 (draws ∷ sends ∷ [])) [] [] (1 ∷ [])

  step1 : AgentStep m rules w0 0 asks w1
  step1 = record {
    old = agent b 0 Idle 0 0 [];
    new = agent b 0 Waiting 1 1 (asks ∷ []);
    sends = (0, Request 0) ∷ [];
    left = [] ∷ [] ∷ [];
    row = record { idle = refl; can = (place, label, b', spoke); sends = refl; after = refl };
    logs = (refl, refl, refl);
    at = (refl, refl, refl);
    first = refl;
    links = refl;
    draws = refl;
    rest = refl;
  }

  step2 : NodeStep m rules w1 0 draws w2
  step2 = record {
    old = node 0 [];
    new = node 2 (draws ∷ []);
    sends = (1, Reply 0 (Number 1)) ∷ [];
    left = [] ∷ [] ∷ [];
    row = (lit< tt, refl, refl);
    logs = (refl, refl, refl);
    at = (refl, refl, refl);
    first = (
      [],
      (0, cluster_up 0 0 refl (lit< tt) (lit< tt) refl refl refl),
      (refl, refl, refl),
    );
    links = refl;
    draws = (lit< tt, lit≤ tt, refl, refl);
    rest = refl;
  }

  step3 : AgentStep m rules w2 0 has w3
  step3 = record {
    old = agent b 0 Waiting 1 1 (asks ∷ []);
    new = agent b 0 (Granted 1) 1 3 (asks ∷ has ∷ []);
    sends = [];
    left = [] ∷ [] ∷ [];
    row = (refl, refl, (refl, refl, (lit< tt, refl, refl)));
    logs = (refl, refl, refl);
    at = (refl, refl, refl);
    first = (
      [],
      (lit< tt, (1, cluster_down 0 0 refl (lit< tt) (lit< tt) refl refl refl)),
      (refl, (refl, refl, refl)),
    );
    links = refl;
    draws = refl;
    rest = refl;
  }

  step4 : AgentStep m rules w3 0 turns w4
  step4 = record {
    old = agent b 0 (Granted 1) 1 3 (asks ∷ has ∷ []);
    new = agent b' 1 Idle 2 4 (asks ∷ has ∷ turns ∷ []);
    sends = (0, Message 1 0 (Said label)) ∷ [];
    left = [] ∷ [] ∷ [];
    row = record { next = refl; granted = refl; speaks = spoke; picks = placed; sends = refl; after = refl };
    logs = (refl, refl, refl);
    at = (refl, refl, refl);
    first = refl;
    links = refl;
    draws = refl;
    rest = refl;
  }

  step5 : NodeStep m rules w4 0 sends w5
  step5 = record {
    old = node 2 (draws ∷ []);
    new = node 5 (draws ∷ sends ∷ []);
    sends = [];
    left = [] ∷ [] ∷ [];
    row = (lit< tt, refl, refl);
    logs = (refl, refl, refl);
    at = (refl, refl, refl);
    first = (
      [],
      (0, cluster_up 0 0 refl (lit< tt) (lit< tt) refl refl refl),
      (refl, refl, refl),
    );
    links = refl;
    draws = refl;
    rest = refl;
  }

  run : Netrun m rules (start_of rules (b ∷ [])) (AgentDid 0 asks ∷ NodeDid 0 draws ∷ AgentDid 0 has ∷ AgentDid 0 turns ∷ NodeDid 0 sends ∷ []) w5
  run = (w1, step1, (w2, step2, (w3, step3, (w4, step4, (w5, step5, refl)))))

  nothing-there : (l : ℕ) (q : List (Stamped L)) → slice_get w5.links l ≡ Some q → q ≡ []
  nothing-there zero q at = cc
  nothing-there (suc zero) q at = cc
  nothing-there (suc (suc l)) q at = absurd (cc)

  agent-rests : (CanSpeak m b' → ⊥) → (i : ℕ) (a : Actor (AgentState B L) L) → slice_get w5.agents i ≡ Some a → AgentRests m a.state
  agent-rests silent zero a at =
      let e : agent b' 1 Idle 2 4 (asks ∷ has ∷ turns ∷ []) ≡ a = cc in
      subst (λ (x : Actor (AgentState B L) L). AgentRests m x.state) e
      (record { no_ask = λ idle can. silent can; no_take = refl; no_turn = λ clash. absurd (cc) })
  agent-rests silent (suc i) a at = absurd (cc)

  still : (CanSpeak m b' → ⊥) → IsStill m rules w5
  still silent = record { links = nothing-there; agents = agent-rests silent; nodes = λ k a at can. can }

  -- only number 1 was drawn
  no-gap : NoGap (1 ∷ [])
  no-gap n low next =
      let other = ne_eqb 1 (n + 1) (omega (arith, low)) in
      let none : times (n + 1) (1 ∷ []) ≡ 0 = ap (λ t. (if t then 1 else 0) + 0) other in
      absurd (omega (arith, none, next))

  pub speaks-legally : (CanSpeak m b' → ⊥) → IsLegal m rules (b ∷ []) (speaker_log place label ∷ node_log label ∷ [])
  speaks-legally silent =
      (cluster-records m 1 1 10 0 one-of-each).still (b ∷ [])
      (AgentDid 0 asks ∷ NodeDid 0 draws ∷ AgentDid 0 has ∷ AgentDid 0 turns ∷ NodeDid 0 sends ∷ []) w5 refl run (still silent) no-gap
      (λ closed. let none : 1 ≤ 0 = closed in absurd (omega (arith, none)))

-- ---- of a program's one component
only-one : (p : Program) (b : RunningComponent) → StartsAs p 0 b.component → (i : ℕ) (c : RunningComponent) → slice_get (b ∷ []) i ≡ Some c →
    StartsAs p i c.component
only-one p b starts zero c at = let e : b ≡ c = cc in subst (λ (x : RunningComponent). StartsAs p 0 x.component) e starts
only-one p b starts (suc i) c at = absurd (cc)

-- The record of such logs is a legal one of the program.
pub one-speaks : (p : Program) (place : ℕ) (label other : Label) (logs : List (Log Label)) → SpeaksOnce p place label other →
    entries_of logs ≡ speaker_log place label ∷ node_log other ∷ [] →
    IsLegalFor p (record { shape = Cluster; agents = 1; nodes = 1; limit = 10; pick = 0; logs = logs })
one-speaks p place label other logs once are =
    let b = once.first in
    let P : RunningComponent → Type 0 = λ c. c.definitions ≡ definitions_of p.definitions in
    let all : entries_of logs ≡ speaker_log place label ∷ node_log label ∷ [] =
    are ∙ ap (λ (l : Label). speaker_log place label ∷ node_log l ∷ []) once.same in
    record {
      plan = one-of-each;
      bodies = b ∷ [];
      started = record { count = sym once.one; components = only-one p b once.starts; definitions = All-cons P b [] once.under (All-nil P) };
      legal =
          subst (λ (xs : List (List (Entry Label))). IsLegal abc rules (b ∷ []) xs) (sym all)
          (speaks-legally abc b once.last place label once.speaks once.placed once.silent);
    }
