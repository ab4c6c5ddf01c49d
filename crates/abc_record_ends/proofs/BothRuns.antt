-- A record that ends at its limit with a body that could speak, and one that ends before it.
use Rattle.std.proofs.Common.{◌≡◌, ◌∙◌, ℕ, zero, suc, ◌<◌, ◌≤◌, List, [], ◌∷◌, length, refl, sym, ap, subst, arith}
use Rattle.std.proofs.Common.{lit<, lit≤}
use Rattle.std.specs.Prelude.{Some, slice_get, ◌⊎◌}
use Rattle.abc_value.specs.declared.grant.Grant.TheVariants.{Closed}
use Rattle.abc_packet.specs.declared.packets.Packet.TheVariants.{Request, Reply}
use Rattle.abc_shape.specs.Plans.{IsLayout, cluster_down, cluster_up, layout_of}
use Rattle.abc_shape.specs.declared.shape.Shape.TheVariants.{Cluster}
use Rattle.abc_body.specs.declared.tally.TheConstants.{FULL}
use Rattle.abc_body.specs.Meanings.{Meaning, CanSpeak}
use Rattle.abc_body.specs.Tallies.{tally}
use Rattle.abc_network.specs.Agents.{AgentState, Idle, Shut, Waiting}
use Rattle.abc_network.specs.Networks.{Actor, AgentDid, AgentStep, Event, Net, Netrun, NodeDid, NodeStep, Rules, start_of}
use Rattle.abc_network.specs.Quiets.{AgentRests, IsQuiet}
use Rattle.abc_network.specs.Worked.{agent, node, sent_at}
use Rattle.abc_network_laws.specs.Flows.{NotStray}
use Rattle.abc_network_laws.specs.Kept.{Each}
use Rattle.abc_schedule.specs.Legal.{IsLegal, times_closed}
use Rattle.abc_schedule.specs.Schedules.{logs_of, times_drawn}
use Rattle.abc_schedule.specs.Shapes.{OwnLinks}
use Rattle.abc_schedule.proofs.Exists.{merge-exists}
use Rattle.abc_schedule.proofs.Joined.{joined-by, one-run}
use Rattle.abc_schedule.proofs.Own.{cluster-own}
use Rattle.abc_record_ends.specs.BothEnds.{asks, draws_none, is_told, one_and_one, EndsBothWays}

-- A run that ended quiet leaves a legal record, where its draws are as one has to have them. The record ends as the run.
leaves-legal : {B L N : Type 0} (m : Meaning B L) (r : Rules L N) → OwnLinks r → IsLayout r.plan →
    (bodies : List B) (es : List (Event L)) (w : Net B L N) (count : ℕ) → length bodies ≡ r.plan.agents →
    Netrun m r (start_of r bodies) es w → IsQuiet m r w → Each (λ q. q ≡ []) w.links →
    ((n : ℕ) → 1 ≤ n → n ≤ count → times_drawn n (logs_of w) ≡ 1) →
    ((n : ℕ) → (n < 1) ⊎ (count < n) → times_drawn n (logs_of w) ≡ 0) →
    (1 ≤ times_closed (logs_of w) → count ≡ r.limit) →
    Each (Each (λ e. NotStray e.deed)) (logs_of w) →
    (l : IsLegal m r bodies (logs_of w)) × (l.count ≡ count) × (l.last.agents ≡ w.agents)
leaves-legal {B} {L} {N} m r own layout bodies es w count many run quiet empty granted others closed no_stray =
    let back = joined-by m r own layout bodies es w many run in
    let merge = merge-exists (logs_of w) in
    let go = one-run m r own layout bodies w back.0 merge.0 merge.1 in
    let last : Net B L N = record w { drawn = go.0 } in (
      record {
        last = last;
        are_logs = refl;
        joined = record {
          many_bodies = back.0.many_bodies;
          many_agents = back.0.many_agents;
          many_nodes = back.0.many_nodes;
          many_links = back.0.many_links;
          outs = back.0.outs;
          agents = back.0.agents;
          nodes = back.0.nodes;
          links = back.0.links;
          draws = back.0.draws;
        };
        empty = empty;
        count = count;
        granted = granted;
        no_others = others;
        closed = closed;
        merged = merge.0;
        merge = merge.1;
        run = go.1;
        quiet = record {
          still = record { links = quiet.still.links; agents = quiet.still.agents; nodes = quiet.still.nodes };
          agents = quiet.agents;
          nodes = quiet.nodes;
        };
        no_stray = no_stray;
      },
      refl,
      refl,
    )

-- One agent and one node are a plan.
one-layout : IsLayout (layout_of Cluster 1 1)
one-layout = record { some_agents = lit≤ tt; most_agents = lit≤ tt; some_nodes = lit≤ tt; most_nodes = lit≤ tt }

-- The only element of a list.
only-one : {X : Type 0} (x y : X) (i : ℕ) → slice_get (x ∷ []) i ≡ Some y → y ≡ x
only-one x y zero at = cc
only-one x y (suc i) at = absurd (cc)

-- Two links with nothing on them.
both-empty : {X : Type 0} (l : ℕ) (q : List X) → slice_get ([] ∷ [] ∷ []) l ≡ Some q → q ≡ []
both-empty zero q at = cc
both-empty (suc zero) q at = cc
both-empty (suc (suc l)) q at = absurd (cc)

-- A network of one agent whose links are empty, and that rests with nothing stored, is quiet.
one-quiet : (limit : ℕ) (a : Actor (AgentState ℕ ℕ) ℕ) (n : Actor (Unit {0}) ℕ) → AgentRests tally a.state →
    a.state.stored ≡ [] →
    IsQuiet tally (one_and_one limit) (record { agents = a ∷ []; nodes = n ∷ []; links = [] ∷ [] ∷ []; drawn = [] })
one-quiet limit a n rests none = record {
  still = record {
    links = both-empty;
    agents = λ i b at. subst (λ (v : Actor (AgentState ℕ ℕ) ℕ). AgentRests tally v.state) (sym (only-one a b i at)) rests;
    nodes = λ k b at can. can;
  };
  agents = λ i b at. ap (λ v. v.state.stored) (only-one a b i at) ∙ none;
  nodes = λ k b at n sender content has. has;
}

-- The network as the agent has asked, as the node has drawn, and as the agent is told.
abbrev after_asking : Net ℕ ℕ (Unit {0})
after_asking = record {
  agents = agent 0 0 Waiting [] 1 1 (asks ∷ []) ∷ [];
  nodes = node 0 [] ∷ [];
  links = (sent_at 1 (Request 0) ∷ []) ∷ [] ∷ [];
  drawn = [];
}

abbrev after_drawing : Net ℕ ℕ (Unit {0})
after_drawing = record {
  agents = agent 0 0 Waiting [] 1 1 (asks ∷ []) ∷ [];
  nodes = node 2 (draws_none ∷ []) ∷ [];
  links = [] ∷ (sent_at 2 (Reply 0 Closed) ∷ []) ∷ [];
  drawn = [];
}

abbrev after_telling : Net ℕ ℕ (Unit {0})
after_telling = record {
  agents = agent 0 0 Shut [] 1 3 (asks ∷ is_told ∷ []) ∷ [];
  nodes = node 2 (draws_none ∷ []) ∷ [];
  links = [] ∷ [] ∷ [];
  drawn = [];
}

-- The agent asks,
step1 : AgentStep tally (one_and_one 0) (start_of (one_and_one 0) (0 ∷ [])) 0 asks after_asking
step1 = record {
  old = agent 0 0 Idle [] 0 0 [];
  new = agent 0 0 Waiting [] 1 1 (asks ∷ []);
  sends = (0, Request 0) ∷ [];
  left = [] ∷ [] ∷ [];
  row = record { idle = refl; can = (0, 0, 1, (lit< tt, lit< tt, refl, refl)); sends = refl; after = refl };
  logs = (refl, refl, refl);
  at = (refl, refl, refl);
  first = refl;
  links = refl;
  draws = refl;
  rest = refl;
}

-- the node draws, and hands the answer on,
step2 : NodeStep tally (one_and_one 0) after_asking 0 draws_none after_drawing
step2 = record {
  old = node 0 [];
  new = node 2 (draws_none ∷ []);
  sends = (1, Reply 0 Closed) ∷ [];
  left = [] ∷ [] ∷ [];
  row = (lit< tt, refl, refl);
  logs = (refl, refl, refl);
  at = (refl, refl, refl);
  first = ([], (0, cluster_up 0 0 refl (lit< tt) (lit< tt) refl refl refl), (refl, refl, refl));
  links = refl;
  draws = refl;
  rest = refl;
}

-- and the agent is told.
step3 : AgentStep tally (one_and_one 0) after_drawing 0 is_told after_telling
step3 = record {
  old = agent 0 0 Waiting [] 1 1 (asks ∷ []);
  new = agent 0 0 Shut [] 1 3 (asks ∷ is_told ∷ []);
  sends = [];
  left = [] ∷ [] ∷ [];
  row = (refl, refl, (refl, refl, refl));
  logs = (refl, refl, refl);
  at = (refl, refl, refl);
  first = (
    [],
    (lit< tt, (1, cluster_down 0 0 refl (lit< tt) (lit< tt) refl refl refl)),
    (refl, (refl, refl, refl)),
  );
  links = refl;
  draws = refl;
  rest = refl;
}

-- These three are a run.
three-events : Netrun tally (one_and_one 0) (start_of (one_and_one 0) (0 ∷ []))
    (AgentDid 0 asks ∷ NodeDid 0 draws_none ∷ AgentDid 0 is_told ∷ []) after_telling
three-events = (after_asking, step1, (after_drawing, step2, (after_telling, step3, refl)))

-- An agent that was told rests.
told-rests : AgentRests tally (agent 0 0 Shut [] 1 3 (asks ∷ is_told ∷ [])).state
told-rests = record {
  no_ask = λ (e : Shut ≡ Idle) can. absurd (cc);
  no_take = refl;
  no_turn = λ e. cc;
}

-- A full tally can't speak,
full-silent : CanSpeak tally FULL → ⊥
full-silent can = let low = can.3.0 in absurd (omega arith)

-- so an agent with one rests before it ever asked.
full-rests : AgentRests tally (agent FULL 0 Idle [] 0 0 []).state
full-rests = record { no_ask = λ e can. full-silent can; no_take = refl; no_turn = λ e. cc }

-- The record that ends at its limit, and the one that ends before.
pub ends-both-ways : EndsBothWays
ends-both-ways =
    let own = (λ (limit : ℕ). cluster-own {L = ℕ} 1 1 limit 0 (lit≤ tt)) in
    let late = leaves-legal tally (one_and_one 0) (own 0) one-layout (0 ∷ [])
    (AgentDid 0 asks ∷ NodeDid 0 draws_none ∷ AgentDid 0 is_told ∷ []) after_telling 0 refl three-events
    (one-quiet 0 (agent 0 0 Shut [] 1 3 (asks ∷ is_told ∷ [])) (node 2 (draws_none ∷ [])) told-rests refl)
    (refl, (refl, tt)) (λ n low high. absurd (omega arith)) (λ n out. refl) (λ some. refl)
    ((tt, (tt, tt)), ((tt, tt), tt)) in
    let early = leaves-legal tally (one_and_one 1) (own 1) one-layout (FULL ∷ []) []
    (start_of (one_and_one 1) (FULL ∷ [])) 0 refl refl
    (one-quiet 1 (agent FULL 0 Idle [] 0 0 []) (node 0 []) full-rests refl)
    (refl, (refl, tt)) (λ n low high. absurd (omega arith)) (λ n out. refl) (λ some. absurd (omega arith))
    (tt, (tt, tt)) in
    record {
      at_limit = (
        late.0,
        late.1,
        λ none.
            let there : slice_get late.0.last.agents 0 ≡ Some (agent 0 0 Shut [] 1 3 (asks ∷ is_told ∷ [])) =
            ap (λ v. slice_get v 0) late.2 in
            none 0 (agent 0 0 Shut [] 1 3 (asks ∷ is_told ∷ [])) there (0, 0, 1, (lit< tt, lit< tt, refl, refl)),
      );
      in_silence = (
        early.0,
        λ one. (let none = early.1 in absurd (omega arith)),
        λ i a at can.
            let is = only-one (agent FULL 0 Idle [] 0 0 []) a i (sym (ap (λ v. slice_get v i) early.2) ∙ at) in
            full-silent (subst (λ (v : Actor (AgentState ℕ ℕ) ℕ). CanSpeak tally v.state.body) is can),
      );
    }
