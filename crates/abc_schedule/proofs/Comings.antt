-- A run of the network is a run of its actors by the law.
use Rattle.std.proofs.Common.{◌≡◌, ℕ, ◌+◌, ◌<◌, ◌≤◌, List, [], ◌∷◌, ◌++◌, length}
use Rattle.std.proofs.Common.{get_or, map, refl, sym, ap, ◌∙◌, subst, arith, inl, inr}
use Rattle.std.specs.Prelude.{Option, Some, None}
use Rattle.abc_value.specs.declared.grant.Grant.{Grant}
use Rattle.abc_value.specs.declared.grant.Grant.TheVariants.{Number, Closed}
use Rattle.abc_packet.specs.declared.packets.Packet.{Packet}
use Rattle.abc_packet.specs.declared.stamped.Stamped.{Stamped}
use Rattle.abc_packet.specs.declared.log.Entry.{Entry}
use Rattle.abc_packet.specs.Outlets.{sent_on}
use Rattle.abc_shape.specs.Plans.{IsLayout, actor_of}
use Rattle.abc_body.specs.Meanings.{Meaning}
use Rattle.abc_network.specs.Networks.{Actor, Net, Rules, sent, times, drawn_in, Draws, EndsAtAgent}
use Rattle.abc_network.specs.Networks.{EndsAtNode, Event, AgentDid, NodeDid, AgentStep, NodeStep, Netrun}
use Rattle.abc_network.specs.Networks.{FirstTaken}
use Rattle.abc_network_laws.specs.Kept.{Each, total}
use Rattle.abc_network_laws.proofs.Lists.{each-map, swap-length, swap-old, get-within, total-append, swap-total}
use Rattle.abc_network_laws.proofs.Steps.{draws-times, draws-fresh}
use Rattle.abc_logs.specs.MicroSteps.{taken_by, stamped_with}
use Rattle.abc_schedule.specs.Schedules.{EndsAt, IsWithin, draws_by, times_drawn, logs_of, log_in}
use Rattle.abc_schedule.specs.Shapes.{StartsAt, OwnLinks}
use Rattle.abc_schedule.specs.Machines.{WebStep, WebRun}
use Rattle.abc_schedule.proofs.Actors.{AnAgent, ActorStep, machine, part-sends}
use Rattle.abc_schedule.proofs.Goings.{past-sent}
use Rattle.abc_schedule.proofs.Places.{swap-at, swap-others, swap-map, swap-left, swap-right}
use Rattle.abc_schedule.proofs.OnLinks.{taken-links, taken-length, taken-here, sent-length, all-links}
use Rattle.abc_schedule.proofs.Views.{as_agent, as_node, nobody, everyone, view}
use Rattle.abc_schedule.proofs.Views.{agent-swaps, node-swaps, Sized}

-- A draw is within the limit.
draw-within : (limit : ℕ) (drawn drawn' : List ℕ) (g : Option Grant) → Draws limit drawn g drawn' →
    IsWithin limit g
draw-within limit drawn drawn' None h = tt
draw-within limit drawn drawn' (Some Closed) h = tt
draw-within limit drawn drawn' (Some (Number n)) h = (h.0, h.1)

-- The entries of events, with their actors.
abbrev pub entry_of : {L : Type 0} → ℕ → Event L → ℕ × Entry L
entry_of agents (AgentDid i e) = (i, e)
entry_of agents (NodeDid k e) = (agents + k, e)

-- The same of a run.
abbrev pub entries_of : {L : Type 0} → ℕ → List (Event L) → List (ℕ × Entry L)
entries_of agents [] = []
entries_of agents (e ∷ es) = entry_of agents e ∷ entries_of agents es

module _ {B L N : Type 0} (m : Meaning B L) (r : Rules L N) (own : OwnLinks r) (layout : IsLayout r.plan) where
  -- The links after an event, as the law has them.
  links-come : (w w' : Net B L N) (a : ℕ) (e : Entry L) (here : ℕ → Type 0) (sends : List (ℕ × Packet L))
      (left : List (List (Stamped L))) → Sized r w → FirstTaken here e.deed w.links left →
      w'.links ≡ sent e.clock sends left → Each (λ x. StartsAt r.plan a x.0) sends → (l : ℕ) →
      get_or w'.links l [] ≡ get_or left l [] ++ sent_on l (stamped_with e.clock sends)
  links-come w w' a e here sends left sized first is h l =
      let long = taken-length here e.deed w.links left first in
      let many = sized.links in
      ap (λ v. get_or v l []) is
      ∙ all-links e.clock sends left (λ k past. past-sent m r own layout a k e.clock sends (omega arith) h) l

  -- An event of an agent,
  pub agent-comes : (w w' : Net B L N) (i : ℕ) (e : Entry L) → AgentStep m r w i e w' → Sized r w →
      WebStep (machine m r) (view w) (i, e) (view w')
  agent-comes w w' i e s sized =
      let old = swap-old i s.old s.new w.agents w'.agents s.at in
      let many = sized.agents in
      let low : i < r.plan.agents = (let g = get-within w.agents i s.old old in omega arith) in
      let swaps = agent-swaps w w' i s.old s.new s.at s.rest in
      let at = swap-at nobody i (as_agent s.old) (as_agent s.new) (everyone w) (everyone w') swaps in
      let takes = each-map (λ (x : ℕ × Stamped L). EndsAtAgent r.plan i x.0)
      (λ (x : ℕ × Stamped L). EndsAt r.plan i x.0) (λ x h. h.1) (taken_by e.deed)
      (taken-here (EndsAtAgent r.plan i) e.deed w.links s.left s.first) in
      let step : ActorStep m r i (as_agent s.old) e (stamped_with e.clock s.sends) (as_agent s.new) = record {
        packets = s.sends;
        out = refl;
        does = (low, s.row);
        logs = s.logs;
        fit = (takes, draw-within r.limit w.drawn w'.drawn (drawn_in e.deed) s.draws);
      } in
      let sends = part-sends m r own i (AnAgent s.old.state) e.deed s.sends (AnAgent s.new.state) (low, s.row) in
      record {
        sends = stamped_with e.clock s.sends;
        step = subst (λ v. ActorStep m r i v e (stamped_with e.clock s.sends) (get_or (everyone w') i nobody))
            (sym at.0)
            (subst (λ v. ActorStep m r i (as_agent s.old) e (stamped_with e.clock s.sends) v) (sym at.1) step);
        others = λ b ne. swap-others nobody i (as_agent s.old) (as_agent s.new) (everyone w) (everyone w') swaps b ne;
        links = λ l. (
          get_or s.left l [],
          taken-links (EndsAtAgent r.plan i) e.deed w.links s.left s.first l,
          links-come w w' i e (EndsAtAgent r.plan i) s.sends s.left sized s.first s.links sends l,
        );
      }

  -- and of a node.
  pub node-comes : (w w' : Net B L N) (k : ℕ) (e : Entry L) → NodeStep m r w k e w' → Sized r w →
      WebStep (machine m r) (view w) (actor_of r.plan k, e) (view w')
  node-comes w w' k e s sized =
      let a = actor_of r.plan k in
      let old = swap-old k s.old s.new w.nodes w'.nodes s.at in
      let many = sized.nodes in
      let low : k < r.plan.nodes = (let g = get-within w.nodes k s.old old in omega arith) in
      let swaps = node-swaps w w' r.plan.agents k s.old s.new sized.agents s.at s.rest in
      let at = swap-at nobody a (as_node s.old) (as_node s.new) (everyone w) (everyone w') swaps in
      let step : ActorStep m r a (as_node s.old) e (stamped_with e.clock s.sends) (as_node s.new) = record {
        packets = s.sends;
        out = refl;
        does = (k, refl, low, s.row);
        logs = s.logs;
        fit = (
          taken-here (EndsAtNode r.plan k) e.deed w.links s.left s.first,
          draw-within r.limit w.drawn w'.drawn (drawn_in e.deed) s.draws,
        );
      } in
      let sends = own.nodes k s.old.state e.deed s.sends s.new.state low s.row in
      record {
        sends = stamped_with e.clock s.sends;
        step = subst (λ v. ActorStep m r a v e (stamped_with e.clock s.sends) (get_or (everyone w') a nobody))
            (sym at.0)
            (subst (λ v. ActorStep m r a (as_node s.old) e (stamped_with e.clock s.sends) v) (sym at.1) step);
        others = λ b ne. swap-others nobody a (as_node s.old) (as_node s.new) (everyone w) (everyone w') swaps b ne;
        links = λ l. (
          get_or s.left l [],
          taken-links (EndsAtNode r.plan k) e.deed w.links s.left s.first l,
          links-come w w' a e (EndsAtNode r.plan k) s.sends s.left sized s.first s.links sends l,
        );
      }

  -- Events keep the counts.
  agent-sized : (w w' : Net B L N) (i : ℕ) (e : Entry L) → AgentStep m r w i e w' → Sized r w → Sized r w'
  agent-sized w w' i e s sized = record {
    agents = swap-length i s.old s.new w.agents w'.agents s.at ∙ sized.agents;
    nodes = ap (λ v. length v) s.rest ∙ sized.nodes;
    links = ap (λ v. length v) s.links ∙ (sent-length e.clock s.sends s.left
        ∙ (taken-length (EndsAtAgent r.plan i) e.deed w.links s.left s.first ∙ sized.links));
  }

  -- So do those of nodes.
  node-sized : (w w' : Net B L N) (k : ℕ) (e : Entry L) → NodeStep m r w k e w' → Sized r w → Sized r w'
  node-sized w w' k e s sized = record {
    agents = ap (λ v. length v) s.rest ∙ sized.agents;
    nodes = swap-length k s.old s.new w.nodes w'.nodes s.at ∙ sized.nodes;
    links = ap (λ v. length v) s.links ∙ (sent-length e.clock s.sends s.left
        ∙ (taken-length (EndsAtNode r.plan k) e.deed w.links s.left s.first ∙ sized.links));
  }

  -- A run of the network, as one by the law.
  pub comes-on : (es : List (Event L)) (w w' : Net B L N) → Netrun m r w es w' → Sized r w →
      WebRun (machine m r) (view w) (entries_of r.plan.agents es) (view w') × Sized r w'
  comes-on [] w w' run sized = (ap view run, subst (λ (v : Net B L N). Sized r v) (sym run) sized)
  comes-on (AgentDid i e ∷ es) w w' run sized =
      let more = comes-on es run.0 w' run.2 (agent-sized w run.0 i e run.1 sized) in
      ((view run.0, agent-comes w run.0 i e run.1 sized, more.0), more.1)
  comes-on (NodeDid k e ∷ es) w w' run sized =
      let more = comes-on es run.0 w' run.2 (node-sized w run.0 k e run.1 sized) in
      ((view run.0, node-comes w run.0 k e run.1 sized, more.0), more.1)

-- One entry more, and its draws.
entry-more : {S L : Type 0} (k : ℕ) (old new : Actor S L) (e : Entry L) → new.log ≡ old.log ++ e ∷ [] →
    total (draws_by k) (log_in new) ≡ total (draws_by k) (log_in old) + draws_by k e
entry-more k old new e is =
    let t = ap (λ v. total (draws_by k) v) is in
    let u = total-append (draws_by k) old.log (e ∷ []) in omega arith

-- What is known of the numbers drawn: the logs have them, and none twice.
pub record Drawn {B L N : Type 0} (w : Net B L N) : Type 0 where
  pub logged : (k : ℕ) → times k w.drawn ≡ times_drawn k (logs_of w)
  pub once : (k : ℕ) → times k w.drawn ≤ 1

-- It stands after a draw.
drawn-more : {B L N : Type 0} (w w' : Net B L N) (limit : ℕ) (e : Entry L) →
    Draws limit w.drawn (drawn_in e.deed) w'.drawn →
    ((k : ℕ) → times_drawn k (logs_of w') ≡ times_drawn k (logs_of w) + draws_by k e) →
    Drawn w → Drawn w'
drawn-more w w' limit e draws logs d = record {
  logged = λ k. let t = draws-times k limit w.drawn w'.drawn (drawn_in e.deed) draws in let u = logs k in
      let was = d.logged k in omega arith;
  once = λ k. let t = draws-times k limit w.drawn w'.drawn (drawn_in e.deed) draws in let was = d.once k in
      elim (draws-fresh k limit w.drawn w'.drawn (drawn_in e.deed) draws) [
        | inl none ↦ omega arith
        | inr one ↦ let a = one.0 in let b = one.1 in omega arith
      ];
}

module _ {B L N : Type 0} (m : Meaning B L) (r : Rules L N) where
  -- After an event of an agent,
  drawn-agent : (w w' : Net B L N) (i : ℕ) (e : Entry L) → AgentStep m r w i e w' → Drawn w → Drawn w'
  drawn-agent w w' i e s d =
      drawn-more w w' r.limit e s.draws
      (λ k.
      let swaps = swap-left i s.old.log s.new.log (map log_in w.agents) (map log_in w'.agents) (map log_in w.nodes)
      (swap-map log_in i s.old s.new w.agents w'.agents s.at) in
      let all = swap-total (total (draws_by k)) i s.old.log s.new.log (logs_of w)
      (map log_in w'.agents ++ map log_in w.nodes) swaps in
      let rest = ap (λ v. total (total (draws_by k)) (map log_in w'.agents ++ map log_in v)) s.rest in
      let one = entry-more k s.old s.new e s.logs.2 in omega arith)
      d

  -- and of a node.
  drawn-node : (w w' : Net B L N) (j : ℕ) (e : Entry L) → NodeStep m r w j e w' → Drawn w → Drawn w'
  drawn-node w w' j e s d =
      drawn-more w w' r.limit e s.draws
      (λ k.
      let zs = map log_in w.agents in
      let swaps = swap-right j s.old.log s.new.log (map log_in w.nodes) (map log_in w'.nodes) zs
      (swap-map log_in j s.old s.new w.nodes w'.nodes s.at) in
      let all = swap-total (total (draws_by k)) (length zs + j) s.old.log s.new.log (logs_of w)
      (zs ++ map log_in w'.nodes) swaps in
      let rest = ap (λ v. total (total (draws_by k)) (map log_in v ++ map log_in w'.nodes)) s.rest in
      let one = entry-more k s.old s.new e s.logs.2 in omega arith)
      d

  -- It stands after every run.
  pub drawn-run : (es : List (Event L)) (w w' : Net B L N) → Netrun m r w es w' → Drawn w → Drawn w'
  drawn-run [] w w' run d = subst (λ (v : Net B L N). Drawn v) (sym run) d
  drawn-run (AgentDid i e ∷ es) w w' run d =
      drawn-run es run.0 w' run.2 (drawn-agent w run.0 i e run.1 d)
  drawn-run (NodeDid k e ∷ es) w w' run d =
      drawn-run es run.0 w' run.2 (drawn-node w run.0 k e run.1 d)
