-- Answers that no number is left: under way and with agents there are at most as many as draws that were answered so.
use Rattle.std.proofs.Common.{◌≡◌, ℕ, zero, suc, ◌+◌, ◌≤◌, List, [], ◌∷◌, ◌++◌, length, map, replicate, refl, sym, ap}
use Rattle.std.proofs.Common.{subst, arith}
use Rattle.std.specs.Prelude.{Some}
use Rattle.abc_value.specs.declared.grant.Grant.TheVariants.{Number, Closed}
use Rattle.abc_packet.specs.declared.packets.Packet.{Packet}
use Rattle.abc_packet.specs.declared.packets.Packet.TheVariants.{Request, Reply, Message}
use Rattle.abc_packet.specs.declared.stamped.Stamped.{Stamped}
use Rattle.abc_packet.specs.declared.log.Deed.{Deed}
use Rattle.abc_packet.specs.declared.log.Deed.TheVariants.{Arrived, Asked, Passed, Stray, Took, Turned}
use Rattle.abc_packet.specs.declared.log.Entry.{Entry}
use Rattle.abc_body.specs.Meanings.{Meaning}
use Rattle.abc_shape.specs.Plans.{link_count}
use Rattle.abc_network.specs.Agents.{AgentDoes, AgentState, AgentTakes, Asking, Granted, Idle, Shut, Waiting}
use Rattle.abc_network.specs.Nodes.{NodeMachine}
use Rattle.abc_network.specs.Networks.{Actor, AgentDid, AgentStep, EndsAtAgent, EndsAtNode, Event, Net, Netrun, NodeDid}
use Rattle.abc_network.specs.Networks.{NodeStep, Rules, drawn_in, sent, start_of, starting}
use Rattle.abc_network_laws.specs.Counts.{taken_packets}
use Rattle.abc_network_laws.specs.Kept.{total}
use Rattle.abc_network_laws.proofs.Lists.{swap-total, total-append, total-sent}
use Rattle.abc_network_laws.proofs.Steps.{taken-total}
use Rattle.abc_schedule.specs.Legal.{closes, closings, times_closed}
use Rattle.abc_schedule.specs.Schedules.{log_in, logs_of}
use Rattle.abc_schedule.proofs.Places.{swap-left, swap-map, swap-right}

-- 1 where the packet is a reply that no number is left.
abbrev pub brings_closed : {L : Type 0} → Packet L → ℕ
brings_closed (Request agent) = 0
brings_closed (Reply agent grant) = closings (Some grant)
brings_closed (Message n sender content) = 0

-- 1 where the agent got such a reply.
abbrev pub has_closed : Asking → ℕ
has_closed Idle = 0
has_closed Waiting = 0
has_closed (Granted n) = 0
has_closed Shut = 1

abbrev pub brings_on_link : {L : Type 0} → Stamped L → ℕ
brings_on_link x = brings_closed x.packet

abbrev pub agent_has_closed : {B L : Type 0} → Actor (AgentState B L) L → ℕ
agent_has_closed a = has_closed a.state.asking

abbrev pub sends_closed : {L : Type 0} → ℕ × Packet L → ℕ
sends_closed x = brings_closed x.1

-- How many of these replies are under way, and how many agents got one.
abbrev pub closed_in : {B L N : Type 0} → Net B L N → ℕ
closed_in w = total (total brings_on_link) w.links + total agent_has_closed w.agents

-- What a shape owes: its nodes send at most the replies of this kind that they took, and one where a draw was
-- answered with Closed.
abbrev pub ClosesByDraws : {L N : Type 0} → NodeMachine L N → Type 0
ClosesByDraws {L} {N} node =
    (k : ℕ) (s : N) (d : Deed L) (sends : List (ℕ × Packet L)) (s' : N) → node.does k s d sends s' →
    total sends_closed sends ≤ total brings_closed (taken_packets d) + closings (drawn_in d)

module _ {B L : Type 0} (m : Meaning B L) (pick : ℕ) (way : ℕ → ℕ) (i : ℕ) where
  -- An agent is shut by such a reply alone,
  takes-shut : (s s' : AgentState B L) (p : Packet L) → AgentTakes i s p s' →
      has_closed s'.asking ≤ brings_closed p + has_closed s.asking
  takes-shut s s' (Request agent) h = absurd h
  takes-shut s s' (Reply agent (Number n)) h = let e = ap (λ v. has_closed v.asking) h.2.2 in omega arith
  takes-shut s s' (Reply agent Closed) h = let e = ap (λ v. has_closed v.asking) h.2 in omega arith
  takes-shut s s' (Message n sender content) h = let e = ap (λ v. has_closed v.asking) h.after in omega arith

  -- and sends none.
  agent-shut : (s s' : AgentState B L) (d : Deed L) (sends : List (ℕ × Packet L)) →
      AgentDoes m pick way i s d sends s' →
      total sends_closed sends + has_closed s'.asking ≤ total brings_closed (taken_packets d) + has_closed s.asking
  agent-shut s s' Asked sends h =
      let a : total sends_closed sends ≡ 0 = ap (total sends_closed) h.sends in
      let b = ap (λ v. has_closed v.asking) h.after in omega arith
  agent-shut s s' (Arrived l x drew) sends h =
      let a : total sends_closed sends ≡ 0 = ap (total sends_closed) h.1 in
      let b = takes-shut s s' x.packet h.2 in omega arith
  agent-shut s s' (Stray l x) sends h =
      let a : total sends_closed sends ≡ 0 = ap (total sends_closed) h.1 in
      let b = ap (λ v. has_closed v.asking) h.2 in omega arith
  agent-shut s s' (Took n place) sends h =
      let a : total sends_closed sends ≡ 0 = ap (total sends_closed) h.sends in
      let b = ap (λ v. has_closed v.asking) h.after in omega arith
  agent-shut s s' (Turned n place content) sends h =
      let a : total sends_closed sends ≡ 0 = ap (total sends_closed) h.sends in
      let b = ap (λ v. has_closed v.asking) h.after in omega arith
  agent-shut s s' (Passed n) sends h = absurd h

-- One entry more in a log.
entry-closes : {S L : Type 0} (old new : Actor S L) (e : Entry L) → new.log ≡ old.log ++ e ∷ [] →
    total closes (log_in new) ≡ total closes (log_in old) + closes e
entry-closes old new e is =
    let t = ap (λ v. total closes v) is in let u = total-append closes old.log (e ∷ []) in omega arith

-- No such reply is on links that are empty.
none-brought : (L : Type 0) (n : ℕ) → total (total (brings_on_link {L = L})) (replicate n []) ≡ 0
none-brought L zero = refl
none-brought L (suc n) = let g = none-brought L n in omega arith

-- No agent got one at the start.
none-shut : {B : Type 0} (L : Type 0) (bodies : List B) → total (agent_has_closed {L = L}) (map starting bodies) ≡ 0
none-shut L [] = refl
none-shut L (b ∷ bs) = let g = none-shut L bs in omega arith

module _ {B L N : Type 0} (m : Meaning B L) (r : Rules L N) where
  -- A step of an agent logs its entry beside all others,
  logged-agent : (w w' : Net B L N) (i : ℕ) (e : Entry L) → AgentStep m r w i e w' →
      times_closed (logs_of w') ≡ times_closed (logs_of w) + closes e
  logged-agent w w' i e s =
      let swaps = swap-left i s.old.log s.new.log (map log_in w.agents) (map log_in w'.agents) (map log_in w.nodes)
      (swap-map log_in i s.old s.new w.agents w'.agents s.at) in
      let all = swap-total (total closes) i s.old.log s.new.log (logs_of w)
      (map log_in w'.agents ++ map log_in w.nodes) swaps in
      let rest = ap (λ v. total (total closes) (map log_in w'.agents ++ map log_in v)) s.rest in
      let one = entry-closes s.old s.new e s.logs.2 in omega arith

  -- and so does one of a node.
  logged-node : (w w' : Net B L N) (k : ℕ) (e : Entry L) → NodeStep m r w k e w' →
      times_closed (logs_of w') ≡ times_closed (logs_of w) + closes e
  logged-node w w' k e s =
      let zs = map log_in w.agents in
      let swaps = swap-right k s.old.log s.new.log (map log_in w.nodes) (map log_in w'.nodes) zs
      (swap-map log_in k s.old s.new w.nodes w'.nodes s.at) in
      let all = swap-total (total closes) (length zs + k) s.old.log s.new.log (logs_of w)
      (zs ++ map log_in w'.nodes) swaps in
      let rest = ap (λ v. total (total closes) (map log_in v ++ map log_in w'.nodes)) s.rest in
      let one = entry-closes s.old s.new e s.logs.2 in omega arith

  -- A step of an agent brings no such reply.
  closed-agent : (w w' : Net B L N) (i : ℕ) (e : Entry L) → AgentStep m r w i e w' → closed_in w' ≤ closed_in w
  closed-agent w w' i e s =
      let a = agent-shut m r.pick (r.way i) i s.old.state s.new.state e.deed s.sends s.row in
      let b = swap-total agent_has_closed i s.old s.new w.agents w'.agents s.at in
      let c = taken-total brings_closed (EndsAtAgent r.plan i) e.deed w.links s.left s.first in
      let d = total-sent brings_closed e.clock s.sends s.left in
      let f : total (total brings_on_link) w'.links ≡ total (total brings_on_link) (sent e.clock s.sends s.left) =
      ap (total (total brings_on_link)) s.links in
      omega arith

  module _ (draws : ClosesByDraws r.node) where
    -- One of a node brings at most the one that it drew.
    closed-node : (w w' : Net B L N) (k : ℕ) (e : Entry L) → NodeStep m r w k e w' →
        closed_in w' ≤ closed_in w + closes e
    closed-node w w' k e s =
        let a = draws k s.old.state e.deed s.sends s.new.state s.row in
        let b : total agent_has_closed w'.agents ≡ total agent_has_closed w.agents = ap (total agent_has_closed) s.rest in
        let c = taken-total brings_closed (EndsAtNode r.plan k) e.deed w.links s.left s.first in
        let d = total-sent brings_closed e.clock s.sends s.left in
        let f : total (total brings_on_link) w'.links ≡ total (total brings_on_link) (sent e.clock s.sends s.left) =
        ap (total (total brings_on_link)) s.links in
        omega arith

    -- So through every run they stay within the draws that the logs have.
    closed-run : (es : List (Event L)) (w w' : Net B L N) → Netrun m r w es w' →
        closed_in w ≤ times_closed (logs_of w) → closed_in w' ≤ times_closed (logs_of w')
    closed-run [] w w' run h = subst (λ (v : Net B L N). closed_in v ≤ times_closed (logs_of v)) (sym run) h
    closed-run (AgentDid i e ∷ es) w w' run h =
        let a = closed-agent w run.0 i e run.1 in
        let b = logged-agent w run.0 i e run.1 in
        closed-run es run.0 w' run.2 (omega arith)
    closed-run (NodeDid k e ∷ es) w w' run h =
        let a = closed-node w run.0 k e run.1 in
        let b = logged-node w run.0 k e run.1 in
        closed-run es run.0 w' run.2 (omega arith)

    -- So it is in each run from the start.
    pub closed-within : (bodies : List B) (es : List (Event L)) (w : Net B L N) → Netrun m r (start_of r bodies) es w →
        closed_in w ≤ times_closed (logs_of w)
    closed-within bodies es w run =
        let a = none-brought L (link_count r.plan) in
        let b = none-shut L bodies in
        closed-run es (start_of r bodies) w run (omega arith)
