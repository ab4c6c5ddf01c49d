-- The worked run, and the three that are no events.
use Rattle.std.proofs.Common.{◌≡◌, ℕ, List, [], ◌∷◌, refl}
use Rattle.std.proofs.Common.{sym, ap, arith, inl, inr, lit<, lit≤}
use Rattle.std.specs.Prelude.{Some, None, ◌==◌, true, false}
use Rattle.std.proofs.lemmas.Bool.{eq-eqb, ne_eqb, cases_eq}
use Rattle.abc_value.specs.declared.grant.Grant.TheVariants.{Number}
use Rattle.abc_packet.specs.declared.packets.Content.{Content}
use Rattle.abc_packet.specs.declared.packets.Content.TheVariants.{Said}
use Rattle.abc_packet.specs.declared.packets.Packet.TheVariants.{Request, Reply, Message}
use Rattle.abc_packet.specs.declared.log.Deed.TheVariants.{Arrived, Took}
use Rattle.abc_shape.specs.Plans.{cluster_up, cluster_down}
use Rattle.abc_body.specs.Tallies.{tally}
use Rattle.abc_network.specs.Stored.{Gains, Loses}
use Rattle.abc_network.specs.Agents.{AgentState, Idle, Waiting, Granted}
use Rattle.abc_network.specs.Networks.{Net, Actor, Swaps, AgentStep, NodeStep, Netrun, AgentDid}
use Rattle.abc_network.specs.Networks.{NodeDid}
use Rattle.abc_network.specs.Worked.{two_and_one, did, sent_at, agent, node, asks_first, draws_one}
use Rattle.abc_network.specs.Worked.{has_one, says_nought, sends_on, stores_it, takes_it}
use Rattle.abc_network.specs.Worked.{seven_events, at_first, after_asking, at_last, IsNone}

-- The first item of a map, and what is left without it.
first-item : (c : Content ℕ) → Gains [] 1 c ((1, c) ∷ [])
first-item c = record {
  items = λ n. elim (cases_eq n 1) [
    | inl e ↦ (let a : (n == 1) ≡ true = eq-eqb n 1 e in
        let b : (1 == n) ≡ true = eq-eqb 1 n (sym e) in rw (a, b) refl)
    | inr e ↦ (let a : (n == 1) ≡ false = ne_eqb n 1 e in
        let b : (1 == n) ≡ false = ne_eqb 1 n (λ s. e (sym s)) in rw (a, b) refl)
  ];
  count = refl;
}

no-item : (c : Content ℕ) → Loses ((1, c) ∷ []) 1 []
no-item c = record {
  items = λ n. elim (cases_eq n 1) [
    | inl e ↦ (let a : (n == 1) ≡ true = eq-eqb n 1 e in rw a refl)
    | inr e ↦ (let a : (n == 1) ≡ false = ne_eqb n 1 e in
        let b : (1 == n) ≡ false = ne_eqb 1 n (λ s. e (sym s)) in rw (a, b) refl)
  ];
  count = refl;
}

-- The network after two events.
abbrev w2 : Net ℕ ℕ (Unit {0})
w2 = record {
  agents = agent 0 0 Waiting [] 1 1 (asks_first ∷ []) ∷ agent 4 0 Idle [] 0 0 [] ∷ [];
  nodes = node 2 (draws_one ∷ []) ∷ [];
  links = [] ∷ (sent_at 2 (Reply 0 (Number 1)) ∷ []) ∷ [] ∷ [] ∷ [];
  drawn = 1 ∷ [];
}

-- The network after three events.
abbrev w3 : Net ℕ ℕ (Unit {0})
w3 = record {
  agents = agent 0 0 (Granted 1) [] 1 3
      (asks_first ∷ has_one ∷ []) ∷ agent 4 0 Idle [] 0 0 [] ∷ [];
  nodes = node 2 (draws_one ∷ []) ∷ [];
  links = [] ∷ [] ∷ [] ∷ [] ∷ [];
  drawn = 1 ∷ [];
}

-- The network after four events.
abbrev w4 : Net ℕ ℕ (Unit {0})
w4 = record {
  agents = agent 1 1 Idle [] 2 4
      (asks_first ∷ has_one ∷ says_nought ∷ []) ∷ agent 4 0 Idle [] 0 0 [] ∷ [];
  nodes = node 2 (draws_one ∷ []) ∷ [];
  links = (sent_at 4 (Message 1 0 (Said 0)) ∷ []) ∷ [] ∷ [] ∷ [] ∷ [];
  drawn = 1 ∷ [];
}

-- The network after five events.
abbrev w5 : Net ℕ ℕ (Unit {0})
w5 = record {
  agents = agent 1 1 Idle [] 2 4
      (asks_first ∷ has_one ∷ says_nought ∷ []) ∷ agent 4 0 Idle [] 0 0 [] ∷ [];
  nodes = node 5 (draws_one ∷ sends_on ∷ []) ∷ [];
  links = [] ∷ [] ∷ [] ∷ (sent_at 5 (Message 1 0 (Said 0)) ∷ []) ∷ [];
  drawn = 1 ∷ [];
}

-- The network after six events.
abbrev w6 : Net ℕ ℕ (Unit {0})
w6 = record {
  agents = agent 1 1 Idle [] 2 4
      (asks_first ∷ has_one ∷ says_nought ∷ []) ∷ agent 4 0 Idle ((1, Said 0) ∷ []) 0 6
      (stores_it ∷ []) ∷ [];
  nodes = node 5 (draws_one ∷ sends_on ∷ []) ∷ [];
  links = [] ∷ [] ∷ [] ∷ [] ∷ [];
  drawn = 1 ∷ [];
}

step1 : AgentStep tally two_and_one at_first 0 asks_first after_asking
step1 = record {
  old = agent 0 0 Idle [] 0 0 [];
  new = agent 0 0 Waiting [] 1 1 (asks_first ∷ []);
  sends = (0, Request 0) ∷ [];
  left = [] ∷ [] ∷ [] ∷ [] ∷ [];
  row = record {
    idle = refl;
    can = (0, 0, 1, (lit< tt, lit< tt, refl, refl));
    sends = refl;
    after = refl;
  };
  logs = (refl, refl, refl);
  at = (refl, refl, refl);
  first = refl;
  links = refl;
  draws = refl;
  rest = refl;
}

step2 : NodeStep tally two_and_one after_asking 0 draws_one w2
step2 = record {
  old = node 0 [];
  new = node 2 (draws_one ∷ []);
  sends = (1, Reply 0 (Number 1)) ∷ [];
  left = [] ∷ [] ∷ [] ∷ [] ∷ [];
  row = (lit< tt, refl, refl);
  logs = (refl, refl, refl);
  at = (refl, refl, refl);
  first = ([], (0, cluster_up 0 0 refl (lit< tt) (lit< tt) refl refl refl), (refl, refl, refl));
  links = refl;
  draws = (lit< tt, lit≤ tt, refl, refl);
  rest = refl;
}

step3 : AgentStep tally two_and_one w2 0 has_one w3
step3 = record {
  old = agent 0 0 Waiting [] 1 1 (asks_first ∷ []);
  new = agent 0 0 (Granted 1) [] 1 3 (asks_first ∷ has_one ∷ []);
  sends = [];
  left = [] ∷ [] ∷ [] ∷ [] ∷ [];
  row = (refl, refl, (refl, refl, (lit< tt, refl, refl)));
  logs = (refl, refl, refl);
  at = (refl, refl, refl);
  first = (
    [],
    (lit< tt, (2, cluster_down 0 0 refl (lit< tt) (lit< tt) refl refl refl)),
    (refl, (refl, refl, refl)),
  );
  links = refl;
  draws = refl;
  rest = refl;
}

step4 : AgentStep tally two_and_one w3 0 says_nought w4
step4 = record {
  old = agent 0 0 (Granted 1) [] 1 3 (asks_first ∷ has_one ∷ []);
  new = agent 1 1 Idle [] 2 4 (asks_first ∷ has_one ∷ says_nought ∷ []);
  sends = (0, Message 1 0 (Said 0)) ∷ [];
  left = [] ∷ [] ∷ [] ∷ [] ∷ [];
  row = record {
    next = refl;
    granted = refl;
    speaks = (lit< tt, lit< tt, refl, refl);
    picks = refl;
    sends = refl;
    after = refl;
  };
  logs = (refl, refl, refl);
  at = (refl, refl, refl);
  first = refl;
  links = refl;
  draws = refl;
  rest = refl;
}

step5 : NodeStep tally two_and_one w4 0 sends_on w5
step5 = record {
  old = node 2 (draws_one ∷ []);
  new = node 5 (draws_one ∷ sends_on ∷ []);
  sends = (3, Message 1 0 (Said 0)) ∷ [];
  left = [] ∷ [] ∷ [] ∷ [] ∷ [];
  row = (lit< tt, refl, refl);
  logs = (refl, refl, refl);
  at = (refl, refl, refl);
  first = ([], (0, cluster_up 0 0 refl (lit< tt) (lit< tt) refl refl refl), (refl, refl, refl));
  links = refl;
  draws = refl;
  rest = refl;
}

step6 : AgentStep tally two_and_one w5 1 stores_it w6
step6 = record {
  old = agent 4 0 Idle [] 0 0 [];
  new = agent 4 0 Idle ((1, Said 0) ∷ []) 0 6 (stores_it ∷ []);
  sends = [];
  left = [] ∷ [] ∷ [] ∷ [] ∷ [];
  row = (
    refl,
    refl,
    record {
      above = lit< tt;
      free = refl;
      not_own = (λ e. cc);
      gains = first-item (Said 0);
      after = refl;
    },
  );
  logs = (refl, refl, refl);
  at = (refl, (refl, refl, refl));
  first = (
    [],
    (lit< tt, (2, cluster_down 1 0 refl (lit< tt) (lit< tt) refl refl refl)),
    (refl, (refl, (refl, (refl, refl, refl)))),
  );
  links = refl;
  draws = refl;
  rest = refl;
}

step7 : AgentStep tally two_and_one w6 1 takes_it at_last
step7 = record {
  old = agent 4 0 Idle ((1, Said 0) ∷ []) 0 6 (stores_it ∷ []);
  new = agent 5 1 Idle [] 0 7 (stores_it ∷ takes_it ∷ []);
  sends = [];
  left = [] ∷ [] ∷ [] ∷ [] ∷ [];
  row = record {
    content = Said 0;
    next = refl;
    waits = refl;
    hears = (lit< tt, lit< tt, refl);
    picks = refl;
    sends = refl;
    loses = no-item (Said 0);
    after = refl;
  };
  logs = (refl, refl, refl);
  at = (refl, (refl, refl, refl));
  first = refl;
  links = refl;
  draws = refl;
  rest = refl;
}

pub worked-run : Netrun tally two_and_one at_first seven_events at_last
worked-run = (
  after_asking,
  step1,
  (w2, step2, (w3, step3, (w4, step4, (w5, step5, (w6, step6, (at_last, step7, refl)))))),
)

-- What is first in a list that changes there.
first-was : {X : Type 0} (x y a : X) (rest ys : List X) → Swaps 0 x y (a ∷ rest) ys → a ≡ x
first-was x y a rest [] s = absurd s
first-was x y a rest (b ∷ bs) s = s.0

pub in-order : IsNone at_first (AgentDid 0 (did 1 (Took 2 None)))
in-order w s =
    let e = ap (λ (v : Actor (AgentState ℕ ℕ) ℕ). v.state.front)
    (first-was s.old s.new (agent 0 0 Idle [] 0 0 [])
    (agent 4 0 Idle [] 0 0 [] ∷ []) w.agents s.at) in
    let n = s.row.next in absurd (omega arith)

pub limited : IsNone after_asking (NodeDid 0
    (did 2 (Arrived 0 (sent_at 1 (Request 0)) (Some (Number 2)))))
limited w s = let d = s.draws.1 in absurd (omega arith)

pub sent-before : IsNone at_first (NodeDid 0
    (did 2 (Arrived 0 (sent_at 1 (Request 0)) (Some (Number 1)))))
sent-before w s =
    let e = first-was (sent_at 1 (Request 0) ∷ s.first.0) s.first.0 []
    ([] ∷ [] ∷ [] ∷ []) s.left s.first.2 in absurd (cc)
