-- The steps of the run with a late output.
use Rattle.std.proofs.Common.{[], ◌∷◌, refl, inl, inr, lit<, lit≤}
use Rattle.std.specs.Prelude.{Some, replicate}
use Rattle.abc_value.specs.declared.grant.Grant.TheVariants.{Number}
use Rattle.abc_packet.specs.declared.packets.Content.TheVariants.{Said, Empty}
use Rattle.abc_packet.specs.declared.packets.Packet.TheVariants.{Request, Reply, Message}
use Rattle.abc_shape.specs.Plans.{cluster_up, cluster_down}
use Rattle.abc_body.specs.Meanings.{CanSpeak}
use Rattle.abc_live_body.specs.AbcMeaning.{abc, AbcSpeaks, AbcHears}
use Rattle.abc_network.specs.Agents.{Idle, Waiting, Granted}
use Rattle.abc_network.specs.Networks.{AgentStep, NodeStep}
use Rattle.abc_network_laws.proofs.Maps.{gains-front}
use Rattle.abc_network_runs.specs.Writing.{sent_at, agent, node}
use Rattle.abc_network_runs.specs.LateOutput.{wanting, ann_after, bob_after, said_take, ann_asks}
use Rattle.abc_network_runs.specs.LateOutput.{bob_asks, draws_one, draws_two, ann_has_one, ann_speaks}
use Rattle.abc_network_runs.specs.LateOutput.{bob_has_two, sends_one, bob_stores, bob_hears}
use Rattle.abc_network_runs.specs.LateOutput.{bob_is_silent, sends_two, ann_stores, ann_takes, rules}
use Rattle.abc_network_runs.specs.LateOutput.{at_first, anns_turn, bobs_turn, at_last}
use Rattle.abc_network_runs.proofs.TurnSteps.{swaps-at}
use Rattle.abc_network_runs.proofs.Concrete.{loses-front}
use Rattle.abc_network_runs.proofs.LateStates.{w1, w2, w3, w4, w6, w7, w8, w9, w11, w12, w13}

-- Who is idle says "take" at place 0,
pub wanting-says : AbcSpeaks wanting 0 said_take ann_after
wanting-says = ((inl (refl, (refl, refl, refl, refl)), refl), refl)

-- and hears it there.
pub wanting-hears : AbcHears wanting said_take (Some 0) bob_after
wanting-hears = ((inr (0, refl, (refl, refl, refl, refl)), refl), refl)

-- Who heard has nothing to say any more.
pub bob-silent : CanSpeak abc bob_after → ⊥
bob-silent can = absurd can.3.0.0

-- Ann asks.
pub step1 : AgentStep abc rules at_first 0 ann_asks w1
step1 = record {
  old = agent wanting 0 Idle [] 0 0 [];
  new = agent wanting 0 Waiting [] 1 1 (ann_asks ∷ []);
  sends = (0, Request 0) ∷ [];
  left = at_first.links;
  row = record {
    idle = refl;
    can = (0, said_take, ann_after, wanting-says);
    sends = refl;
    after = refl;
  };
  logs = (refl, refl, refl);
  at = (refl, refl, refl);
  first = refl;
  links = refl;
  draws = refl;
  rest = refl;
}

-- Bob asks.
pub step2 : AgentStep abc rules w1 1 bob_asks w2
step2 = record {
  old = agent wanting 0 Idle [] 0 0 [];
  new = agent wanting 0 Waiting [] 1 1 (bob_asks ∷ []);
  sends = (2, Request 1) ∷ [];
  left = w1.links;
  row = record {
    idle = refl;
    can = (0, said_take, ann_after, wanting-says);
    sends = refl;
    after = refl;
  };
  logs = (refl, refl, refl);
  at = (refl, (refl, refl, refl));
  first = refl;
  links = refl;
  draws = refl;
  rest = refl;
}

-- The node draws 1 for ann.
pub step3 : NodeStep abc rules w2 0 draws_one w3
step3 = record {
  old = node 0 [];
  new = node 2 (draws_one ∷ []);
  sends = (1, Reply 0 (Number 1)) ∷ [];
  left = [] ∷ [] ∷ (sent_at 1 (Request 1) ∷ []) ∷ [] ∷ [];
  row = (lit< tt, refl, refl);
  logs = (refl, refl, refl);
  at = (refl, refl, refl);
  first = (
    [],
    (0, cluster_up 0 0 refl (lit< tt) (lit< tt) refl refl refl),
    swaps-at 0 (sent_at 1 (Request 0) ∷ []) [] w2.links refl,
  );
  links = refl;
  draws = (lit< tt, lit≤ tt, refl, refl);
  rest = refl;
}

-- The node draws 2 for bob.
pub step4 : NodeStep abc rules w3 0 draws_two w4
step4 = record {
  old = node 2 (draws_one ∷ []);
  new = node 3 (draws_one ∷ draws_two ∷ []);
  sends = (3, Reply 1 (Number 2)) ∷ [];
  left = [] ∷ (sent_at 2 (Reply 0 (Number 1)) ∷ []) ∷ [] ∷ [] ∷ [];
  row = (lit< tt, refl, refl);
  logs = (refl, refl, refl);
  at = (refl, refl, refl);
  first = (
    [],
    (1, cluster_up 1 0 refl (lit< tt) (lit< tt) refl refl refl),
    swaps-at 2 (sent_at 1 (Request 1) ∷ []) [] w3.links refl,
  );
  links = refl;
  draws = (lit< tt, lit≤ tt, refl, refl);
  rest = refl;
}

-- Ann has number 1.
pub step5 : AgentStep abc rules w4 0 ann_has_one anns_turn
step5 = record {
  old = agent wanting 0 Waiting [] 1 1 (ann_asks ∷ []);
  new = agent wanting 0 (Granted 1) [] 1 3 (ann_asks ∷ ann_has_one ∷ []);
  sends = [];
  left = [] ∷ [] ∷ [] ∷ (sent_at 3 (Reply 1 (Number 2)) ∷ []) ∷ [];
  row = (refl, refl, (refl, refl, (lit< tt, refl, refl)));
  logs = (refl, refl, refl);
  at = (refl, refl, refl);
  first = (
    [],
    (lit< tt, (2, cluster_down 0 0 refl (lit< tt) (lit< tt) refl refl refl)),
    swaps-at 1 (sent_at 2 (Reply 0 (Number 1)) ∷ []) [] w4.links refl,
  );
  links = refl;
  draws = refl;
  rest = refl;
}

-- Ann speaks at number 1.
pub step6 : AgentStep abc rules anns_turn 0 ann_speaks w6
step6 = record {
  old = agent wanting 0 (Granted 1) [] 1 3 (ann_asks ∷ ann_has_one ∷ []);
  new = agent ann_after 1 Idle [] 2 4 (ann_asks ∷ ann_has_one ∷ ann_speaks ∷ []);
  sends = (0, Message 1 0 (Said said_take)) ∷ [];
  left = anns_turn.links;
  row = record {
    next = refl;
    granted = refl;
    speaks = wanting-says;
    picks = refl;
    sends = refl;
    after = refl;
  };
  logs = (refl, refl, refl);
  at = (refl, refl, refl);
  first = refl;
  links = refl;
  draws = refl;
  rest = refl;
}

-- Bob has number 2.
pub step7 : AgentStep abc rules w6 1 bob_has_two w7
step7 = record {
  old = agent wanting 0 Waiting [] 1 1 (bob_asks ∷ []);
  new = agent wanting 0 (Granted 2) [] 1 4 (bob_asks ∷ bob_has_two ∷ []);
  sends = [];
  left = (sent_at 4 (Message 1 0 (Said said_take)) ∷ []) ∷ [] ∷ [] ∷ [] ∷ [];
  row = (refl, refl, (refl, refl, (lit< tt, refl, refl)));
  logs = (refl, refl, refl);
  at = (refl, (refl, refl, refl));
  first = (
    [],
    (lit< tt, (2, cluster_down 1 0 refl (lit< tt) (lit< tt) refl refl refl)),
    swaps-at 3 (sent_at 3 (Reply 1 (Number 2)) ∷ []) [] w6.links refl,
  );
  links = refl;
  draws = refl;
  rest = refl;
}

-- The node sends number 1 to bob.
pub step8 : NodeStep abc rules w7 0 sends_one w8
step8 = record {
  old = node 3 (draws_one ∷ draws_two ∷ []);
  new = node 5 (draws_one ∷ draws_two ∷ sends_one ∷ []);
  sends = (3, Message 1 0 (Said said_take)) ∷ [];
  left = replicate 4 [];
  row = (lit< tt, refl, refl);
  logs = (refl, refl, refl);
  at = (refl, refl, refl);
  first = (
    [],
    (0, cluster_up 0 0 refl (lit< tt) (lit< tt) refl refl refl),
    swaps-at 0 (sent_at 4 (Message 1 0 (Said said_take)) ∷ []) [] w7.links refl,
  );
  links = refl;
  draws = refl;
  rest = refl;
}

-- Bob stores it.
pub step9 : AgentStep abc rules w8 1 bob_stores w9
step9 = record {
  old = agent wanting 0 (Granted 2) [] 1 4 (bob_asks ∷ bob_has_two ∷ []);
  new = agent wanting 0 (Granted 2) ((1, Said said_take) ∷ []) 1 6 (bob_asks ∷ bob_has_two ∷ bob_stores ∷ []);
  sends = [];
  left = replicate 4 [];
  row = (
    refl,
    refl,
    record {
      above = lit< tt;
      free = refl;
      not_own = (λ e. cc);
      gains = gains-front 1 (Said said_take) [];
      after = refl;
    },
  );
  logs = (refl, refl, refl);
  at = (refl, (refl, refl, refl));
  first = (
    [],
    (lit< tt, (2, cluster_down 1 0 refl (lit< tt) (lit< tt) refl refl refl)),
    swaps-at 3 (sent_at 5 (Message 1 0 (Said said_take)) ∷ []) [] w8.links refl,
  );
  links = refl;
  draws = refl;
  rest = refl;
}

-- Bob hears it.
pub step10 : AgentStep abc rules w9 1 bob_hears bobs_turn
step10 = record {
  old = agent wanting 0 (Granted 2) ((1, Said said_take) ∷ []) 1 6 (bob_asks ∷ bob_has_two ∷ bob_stores ∷ []);
  new = agent bob_after 1 (Granted 2) [] 1 7 (bob_asks ∷ bob_has_two ∷ bob_stores ∷ bob_hears ∷ []);
  sends = [];
  left = w9.links;
  row = record {
    content = Said said_take;
    next = refl;
    waits = refl;
    hears = wanting-hears;
    picks = refl;
    sends = refl;
    loses = loses-front 1 (Said said_take) [] refl;
    after = refl;
  };
  logs = (refl, refl, refl);
  at = (refl, (refl, refl, refl));
  first = refl;
  links = refl;
  draws = refl;
  rest = refl;
}

-- Bob says nothing at number 2.
pub step11 : AgentStep abc rules bobs_turn 1 bob_is_silent w11
step11 = record {
  old = agent bob_after 1 (Granted 2) [] 1 7 (bob_asks ∷ bob_has_two ∷ bob_stores ∷ bob_hears ∷ []);
  new = agent bob_after 2 Idle [] 2 8 (bob_asks ∷ bob_has_two ∷ bob_stores ∷ bob_hears ∷ bob_is_silent ∷ []);
  sends = (2, Message 2 1 Empty) ∷ [];
  left = bobs_turn.links;
  row = record {
    next = refl;
    granted = refl;
    speaks = (bob-silent, refl);
    picks = tt;
    sends = refl;
    after = refl;
  };
  logs = (refl, refl, refl);
  at = (refl, (refl, refl, refl));
  first = refl;
  links = refl;
  draws = refl;
  rest = refl;
}

-- The node sends number 2 to ann.
pub step12 : NodeStep abc rules w11 0 sends_two w12
step12 = record {
  old = node 5 (draws_one ∷ draws_two ∷ sends_one ∷ []);
  new = node 9 (draws_one ∷ draws_two ∷ sends_one ∷ sends_two ∷ []);
  sends = (1, Message 2 1 Empty) ∷ [];
  left = replicate 4 [];
  row = (lit< tt, refl, refl);
  logs = (refl, refl, refl);
  at = (refl, refl, refl);
  first = (
    [],
    (1, cluster_up 1 0 refl (lit< tt) (lit< tt) refl refl refl),
    swaps-at 2 (sent_at 8 (Message 2 1 Empty) ∷ []) [] w11.links refl,
  );
  links = refl;
  draws = refl;
  rest = refl;
}

-- Ann stores it.
pub step13 : AgentStep abc rules w12 0 ann_stores w13
step13 = record {
  old = agent ann_after 1 Idle [] 2 4 (ann_asks ∷ ann_has_one ∷ ann_speaks ∷ []);
  new = agent ann_after 1 Idle ((2, Empty) ∷ []) 2 10 (ann_asks ∷ ann_has_one ∷ ann_speaks ∷ ann_stores ∷ []);
  sends = [];
  left = replicate 4 [];
  row = (
    refl,
    refl,
    record {
      above = lit< tt;
      free = refl;
      not_own = (λ e. cc);
      gains = gains-front 2 Empty [];
      after = refl;
    },
  );
  logs = (refl, refl, refl);
  at = (refl, refl, refl);
  first = (
    [],
    (lit< tt, (2, cluster_down 0 0 refl (lit< tt) (lit< tt) refl refl refl)),
    swaps-at 1 (sent_at 9 (Message 2 1 Empty) ∷ []) [] w12.links refl,
  );
  links = refl;
  draws = refl;
  rest = refl;
}

-- Ann takes it.
pub step14 : AgentStep abc rules w13 0 ann_takes at_last
step14 = record {
  old = agent ann_after 1 Idle ((2, Empty) ∷ []) 2 10 (ann_asks ∷ ann_has_one ∷ ann_speaks ∷ ann_stores ∷ []);
  new = agent ann_after 2 Idle [] 2 11 (ann_asks ∷ ann_has_one ∷ ann_speaks ∷ ann_stores ∷ ann_takes ∷ []);
  sends = [];
  left = w13.links;
  row = record {
    content = Empty;
    next = refl;
    waits = refl;
    hears = refl;
    picks = tt;
    sends = refl;
    loses = loses-front 2 Empty [] refl;
    after = refl;
  };
  logs = (refl, refl, refl);
  at = (refl, refl, refl);
  first = refl;
  links = refl;
  draws = refl;
  rest = refl;
}
