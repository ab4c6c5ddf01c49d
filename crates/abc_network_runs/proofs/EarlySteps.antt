-- The steps of the run with an early number.
use Rattle.std.proofs.Common.{[], ◌∷◌, refl, lit<, lit≤}
use Rattle.std.specs.Prelude.{Some, None, replicate}
use Rattle.abc_value.specs.declared.grant.Grant.TheVariants.{Number}
use Rattle.abc_packet.specs.declared.packets.Content.TheVariants.{Said}
use Rattle.abc_packet.specs.declared.packets.Packet.TheVariants.{Request, Reply, Message}
use Rattle.abc_shape.specs.Plans.{cluster_up, cluster_down}
use Rattle.abc_live_body.specs.AbcMeaning.{abc, AbcSpeaks, AbcHears}
use Rattle.abc_network.specs.Agents.{Idle, Waiting, Granted}
use Rattle.abc_network.specs.Networks.{AgentStep, NodeStep}
use Rattle.abc_network_laws.proofs.Maps.{gains-front}
use Rattle.abc_network_runs.specs.Writing.{sent_at, agent, node}
use Rattle.abc_network_runs.specs.EarlyNumber.{a, b, c, spoken, c_after_one, c_after_two, said_one}
use Rattle.abc_network_runs.specs.EarlyNumber.{said_two, a_asks, draws_one, a_has_one, b_asks}
use Rattle.abc_network_runs.specs.EarlyNumber.{draws_two, b_has_two, a_speaks, sends_one, b_stores_one}
use Rattle.abc_network_runs.specs.EarlyNumber.{b_takes_one, b_speaks, sends_two, c_stores_two}
use Rattle.abc_network_runs.specs.EarlyNumber.{c_stores_one, c_takes_one, c_takes_two, a_stores_two}
use Rattle.abc_network_runs.specs.EarlyNumber.{a_takes_two, rules, at_first, b_asked, both_have}
use Rattle.abc_network_runs.specs.EarlyNumber.{two_stored, at_last}
use Rattle.abc_network_runs.proofs.TurnSteps.{swaps-at}
use Rattle.abc_network_runs.proofs.Concrete.{loses-front}
use Rattle.abc_network_runs.proofs.EarlyStates.{w1, w2, w3, w5, w7, w8, w9, w10, w11, w12, w14}
use Rattle.abc_network_runs.proofs.EarlyStates.{w15, w16, w17}

-- a and b speak at place 0,
pub a-says : AbcSpeaks a 0 said_one spoken
a-says = (((refl, refl, refl, refl), refl), refl)

pub b-says : AbcSpeaks b 0 said_two spoken
b-says = (((refl, refl, refl, refl), refl), refl)

-- they discard what the other says,
pub b-discards : AbcHears b said_one None b
b-discards = ((refl, refl), refl)

pub a-discards : AbcHears spoken said_two None spoken
a-discards = ((refl, refl), refl)

-- and c hears both, each at place 0.
pub c-hears-one : AbcHears c said_one (Some 0) c_after_one
c-hears-one = (((refl, refl, refl, refl), refl), refl)

pub c-hears-two : AbcHears c_after_one said_two (Some 0) c_after_two
c-hears-two = (((refl, refl, refl, refl), refl), refl)

-- a asks.
pub step1 : AgentStep abc rules at_first 0 a_asks w1
step1 = record {
  old = agent a 0 Idle [] 0 0 [];
  new = agent a 0 Waiting [] 1 1 (a_asks ∷ []);
  sends = (0, Request 0) ∷ [];
  left = at_first.links;
  row = record {
    idle = refl;
    can = (0, said_one, spoken, a-says);
    sends = refl;
    after = refl;
  };
  logs = (refl, refl, refl);
  at = (refl, refl, refl);
  first = refl;
  links = refl;
  draws = refl;
  rest = refl;
}

-- Node 0 draws 1 for a.
pub step2 : NodeStep abc rules w1 0 draws_one w2
step2 = record {
  old = node 0 [];
  new = node 2 (draws_one ∷ []);
  sends = (1, Reply 0 (Number 1)) ∷ [];
  left = replicate 18 [];
  row = (lit< tt, refl, refl);
  logs = (refl, refl, refl);
  at = (refl, refl, refl);
  first = (
    [],
    (0, cluster_up 0 0 refl (lit< tt) (lit< tt) refl refl refl),
    swaps-at 0 (sent_at 1 (Request 0) ∷ []) [] w1.links refl,
  );
  links = refl;
  draws = (lit< tt, lit≤ tt, refl, refl);
  rest = refl;
}

-- a has number 1.
pub step3 : AgentStep abc rules w2 0 a_has_one w3
step3 = record {
  old = agent a 0 Waiting [] 1 1 (a_asks ∷ []);
  new = agent a 0 (Granted 1) [] 1 3 (a_asks ∷ a_has_one ∷ []);
  sends = [];
  left = replicate 18 [];
  row = (refl, refl, (refl, refl, (lit< tt, refl, refl)));
  logs = (refl, refl, refl);
  at = (refl, refl, refl);
  first = (
    [],
    (lit< tt, (3, cluster_down 0 0 refl (lit< tt) (lit< tt) refl refl refl)),
    swaps-at 1 (sent_at 2 (Reply 0 (Number 1)) ∷ []) [] w2.links refl,
  );
  links = refl;
  draws = refl;
  rest = refl;
}

-- b asks.
pub step4 : AgentStep abc rules w3 1 b_asks b_asked
step4 = record {
  old = agent b 0 Idle [] 0 0 [];
  new = agent b 0 Waiting [] 1 1 (b_asks ∷ []);
  sends = (8, Request 1) ∷ [];
  left = w3.links;
  row = record {
    idle = refl;
    can = (0, said_two, spoken, b-says);
    sends = refl;
    after = refl;
  };
  logs = (refl, refl, refl);
  at = (refl, (refl, refl, refl));
  first = refl;
  links = refl;
  draws = refl;
  rest = refl;
}

-- Node 1 draws 2 for b.
pub step5 : NodeStep abc rules b_asked 1 draws_two w5
step5 = record {
  old = node 0 [];
  new = node 2 (draws_two ∷ []);
  sends = (9, Reply 1 (Number 2)) ∷ [];
  left = replicate 18 [];
  row = (lit< tt, refl, refl);
  logs = (refl, refl, refl);
  at = (refl, (refl, refl, refl));
  first = (
    [],
    (1, cluster_up 1 1 refl (lit< tt) (lit< tt) refl refl refl),
    swaps-at 8 (sent_at 1 (Request 1) ∷ []) [] b_asked.links refl,
  );
  links = refl;
  draws = (lit< tt, lit≤ tt, refl, refl);
  rest = refl;
}

-- b has number 2.
pub step6 : AgentStep abc rules w5 1 b_has_two both_have
step6 = record {
  old = agent b 0 Waiting [] 1 1 (b_asks ∷ []);
  new = agent b 0 (Granted 2) [] 1 3 (b_asks ∷ b_has_two ∷ []);
  sends = [];
  left = replicate 18 [];
  row = (refl, refl, (refl, refl, (lit< tt, refl, refl)));
  logs = (refl, refl, refl);
  at = (refl, (refl, refl, refl));
  first = (
    [],
    (lit< tt, (4, cluster_down 1 1 refl (lit< tt) (lit< tt) refl refl refl)),
    swaps-at 9 (sent_at 2 (Reply 1 (Number 2)) ∷ []) [] w5.links refl,
  );
  links = refl;
  draws = refl;
  rest = refl;
}

-- a speaks at number 1.
pub step7 : AgentStep abc rules both_have 0 a_speaks w7
step7 = record {
  old = agent a 0 (Granted 1) [] 1 3 (a_asks ∷ a_has_one ∷ []);
  new = agent spoken 1 Idle [] 2 4 (a_asks ∷ a_has_one ∷ a_speaks ∷ []);
  sends = (2, Message 1 0 (Said said_one)) ∷ [];
  left = both_have.links;
  row = record {
    next = refl;
    granted = refl;
    speaks = a-says;
    picks = refl;
    sends = refl;
    after = refl;
  };
  logs = (refl, refl, refl);
  at = (refl, refl, refl);
  first = refl;
  links = refl;
  draws = refl;
  rest = refl;
}

-- Node 1 sends number 1 to b and c.
pub step8 : NodeStep abc rules w7 1 sends_one w8
step8 = record {
  old = node 2 (draws_two ∷ []);
  new = node 5 (draws_two ∷ sends_one ∷ []);
  sends = (9, Message 1 0 (Said said_one)) ∷ (15, Message 1 0 (Said said_one)) ∷ [];
  left = replicate 18 [];
  row = (lit< tt, refl, refl);
  logs = (refl, refl, refl);
  at = (refl, (refl, refl, refl));
  first = (
    [],
    (0, cluster_up 0 1 refl (lit< tt) (lit< tt) refl refl refl),
    swaps-at 2 (sent_at 4 (Message 1 0 (Said said_one)) ∷ []) [] w7.links refl,
  );
  links = refl;
  draws = refl;
  rest = refl;
}

-- b stores number 1.
pub step9 : AgentStep abc rules w8 1 b_stores_one w9
step9 = record {
  old = agent b 0 (Granted 2) [] 1 3 (b_asks ∷ b_has_two ∷ []);
  new = agent b 0 (Granted 2) ((1, Said said_one) ∷ []) 1 6 (b_asks ∷ b_has_two ∷ b_stores_one ∷ []);
  sends = [];
  left = [] ∷ [] ∷ [] ∷ [] ∷ [] ∷ [] ∷ [] ∷ [] ∷ [] ∷ [] ∷ [] ∷ [] ∷ [] ∷ [] ∷ [] ∷ (sent_at 5 (Message 1 0 (Said said_one)) ∷ []) ∷ [] ∷ [] ∷ [];
  row = (
    refl,
    refl,
    record {
      above = lit< tt;
      free = refl;
      not_own = (λ e. cc);
      gains = gains-front 1 (Said said_one) [];
      after = refl;
    },
  );
  logs = (refl, refl, refl);
  at = (refl, (refl, refl, refl));
  first = (
    [],
    (lit< tt, (4, cluster_down 1 1 refl (lit< tt) (lit< tt) refl refl refl)),
    swaps-at 9 (sent_at 5 (Message 1 0 (Said said_one)) ∷ []) [] w8.links refl,
  );
  links = refl;
  draws = refl;
  rest = refl;
}

-- b takes number 1, and discards what was said.
pub step10 : AgentStep abc rules w9 1 b_takes_one w10
step10 = record {
  old = agent b 0 (Granted 2) ((1, Said said_one) ∷ []) 1 6 (b_asks ∷ b_has_two ∷ b_stores_one ∷ []);
  new = agent b 1 (Granted 2) [] 1 7 (b_asks ∷ b_has_two ∷ b_stores_one ∷ b_takes_one ∷ []);
  sends = [];
  left = w9.links;
  row = record {
    content = Said said_one;
    next = refl;
    waits = refl;
    hears = b-discards;
    picks = refl;
    sends = refl;
    loses = loses-front 1 (Said said_one) [] refl;
    after = refl;
  };
  logs = (refl, refl, refl);
  at = (refl, (refl, refl, refl));
  first = refl;
  links = refl;
  draws = refl;
  rest = refl;
}

-- b speaks at number 2.
pub step11 : AgentStep abc rules w10 1 b_speaks w11
step11 = record {
  old = agent b 1 (Granted 2) [] 1 7 (b_asks ∷ b_has_two ∷ b_stores_one ∷ b_takes_one ∷ []);
  new = agent spoken 2 Idle [] 2 8 (b_asks ∷ b_has_two ∷ b_stores_one ∷ b_takes_one ∷ b_speaks ∷ []);
  sends = (10, Message 2 1 (Said said_two)) ∷ [];
  left = w10.links;
  row = record {
    next = refl;
    granted = refl;
    speaks = b-says;
    picks = refl;
    sends = refl;
    after = refl;
  };
  logs = (refl, refl, refl);
  at = (refl, (refl, refl, refl));
  first = refl;
  links = refl;
  draws = refl;
  rest = refl;
}

-- Node 2 sends number 2 to a and c.
pub step12 : NodeStep abc rules w11 2 sends_two w12
step12 = record {
  old = node 0 [];
  new = node 9 (sends_two ∷ []);
  sends = (5, Message 2 1 (Said said_two)) ∷ (17, Message 2 1 (Said said_two)) ∷ [];
  left = [] ∷ [] ∷ [] ∷ [] ∷ [] ∷ [] ∷ [] ∷ [] ∷ [] ∷ [] ∷ [] ∷ [] ∷ [] ∷ [] ∷ [] ∷ (sent_at 5 (Message 1 0 (Said said_one)) ∷ []) ∷ [] ∷ [] ∷ [];
  row = (lit< tt, refl, refl);
  logs = (refl, refl, refl);
  at = (refl, (refl, (refl, refl, refl)));
  first = (
    [],
    (1, cluster_up 1 2 refl (lit< tt) (lit< tt) refl refl refl),
    swaps-at 10 (sent_at 8 (Message 2 1 (Said said_two)) ∷ []) [] w11.links refl,
  );
  links = refl;
  draws = refl;
  rest = refl;
}

-- c stores number 2.
pub step13 : AgentStep abc rules w12 2 c_stores_two two_stored
step13 = record {
  old = agent c 0 Idle [] 0 0 [];
  new = agent c 0 Idle ((2, Said said_two) ∷ []) 0 10 (c_stores_two ∷ []);
  sends = [];
  left = [] ∷ [] ∷ [] ∷ [] ∷ [] ∷ (sent_at 9 (Message 2 1 (Said said_two)) ∷ []) ∷ [] ∷ [] ∷ [] ∷ [] ∷ [] ∷ [] ∷ [] ∷ [] ∷ []
      ∷ (sent_at 5 (Message 1 0 (Said said_one)) ∷ []) ∷ [] ∷ [] ∷ [];
  row = (
    refl,
    refl,
    record {
      above = lit< tt;
      free = refl;
      not_own = (λ e. cc);
      gains = gains-front 2 (Said said_two) [];
      after = refl;
    },
  );
  logs = (refl, refl, refl);
  at = (refl, (refl, (refl, refl, refl)));
  first = (
    [],
    (lit< tt, (5, cluster_down 2 2 refl (lit< tt) (lit< tt) refl refl refl)),
    swaps-at 17 (sent_at 9 (Message 2 1 (Said said_two)) ∷ []) [] w12.links refl,
  );
  links = refl;
  draws = refl;
  rest = refl;
}

-- c stores number 1.
pub step14 : AgentStep abc rules two_stored 2 c_stores_one w14
step14 = record {
  old = agent c 0 Idle ((2, Said said_two) ∷ []) 0 10 (c_stores_two ∷ []);
  new = agent c 0 Idle ((1, Said said_one) ∷ (2, Said said_two) ∷ []) 0 11 (c_stores_two ∷ c_stores_one ∷ []);
  sends = [];
  left = [] ∷ [] ∷ [] ∷ [] ∷ [] ∷ (sent_at 9 (Message 2 1 (Said said_two)) ∷ []) ∷ [] ∷ [] ∷ [] ∷ [] ∷ [] ∷ [] ∷ [] ∷ [] ∷ [] ∷ [] ∷ [] ∷ [] ∷ [];
  row = (
    refl,
    refl,
    record {
      above = lit< tt;
      free = refl;
      not_own = (λ e. cc);
      gains = gains-front 1 (Said said_one) ((2, Said said_two) ∷ []);
      after = refl;
    },
  );
  logs = (refl, refl, refl);
  at = (refl, (refl, (refl, refl, refl)));
  first = (
    [],
    (lit< tt, (4, cluster_down 2 1 refl (lit< tt) (lit< tt) refl refl refl)),
    swaps-at 15 (sent_at 5 (Message 1 0 (Said said_one)) ∷ []) [] two_stored.links refl,
  );
  links = refl;
  draws = refl;
  rest = refl;
}

-- c takes number 1.
pub step15 : AgentStep abc rules w14 2 c_takes_one w15
step15 = record {
  old = agent c 0 Idle ((1, Said said_one) ∷ (2, Said said_two) ∷ []) 0 11 (c_stores_two ∷ c_stores_one ∷ []);
  new = agent c_after_one 1 Idle ((2, Said said_two) ∷ []) 0 12 (c_stores_two ∷ c_stores_one ∷ c_takes_one ∷ []);
  sends = [];
  left = w14.links;
  row = record {
    content = Said said_one;
    next = refl;
    waits = refl;
    hears = c-hears-one;
    picks = refl;
    sends = refl;
    loses = loses-front 1 (Said said_one) ((2, Said said_two) ∷ []) refl;
    after = refl;
  };
  logs = (refl, refl, refl);
  at = (refl, (refl, (refl, refl, refl)));
  first = refl;
  links = refl;
  draws = refl;
  rest = refl;
}

-- c takes number 2.
pub step16 : AgentStep abc rules w15 2 c_takes_two w16
step16 = record {
  old = agent c_after_one 1 Idle ((2, Said said_two) ∷ []) 0 12 (c_stores_two ∷ c_stores_one ∷ c_takes_one ∷ []);
  new = agent c_after_two 2 Idle [] 0 13 (c_stores_two ∷ c_stores_one ∷ c_takes_one ∷ c_takes_two ∷ []);
  sends = [];
  left = w15.links;
  row = record {
    content = Said said_two;
    next = refl;
    waits = refl;
    hears = c-hears-two;
    picks = refl;
    sends = refl;
    loses = loses-front 2 (Said said_two) [] refl;
    after = refl;
  };
  logs = (refl, refl, refl);
  at = (refl, (refl, (refl, refl, refl)));
  first = refl;
  links = refl;
  draws = refl;
  rest = refl;
}

-- a stores number 2.
pub step17 : AgentStep abc rules w16 0 a_stores_two w17
step17 = record {
  old = agent spoken 1 Idle [] 2 4 (a_asks ∷ a_has_one ∷ a_speaks ∷ []);
  new = agent spoken 1 Idle ((2, Said said_two) ∷ []) 2 10 (a_asks ∷ a_has_one ∷ a_speaks ∷ a_stores_two ∷ []);
  sends = [];
  left = replicate 18 [];
  row = (
    refl,
    refl,
    record {
      above = lit< tt;
      free = refl;
      not_own = (λ e. cc);
      gains = gains-front 2 (Said said_two) [];
      after = refl;
    },
  );
  logs = (refl, refl, refl);
  at = (refl, refl, refl);
  first = (
    [],
    (lit< tt, (5, cluster_down 0 2 refl (lit< tt) (lit< tt) refl refl refl)),
    swaps-at 5 (sent_at 9 (Message 2 1 (Said said_two)) ∷ []) [] w16.links refl,
  );
  links = refl;
  draws = refl;
  rest = refl;
}

-- a takes number 2, and discards what was said.
pub step18 : AgentStep abc rules w17 0 a_takes_two at_last
step18 = record {
  old = agent spoken 1 Idle ((2, Said said_two) ∷ []) 2 10 (a_asks ∷ a_has_one ∷ a_speaks ∷ a_stores_two ∷ []);
  new = agent spoken 2 Idle [] 2 11 (a_asks ∷ a_has_one ∷ a_speaks ∷ a_stores_two ∷ a_takes_two ∷ []);
  sends = [];
  left = w17.links;
  row = record {
    content = Said said_two;
    next = refl;
    waits = refl;
    hears = a-discards;
    picks = refl;
    sends = refl;
    loses = loses-front 2 (Said said_two) [] refl;
    after = refl;
  };
  logs = (refl, refl, refl);
  at = (refl, refl, refl);
  first = refl;
  links = refl;
  draws = refl;
  rest = refl;
}
