-- The states of the network in the run with a late output.
use Rattle.std.proofs.Common.{[], ◌∷◌}
use Rattle.std.specs.Prelude.{replicate}
use Rattle.abc_value.specs.declared.grant.Grant.TheVariants.{Number}
use Rattle.abc_packet.specs.declared.packets.Content.TheVariants.{Said, Empty}
use Rattle.abc_packet.specs.declared.packets.Packet.TheVariants.{Request, Reply, Message}
use Rattle.abc_network.specs.Agents.{Idle, Waiting, Granted}
use Rattle.abc_network_runs.specs.Writing.{Components, sent_at, agent, node}
use Rattle.abc_network_runs.specs.LateOutput.{wanting, ann_after, bob_after, said_take, ann_asks}
use Rattle.abc_network_runs.specs.LateOutput.{bob_asks, draws_one, draws_two, ann_has_one, ann_speaks}
use Rattle.abc_network_runs.specs.LateOutput.{bob_has_two, sends_one, bob_stores, bob_hears}
use Rattle.abc_network_runs.specs.LateOutput.{bob_is_silent, sends_two, ann_stores}

-- The network after the first event.
abbrev pub w1 : Components
w1 = record {
  agents = agent wanting 0 Waiting [] 1 1 (ann_asks ∷ []) ∷ agent wanting 0 Idle [] 0 0 [] ∷ [];
  nodes = node 0 [] ∷ [];
  links = (sent_at 1 (Request 0) ∷ []) ∷ [] ∷ [] ∷ [] ∷ [];
  drawn = [];
}

-- The network after 2 events.
abbrev pub w2 : Components
w2 = record {
  agents = agent wanting 0 Waiting [] 1 1 (ann_asks ∷ []) ∷ agent wanting 0 Waiting [] 1 1 (bob_asks ∷ []) ∷ [];
  nodes = node 0 [] ∷ [];
  links = (sent_at 1 (Request 0) ∷ []) ∷ [] ∷ (sent_at 1 (Request 1) ∷ []) ∷ [] ∷ [];
  drawn = [];
}

-- The network after 3 events.
abbrev pub w3 : Components
w3 = record {
  agents = agent wanting 0 Waiting [] 1 1 (ann_asks ∷ []) ∷ agent wanting 0 Waiting [] 1 1 (bob_asks ∷ []) ∷ [];
  nodes = node 2 (draws_one ∷ []) ∷ [];
  links = [] ∷ (sent_at 2 (Reply 0 (Number 1)) ∷ []) ∷ (sent_at 1 (Request 1) ∷ []) ∷ [] ∷ [];
  drawn = 1 ∷ [];
}

-- The network after 4 events.
abbrev pub w4 : Components
w4 = record {
  agents = agent wanting 0 Waiting [] 1 1 (ann_asks ∷ []) ∷ agent wanting 0 Waiting [] 1 1 (bob_asks ∷ []) ∷ [];
  nodes = node 3 (draws_one ∷ draws_two ∷ []) ∷ [];
  links = [] ∷ (sent_at 2 (Reply 0 (Number 1)) ∷ []) ∷ [] ∷ (sent_at 3 (Reply 1 (Number 2)) ∷ []) ∷ [];
  drawn = 2 ∷ 1 ∷ [];
}

-- The network after 6 events.
abbrev pub w6 : Components
w6 = record {
  agents = agent ann_after 1 Idle [] 2 4 (ann_asks ∷ ann_has_one ∷ ann_speaks ∷ []) ∷ agent wanting 0 Waiting [] 1 1 (bob_asks ∷ []) ∷ [];
  nodes = node 3 (draws_one ∷ draws_two ∷ []) ∷ [];
  links = (sent_at 4 (Message 1 0 (Said said_take)) ∷ []) ∷ [] ∷ [] ∷ (sent_at 3 (Reply 1 (Number 2)) ∷ []) ∷ [];
  drawn = 2 ∷ 1 ∷ [];
}

-- The network after 7 events.
abbrev pub w7 : Components
w7 = record {
  agents = agent ann_after 1 Idle [] 2 4 (ann_asks ∷ ann_has_one ∷ ann_speaks ∷ [])
      ∷ agent wanting 0 (Granted 2) [] 1 4 (bob_asks ∷ bob_has_two ∷ []) ∷ [];
  nodes = node 3 (draws_one ∷ draws_two ∷ []) ∷ [];
  links = (sent_at 4 (Message 1 0 (Said said_take)) ∷ []) ∷ [] ∷ [] ∷ [] ∷ [];
  drawn = 2 ∷ 1 ∷ [];
}

-- The network after 8 events.
abbrev pub w8 : Components
w8 = record {
  agents = agent ann_after 1 Idle [] 2 4 (ann_asks ∷ ann_has_one ∷ ann_speaks ∷ [])
      ∷ agent wanting 0 (Granted 2) [] 1 4 (bob_asks ∷ bob_has_two ∷ []) ∷ [];
  nodes = node 5 (draws_one ∷ draws_two ∷ sends_one ∷ []) ∷ [];
  links = [] ∷ [] ∷ [] ∷ (sent_at 5 (Message 1 0 (Said said_take)) ∷ []) ∷ [];
  drawn = 2 ∷ 1 ∷ [];
}

-- The network after 9 events.
abbrev pub w9 : Components
w9 = record {
  agents = agent ann_after 1 Idle [] 2 4 (ann_asks ∷ ann_has_one ∷ ann_speaks ∷ [])
      ∷ agent wanting 0 (Granted 2) ((1, Said said_take) ∷ []) 1 6 (bob_asks ∷ bob_has_two ∷ bob_stores ∷ []) ∷ [];
  nodes = node 5 (draws_one ∷ draws_two ∷ sends_one ∷ []) ∷ [];
  links = replicate 4 [];
  drawn = 2 ∷ 1 ∷ [];
}

-- The network after 11 events.
abbrev pub w11 : Components
w11 = record {
  agents = agent ann_after 1 Idle [] 2 4 (ann_asks ∷ ann_has_one ∷ ann_speaks ∷ [])
      ∷ agent bob_after 2 Idle [] 2 8 (bob_asks ∷ bob_has_two ∷ bob_stores ∷ bob_hears ∷ bob_is_silent ∷ []) ∷ [];
  nodes = node 5 (draws_one ∷ draws_two ∷ sends_one ∷ []) ∷ [];
  links = [] ∷ [] ∷ (sent_at 8 (Message 2 1 Empty) ∷ []) ∷ [] ∷ [];
  drawn = 2 ∷ 1 ∷ [];
}

-- The network after 12 events.
abbrev pub w12 : Components
w12 = record {
  agents = agent ann_after 1 Idle [] 2 4 (ann_asks ∷ ann_has_one ∷ ann_speaks ∷ [])
      ∷ agent bob_after 2 Idle [] 2 8 (bob_asks ∷ bob_has_two ∷ bob_stores ∷ bob_hears ∷ bob_is_silent ∷ []) ∷ [];
  nodes = node 9 (draws_one ∷ draws_two ∷ sends_one ∷ sends_two ∷ []) ∷ [];
  links = [] ∷ (sent_at 9 (Message 2 1 Empty) ∷ []) ∷ [] ∷ [] ∷ [];
  drawn = 2 ∷ 1 ∷ [];
}

-- The network after 13 events.
abbrev pub w13 : Components
w13 = record {
  agents = agent ann_after 1 Idle ((2, Empty) ∷ []) 2 10 (ann_asks ∷ ann_has_one ∷ ann_speaks ∷ ann_stores ∷ [])
      ∷ agent bob_after 2 Idle [] 2 8 (bob_asks ∷ bob_has_two ∷ bob_stores ∷ bob_hears ∷ bob_is_silent ∷ []) ∷ [];
  nodes = node 9 (draws_one ∷ draws_two ∷ sends_one ∷ sends_two ∷ []) ∷ [];
  links = replicate 4 [];
  drawn = 2 ∷ 1 ∷ [];
}
