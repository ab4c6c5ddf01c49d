-- The states of the network in the run with an early number.
use Rattle.std.proofs.Common.{[], ◌∷◌}
use Rattle.std.specs.Prelude.{replicate}
use Rattle.abc_value.specs.declared.grant.Grant.TheVariants.{Number}
use Rattle.abc_packet.specs.declared.packets.Content.TheVariants.{Said}
use Rattle.abc_packet.specs.declared.packets.Packet.TheVariants.{Request, Reply, Message}
use Rattle.abc_network.specs.Agents.{Idle, Waiting, Granted}
use Rattle.abc_network_runs.specs.Writing.{Components, sent_at, agent, node}
use Rattle.abc_network_runs.specs.EarlyNumber.{a, b, c, spoken, c_after_one, c_after_two, said_one}
use Rattle.abc_network_runs.specs.EarlyNumber.{said_two, a_asks, draws_one, a_has_one, b_asks}
use Rattle.abc_network_runs.specs.EarlyNumber.{draws_two, b_has_two, a_speaks, sends_one, b_stores_one}
use Rattle.abc_network_runs.specs.EarlyNumber.{b_takes_one, b_speaks, sends_two, c_stores_two}
use Rattle.abc_network_runs.specs.EarlyNumber.{c_stores_one, c_takes_one, c_takes_two, a_stores_two}

-- The network after the first event.
abbrev pub w1 : Components
w1 = record {
  agents = agent a 0 Waiting [] 1 1 (a_asks ∷ []) ∷ agent b 0 Idle [] 0 0 [] ∷ agent c 0 Idle [] 0 0 [] ∷ [];
  nodes = node 0 [] ∷ node 0 [] ∷ node 0 [] ∷ [];
  links = (sent_at 1 (Request 0) ∷ []) ∷ [] ∷ [] ∷ [] ∷ [] ∷ [] ∷ [] ∷ [] ∷ [] ∷ [] ∷ [] ∷ [] ∷ [] ∷ [] ∷ [] ∷ [] ∷ [] ∷ [] ∷ [];
  drawn = [];
}

-- The network after 2 events.
abbrev pub w2 : Components
w2 = record {
  agents = agent a 0 Waiting [] 1 1 (a_asks ∷ []) ∷ agent b 0 Idle [] 0 0 [] ∷ agent c 0 Idle [] 0 0 [] ∷ [];
  nodes = node 2 (draws_one ∷ []) ∷ node 0 [] ∷ node 0 [] ∷ [];
  links = [] ∷ (sent_at 2 (Reply 0 (Number 1)) ∷ []) ∷ [] ∷ [] ∷ [] ∷ [] ∷ [] ∷ [] ∷ [] ∷ [] ∷ [] ∷ [] ∷ [] ∷ [] ∷ [] ∷ [] ∷ [] ∷ [] ∷ [];
  drawn = 1 ∷ [];
}

-- The network after 3 events.
abbrev pub w3 : Components
w3 = record {
  agents = agent a 0 (Granted 1) [] 1 3 (a_asks ∷ a_has_one ∷ []) ∷ agent b 0 Idle [] 0 0 [] ∷ agent c 0 Idle [] 0 0 [] ∷ [];
  nodes = node 2 (draws_one ∷ []) ∷ node 0 [] ∷ node 0 [] ∷ [];
  links = replicate 18 [];
  drawn = 1 ∷ [];
}

-- The network after 5 events.
abbrev pub w5 : Components
w5 = record {
  agents = agent a 0 (Granted 1) [] 1 3 (a_asks ∷ a_has_one ∷ []) ∷ agent b 0 Waiting [] 1 1 (b_asks ∷ []) ∷ agent c 0 Idle [] 0 0 [] ∷ [];
  nodes = node 2 (draws_one ∷ []) ∷ node 2 (draws_two ∷ []) ∷ node 0 [] ∷ [];
  links = [] ∷ [] ∷ [] ∷ [] ∷ [] ∷ [] ∷ [] ∷ [] ∷ [] ∷ (sent_at 2 (Reply 1 (Number 2)) ∷ []) ∷ [] ∷ [] ∷ [] ∷ [] ∷ [] ∷ [] ∷ [] ∷ [] ∷ [];
  drawn = 2 ∷ 1 ∷ [];
}

-- The network after 7 events.
abbrev pub w7 : Components
w7 = record {
  agents = agent spoken 1 Idle [] 2 4 (a_asks ∷ a_has_one ∷ a_speaks ∷ []) ∷ agent b 0 (Granted 2) [] 1 3 (b_asks ∷ b_has_two ∷ [])
      ∷ agent c 0 Idle [] 0 0 [] ∷ [];
  nodes = node 2 (draws_one ∷ []) ∷ node 2 (draws_two ∷ []) ∷ node 0 [] ∷ [];
  links = [] ∷ [] ∷ (sent_at 4 (Message 1 0 (Said said_one)) ∷ []) ∷ [] ∷ [] ∷ [] ∷ [] ∷ [] ∷ [] ∷ [] ∷ [] ∷ [] ∷ [] ∷ [] ∷ [] ∷ [] ∷ [] ∷ [] ∷ [];
  drawn = 2 ∷ 1 ∷ [];
}

-- The network after 8 events.
abbrev pub w8 : Components
w8 = record {
  agents = agent spoken 1 Idle [] 2 4 (a_asks ∷ a_has_one ∷ a_speaks ∷ []) ∷ agent b 0 (Granted 2) [] 1 3 (b_asks ∷ b_has_two ∷ [])
      ∷ agent c 0 Idle [] 0 0 [] ∷ [];
  nodes = node 2 (draws_one ∷ []) ∷ node 5 (draws_two ∷ sends_one ∷ []) ∷ node 0 [] ∷ [];
  links = [] ∷ [] ∷ [] ∷ [] ∷ [] ∷ [] ∷ [] ∷ [] ∷ [] ∷ (sent_at 5 (Message 1 0 (Said said_one)) ∷ []) ∷ [] ∷ [] ∷ [] ∷ [] ∷ []
      ∷ (sent_at 5 (Message 1 0 (Said said_one)) ∷ []) ∷ [] ∷ [] ∷ [];
  drawn = 2 ∷ 1 ∷ [];
}

-- The network after 9 events.
abbrev pub w9 : Components
w9 = record {
  agents = agent spoken 1 Idle [] 2 4 (a_asks ∷ a_has_one ∷ a_speaks ∷ [])
      ∷ agent b 0 (Granted 2) ((1, Said said_one) ∷ []) 1 6 (b_asks ∷ b_has_two ∷ b_stores_one ∷ []) ∷ agent c 0 Idle [] 0 0 [] ∷ [];
  nodes = node 2 (draws_one ∷ []) ∷ node 5 (draws_two ∷ sends_one ∷ []) ∷ node 0 [] ∷ [];
  links = [] ∷ [] ∷ [] ∷ [] ∷ [] ∷ [] ∷ [] ∷ [] ∷ [] ∷ [] ∷ [] ∷ [] ∷ [] ∷ [] ∷ [] ∷ (sent_at 5 (Message 1 0 (Said said_one)) ∷ []) ∷ [] ∷ [] ∷ [];
  drawn = 2 ∷ 1 ∷ [];
}

-- The network after 10 events.
abbrev pub w10 : Components
w10 = record {
  agents = agent spoken 1 Idle [] 2 4 (a_asks ∷ a_has_one ∷ a_speaks ∷ [])
      ∷ agent b 1 (Granted 2) [] 1 7 (b_asks ∷ b_has_two ∷ b_stores_one ∷ b_takes_one ∷ []) ∷ agent c 0 Idle [] 0 0 [] ∷ [];
  nodes = node 2 (draws_one ∷ []) ∷ node 5 (draws_two ∷ sends_one ∷ []) ∷ node 0 [] ∷ [];
  links = [] ∷ [] ∷ [] ∷ [] ∷ [] ∷ [] ∷ [] ∷ [] ∷ [] ∷ [] ∷ [] ∷ [] ∷ [] ∷ [] ∷ [] ∷ (sent_at 5 (Message 1 0 (Said said_one)) ∷ []) ∷ [] ∷ [] ∷ [];
  drawn = 2 ∷ 1 ∷ [];
}

-- The network after 11 events.
abbrev pub w11 : Components
w11 = record {
  agents = agent spoken 1 Idle [] 2 4 (a_asks ∷ a_has_one ∷ a_speaks ∷ [])
      ∷ agent spoken 2 Idle [] 2 8 (b_asks ∷ b_has_two ∷ b_stores_one ∷ b_takes_one ∷ b_speaks ∷ []) ∷ agent c 0 Idle [] 0 0 [] ∷ [];
  nodes = node 2 (draws_one ∷ []) ∷ node 5 (draws_two ∷ sends_one ∷ []) ∷ node 0 [] ∷ [];
  links = [] ∷ [] ∷ [] ∷ [] ∷ [] ∷ [] ∷ [] ∷ [] ∷ [] ∷ [] ∷ (sent_at 8 (Message 2 1 (Said said_two)) ∷ []) ∷ [] ∷ [] ∷ [] ∷ []
      ∷ (sent_at 5 (Message 1 0 (Said said_one)) ∷ []) ∷ [] ∷ [] ∷ [];
  drawn = 2 ∷ 1 ∷ [];
}

-- The network after 12 events.
abbrev pub w12 : Components
w12 = record {
  agents = agent spoken 1 Idle [] 2 4 (a_asks ∷ a_has_one ∷ a_speaks ∷ [])
      ∷ agent spoken 2 Idle [] 2 8 (b_asks ∷ b_has_two ∷ b_stores_one ∷ b_takes_one ∷ b_speaks ∷ []) ∷ agent c 0 Idle [] 0 0 [] ∷ [];
  nodes = node 2 (draws_one ∷ []) ∷ node 5 (draws_two ∷ sends_one ∷ []) ∷ node 9 (sends_two ∷ []) ∷ [];
  links = [] ∷ [] ∷ [] ∷ [] ∷ [] ∷ (sent_at 9 (Message 2 1 (Said said_two)) ∷ []) ∷ [] ∷ [] ∷ [] ∷ [] ∷ [] ∷ [] ∷ [] ∷ [] ∷ []
      ∷ (sent_at 5 (Message 1 0 (Said said_one)) ∷ []) ∷ [] ∷ (sent_at 9 (Message 2 1 (Said said_two)) ∷ []) ∷ [];
  drawn = 2 ∷ 1 ∷ [];
}

-- The network after 14 events.
abbrev pub w14 : Components
w14 = record {
  agents = agent spoken 1 Idle [] 2 4 (a_asks ∷ a_has_one ∷ a_speaks ∷ [])
      ∷ agent spoken 2 Idle [] 2 8 (b_asks ∷ b_has_two ∷ b_stores_one ∷ b_takes_one ∷ b_speaks ∷ [])
      ∷ agent c 0 Idle ((1, Said said_one) ∷ (2, Said said_two) ∷ []) 0 11 (c_stores_two ∷ c_stores_one ∷ []) ∷ [];
  nodes = node 2 (draws_one ∷ []) ∷ node 5 (draws_two ∷ sends_one ∷ []) ∷ node 9 (sends_two ∷ []) ∷ [];
  links = [] ∷ [] ∷ [] ∷ [] ∷ [] ∷ (sent_at 9 (Message 2 1 (Said said_two)) ∷ []) ∷ [] ∷ [] ∷ [] ∷ [] ∷ [] ∷ [] ∷ [] ∷ [] ∷ [] ∷ [] ∷ [] ∷ [] ∷ [];
  drawn = 2 ∷ 1 ∷ [];
}

-- The network after 15 events.
abbrev pub w15 : Components
w15 = record {
  agents = agent spoken 1 Idle [] 2 4 (a_asks ∷ a_has_one ∷ a_speaks ∷ [])
      ∷ agent spoken 2 Idle [] 2 8 (b_asks ∷ b_has_two ∷ b_stores_one ∷ b_takes_one ∷ b_speaks ∷ [])
      ∷ agent c_after_one 1 Idle ((2, Said said_two) ∷ []) 0 12 (c_stores_two ∷ c_stores_one ∷ c_takes_one ∷ []) ∷ [];
  nodes = node 2 (draws_one ∷ []) ∷ node 5 (draws_two ∷ sends_one ∷ []) ∷ node 9 (sends_two ∷ []) ∷ [];
  links = [] ∷ [] ∷ [] ∷ [] ∷ [] ∷ (sent_at 9 (Message 2 1 (Said said_two)) ∷ []) ∷ [] ∷ [] ∷ [] ∷ [] ∷ [] ∷ [] ∷ [] ∷ [] ∷ [] ∷ [] ∷ [] ∷ [] ∷ [];
  drawn = 2 ∷ 1 ∷ [];
}

-- The network after 16 events.
abbrev pub w16 : Components
w16 = record {
  agents = agent spoken 1 Idle [] 2 4 (a_asks ∷ a_has_one ∷ a_speaks ∷ [])
      ∷ agent spoken 2 Idle [] 2 8 (b_asks ∷ b_has_two ∷ b_stores_one ∷ b_takes_one ∷ b_speaks ∷ [])
      ∷ agent c_after_two 2 Idle [] 0 13 (c_stores_two ∷ c_stores_one ∷ c_takes_one ∷ c_takes_two ∷ []) ∷ [];
  nodes = node 2 (draws_one ∷ []) ∷ node 5 (draws_two ∷ sends_one ∷ []) ∷ node 9 (sends_two ∷ []) ∷ [];
  links = [] ∷ [] ∷ [] ∷ [] ∷ [] ∷ (sent_at 9 (Message 2 1 (Said said_two)) ∷ []) ∷ [] ∷ [] ∷ [] ∷ [] ∷ [] ∷ [] ∷ [] ∷ [] ∷ [] ∷ [] ∷ [] ∷ [] ∷ [];
  drawn = 2 ∷ 1 ∷ [];
}

-- The network after 17 events.
abbrev pub w17 : Components
w17 = record {
  agents = agent spoken 1 Idle ((2, Said said_two) ∷ []) 2 10 (a_asks ∷ a_has_one ∷ a_speaks ∷ a_stores_two ∷ [])
      ∷ agent spoken 2 Idle [] 2 8 (b_asks ∷ b_has_two ∷ b_stores_one ∷ b_takes_one ∷ b_speaks ∷ [])
      ∷ agent c_after_two 2 Idle [] 0 13 (c_stores_two ∷ c_stores_one ∷ c_takes_one ∷ c_takes_two ∷ []) ∷ [];
  nodes = node 2 (draws_one ∷ []) ∷ node 5 (draws_two ∷ sends_one ∷ []) ∷ node 9 (sends_two ∷ []) ∷ [];
  links = replicate 18 [];
  drawn = 2 ∷ 1 ∷ [];
}
