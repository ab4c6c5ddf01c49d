-- The numbers of the links on which agents and nodes send.
use Rattle.std.specs.Prelude.{ℕ, ◌+◌, ◌-◌, ◌*◌}

-- In a cluster, from node k to an agent and back.
abbrev pub to_agent : ℕ → ℕ → ℕ → ℕ
to_agent nodes k agent = 2 * (agent * nodes + k) + 1

abbrev pub from_agent : ℕ → ℕ → ℕ → ℕ
from_agent nodes k agent = 2 * (agent * nodes + k)

-- In a ring and in a tree, from an agent to its home and back.
abbrev pub to_home : ℕ → ℕ
to_home agent = 2 * agent

abbrev pub from_home : ℕ → ℕ
from_home agent = 2 * agent + 1

-- In a ring of several nodes, from node k to its successor.
abbrev pub to_successor : ℕ → ℕ → ℕ
to_successor agents k = 2 * agents + k

-- In a tree, from node k, which is not the root, to its parent and back.
abbrev pub to_parent : ℕ → ℕ → ℕ
to_parent agents k = 2 * agents + 2 * (k - 1)

abbrev pub from_parent : ℕ → ℕ → ℕ
from_parent agents k = 2 * agents + 2 * (k - 1) + 1
