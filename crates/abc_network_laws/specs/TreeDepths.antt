-- How deep nodes of a tree are, and how many hops a request or a reply has left.
use Rattle.std.specs.Prelude.{ℕ, zero, suc, ◌+◌, ◌-◌, ◌*◌, ◌/◌, ◌%◌, ◌==◌, if◌then◌else◌}
use Rattle.abc_network_laws.specs.TreeFlows.{Edge, Up, Down, Rise, Fall, edge_at}

-- The steps up to the root.
abbrev pub depth_by : ℕ → ℕ → ℕ
depth_by zero k = 0
depth_by (suc steps) k = if k == 0 then 0 else 1 + depth_by steps ((k - 1) / 2)

abbrev pub depth : ℕ → ℕ
depth k = depth_by k k

-- A request goes up to the root, and its reply comes down to the home and to the agent.
abbrev pub up_hops : ℕ → ℕ → Edge → ℕ
up_hops nodes a (Up i) = 2 * depth (a % nodes) + 2
up_hops nodes a (Down i) = 0
up_hops nodes a (Rise c) = depth c + depth (a % nodes) + 1
up_hops nodes a (Fall c) = 0

abbrev pub down_hops : ℕ → ℕ → Edge → ℕ
down_hops nodes a (Up i) = 0
down_hops nodes a (Down i) = 1
down_hops nodes a (Rise c) = 0
down_hops nodes a (Fall c) = depth (a % nodes) - depth c + 2

abbrev pub tree_request_hops : ℕ → ℕ → ℕ → ℕ → ℕ
tree_request_hops agents nodes l a = up_hops nodes a (edge_at agents l)

abbrev pub tree_reply_hops : ℕ → ℕ → ℕ → ℕ → ℕ
tree_reply_hops agents nodes l a = down_hops nodes a (edge_at agents l)
