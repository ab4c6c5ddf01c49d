-- The component that is kept as a tree of leaves.
use Rattle.std.specs.Prelude.{ℕ, ◌+◌, ◌-◌, nat_lt, if◌then◌else◌, List, unwrap_or}
use Rattle.abc_pred.specs.declared.names.Name.{Name}
use Rattle.abc_pred.specs.Maps.{Entries}
use Rattle.abc_moves.specs.declared.made.Move.{Move}
use Rattle.abc_moves.specs.declared.tree.Tree.{Tree}
use Rattle.abc_moves.specs.declared.tree.Tree as held
use Rattle.abc_term.specs.Standing.{process_of}
use Rattle.abc_term.specs.Processes as term
use Rattle.abc_term.specs.Processes.{Process, Par}
use Rattle.abc_term.specs.Substitution.{put}

-- A leaf is its part of the program, with values put for its variables. Two trees side by side are the two processes so.
abbrev pub process_in : Tree → Process
process_in (held.Leaf p s) = put s (process_of p.now)
process_in (held.Par' b l r) = Par (process_in l) (process_in r)

-- How many leaves it has. They are numbered from the left, from 0 up.
abbrev pub leaves_in : Tree → ℕ
leaves_in (held.Leaf p s) = 1
leaves_in (held.Par' b l r) = leaves_in l + leaves_in r

-- The process where the leaf of a number has become another.
abbrev pub process_with : Tree → ℕ → Process → Process
process_with (held.Leaf p s) k R = R
process_with (held.Par' b l r) k R =
    if nat_lt k (leaves_in l) then Par (process_with l k R) (process_in r) else Par (process_in l) (process_with r (k - leaves_in l) R)

-- The component of these parts.
abbrev pub parts : Entries → List Name → Tree → term.Component
parts env interface t = record { env = env; interface = interface; process = process_in t }

-- The same after a move.
abbrev pub parts_moved : Entries → List Name → Tree → Move → term.Component
parts_moved env interface t m = record {
  env = unwrap_or m.env env;
  interface = interface;
  process = process_with t m.leaf (process_in m.tree);
}
