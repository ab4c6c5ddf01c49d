-- The leaves of a tree are few.
use Rattle.std.proofs.Common.{◌≡◌, ◌<◌, ◌≤◌, ◌^◌, List, ap, arith}
use Rattle.abc_term.specs.declared.terms.Definition.{Definition}
use Rattle.abc_term.specs.Processes.{Process, Nil, Output, Input, When, Choice, Par, Call, Component}
use Rattle.abc_term.specs.Standing.{process_of}
use Rattle.abc_term.specs.Substitution.{put}
use Rattle.abc_sound.specs.Walks.{leaves}
use Rattle.abc_moves.specs.declared.tree.Tree.{Tree}
use Rattle.abc_moves.specs.declared.tree.Tree as held
use Rattle.abc_moves.specs.Sounds.{IsSoundUnder}
use Rattle.abc_moves.specs.Trees.{process_in, leaves_in}
use Rattle.abc_moves.proofs.Sounding.{few_leaves}

some_leaf : (P : Process) → 1 ≤ leaves P
some_leaf Nil = omega arith
some_leaf (Output es p us P) = omega arith
some_leaf (Input p xs us P) = omega arith
some_leaf (When g P) = omega arith
some_leaf (Choice P Q) = omega arith
some_leaf (Par P Q) = let l = some_leaf P in omega arith
some_leaf (Call c) = omega arith

leaves_within : (t : Tree) → leaves_in t ≤ leaves (process_in t)
leaves_within (held.Leaf p s) = some_leaf (put s (process_of p.now))
leaves_within (held.Par' b l r) = let m = leaves_within l in let n = leaves_within r in omega arith

-- the tree of a sound component
pub few_in_tree : (ds : List Definition) (C : Component) (t : Tree) → ∥ IsSoundUnder ds C ∥₁ → C.process ≡ process_in t → leaves_in t < 2 ^ 32
few_in_tree ds C t sound is =
    let few = few_leaves ds C sound in let within = leaves_within t in let same = ap leaves is in omega arith
