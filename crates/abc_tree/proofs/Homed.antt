-- The links on which a node of a tree passes a message on: those to the agents that are homed there, as far as a walk over the agents has come,
-- and how many there are in all.
use Rattle.std.proofs.Common.{◌≡◌, ℕ, zero, suc, ◌+◌, ◌-◌, ◌*◌, ◌<◌, ◌≤◌, ◌==◌, Bool, true, false}
use Rattle.std.proofs.Common.{if◌then◌else◌, List, [], ◌∷◌, ◌++◌, length, refl, sym, ap, ◌∙◌, arith, append-nil, append_assoc, length-append}
use Rattle.std.specs.Prelude.{nat_lt}
use Rattle.abc_shape.specs.declared.shape.Shape.TheVariants.{Cluster, Tree}
use Rattle.abc_shape.specs.declared.layout.Layout.{Layout}
use Rattle.abc_shape.specs.Plans.{actor_of, home, home_down}
use Rattle.abc_network.specs.Links.{to_home, from_home, to_parent, from_parent}
use Rattle.abc_network.specs.Trees.{agents_of, parent_of, child_of, tree_outs}
use Rattle.abc_tree.specs.Seats.{LeavesFrom, goes_to}

-- Two tests one in the other are one test of both.
one-test : (b c : Bool) (x : ℕ) (r : List ℕ) →
    (if b then (if c then r else x ∷ r) else r) ≡ (if (if b then (if c then false else true) else false) then x ∷ r else r)
one-test true true x r = refl
one-test true false x r = refl
one-test false c x r = refl

-- The links from agent i on are that to i, where a message goes on to it, and those from the next on.
agents-one : (p : Layout) (k came i n : ℕ) → i < n →
    agents_of p k came i (n - i)
    ≡ (if goes_to p k came i then from_home i ∷ agents_of p k came (i + 1) (n - (i + 1)) else agents_of p k came (i + 1) (n - (i + 1)))
agents-one p k came i n there =
    let one_more : n - i ≡ suc (n - (i + 1)) = omega arith in
    ap (agents_of p k came i) one_more
    ∙ one-test (home p i == k) (came == to_home i) (from_home i) (agents_of p k came (i + 1) (n - (i + 1)))

-- A message goes on to agent i.
pub agents-taken : (p : Layout) (k came i n : ℕ) (goes : Bool) (links more all : List ℕ) → i < n → goes ≡ goes_to p k came i → goes ≡ true →
    links ++ agents_of p k came i (n - i) ≡ all → more ≡ links ++ (2 * i + 1) ∷ [] →
    more ++ agents_of p k came (i + 1) (n - (i + 1)) ≡ all
agents-taken p k came i n goes links more all there is true_so were push =
    let rest = agents_of p k came (i + 1) (n - (i + 1)) in
    let test : goes_to p k came i ≡ true = sym is ∙ true_so in
    let now : agents_of p k came i (n - i) ≡ from_home i ∷ rest =
    agents-one p k came i n there ∙ ap (λ b. if b then from_home i ∷ rest else rest) test in
    ap (λ l. l ++ rest) push ∙ append_assoc links (from_home i ∷ []) rest ∙ sym (ap (λ l. links ++ l) now) ∙ were

-- A message does not go on to it.
pub agents-skipped : (p : Layout) (k came i n : ℕ) (goes : Bool) (links all : List ℕ) → i < n → goes ≡ goes_to p k came i → goes ≡ false →
    links ++ agents_of p k came i (n - i) ≡ all → links ++ agents_of p k came (i + 1) (n - (i + 1)) ≡ all
agents-skipped p k came i n goes links all there is false_so were =
    let rest = agents_of p k came (i + 1) (n - (i + 1)) in
    let test : goes_to p k came i ≡ false = sym is ∙ false_so in
    let now : agents_of p k came i (n - i) ≡ rest =
    agents-one p k came i n there ∙ ap (λ b. if b then from_home i ∷ rest else rest) test in
    sym (ap (λ l. links ++ l) now) ∙ were

-- At first all are left,
pub agents-first : (p : Layout) (k came n : ℕ) → agents_of p k came 0 (n - 0) ≡ agents_of p k came 0 n
agents-first p k came n = let e : n - 0 ≡ n = omega arith in ap (agents_of p k came 0) e

-- and at the end none.
pub agents-last : (p : Layout) (k came i n : ℕ) (links all : List ℕ) → n ≤ i → links ++ agents_of p k came i (n - i) ≡ all → links ≡ all
agents-last p k came i n links all past were =
    let none : n - i ≡ 0 = omega arith in
    sym (append-nil links) ∙ sym (ap (λ c. links ++ agents_of p k came i c) none) ∙ were

-- The link to an agent homed at a node leads from that node.
pub leaves-homed : (p : Layout) (k i : ℕ) → p.shape ≡ Tree → i < p.agents → home p i ≡ k → LeavesFrom p k (2 * i + 1)
leaves-homed p k i shape there at =
    (i, home_down i (λ e. let two : Tree ≡ Cluster = sym shape ∙ e in cc) there (ap (actor_of p) (sym at)) refl refl)

-- There are no more such links than agents,
one-more_short : (b c : Bool) (x n : ℕ) (r : List ℕ) → length r ≤ n → length (if b then (if c then r else x ∷ r) else r) ≤ suc n
one-more_short true true x n r short = omega arith
one-more_short true false x n r short = omega arith
one-more_short false c x n r short = omega arith

agents-short : (p : Layout) (k came i count : ℕ) → length (agents_of p k came i count) ≤ count
agents-short p k came i zero = omega arith
agents-short p k came i (suc count) =
    one-more_short (home p i == k) (came == to_home i) (from_home i) count (agents_of p k came (i + 1) count) (agents-short p k came (i + 1) count)

-- one to the parent at most,
parent-short : (b c : Bool) (x : ℕ) → length (if b then [] else (if c then [] else x ∷ [])) ≤ 1
parent-short true c x = omega arith
parent-short false true x = omega arith
parent-short false false x = omega arith

-- and one to each child.
child-short : (b c : Bool) (x : ℕ) → length (if b then (if c then [] else x ∷ []) else []) ≤ 1
child-short true true x = omega arith
child-short true false x = omega arith
child-short false c x = omega arith

-- So a message goes on on no more links than there are agents, and three.
pub outs-short : (p : Layout) (k sender came : ℕ) → length (tree_outs p k sender came) ≤ p.agents + 3
outs-short p k sender came =
    let agents = agents_of p k came 0 p.agents in
    let parent = parent_of p k came in
    let first = child_of p (2 * k + 1) came in
    let second = child_of p (2 * k + 2) came in
    let a = agents-short p k came 0 p.agents in
    let b = parent-short (k == 0) (came == from_parent p.agents k) (to_parent p.agents k) in
    let c = child-short (nat_lt (2 * k + 1) p.nodes) (came == to_parent p.agents (2 * k + 1)) (from_parent p.agents (2 * k + 1)) in
    let d = child-short (nat_lt (2 * k + 2) p.nodes) (came == to_parent p.agents (2 * k + 2)) (from_parent p.agents (2 * k + 2)) in
    let x = length-append agents (parent ++ (first ++ second)) in
    let y = length-append parent (first ++ second) in
    let z = length-append first second in
    omega arith

-- Links that were added one after the other stand as the table has them.
pub outs-added : (a b c d l m n o : List ℕ) → l ≡ a → m ≡ l ++ b → n ≡ m ++ c → o ≡ n ++ d → o ≡ a ++ (b ++ (c ++ d))
outs-added a b c d l m n o at with_b with_c with_d =
    with_d ∙ ap (λ x. x ++ d) (with_c ∙ ap (λ x. x ++ c) (with_b ∙ ap (λ x. x ++ b) at))
    ∙ append_assoc (a ++ b) c d ∙ append_assoc a b (c ++ d)
