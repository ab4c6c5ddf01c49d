-- The links to the agents that are homed at a node, as far as a walk over the agents has come.
use Rattle.std.proofs.Common.{◌≡◌, ℕ, zero, suc, ◌+◌, ◌-◌, ◌*◌, ◌<◌, ◌≤◌, ◌==◌, Bool, true, false}
use Rattle.std.proofs.Common.{if◌then◌else◌, List, [], ◌∷◌, ◌++◌, length, refl, sym, ap, ◌∙◌, arith, append-nil, append_assoc, length-append}
use Rattle.abc_shape.specs.declared.shape.Shape.TheVariants.{Ring}
use Rattle.abc_shape.specs.declared.layout.Layout.{Layout}
use Rattle.abc_shape.specs.Plans.{actor_of, home, successor, home_down}
use Rattle.abc_network.specs.Links.{from_home, to_successor}
use Rattle.abc_network.specs.Rings.{homed_from, ring_outs}
use Rattle.abc_ring.specs.Seats.{LeavesFrom, goes_to}

-- Two tests one in the other are one test of both.
one-test : (b c : Bool) (x : ℕ) (r : List ℕ) →
    (if b then r else (if c then x ∷ r else r)) ≡ (if (if b then false else c) then x ∷ r else r)
one-test true c x r = refl
one-test false true x r = refl
one-test false false x r = refl

-- The links from agent i on are that to i, where a message goes on to it, and those from the next on.
homed-one : (p : Layout) (k sender i n : ℕ) → i < n →
    homed_from p k sender i (n - i)
    ≡ (if goes_to p k sender i then from_home i ∷ homed_from p k sender (i + 1) (n - (i + 1)) else homed_from p k sender (i + 1) (n - (i + 1)))
homed-one p k sender i n there =
    let one_more : n - i ≡ suc (n - (i + 1)) = omega arith in
    ap (homed_from p k sender i) one_more
    ∙ one-test (i == sender) (home p i == k) (from_home i) (homed_from p k sender (i + 1) (n - (i + 1)))

-- A message goes on to agent i.
pub homed-taken : (p : Layout) (k sender i n : ℕ) (goes : Bool) (links more all : List ℕ) → i < n → goes ≡ goes_to p k sender i → goes ≡ true →
    links ++ homed_from p k sender i (n - i) ≡ all → more ≡ links ++ (2 * i + 1) ∷ [] →
    more ++ homed_from p k sender (i + 1) (n - (i + 1)) ≡ all
homed-taken p k sender i n goes links more all there is true_so were push =
    let rest = homed_from p k sender (i + 1) (n - (i + 1)) in
    let test : goes_to p k sender i ≡ true = sym is ∙ true_so in
    let now : homed_from p k sender i (n - i) ≡ from_home i ∷ rest =
    homed-one p k sender i n there ∙ ap (λ b. if b then from_home i ∷ rest else rest) test in
    ap (λ l. l ++ rest) push ∙ append_assoc links (from_home i ∷ []) rest ∙ sym (ap (λ l. links ++ l) now) ∙ were

-- A message does not go on to it.
pub homed-skipped : (p : Layout) (k sender i n : ℕ) (goes : Bool) (links all : List ℕ) → i < n → goes ≡ goes_to p k sender i → goes ≡ false →
    links ++ homed_from p k sender i (n - i) ≡ all → links ++ homed_from p k sender (i + 1) (n - (i + 1)) ≡ all
homed-skipped p k sender i n goes links all there is false_so were =
    let rest = homed_from p k sender (i + 1) (n - (i + 1)) in
    let test : goes_to p k sender i ≡ false = sym is ∙ false_so in
    let now : homed_from p k sender i (n - i) ≡ rest =
    homed-one p k sender i n there ∙ ap (λ b. if b then from_home i ∷ rest else rest) test in
    sym (ap (λ l. links ++ l) now) ∙ were

-- At first all are left,
pub homed-first : (p : Layout) (k sender n : ℕ) → homed_from p k sender 0 (n - 0) ≡ homed_from p k sender 0 n
homed-first p k sender n = let e : n - 0 ≡ n = omega arith in ap (homed_from p k sender 0) e

-- and at the end none.
pub homed-last : (p : Layout) (k sender i n : ℕ) (links all : List ℕ) → n ≤ i → links ++ homed_from p k sender i (n - i) ≡ all → links ≡ all
homed-last p k sender i n links all past were =
    let none : n - i ≡ 0 = omega arith in
    sym (append-nil links) ∙ sym (ap (λ c. links ++ homed_from p k sender i c) none) ∙ were

-- The link to an agent homed at a node leads from that node.
pub leaves-homed : (p : Layout) (k i : ℕ) → p.shape ≡ Ring → i < p.agents → home p i ≡ k → LeavesFrom p k (2 * i + 1)
leaves-homed p k i shape there at = (i, home_down i (λ e. cc) there (ap (actor_of p) (sym at)) refl refl)

-- There are no more such links than agents.
one-more_short : (b c : Bool) (x n : ℕ) (r : List ℕ) → length r ≤ n → length (if b then r else (if c then x ∷ r else r)) ≤ suc n
one-more_short true c x n r short = omega arith
one-more_short false true x n r short = omega arith
one-more_short false false x n r short = omega arith

homed-short : (p : Layout) (k sender i count : ℕ) → length (homed_from p k sender i count) ≤ count
homed-short p k sender i zero = omega arith
homed-short p k sender i (suc count) =
    one-more_short (i == sender) (home p i == k) (from_home i) count (homed_from p k sender (i + 1) count)
    (homed-short p k sender (i + 1) count)

-- So a message goes on on no more links than there are agents, and one.
last-short : (b : Bool) (x : ℕ) → length (if b then [] else x ∷ []) ≤ 1
last-short true x = omega arith
last-short false x = omega arith

pub outs-short : (p : Layout) (k sender came : ℕ) → length (ring_outs p k sender came) ≤ p.agents + 1
outs-short p k sender came =
    let along = if successor p k == home p sender then [] else to_successor p.agents k ∷ [] in
    let homed = homed-short p k sender 0 p.agents in
    let last = last-short (successor p k == home p sender) (to_successor p.agents k) in
    let both = length-append (homed_from p k sender 0 p.agents) along in
    omega arith
