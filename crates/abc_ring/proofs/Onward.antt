-- The links along a ring.
use Rattle.std.proofs.Common.{◌≡◌, ◌≢◌, ℕ, ◌+◌, ◌-◌, ◌*◌, ◌%◌, ◌<◌, ◌≤◌, ◌==◌, Bool, true, false, MatchBool, refl, sym, ap, ◌∙◌, arith}
use Rattle.std.proofs.lemmas.Bool.{eqb-true, eq-eqb}
use Rattle.abc_shape.specs.declared.shape.Shape.TheVariants.{Ring}
use Rattle.abc_shape.specs.declared.layout.Layout.{Layout}
use Rattle.abc_shape.specs.Plans.{actor_of, home, successor, along}
use Rattle.abc_ring.specs.Seats.{LeavesFrom, IsFromBefore}

-- A ring in which two nodes differ has several.
several : (n a b : ℕ) → 0 < n → a % n ≢ b % n → 1 < n
several n a b some differ = omega arith

-- Where the successor is not the sender's home, the link to it leads from the node.
pub leaves-along : (p : Layout) (k sender : ℕ) → p.shape ≡ Ring → 0 < p.nodes → k < p.nodes → successor p k ≢ home p sender →
    LeavesFrom p k (2 * p.agents + k)
leaves-along p k sender shape some there differ =
    (actor_of p (successor p k), along k shape (several p.nodes (k + 1) sender some differ) there refl refl refl)

-- A test that is true just where something holds tells whether it does.
by_test : {P : Type 0} (b : Bool) → (b ≡ true → P) → (b ≡ false → P → ⊥) → MatchBool b P (P → ⊥)
by_test true holds fails = holds refl
by_test false holds fails = fails refl

-- A link behind those of the agents comes from the node before this one where that node's successor is this one.
pub before-by_test : (p : Layout) (k l past next : ℕ) → past ≡ 2 * p.agents → past ≤ l → l - past < p.nodes → next ≡ successor p (l - past) →
    MatchBool (next == k) (IsFromBefore p k l) (IsFromBefore p k l → ⊥)
before-by_test p k l past next is behind there at =
    by_test (next == k)
    (λ same. (l - past, there, sym at ∙ eqb-true next k same, omega arith))
    (λ differ (j, known, follows, on).
    let place : l - past ≡ j = omega arith in
    let same : next ≡ k = at ∙ ap (successor p) place ∙ follows in
    let test : (next == k) ≡ true = eq-eqb next k same in
    absurd (cc))
