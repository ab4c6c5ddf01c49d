-- The place that a turn picks.
use Rattle.std.proofs.Common.{◌≡◌, ◌≢◌, ℕ, ◌<◌, ◌%◌, ◌==◌, Option, Some, None, refl, ap, sym, subst, arith}
use Rattle.std.proofs.lemmas.Bool.{eq-eqb, ne_eqb}
use Rattle.abc_live_body.specs.AbcMeaning.{picked}

-- Where there are places it is one of them,
pub picked_some : (turn count place : ℕ) → 0 < count → place ≡ turn % count → Some place ≡ picked turn count
picked_some turn count place some e =
    let ne : count ≢ 0 = λ z. absurd (omega arith) in
    rw (ne_eqb count 0 ne) (ap Some e)

-- and else none.
pub picked_none : (turn count : ℕ) → count ≡ 0 → None ≡ picked turn count
picked_none turn count none = rw (eq-eqb count 0 none) refl
