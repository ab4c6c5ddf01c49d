-- What worked runs need of lists and maps that stand there item by item.
use Rattle.std.proofs.Common.{◌≡◌, ℕ, zero, suc, List, [], ◌∷◌, refl, sym, subst, arith, inl}
use Rattle.std.proofs.Common.{inr}
use Rattle.std.specs.Prelude.{Some, None, slice_get, replicate}
use Rattle.std.proofs.lemmas.Bool.{eq-eqb, ne_eqb, cases_eq}
use Rattle.abc_wait.specs.Waits.{item_beside}
use Rattle.abc_network.specs.Stored.{Loses}
use Rattle.abc_network.specs.Networks.{Swaps}
use Rattle.abc_network_laws.specs.Kept.{Each}
use Rattle.abc_network_laws.proofs.Lists.{swap-old}

-- An item in front of a list is lost, where no other has its number.
pub loses-front : {X : Type 0} (k : ℕ) (x : X) (rest : List (ℕ × X)) → item_beside rest k ≡ None →
    Loses ((k, x) ∷ rest) k rest
loses-front k x rest none = record {
  items = λ n. elim (cases_eq n k) [
    | inl e ↦ (let b = eq-eqb n k e in
        let gone = subst (λ v. item_beside rest v ≡ None) (sym e) none in rw b gone)
    | inr e ↦ (let b = ne_eqb n k e in let c = ne_eqb k n (λ s. e (sym s)) in rw (b, c) refl)
  ];
  count = omega arith;
}

-- What each element has, one has.
pub each-get : {X : Type 0} (P : X → Type 0) (xs : List X) (k : ℕ) (x : X) → Each P xs →
    slice_get xs k ≡ Some x → P x
each-get P [] k x h at = absurd (cc)
each-get P (y ∷ xs) zero x h at = let e : y ≡ x = cc in subst P e h.0
each-get P (y ∷ xs) (suc k) x h at = each-get P xs k x h.1 at

-- What all of so many have, each of which is the same.
pub each-same : {X : Type 0} (P : X → Type 0) (n : ℕ) (x : X) → P x → Each P (replicate n x)
each-same P zero x p = tt
each-same P (suc n) x p = (p, each-same P n x p)

-- The one that changes is the one that stood at its place.
pub old-is : {X : Type 0} (i : ℕ) (x y a : X) (xs ys : List X) → Swaps i x y xs ys →
    slice_get xs i ≡ Some a → x ≡ a
old-is i x y a xs ys s at = let e = swap-old i x y xs ys s in cc
