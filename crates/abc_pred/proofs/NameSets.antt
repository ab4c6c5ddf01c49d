-- The set of the names of a list, and where a name stands in it.
use Rattle.std.proofs.Common.{◌≡◌, ℕ, zero, suc, ◌+◌, ◌<◌, ◌≤◌, ◌||◌, Bool, true, false, cond, List, [], ◌∷◌, Result, Ok, Err, IfOk, IfErr, is_ok, refl, ap, sym, subst, arith, ◌∙◌}
use Rattle.std.specs.List.{dedup, dedup_from, list_any}
use Rattle.std.specs.List.Sorted.{IsNonDecreasingBy, IsPermutation}
use Rattle.std.proofs.lemmas.Bool.{eq-eqb, ne_eqb, eqb-false}
use Rattle.std.proofs.lemmas.List.Sorted.{list_any-IsPermutation}
use Rattle.abc_pred.specs.declared.names.Name.{Name}
use Rattle.abc_pred.specs.Maps.{NamesRiseFrom, IsNameSet, lists, same_name}
use Rattle.abc_pred.specs.Places.{StandsAt, FitsAt}
use Rattle.abc_pred.proofs.Shown.{same_name-eq}

pub lists-absent : (low : ℕ) (n : Name) (ms : List Name) → NamesRiseFrom low ms → n.0 < low → lists ms n ≡ false
lists-absent low n [] s h = refl
lists-absent low n (m ∷ ms) s h =
    let a = s.0 in
    rw (ne_eqb m.0 n.0 (omega arith)) (lists-absent (m.0 + 1) n ms s.1 (omega arith))

-- a name that stands in a set is one of it, and one that only fits is none
pub lists-stands : (n : Name) (ms : List Name) (i : ℕ) → StandsAt (λ m. m.0) n.0 ms i → lists ms n ≡ true
lists-stands n [] i h = absurd h
lists-stands n (m ∷ ms) zero h = rw (eq-eqb m.0 n.0 h) refl
lists-stands n (m ∷ ms) (suc i) h = let below = h.0 in rw (ne_eqb m.0 n.0 (omega arith)) (lists-stands n ms i h.1)

pub lists-fits : (low : ℕ) (n : Name) (ms : List Name) (i : ℕ) → NamesRiseFrom low ms → FitsAt (λ m. m.0) n.0 ms i → lists ms n ≡ false
lists-fits low n [] i s h = refl
lists-fits low n (m ∷ ms) zero s h = rw (ne_eqb m.0 n.0 (omega arith)) (lists-absent (m.0 + 1) n ms s.1 (omega arith))
lists-fits low n (m ∷ ms) (suc i) s h = let below = h.0 in rw (ne_eqb m.0 n.0 (omega arith)) (lists-fits (m.0 + 1) n ms i s.1 h.1)

-- so a search tells whether it is one
pub lists-searched : (n : Name) (ms : List Name) (r : Result ℕ ℕ) → IsNameSet ms → IfOk r (StandsAt (λ m. m.0) n.0 ms) → IfErr r (FitsAt (λ m. m.0) n.0 ms) → is_ok r ≡ lists ms n
lists-searched n ms (Ok i) s found absent = sym (lists-stands n ms i found)
lists-searched n ms (Err i) s found absent = sym (lists-fits 0 n ms i s absent)

pub names-lower : (low high : ℕ) (ms : List Name) → low ≤ high → NamesRiseFrom high ms → NamesRiseFrom low ms
names-lower low high [] h s = tt
names-lower low high (m ∷ ms) h s = (let a = s.0 in omega arith, s.1)

-- ---- what a sort and a `dedup` leave
next-rises : (m k : Name) (rest : List Name) (d : Name) → IsNonDecreasingBy (λ n. n.0) (k ∷ m ∷ rest) → k.0 ≤ m.0
next-rises m k rest d h = h 0 1 d (omega arith) (omega arith)

tail-rises : (k : Name) (rest : List Name) → IsNonDecreasingBy (λ n. n.0) (k ∷ rest) → IsNonDecreasingBy (λ n. n.0) rest
tail-rises k rest h i j d a b = h (suc i) (suc j) d (omega arith) (omega (arith, b))

dedup_from-rises : (low : ℕ) (k : Name) (ms : List Name) → low ≤ k.0 → IsNonDecreasingBy (λ n. n.0) (k ∷ ms) → NamesRiseFrom low (dedup_from same_name k ms)
dedup_from-rises low k [] h s = (h, tt)
dedup_from-rises low k (m ∷ ms) h s =
    elim (same_name m k) as (λ b. same_name m k ≡ b → NamesRiseFrom low (cond b (dedup_from same_name k ms) (k ∷ dedup_from same_name m ms))) [
      | true ↦ λ e. dedup_from-rises low k ms h (subst (λ x. IsNonDecreasingBy (λ n. n.0) (x ∷ ms)) (same_name-eq m k e) (tail-rises k (m ∷ ms) s))
      | false ↦ λ e.
          let ne = eqb-false m.0 k.0 e in
          let up = next-rises m k ms k s in
          (h, dedup_from-rises (k.0 + 1) m ms (omega arith) (tail-rises k (m ∷ ms) s))
    ] refl

pub dedup-rises : (ms : List Name) → IsNonDecreasingBy (λ n. n.0) ms → IsNameSet (dedup same_name ms)
dedup-rises [] s = tt
dedup-rises (m ∷ ms) s = dedup_from-rises 0 m ms (omega arith) s

again : (a b : Bool) → (a || b) ≡ (a || (a || b))
again true b = refl
again false b = refl

lists-dedup_from : (k : Name) (ms : List Name) (n : Name) → lists (dedup_from same_name k ms) n ≡ lists (k ∷ ms) n
lists-dedup_from k [] n = refl
lists-dedup_from k (m ∷ ms) n =
    elim (same_name m k) as (λ b. same_name m k ≡ b → lists (cond b (dedup_from same_name k ms) (k ∷ dedup_from same_name m ms)) n ≡ lists (k ∷ m ∷ ms) n) [
      | true ↦ λ e. lists-dedup_from k ms n ∙ again (same_name k n) (lists ms n) ∙ ap (λ x. same_name k n || (same_name x n || lists ms n)) (sym (same_name-eq m k e))
      | false ↦ λ e. ap (λ r. same_name k n || r) (lists-dedup_from m ms n)
    ] refl

pub lists-dedup : (ms : List Name) (n : Name) → lists (dedup same_name ms) n ≡ lists ms n
lists-dedup [] n = refl
lists-dedup (m ∷ ms) n = lists-dedup_from m ms n

lists-any : (ms : List Name) (n : Name) → lists ms n ≡ list_any (λ m. same_name m n) ms
lists-any [] n = refl
lists-any (m ∷ ms) n = ap (λ r. same_name m n || r) (lists-any ms n)

pub lists-IsPermutation : (xs ys : List Name) (n : Name) → IsPermutation xs ys → lists xs n ≡ lists ys n
lists-IsPermutation xs ys n h = lists-any xs n ∙ list_any-IsPermutation (λ m. same_name m n) xs ys h ∙ sym (lists-any ys n)
