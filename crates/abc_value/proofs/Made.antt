-- What a sort and a search give.
use Rattle.std.proofs.Common.{◌≡◌, ℕ, ◌<◌, true, false, List, [], ◌∷◌, length, get_or, ap, sym, subst, ◌∙◌, inl, inr, zero, suc, ◌+◌, add-one, Result, Ok, Err, arith}
use Rattle.std.specs.declared.cmp.Ordering.TheVariants.{Equal}
use Rattle.std.specs.Ordering.{is_lt, ordering_reverse}
use Rattle.std.specs.Result.{is_ok}
use Rattle.std.specs.List.{dedup}
use Rattle.std.specs.List.Retain.{IsFiltered, DiffersFromLast}
use Rattle.std.specs.List.Sorted.{IsPermutation, IsSorted, IsStrictlySortedBy, IsBinarySearchResult, IsSearchInRange}
use Rattle.std.proofs.lemmas.List.Filters.{dedup_is}
use Rattle.std.proofs.lemmas.List.Kept.{IsStrictlySortedBy-dedup, Contains-dedup, Contains-from_dedup}
use Rattle.std.proofs.lemmas.List.Sorted.{Contains-permutation, IsPermutation-sym, searchable_from_sorted}
use Rattle.std.proofs.lemmas.Bool.{false_from_ne_true, cases_lt}
use Rattle.std.specs.Cmp.{IsEquivalence}
use Rattle.abc_value.specs.declared.scalar.Scalar.{Scalar}
use Rattle.abc_value.specs.contracts.scalar.ScalarPartialEq.TheImpl as eq
use Rattle.abc_value.specs.contracts.scalar.ScalarOrd.TheImpl as ord
use Rattle.abc_value.specs.Scalars.{scalar_cmp, scalar_eq}
use Rattle.abc_value.specs.Sets.{Rises, has, set_of}
use Rattle.abc_value.proofs.Compare.{derived-eq, derived-cmp}
use Rattle.abc_value.proofs.Order.{antisymm, cmp_total, ties_all, eq_same, eq_refl, equal_same, cmp_self}
use Rattle.abc_value.proofs.Members.{same_test, same_members, has_at, has_set, rises_set, has_from_contains, contains_from_has}

eq_is : (eq.ghosts).eq ≡ scalar_eq
eq_is = λ i a b. derived-eq a b i

cmp_is : (ord.ghosts).cmp ≡ scalar_cmp
cmp_is = λ i a b. derived-cmp a b i

rises_from_strict : (xs : List Scalar) → IsStrictlySortedBy scalar_cmp xs → Rises xs
unfolding IsStrictlySortedBy
rises_from_strict [] h = tt
rises_from_strict (x ∷ []) h = tt
rises_from_strict (x ∷ (y ∷ ys)) h = (h.0.0, rises_from_strict (y ∷ ys) h.1)

eq_laws : IsEquivalence scalar_eq
eq_laws = record {
  refl = eq_refl;
  symm = λ x y. same_test (scalar_eq x y) (scalar_eq y x) (λ h. ap (λ w. scalar_eq w x) (sym (eq_same x y h)) ∙ eq_refl x) (λ h. ap (λ w. scalar_eq w y) (sym (eq_same y x h)) ∙ eq_refl y);
  congr = λ x y z h. ap (λ w. scalar_eq w z) (eq_same x y h);
}

made : (xs ys zs : List Scalar) → IsPermutation xs ys → IsSorted scalar_cmp ys → IsFiltered (DiffersFromLast scalar_eq) [] ys zs → zs ≡ set_of xs
made xs ys zs moved sorted kept =
    let is : zs ≡ dedup scalar_eq ys = dedup_is scalar_eq ys zs kept in
    let up = rises_from_strict (dedup scalar_eq ys) (IsStrictlySortedBy-dedup cmp_total ties_all ys sorted) in
    is ∙ same_members (dedup scalar_eq ys) (set_of xs) up (rises_set xs)
    (λ x. same_test (has (dedup scalar_eq ys) x) (has (set_of xs) x)
    (λ h. has_set xs x ∙ has_from_contains xs x (Contains-permutation ys xs x (IsPermutation-sym xs ys moved) (Contains-from_dedup scalar_eq ys x (contains_from_has (dedup scalar_eq ys) x h))))
    (λ h. has_from_contains (dedup scalar_eq ys) x (Contains-dedup eq_laws eq_same ys x (Contains-permutation xs ys x moved (contains_from_has xs x (sym (has_set xs x) ∙ h))))))

pub made_set : (xs ys zs : List Scalar) → IsPermutation xs ys → IsSorted (ord.ghosts).cmp ys → IsFiltered (DiffersFromLast (eq.ghosts).eq) [] ys zs → zs ≡ set_of xs
made_set xs ys zs moved sorted kept =
    made xs ys zs moved (subst (λ R. IsSorted R ys) cmp_is sorted) (subst (λ E. IsFiltered (DiffersFromLast E) [] ys zs) eq_is kept)

-- ---- a search of sorted members
less_at : (xs : List Scalar) (k : ℕ) (d : Scalar) → Rises xs → k + 1 < length xs → is_lt (scalar_cmp (get_or xs (suc k) d) (get_or xs k d)) ≡ false
less_at [] k d r h = absurd (omega arith)
less_at (x ∷ []) k d r h = absurd (omega arith)
less_at (x ∷ (y ∷ ys)) zero d r h = ap is_lt (antisymm y x ∙ ap ordering_reverse r.0)
less_at (x ∷ (y ∷ ys)) (suc k) d r h = less_at (y ∷ ys) k d r.1 (omega arith)

found : (xs : List Scalar) (x : Scalar) (r : Result ℕ ℕ) → Rises xs → IsSearchInRange r (length xs) → IsBinarySearchResult (λ y. scalar_cmp y x) xs r → is_ok r ≡ has xs x
found xs x (Ok i) up l h = sym (subst (λ y. has xs y ≡ true) (equal_same (get_or xs i x) x (h x)) (has_at xs i x l))
found xs x (Err i) up l h =
    let part = h (searchable_from_sorted cmp_total (λ y. y) xs x (λ k d low high. rw add-one (less_at xs k d up high))) in
    sym (false_from_ne_true (has xs x) (λ t.
    let c = contains_from_has xs x t in
    let same : scalar_cmp (get_or xs c.0 x) x ≡ Equal = ap (λ w. scalar_cmp w x) c.2 ∙ cmp_self x in
    elim (cases_lt c.0 i) [
      | inl b ↦ let e = part.0 c.0 x (omega arith) b in cc
      | inr b ↦ let e = part.1 c.0 x b c.1 in cc
    ]))

pub searched_members : (xs : List Scalar) (x : Scalar) (r : Result ℕ ℕ) → Rises xs → IsSearchInRange r (length xs) → IsBinarySearchResult (λ y. (ord.ghosts).cmp y x) xs r → is_ok r ≡ has xs x
searched_members xs x r up l h = found xs x r up l (subst (λ R. IsBinarySearchResult (λ y. R y x) xs r) cmp_is h)
