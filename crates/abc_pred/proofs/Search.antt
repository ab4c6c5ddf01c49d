-- What a binary search finds among items that strictly rise by a number of theirs.
use Rattle.std.proofs.Common.{◌≡◌, ℕ, zero, suc, ◌+◌, ◌<◌, ◌≤◌, List, [], ◌∷◌, length, get_or, Result, Ok, Err, IfOk, IfErr, sym, arith}
use Rattle.std.specs.List.Sorted.{IsSearchInRange, IsBinarySearchResult, IsNonDecreasingBy}
use Rattle.std.specs.Ordering.{nat_cmp, ordering_index}
use Rattle.std.proofs.lemmas.Cmp.{ranked}
use Rattle.std.proofs.lemmas.Bool.Decides.{nat_tests}
use Rattle.abc_pred.specs.declared.names.Name.{Name}
use Rattle.abc_pred.specs.Maps.{Entries, RisesFrom, NamesRiseFrom}
use Rattle.abc_pred.specs.Places.{StandsAt, FitsAt}

-- the number at j is no lower than the one at i, asked by comparison with n
ranks_rise : (a b n : ℕ) → a ≤ b → ordering_index (nat_cmp a n) ≤ ordering_index (nat_cmp b n)
ranks_rise a b n h = grind (arith, nat_tests)

module _ {X : Type 0} (key : X → ℕ) where
  -- the numbers strictly rise, from low on
  abbrev pub KeysRiseFrom : ℕ → List X → Type 0
  KeysRiseFrom low [] = Unit {0}
  KeysRiseFrom low (x ∷ xs) = (low ≤ key x) × KeysRiseFrom (key x + 1) xs

  -- none is below low
  at_least : (low : ℕ) (xs : List X) (j : ℕ) (d : X) → KeysRiseFrom low xs → j < length xs → low ≤ key (get_or xs j d)
  at_least low [] j d s h = absurd (omega (arith, h))
  at_least low (x ∷ xs) zero d s h = s.0
  at_least low (x ∷ xs) (suc j) d s h =
      let a : key x + 1 ≤ key (get_or xs j d) = at_least (key x + 1) xs j d s.1 (omega (arith, h)) in
      let b = s.0 in
      omega arith

  -- numbers that strictly rise don't fall
  pub non_decreasing : (low : ℕ) (xs : List X) → KeysRiseFrom low xs → IsNonDecreasingBy key xs
  non_decreasing low [] s i j d h k = absurd (omega (arith, k))
  non_decreasing low (x ∷ xs) s zero zero d h k = omega arith
  non_decreasing low (x ∷ xs) s zero (suc j) d h k =
      let a : key x + 1 ≤ key (get_or xs j d) = at_least (key x + 1) xs j d s.1 (omega (arith, k)) in
      omega arith
  non_decreasing low (x ∷ xs) s (suc i) zero d h k = absurd (omega (arith, h))
  non_decreasing low (x ∷ xs) s (suc i) (suc j) d h k = non_decreasing (key x + 1) xs s.1 i j d (omega (arith, h)) (omega (arith, k))

  -- the item at a place that has the number stands there
  stands : (low n : ℕ) (xs : List X) (i : ℕ) → KeysRiseFrom low xs → i < length xs → ((d : X) → key (get_or xs i d) ≡ n) → StandsAt key n xs i
  stands low n [] i s h e = absurd (omega (arith, h))
  stands low n (x ∷ xs) zero s h e = e x
  stands low n (x ∷ xs) (suc i) s h e =
      let a : key x + 1 ≤ key (get_or xs i x) = at_least (key x + 1) xs i x s.1 (omega (arith, h)) in
      let at : key (get_or xs i x) ≡ n = e x in
      (omega arith, stands (key x + 1) n xs i s.1 (omega (arith, h)) e)

  -- a place with lower numbers before it and higher ones from it on is where the number fits
  fits : (n : ℕ) (xs : List X) (i : ℕ) → i ≤ length xs → ((j : ℕ) (d : X) → j < i → key (get_or xs j d) < n) → ((j : ℕ) (d : X) → i ≤ j → j < length xs → n < key (get_or xs j d)) → FitsAt key n xs i
  fits n [] zero h below above = tt
  fits n [] (suc i) h below above = absurd (omega (arith, h))
  fits n (x ∷ xs) zero h below above = above 0 x (omega arith) (omega arith)
  fits n (x ∷ xs) (suc i) h below above =
      (below 0 x (omega arith), fits n xs i (omega (arith, h)) (λ j d l. below (suc j) d (omega arith)) (λ j d l k. above (suc j) d (omega arith) (omega (arith, k))))

  -- a binary search ends at the number, or where it fits
  module _ (low n : ℕ) (xs : List X) (s : KeysRiseFrom low xs) where
    pub found_by : (r : Result ℕ ℕ) → IsSearchInRange r (length xs) → IsBinarySearchResult (λ x. nat_cmp (key x) n) xs r → IfOk r (StandsAt key n xs)
    found_by (Ok i) h e = stands low n xs i s h (λ d. ranked _ n _ (sym (e d)))
    found_by (Err i) h e = tt

    pub absent_by : (r : Result ℕ ℕ) → IsSearchInRange r (length xs) → IsBinarySearchResult (λ x. nat_cmp (key x) n) xs r → IfErr r (FitsAt key n xs)
    absent_by (Ok i) h e = tt
    absent_by (Err i) h e =
        let parted = e (λ i j d l k. ranks_rise _ _ n (non_decreasing low xs s i j d l k)) in
        fits n xs i h (λ j d l. ranked _ n _ (sym (parted.0 j d (omega arith) l))) (λ j d l k. ranked _ n _ (sym (parted.1 j d l k)))

  -- a place that is found is one of the list's
  pub stands-within : (n : ℕ) (xs : List X) (i : ℕ) → StandsAt key n xs i → i < length xs
  stands-within n [] i h = absurd h
  stands-within n (x ∷ xs) zero h = omega arith
  stands-within n (x ∷ xs) (suc i) h = omega (arith, stands-within n xs i h.1)

  pub fits-within : (n : ℕ) (xs : List X) (i : ℕ) → FitsAt key n xs i → i ≤ length xs
  fits-within n [] zero h = omega arith
  fits-within n [] (suc i) h = absurd h
  fits-within n (x ∷ xs) zero h = omega arith
  fits-within n (x ∷ xs) (suc i) h = omega (arith, fits-within n xs i h.1)

-- maps and sets of names rise
pub map-rises : (low : ℕ) (es : Entries) → RisesFrom low es → KeysRiseFrom (λ e. e.0.0) low es
map-rises low [] s = tt
map-rises low (e ∷ es) s = (s.0, map-rises (e.0.0 + 1) es s.2)

pub names-rise : (low : ℕ) (ms : List Name) → NamesRiseFrom low ms → KeysRiseFrom (λ m. m.0) low ms
names-rise low [] s = tt
names-rise low (m ∷ ms) s = (s.0, names-rise (m.0 + 1) ms s.1)
