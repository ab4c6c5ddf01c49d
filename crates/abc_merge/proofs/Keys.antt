-- Keys of logs: what each says, that each entry has one, and that no two are of one entry.
use Rattle.std.proofs.Common.{◌≡◌, ◌≢◌, ℕ, zero, suc, ◌+◌, ◌<◌, List, [], ◌∷◌, ◌++◌, length}
use Rattle.std.proofs.Common.{refl, sym, ap, ◌∙◌, subst, arith, inl, inr, Bool, true, false}
use Rattle.std.proofs.Common.{◌==◌, ◌&&◌, eq-eqb, ne_eqb, get_or, Contains}
use Rattle.std.specs.List.{IsDistinct, AllByRecursion}
use Rattle.std.proofs.lemmas.Bool.{cases_eq}
use Rattle.abc_merge.specs.Keys.{Key, entry_keys, keys_of}

-- The clocks of an actor; none where there is no such actor.
abbrev pub clocks_at : List (List ℕ) → ℕ → List ℕ
clocks_at [] actor = []
clocks_at (clocks ∷ logs) zero = clocks
clocks_at (clocks ∷ logs) (suc actor) = clocks_at logs actor

-- Two keys are of the same entry.
abbrev pub same_entry : Key → Key → Bool
same_entry x y = (x.1 == y.1) && (x.2 == y.2)

and_false : (b : Bool) → (b && false) ≡ false
and_false true = refl
and_false false = refl

-- Keys of different places, or of different actors, are not of the same entry.
other_place : (x y : Key) → x.2 ≢ y.2 → same_entry x y ≡ false
other_place x y ne = ap (λ b. (x.1 == y.1) && b) (ne_eqb x.2 y.2 ne) ∙ and_false (x.1 == y.1)

other_actor : (x y : Key) → x.1 ≢ y.1 → same_entry x y ≡ false
other_actor x y ne = ap (λ b. b && (x.2 == y.2)) (ne_eqb x.1 y.1 ne)

-- Keys of one actor and one place are.
pub same_place : (x y : Key) → x.1 ≡ y.1 → x.2 ≡ y.2 → same_entry x y ≡ true
same_place x y e f = ap (λ b. b && (x.2 == y.2)) (eq-eqb x.1 y.1 e) ∙ eq-eqb x.2 y.2 f

-- It doesn't matter which of two keys comes first.
pub flips : (x y : Key) → same_entry x y ≡ same_entry y x
flips x y =
    elim (cases_eq x.1 y.1) [
      | inr ne ↦ other_actor x y ne ∙ sym (other_actor y x (λ e. ne (sym e)))
      | inl e ↦ elim (cases_eq x.2 y.2) [
        | inr ne ↦ other_place x y ne ∙ sym (other_place y x (λ e. ne (sym e)))
        | inl f ↦ same_place x y e f ∙ sym (same_place y x (sym e) (sym f))
      ]
    ]

-- What all of two lists have, all of both have.
pub all_append : {X : Type 0} (Q : X → Type 0) (xs ys : List X) → AllByRecursion Q xs →
    AllByRecursion Q ys → AllByRecursion Q (xs ++ ys)
all_append Q [] ys f g = g
all_append Q (x ∷ xs) ys f g = (f.0, all_append Q xs ys f.1 g)

-- What follows for each follows for all.
pub all_map : {X : Type 0} (Q R : X → Type 0) (xs : List X) → ((x : X) → Q x → R x) →
    AllByRecursion Q xs → AllByRecursion R xs
all_map Q R [] f g = tt
all_map Q R (x ∷ xs) f g = (f x g.0, all_map Q R xs f g.1)

-- What all have, each has.
pub all_at : {X : Type 0} (Q : X → Type 0) (xs : List X) (k : ℕ) (d : X) → AllByRecursion Q xs →
    k < length xs → Q (get_or xs k d)
all_at Q [] k d h lt = absurd (omega arith)
all_at Q (x ∷ xs) zero d h lt = h.0
all_at Q (x ∷ xs) (suc k) d h lt = all_at Q xs k d h.1 (omega arith)

-- A key of an earlier place is of no entry from place k on.
later_keys : (c a j k : ℕ) (cs : List ℕ) → j < k →
    AllByRecursion (λ y. same_entry (c, a, j) y ≡ false) (entry_keys a k cs)
later_keys c a j k [] lt = tt
later_keys c a j k (x ∷ cs) lt =
    (other_place (c, a, j) (x, a, k) (λ e. omega (arith, e, lt)), later_keys c a j (suc k) cs (omega arith))

-- A key of an earlier actor is of no entry of a later one,
far_keys : (c a k b i : ℕ) (cs : List ℕ) → a < b →
    AllByRecursion (λ y. same_entry (c, a, k) y ≡ false) (entry_keys b i cs)
far_keys c a k b i [] lt = tt
far_keys c a k b i (x ∷ cs) lt =
    (other_actor (c, a, k) (x, b, i) (λ e. omega (arith, e, lt)), far_keys c a k b (suc i) cs lt)

-- nor of all later ones.
farther_keys : (c a k b : ℕ) (logs : List (List ℕ)) → a < b →
    AllByRecursion (λ y. same_entry (c, a, k) y ≡ false) (keys_of b logs)
farther_keys c a k b [] lt = tt
farther_keys c a k b (cs ∷ logs) lt =
    all_append (λ y. same_entry (c, a, k) y ≡ false) (entry_keys b 0 cs) (keys_of (suc b) logs)
    (far_keys c a k b 0 cs lt) (farther_keys c a k (suc b) logs (omega arith))

-- The keys of one actor are of different entries, and so are they with those of later actors.
both_distinct : (a k : ℕ) (cs : List ℕ) (ys : List Key) →
    ((c j : ℕ) → AllByRecursion (λ y. same_entry (c, a, j) y ≡ false) ys) → IsDistinct same_entry ys →
    IsDistinct same_entry (entry_keys a k cs ++ ys)
unfolding IsDistinct
both_distinct a k [] ys f h = h
both_distinct a k (c ∷ cs) ys f h = (
  all_append (λ y. same_entry (c, a, k) y ≡ false) (entry_keys a (suc k) cs) ys
      (later_keys c a k (suc k) cs (omega arith)) (f c k),
  both_distinct a (suc k) cs ys f h,
)

-- No two keys are of the same entry.
pub keys_distinct : (a : ℕ) (logs : List (List ℕ)) → IsDistinct same_entry (keys_of a logs)
unfolding IsDistinct
keys_distinct a [] = tt
keys_distinct a (cs ∷ logs) =
    both_distinct a 0 cs (keys_of (suc a) logs) (λ c j. farther_keys c a j (suc a) logs (omega arith))
    (keys_distinct (suc a) logs)

-- So none stands at two places of a list.
pub distinct_at : (ks : List Key) (i j : ℕ) (d : Key) → IsDistinct same_entry ks → i < j →
    j < length ks → same_entry (get_or ks i d) (get_or ks j d) ≡ false
unfolding IsDistinct
distinct_at [] i j d h lt le = absurd (omega arith)
distinct_at (x ∷ ks) i zero d h lt le = absurd (omega arith)
distinct_at (x ∷ ks) zero (suc j) d h lt le = all_at (λ y. same_entry x y ≡ false) ks j d h.0 (omega arith)
distinct_at (x ∷ ks) (suc i) (suc j) d h lt le = distinct_at ks i j d h.1 (omega arith) (omega arith)

-- A key says the clock at its place of these clocks, which stand from place k on.
abbrev Says : List ℕ → ℕ → ℕ → Key → Type 0
Says cs a k x = (n : ℕ) × (x.1 ≡ a) × (x.2 ≡ k + n) × (n < length cs) × (x.0 ≡ get_or cs n 0)

entry_says : (a k : ℕ) (cs : List ℕ) → AllByRecursion (Says cs a k) (entry_keys a k cs)
entry_says a k [] = tt
entry_says a k (c ∷ cs) = (
  (0, refl, omega arith, omega arith, refl),
  all_map (Says cs a (suc k)) (Says (c ∷ cs) a k) (entry_keys a (suc k) cs)
      (λ x h. let e = h.2 in let l = h.3 in (suc h.0, h.1, omega (arith, e), omega (arith, l), h.4))
      (entry_says a (suc k) cs),
)

-- A key says the clock at its place of its actor's log.
abbrev pub Tells : List (List ℕ) → ℕ → Key → Type 0
Tells logs a x =
    (b : ℕ) × (x.1 ≡ a + b) × (x.2 < length (clocks_at logs b)) × (x.0 ≡ get_or (clocks_at logs b) x.2 0)

pub keys_tell : (a : ℕ) (logs : List (List ℕ)) → AllByRecursion (Tells logs a) (keys_of a logs)
keys_tell a [] = tt
keys_tell a (cs ∷ logs) =
    all_append (Tells (cs ∷ logs) a) (entry_keys a 0 cs) (keys_of (suc a) logs)
    (all_map (Says cs a 0) (Tells (cs ∷ logs) a) (entry_keys a 0 cs)
    (λ x h.
    let e : x.2 ≡ 0 + h.0 = h.2 in
    let same : h.0 ≡ x.2 = omega (arith, e) in
    let at = h.1 in
    (0, omega (arith, at), subst (λ n. n < length cs) same h.3, subst (λ n. x.0 ≡ get_or cs n 0) same h.4))
    (entry_says a 0 cs))
    (all_map (Tells logs (suc a)) (Tells (cs ∷ logs) a) (keys_of (suc a) logs)
    (λ x h. let e = h.1 in (suc h.0, omega (arith, e), h.2, h.3)) (keys_tell (suc a) logs))

here : (x : Key) (xs : List Key) → Contains (x ∷ xs) x
here x xs = (0, omega arith, refl)

there : (x y : Key) (xs : List Key) → Contains xs y → Contains (x ∷ xs) y
there x y xs h = let l = h.1 in (suc h.0, omega (arith, l), h.2)

to_left : (xs ys : List Key) (x : Key) → Contains xs x → Contains (xs ++ ys) x
to_left [] ys x h = let l = h.1 in absurd (omega (arith, l))
to_left (y ∷ xs) ys x (zero, l, e) = (0, omega arith, e)
to_left (y ∷ xs) ys x (suc k, l, e) = there y x (xs ++ ys) (to_left xs ys x (k, omega (arith, l), e))

to_right : (xs ys : List Key) (x : Key) → Contains ys x → Contains (xs ++ ys) x
to_right [] ys x h = h
to_right (y ∷ xs) ys x h = there y x (xs ++ ys) (to_right xs ys x h)

-- Each entry of an actor has a key,
entry_has : (a i : ℕ) (cs : List ℕ) (k : ℕ) → k < length cs →
    Contains (entry_keys a i cs) (get_or cs k 0, a, i + k)
entry_has a i [] k lt = absurd (omega arith)
entry_has a i (c ∷ cs) zero lt =
    let e : i ≡ i + 0 = omega arith in
    subst (λ j. Contains (entry_keys a i (c ∷ cs)) (c, a, j)) e (here (c, a, i) (entry_keys a (suc i) cs))
entry_has a i (c ∷ cs) (suc k) lt =
    let e : suc i + k ≡ i + suc k = omega arith in
    subst (λ j. Contains (entry_keys a i (c ∷ cs)) (get_or cs k 0, a, j)) e
    (there (c, a, i) (get_or cs k 0, a, suc i + k) (entry_keys a (suc i) cs)
    (entry_has a (suc i) cs k (omega arith)))

-- and so each entry of all.
pub keys_have : (a : ℕ) (logs : List (List ℕ)) (b k : ℕ) → k < length (clocks_at logs b) →
    Contains (keys_of a logs) (get_or (clocks_at logs b) k 0, a + b, k)
keys_have a [] b k lt = absurd (omega arith)
keys_have a (cs ∷ logs) zero k lt =
    let e : a ≡ a + 0 = omega arith in
    let f : 0 + k ≡ k = omega arith in
    subst (λ j. Contains (keys_of a (cs ∷ logs)) (get_or cs k 0, j, k)) e
    (to_left (entry_keys a 0 cs) (keys_of (suc a) logs) (get_or cs k 0, a, k)
    (subst (λ j. Contains (entry_keys a 0 cs) (get_or cs k 0, a, j)) f (entry_has a 0 cs k lt)))
keys_have a (cs ∷ logs) (suc b) k lt =
    let e : suc a + b ≡ a + suc b = omega arith in
    subst (λ j. Contains (keys_of a (cs ∷ logs)) (get_or (clocks_at logs b) k 0, j, k)) e
    (to_right (entry_keys a 0 cs) (keys_of (suc a) logs) (get_or (clocks_at logs b) k 0, suc a + b, k)
    (keys_have (suc a) logs b k lt))
