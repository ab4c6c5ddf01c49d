-- Levels that no arrow leads up show which nodes are on no cycle.
use Rattle.std.proofs.Common.{◌≡◌, ◌⊎◌, ◌≤◌, ◌<◌, ◌-◌, ◌||◌, ℕ, zero, suc, Bool, true, false, not, List, [], ◌∷◌, length, get_or, inl, inr, refl, sym, ◌∙◌, subst, arith, nat_lt}
use Rattle.std.specs.List.{list_any}
use Rattle.std.proofs.lemmas.Bool.Decides.{nat_tests}
use Rattle.abc_checks.specs.Graphs.{Member, Arrow, Path, arrow, arrows, level_of, NoneRises}

not_lt : (m n : ℕ) → nat_lt m n ≡ false → n ≤ m
not_lt m n h = grind (arith, nat_tests)

both_false : (a b : Bool) → (a || b) ≡ false → (a ≡ false) × (b ≡ false)
both_false true b h = absurd cc
both_false false b h = (refl, h)

-- where no node has a level above the bound, each is at most that
pub at_most : (levels : List ℕ) (bound : ℕ) (xs : List ℕ) → list_any (λ j. nat_lt bound (level_of levels j)) xs ≡ false
    → (j : ℕ) → Member j xs → level_of levels j ≤ bound
at_most levels bound [] h j is = absurd is
at_most levels bound (x ∷ xs) h j is =
    let parts = both_false (nat_lt bound (level_of levels x)) (list_any (λ j. nat_lt bound (level_of levels j)) xs) h in
    elim is [
      | inl e ↦ subst (λ (k : ℕ). level_of levels k ≤ bound) e (not_lt bound (level_of levels x) parts.0)
      | inr more ↦ at_most levels bound xs parts.1 j more
    ]

past : (g : List (List ℕ)) (i : ℕ) → length g ≤ i → get_or g i [] ≡ []
past [] i h = refl
past (x ∷ g) zero h = absurd (omega arith)
past (x ∷ g) (suc i) h = past g i (omega arith)

-- none rises where none of the arrows of each node does
pub none_rise : (g : List (List ℕ)) (levels : List ℕ) (n : ℕ) → length g ≤ n
    → ((k : ℕ) → k < n → list_any (λ j. nat_lt (level_of levels k) (level_of levels j)) (get_or g k []) ≡ false) → NoneRises g levels
none_rise g levels n all each i j a =
    let either : (i < n) ⊎ (length g ≤ i) = grind arith in
    elim either [
      | inl lt ↦ at_most levels (level_of levels i) (get_or g i []) (each i lt) j a.1
      | inr le ↦ absurd (subst (λ (xs : List ℕ). Member j xs) (past g i le) a.1)
    ]

module _ (g : List (List ℕ)) (levels : List ℕ) (none : NoneRises g levels) where
  way_falls : {i k : ℕ} → Path g i k → level_of levels k ≤ level_of levels i
  way_falls {i = i} {k = k} (arrow a) = none i k a
  way_falls {i = i} {k = k} (arrows {j = j} a p) = let first = none i j a in let rest = way_falls p in omega arith

  first_falls : (bound : ℕ) {i k : ℕ} → ((j : ℕ) → Arrow g i j → level_of levels j ≤ bound) → Path g i k → level_of levels k ≤ bound
  first_falls bound {k = k} all (arrow a) = all k a
  first_falls bound {k = k} all (arrows {j = j} a p) = let first = all j a in let rest = way_falls p in omega arith

not_true : (b : Bool) → not b ≡ true → b ≡ false
not_true true h = cc
not_true false h = refl

-- a node whose arrows all lead to lower levels is on no cycle
pub off_cycles : (g : List (List ℕ)) (levels : List ℕ) (i level : ℕ) (xs : List ℕ) (b : Bool) → level ≡ level_of levels i → xs ≡ get_or g i [] → 0 < level
    → b ≡ list_any (λ j. nat_lt (level - 1) (level_of levels j)) xs → not b ≡ true → NoneRises g levels → ¬ Path g i i
off_cycles g levels i level xs b is arrows_are up any not_any none p =
    let below : list_any (λ j. nat_lt (level - 1) (level_of levels j)) xs ≡ false = sym any ∙ not_true b not_any in
    let fell : level_of levels i ≤ level - 1 =
    first_falls g levels none (level - 1) (λ j a. at_most levels (level - 1) xs below j (subst (λ (ys : List ℕ). Member j ys) (sym arrows_are) a.1)) p in
    absurd (omega arith)

pub none_rises_alike : (g h : List (List ℕ)) (levels others : List ℕ) → g ≡ h → levels ≡ others → NoneRises h others → NoneRises g levels
none_rises_alike g h levels others eg el none =
    subst (λ (x : List (List ℕ)). NoneRises x levels) (sym eg) (subst (λ (l : List ℕ). NoneRises h l) (sym el) none)
