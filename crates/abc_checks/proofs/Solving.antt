-- Widths and breadths: raised tables come to the least solution.
use Rattle.std.proofs.Common.{◌≡◌, ◌≢◌, ◌⊎◌, ◌≤◌, ◌<◌, ◌+◌, ◌-◌, ℕ, zero, suc, Bool, true, false, List, [], ◌∷◌, length, get_or, set, min, max, refl, sym, ◌∙◌, ap, subst, inl, inr, arith, if◌then◌else◌, get_or-set_other, get_or-set_same, replicate, slice_get, Some, None}
use Rattle.std.proofs.lemmas.List.{length-set, length-map, length-replicate}
use Rattle.std.proofs.lemmas.List.Sums.{sum_by-set}
use Rattle.abc_pred.specs.declared.names.Name.{Name}
use Rattle.abc_pred.specs.Maps.{same_name}
use Rattle.abc_term.specs.declared.terms.Definition.{Definition}
use Rattle.abc_term.specs.Processes.{Process, Nil, Output, Input, When, Choice, Par, Call, body_of}
use Rattle.abc_term.specs.Standing.{process_of, definitions_of}
use Rattle.abc_checks.specs.Parts.{place_of}
use Rattle.abc_checks.specs.Measures.{width_of, breadth_of, IsLeastSolution}
use Rattle.abc_checks.specs.Tables.{measure_of, cap_of, number_of, bodies, room, IsEnough, IsRising, IsSettledAt}
use Rattle.abc_checks.specs.declared.measures.Measure.{Measure}
use Rattle.abc_checks.specs.declared.measures.Measure.TheVariants.{Width, Breadth}

-- ---- What a measure is: it rises with the numbers of calls, is from 1 up and has a cap

abbrev Below : (Name → ℕ) → (Name → ℕ) → Type 0
Below v w = (c : Name) → v c ≤ w c

max_rises : (a b c d : ℕ) → a ≤ b → c ≤ d → max a c ≤ max b d
max_rises a b c d h k = omega arith

min_rises : (a b m : ℕ) → a ≤ b → min a m ≤ min b m
min_rises a b m h = omega arith

pub width_rises : (v w : Name → ℕ) → Below v w → (P : Process) → width_of v P ≤ width_of w P
width_rises v w h Nil = omega arith
width_rises v w h (Output es p us P) = width_rises v w h P
width_rises v w h (Input p xs us P) = width_rises v w h P
width_rises v w h (When g P) = width_rises v w h P
width_rises v w h (Choice P Q) = max_rises _ _ _ _ (width_rises v w h P) (width_rises v w h Q)
width_rises v w h (Par P Q) = omega (arith, width_rises v w h P, width_rises v w h Q)
width_rises v w h (Call c) = omega (arith, h c)

width_from_one : (v : Name → ℕ) → ((c : Name) → 1 ≤ v c) → (P : Process) → 1 ≤ width_of v P
width_from_one v h Nil = omega arith
width_from_one v h (Output es p us P) = width_from_one v h P
width_from_one v h (Input p xs us P) = width_from_one v h P
width_from_one v h (When g P) = width_from_one v h P
width_from_one v h (Choice P Q) = omega (arith, width_from_one v h P, width_from_one v h Q)
width_from_one v h (Par P Q) = omega (arith, width_from_one v h P, width_from_one v h Q)
width_from_one v h (Call c) = omega (arith, h c)

width_capped : (v : Name → ℕ) (P : Process) → width_of v P ≤ 65
width_capped v Nil = omega arith
width_capped v (Output es p us P) = width_capped v P
width_capped v (Input p xs us P) = width_capped v P
width_capped v (When g P) = width_capped v P
width_capped v (Choice P Q) = omega (arith, width_capped v P, width_capped v Q)
width_capped v (Par P Q) = omega arith
width_capped v (Call c) = omega arith

breadth_rises : (v w : Name → ℕ) → Below v w → (P : Process) → breadth_of v P ≤ breadth_of w P
breadth_rises v w h Nil = omega arith
breadth_rises v w h (Output es p us P) = omega arith
breadth_rises v w h (Input p xs us P) = omega arith
breadth_rises v w h (When g P) = omega (arith, breadth_rises v w h P)
breadth_rises v w h (Choice P Q) = omega (arith, breadth_rises v w h P, breadth_rises v w h Q)
breadth_rises v w h (Par P Q) = omega (arith, breadth_rises v w h P, breadth_rises v w h Q)
breadth_rises v w h (Call c) = omega (arith, h c)

breadth_from_one : (v : Name → ℕ) → ((c : Name) → 1 ≤ v c) → (P : Process) → 1 ≤ breadth_of v P
breadth_from_one v h Nil = omega arith
breadth_from_one v h (Output es p us P) = omega arith
breadth_from_one v h (Input p xs us P) = omega arith
breadth_from_one v h (When g P) = omega arith
breadth_from_one v h (Choice P Q) = omega arith
breadth_from_one v h (Par P Q) = omega arith
breadth_from_one v h (Call c) = omega arith

breadth_capped : (v : Name → ℕ) (P : Process) → breadth_of v P ≤ 2049
breadth_capped v Nil = omega arith
breadth_capped v (Output es p us P) = omega arith
breadth_capped v (Input p xs us P) = omega arith
breadth_capped v (When g P) = omega arith
breadth_capped v (Choice P Q) = omega arith
breadth_capped v (Par P Q) = omega arith
breadth_capped v (Call c) = omega arith

pub rises : (m : Measure) (v w : Name → ℕ) → Below v w → (P : Process) → measure_of m v P ≤ measure_of m w P
rises Width v w h P = width_rises v w h P
rises Breadth v w h P = breadth_rises v w h P

pub from_one : (m : Measure) (v : Name → ℕ) → ((c : Name) → 1 ≤ v c) → (P : Process) → 1 ≤ measure_of m v P
from_one Width v h P = width_from_one v h P
from_one Breadth v h P = breadth_from_one v h P

pub capped : (m : Measure) (v : Name → ℕ) (P : Process) → measure_of m v P ≤ cap_of m
capped Width v P = width_capped v P
capped Breadth v P = breadth_capped v P

-- ---- What stands at the place of a name

picked : (b : Bool) (P Q : Process) (xs : List Process) (p : ℕ) → get_or xs p Nil ≡ Q → get_or (P ∷ xs) (if b then 0 else suc p) Nil ≡ (if b then P else Q)
picked true P Q xs p h = refl
picked false P Q xs p h = h

pub body_at_place : (ds : List Definition) (c : Name) → get_or (bodies ds) (place_of (definitions_of ds) c) Nil ≡ body_of (definitions_of ds) c
body_at_place [] c = refl
body_at_place (d ∷ ds) c = picked (same_name d.name c) (process_of d.body) (body_of (definitions_of ds) c) (bodies ds) (place_of (definitions_of ds) c) (body_at_place ds c)

-- ---- One number is raised

equal_or_not : (i j : ℕ) → (i ≡ j) ⊎ (i ≢ j)
equal_or_not i j = grind arith

module _ (m : Measure) (ds : List Definition) where
  abbrev asked : List ℕ → ℕ → ℕ
  asked t at = measure_of m (number_of ds t) (get_or (bodies ds) at Nil)

  raised_number : (t : List ℕ) (at n i : ℕ) → at < length t → (i ≡ at → 1 ≤ n) → (1 ≤ get_or t i 1) → 1 ≤ get_or (set t at n) i 1
  raised_number t at n i lt one old =
      elim (equal_or_not i at) [
        | inl e ↦ subst (λ (k : ℕ). 1 ≤ get_or (set t at n) k 1) (sym e) (subst (λ (k : ℕ). 1 ≤ k) (sym (get_or-set_same t at n 1 lt)) (one e))
        | inr ne ↦ subst (λ (k : ℕ). 1 ≤ k) (sym (get_or-set_other t at i n 1 ne)) old
      ]

  raised_under : (t : List ℕ) (at : ℕ) (v : Name → ℕ) → at < length t → IsEnough (measure_of m) ds v → Below (number_of ds t) v → Below (number_of ds (set t at (asked t at))) v
  raised_under t at v lt enough under c =
      elim (equal_or_not (place_of (definitions_of ds) c) at) [
        | inl e ↦
            let now : get_or (set t at (asked t at)) (place_of (definitions_of ds) c) 1 ≡ asked t at =
            ap (λ (k : ℕ). get_or (set t at (asked t at)) k 1) e ∙ get_or-set_same t at (asked t at) 1 lt in
            let body : get_or (bodies ds) at Nil ≡ body_of (definitions_of ds) c =
            ap (λ (k : ℕ). get_or (bodies ds) k Nil) (sym e) ∙ body_at_place ds c in
            let less : asked t at ≤ measure_of m v (get_or (bodies ds) at Nil) = rises m (number_of ds t) v under (get_or (bodies ds) at Nil) in
            let covered : measure_of m v (get_or (bodies ds) at Nil) ≤ v c = subst (λ (P : Process). measure_of m v P ≤ v c) (sym body) (enough.covers c) in
            omega (arith, now, less, covered)
        | inr ne ↦ subst (λ (k : ℕ). k ≤ v c) (sym (get_or-set_other t at (place_of (definitions_of ds) c) (asked t at) 1 ne)) (under c)
      ]

  pub rising_on : (t : List ℕ) (at : ℕ) → at < length t → IsRising (measure_of m) ds t → IsRising (measure_of m) ds (set t at (asked t at))
  rising_on t at lt up = record {
    size = length-set t at (asked t at) ∙ up.size;
    from_one = λ i. raised_number t at (asked t at) i lt (λ e. from_one m (number_of ds t) (λ c. up.from_one (place_of (definitions_of ds) c)) (get_or (bodies ds) at Nil)) (up.from_one i);
    under = λ v enough. raised_under t at v lt enough (up.under v enough);
  }

  pub room_falls : (t : List ℕ) (at : ℕ) → at < length t → get_or t at 1 < asked t at → room (cap_of m) (set t at (asked t at)) < room (cap_of m) t
  room_falls t at lt more =
      let moved : room (cap_of m) (set t at (asked t at)) + (cap_of m - get_or t at 1) ≡ room (cap_of m) t + (cap_of m - asked t at) =
      sum_by-set (λ n. cap_of m - n) t at (asked t at) 1 lt in
      let top : asked t at ≤ cap_of m = capped m (number_of ds t) (get_or (bodies ds) at Nil) in
      omega (arith, moved, top, more)

  -- ---- At the start and at the end

  all_same : (n i k : ℕ) → get_or (replicate n k) i k ≡ k
  all_same zero i k = refl
  all_same (suc n) zero k = refl
  all_same (suc n) (suc i) k = all_same n i k

  pub rising_from : (t : List ℕ) → t ≡ replicate (length ds) 1 → IsRising (measure_of m) ds t
  rising_from t e = record {
    size = ap length e ∙ length-replicate (length ds) 1;
    from_one = λ i. let one : get_or t i 1 ≡ 1 = ap (λ (s : List ℕ). get_or s i 1) e ∙ all_same (length ds) i 1 in omega (arith, one);
    under = λ v enough c.
        let one : number_of ds t c ≡ 1 = ap (λ (s : List ℕ). number_of ds s c) e ∙ all_same (length ds) (place_of (definitions_of ds) c) 1 in
        omega (arith, one, enough.from_one c);
  }

  past : (xs : List Process) (i : ℕ) → length xs ≤ i → get_or xs i Nil ≡ Nil
  past [] i h = refl
  past (x ∷ xs) zero h = absurd (omega arith)
  past (x ∷ xs) (suc i) h = past xs i (omega arith)

  nil_is_one : (k : Measure) (v : Name → ℕ) → measure_of k v Nil ≡ 1
  nil_is_one Width v = refl
  nil_is_one Breadth v = refl

  settled_anywhere : (t : List ℕ) → IsRising (measure_of m) ds t → ((i : ℕ) → i < length ds → IsSettledAt (measure_of m) ds t i) → (i : ℕ) → IsSettledAt (measure_of m) ds t i
  settled_anywhere t up settled i =
      let either : (i < length ds) ⊎ (length ds ≤ i) = grind arith in
      elim either [
        | inl lt ↦ settled i lt
        | inr le ↦
            let count : length (bodies ds) ≡ length ds = length-map ds (λ (d : Definition). process_of d.body) in
            let none : get_or (bodies ds) i Nil ≡ Nil = past (bodies ds) i (omega (arith, count)) in
            let one : asked t i ≡ 1 = ap (λ (P : Process). measure_of m (number_of ds t) P) none ∙ nil_is_one m (number_of ds t) in
            omega (arith, one, up.from_one i)
      ]

  pub solved : (t : List ℕ) → IsRising (measure_of m) ds t → ((i : ℕ) → i < length ds → IsSettledAt (measure_of m) ds t i)
      → IsLeastSolution (measure_of m) (definitions_of ds) (number_of ds t)
  solved t up settled =
      let w : Name → ℕ = number_of ds t in
      let next : Name → ℕ = λ c. measure_of m w (body_of (definitions_of ds) c) in
      let positive : (c : Name) → 1 ≤ w c = λ c. up.from_one (place_of (definitions_of ds) c) in
      let covers : (c : Name) → next c ≤ w c =
      λ c. subst (λ (P : Process). measure_of m w P ≤ w c) (body_at_place ds c) (settled_anywhere t up settled (place_of (definitions_of ds) c)) in
      let enough : IsEnough (measure_of m) ds next = record {
        from_one = λ c. from_one m w positive (body_of (definitions_of ds) c);
        covers = λ c. rises m next w covers (body_of (definitions_of ds) c);
      } in
      let reached : (c : Name) → w c ≤ next c = λ c. up.under next enough c in
      record {
        solution = record { from_one = positive; solves = λ c. omega (arith, covers c, reached c) };
        least = λ v sol c. up.under v (record { from_one = sol.from_one; covers = λ d. omega (arith, sol.solves d) }) c;
      }

-- ---- For the code

pub body_found : (ds : List Definition) (at : ℕ) (d : Definition) → slice_get ds at ≡ Some d → get_or (bodies ds) at Nil ≡ process_of d.body
body_found [] at d h = cc
body_found (e ∷ ds) zero d h = let same : e ≡ d = cc in ap (λ (x : Definition). process_of x.body) same
body_found (e ∷ ds) (suc at) d h = body_found ds at d h

pub body_missing : (ds : List Definition) (at : ℕ) → slice_get ds at ≡ None → get_or (bodies ds) at Nil ≡ Nil
body_missing [] at h = refl
body_missing (e ∷ ds) zero h = cc
body_missing (e ∷ ds) (suc at) h = body_missing ds at h

pub default_number : (t : List ℕ) (i a b : ℕ) → i < length t → get_or t i a ≡ get_or t i b
default_number [] i a b h = absurd (omega arith)
default_number (x ∷ t) zero a b h = refl
default_number (x ∷ t) (suc i) a b h = default_number t i a b (omega arith)

pub nil_asks_one : (k : Measure) (v : Name → ℕ) → 1 ≡ measure_of k v Nil
nil_asks_one Width v = refl
nil_asks_one Breadth v = refl
