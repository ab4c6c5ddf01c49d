-- Items beside rising numbers.
use Rattle.std.proofs.Common.{inl, inr, ◌≡◌, ℕ, ◌+◌, ◌<◌, ◌≤◌, List, [], ◌∷◌, refl, sym, ap, ◌∙◌, subst, arith}
use Rattle.std.specs.Prelude.{Option, Some, None, IsSome}
use Rattle.std.proofs.lemmas.Bool.{eq-eqb, ne_eqb, cases_eq, cases_order}
use Rattle.abc_wait.specs.Waits.{Waits, item_beside, item_at, RisesFrom, IsInOrder}
use Rattle.abc_wait.specs.Changes.{put}

module _ {T : Type 0} where
  -- the first item is beside its number
  pub item_beside-head : (n k : ℕ) (x : T) (es : List (ℕ × T)) → n ≡ k → item_beside ((n, x) ∷ es) k ≡ Some x
  item_beside-head n k x es e = rw (eq-eqb n k e) refl

  -- beside another number is what the rest has
  pub item_beside-tail : (n k : ℕ) (x : T) (es : List (ℕ × T)) → (n ≡ k → ⊥) → item_beside ((n, x) ∷ es) k ≡ item_beside es k
  item_beside-tail n k x es e = rw (ne_eqb n k e) refl

  -- what was put is under its number
  pub put-same : (m : ℕ → Option T) (number n : ℕ) (o : Option T) → n ≡ number → put m number o n ≡ o
  put-same m number n o e = rw (eq-eqb n number e) refl

  -- all else is as before
  pub put-other : (m : ℕ → Option T) (number n : ℕ) (o : Option T) → (n ≡ number → ⊥) → put m number o n ≡ m n
  put-other m number n o e = rw (ne_eqb n number e) refl

  -- numbers that rise from one on rise from a lower one on
  pub RisesFrom-lower : (m n : ℕ) (es : List (ℕ × T)) → m ≤ n → RisesFrom n es → RisesFrom m es
  RisesFrom-lower m n [] l h = tt
  RisesFrom-lower m n (e ∷ es) l h = (omega (arith, h.0), h.1)

  -- nothing is beside a number before the first
  pub item_beside-before : (n k : ℕ) (es : List (ℕ × T)) → RisesFrom n es → k < n → item_beside es k ≡ None
  item_beside-before n k [] h l = refl
  item_beside-before n k (e ∷ es) h l =
      item_beside-tail e.0 k e.1 es (λ s. omega (arith, h.0)) ∙ item_beside-before (e.0 + 1) k es h.1 (omega (arith, h.0))

  -- the first number of a list is the lowest one under which there is something
  pub first_is_lowest : (n k m : ℕ) (x : T) (es rest : List (ℕ × T)) → es ≡ (m, x) ∷ rest → RisesFrom n es
      → ((i : ℕ) → i < k → item_beside es i ≡ None) → IsSome (item_beside es k) → m ≡ k
  first_is_lowest n k m x es rest e h none some =
      let at = ap (λ (xs : List (ℕ × T)). item_beside xs m) e ∙ item_beside-head m m x rest refl in
      let rises = subst (RisesFrom n) e h in
      elim (cases_order m k) [
        | inl q ↦ q
        | inr (inl l) ↦ let gone = none m l in absurd (cc)
        | inr (inr l) ↦
            let behind = item_beside-before (m + 1) k rest rises.1 (omega arith) in
            let gone = ap (λ (xs : List (ℕ × T)). item_beside xs k) e ∙ (item_beside-tail m k x rest (λ s. omega arith) ∙ behind) in
            let no : IsSome (let o : Option T = None in o) = subst (λ (o : Option T). IsSome o) gone some in absurd (cc)
      ]

  -- taking the first item leaves what all other numbers have
  pub item_beside-rest : (n m k : ℕ) (x : T) (es : List (ℕ × T)) → RisesFrom n ((m, x) ∷ es)
      → item_beside es k ≡ put (item_beside ((m, x) ∷ es)) m None k
  item_beside-rest n m k x es h = elim (cases_eq k m) [
    | inl e ↦ item_beside-before (m + 1) k es h.1 (omega arith) ∙ sym (put-same (item_beside ((m, x) ∷ es)) m k None e)
    | inr d ↦
        sym (item_beside-tail m k x es (λ s. d (sym s))) ∙ sym (put-other (item_beside ((m, x) ∷ es)) m k None d)
  ]

  -- rising lists with the same item beside each number are the same
  pub same_items : (n : ℕ) (ds es : List (ℕ × T)) → RisesFrom n ds → RisesFrom n es → ((k : ℕ) → item_beside ds k ≡ item_beside es k) → ds ≡ es
  same_items n [] [] g h same = refl
  same_items n [] (e ∷ es) g h same = let at = item_beside-head e.0 e.0 e.1 es refl in let s = same e.0 in absurd (cc)
  same_items n (d ∷ ds) [] g h same = let at = item_beside-head d.0 d.0 d.1 ds refl in let s = same d.0 in absurd (cc)
  same_items n (d ∷ ds) (e ∷ es) g h same = elim (cases_order d.0 e.0) [
    | inl q ↦
        let a = item_beside-head d.0 d.0 d.1 ds refl in
        let b = item_beside-head e.0 d.0 e.1 es (sym q) in
        let s = same d.0 in
        let items : d.1 ≡ e.1 = cc in
        let tails = same_tails d e ds es q g.1 h.1 same in
        let rest = same_items (d.0 + 1) ds es g.1 (subst (λ (m : ℕ). RisesFrom (m + 1) es) (sym q) h.1) tails in
        cc
    | inr (inl l) ↦
        let a = item_beside-head d.0 d.0 d.1 ds refl in
        let b = item_beside-before e.0 d.0 (e ∷ es) (let r : e.0 ≤ e.0 = omega arith in (r, h.1)) l in
        let s = same d.0 in absurd (cc)
    | inr (inr l) ↦
        let a = item_beside-head e.0 e.0 e.1 es refl in
        let b = item_beside-before d.0 e.0 (d ∷ ds) (let r : d.0 ≤ d.0 = omega arith in (r, g.1)) l in
        let s = same e.0 in absurd (cc)
  ]
    where
      same_tails : (d e : ℕ × T) (ds es : List (ℕ × T)) → d.0 ≡ e.0 → RisesFrom (d.0 + 1) ds → RisesFrom (e.0 + 1) es
          → ((k : ℕ) → item_beside (d ∷ ds) k ≡ item_beside (e ∷ es) k) → (k : ℕ) → item_beside ds k ≡ item_beside es k
      same_tails d e ds es q g h same k = elim (cases_eq d.0 k) [
        | inl s ↦ item_beside-before (d.0 + 1) k ds g (omega arith) ∙ sym (item_beside-before (e.0 + 1) k es h (omega arith))
        | inr o ↦
            sym (item_beside-tail d.0 k d.1 ds o) ∙ (same k ∙ item_beside-tail e.0 k e.1 es (λ s. o (q ∙ s)))
      ]

  -- wait lists in order with the same first number and the same item under each number are the same
  pub same_waits : (v w : Waits T) → IsInOrder v → IsInOrder w → v.first ≡ w.first → ((n : ℕ) → item_at v n ≡ item_at w n) → v ≡ w
  same_waits v w g h heads items =
      let moved = subst (λ (n : ℕ). RisesFrom n w.items) (sym heads) h in
      let same = same_items v.first v.items w.items g moved items in
      let made : ℕ → List (ℕ × T) → Waits T = λ n es. record { first = n; items = es } in
      ap (λ n. made n v.items) heads ∙ ap (made w.first) same
