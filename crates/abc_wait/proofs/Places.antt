-- The items of a window's places.
use Rattle.std.proofs.Common.{inl, inr, ◌≡◌, ℕ, zero, suc, ◌+◌, ◌-◌, ◌<◌, ◌≤◌, List, [], ◌∷◌, ◌++◌, length, get_or, refl, sym, ap, ◌∙◌, subst, arith}
use Rattle.std.specs.Prelude.{Option, Some, None, replicate}
use Rattle.std.proofs.Math.ListN.{set}
use Rattle.std.proofs.lemmas.Bool.{cases_eq, cases_lt}
use Rattle.std.proofs.lemmas.List.{get_or-set_same, get_or-set_other, get_or_default, get_or_past}
use Rattle.abc_wait.specs.Waits.{Waits, item_beside, RisesFrom, IsInOrder}
use Rattle.abc_wait.specs.Changes.{put}
use Rattle.abc_wait.specs.Windows.{items_from}
use Rattle.abc_wait.proofs.Items.{item_beside-head, item_beside-tail, item_beside-before, put-same, put-other, RisesFrom-lower}

module _ {T : Type 0} where
  -- the numbers of a window's items rise from its first number on
  pub RisesFrom-items_from : (n : ℕ) (ps : List (Option T)) → RisesFrom n (items_from n ps)
  RisesFrom-items_from n [] = tt
  RisesFrom-items_from n (None ∷ ps) = RisesFrom-lower n (n + 1) (items_from (n + 1) ps) (omega arith) (RisesFrom-items_from (n + 1) ps)
  RisesFrom-items_from n (Some x ∷ ps) = (omega arith, RisesFrom-items_from (n + 1) ps)

  -- before the window there is nothing
  pub before_window : (n k : ℕ) (ps : List (Option T)) → k < n → item_beside (items_from n ps) k ≡ None
  before_window n k ps l = item_beside-before n k (items_from n ps) (RisesFrom-items_from n ps) l

  -- beside the number of a place stands what is in the place
  pub at_place : (n i : ℕ) (ps : List (Option T)) → item_beside (items_from n ps) (n + i) ≡ get_or ps i None
  at_place n i [] = refl
  at_place n zero (None ∷ ps) = before_window (n + 1) (n + 0) ps (omega arith)
  at_place n (suc i) (None ∷ ps) =
      let e : n + suc i ≡ n + 1 + i = omega arith in ap (item_beside (items_from (n + 1) ps)) e ∙ at_place (n + 1) i ps
  at_place n zero (Some x ∷ ps) = item_beside-head n (n + 0) x (items_from (n + 1) ps) (omega arith)
  at_place n (suc i) (Some x ∷ ps) =
      let e : n + suc i ≡ n + 1 + i = omega arith in
      item_beside-tail n (n + suc i) x (items_from (n + 1) ps) (λ s. omega arith)
      ∙ (ap (item_beside (items_from (n + 1) ps)) e ∙ at_place (n + 1) i ps)

  -- the same by the number
  pub in_window : (n k : ℕ) (ps : List (Option T)) → n ≤ k → item_beside (items_from n ps) k ≡ get_or ps (k - n) None
  in_window n k ps l = let e : k ≡ n + (k - n) = omega arith in ap (item_beside (items_from n ps)) e ∙ at_place n (k - n) ps

  -- what is read in a place is the item of its number
  pub item_beside-read : (n k : ℕ) (ps : List (Option T)) (o : Option T) → n ≤ k → k - n < length ps → o ≡ get_or ps (k - n) o
      → o ≡ item_beside (items_from n ps) k
  item_beside-read n k ps o l w e = e ∙ (get_or_default ps (k - n) o None w ∙ sym (in_window n k ps l))

  -- behind the window there is nothing
  pub behind_window : (n k : ℕ) (ps : List (Option T)) → n ≤ k → length ps ≤ k - n → item_beside (items_from n ps) k ≡ None
  behind_window n k ps l w = in_window n k ps l ∙ get_or_past ps (k - n) None w

  -- empty places have no items
  items_from-empty : (n m : ℕ) → items_from n (replicate m (let o : Option T = None in o)) ≡ []
  items_from-empty n zero = refl
  items_from-empty n (suc m) = items_from-empty (n + 1) m

  -- empty places at the end change nothing
  pub items_from-widened : (n m : ℕ) (ps : List (Option T)) → items_from n (ps ++ replicate m None) ≡ items_from n ps
  items_from-widened n m [] = items_from-empty n m
  items_from-widened n m (None ∷ ps) = items_from-widened (n + 1) m ps
  items_from-widened n m (Some x ∷ ps) = ap (λ es. (n, x) ∷ es) (items_from-widened (n + 1) m ps)

  -- filling an empty place adds one item
  pub length-items_from-set : (n i : ℕ) (ps : List (Option T)) (x : T) → i < length ps → get_or ps i None ≡ None
      → length (items_from n (set ps i (Some x))) ≡ length (items_from n ps) + 1
  length-items_from-set n i [] x l e = omega arith
  length-items_from-set n zero (None ∷ ps) x l e = omega arith
  length-items_from-set n zero (Some y ∷ ps) x l e = absurd (cc)
  length-items_from-set n (suc i) (None ∷ ps) x l e = length-items_from-set (n + 1) i ps x (omega arith) e
  length-items_from-set n (suc i) (Some y ∷ ps) x l e = let h = length-items_from-set (n + 1) i ps x (omega arith) e in omega arith

  -- filling a place puts the item under the place's number
  pub item_beside-set : (n i k : ℕ) (ps : List (Option T)) (x : T) → i < length ps
      → item_beside (items_from n (set ps i (Some x))) k ≡ put (item_beside (items_from n ps)) (n + i) (Some x) k
  item_beside-set n i k ps x w =
      let old = item_beside (items_from n ps) in
      let places = set ps i (Some x) in
      elim (cases_eq k (n + i)) [
        | inl e ↦
            ap (item_beside (items_from n places)) e
            ∙ (at_place n i places ∙ (get_or-set_same ps i (Some x) None w ∙ sym (put-same old (n + i) k (Some x) e)))
        | inr d ↦ elim (cases_lt k n) [
          | inl b ↦ before_window n k places b ∙ (sym (before_window n k ps b) ∙ sym (put-other old (n + i) k (Some x) d))
          | inr b ↦
              in_window n k places b
              ∙ (get_or-set_other ps i (k - n) (Some x) None (λ s. d (omega arith))
              ∙ (sym (in_window n k ps b) ∙ sym (put-other old (n + i) k (Some x) d)))
        ]
      ]

  -- what a window shows is in order
  pub window_in_order : (w : Waits T) (n : ℕ) (ps : List (Option T)) → record { first = n; items = items_from n ps } ≡ w → IsInOrder w
  window_in_order w n ps e = subst IsInOrder e (RisesFrom-items_from n ps)

  -- a window has at most as many items as places
  pub length-items_from-le : (n : ℕ) (ps : List (Option T)) → length (items_from n ps) ≤ length ps
  length-items_from-le n [] = omega arith
  length-items_from-le n (None ∷ ps) = let h = length-items_from-le (n + 1) ps in omega arith
  length-items_from-le n (Some x ∷ ps) = let h = length-items_from-le (n + 1) ps in omega arith
