-- Steps from cell to cell, and the items on the way.
use Rattle.std.proofs.Common.{◌≡◌, ℕ, zero, suc, ◌+◌, ◌-◌, ◌<◌, ◌≤◌, List, [], ◌∷◌, ◌++◌, length, refl, sym, ap, ◌∙◌, arith}
use Rattle.std.proofs.Common.{append-nil, append_assoc, length-append}
use Rattle.std.specs.Prelude.{Option, Some, None, option_to_list}
use Rattle.abc_pool.specs.declared.cells.Cell.{Cell}
use Rattle.abc_pool.specs.Tables.{item_of, next_of, after, items_from}

module _ {T : Type 0} where
  -- a step more is a step from where the others lead
  pub after-suc : (cells : List (Cell T)) (i k : ℕ) → after cells i (suc k) ≡ next_of cells (after cells i k)
  after-suc cells i zero = refl
  after-suc cells i (suc k) = after-suc cells (next_of cells i) k

  -- of n cells from cell i on, all but the last lead to the same cell in another table
  abbrev pub SameNexts : List (Cell T) → List (Cell T) → ℕ → ℕ → Type 0
  SameNexts cells cells' i n =
      (j : ℕ) → j + 1 < n → next_of cells' (after cells i j) ≡ next_of cells (after cells i j)

  -- n cells from cell i on have the same items in another table
  abbrev pub SameItems : List (Cell T) → List (Cell T) → ℕ → ℕ → Type 0
  SameItems cells cells' i n =
      (j : ℕ) → j < n → item_of cells' (after cells i j) ≡ item_of cells (after cells i j)

  -- where each cell leads to the same one, so do more steps
  pub after-same : (cells cells' : List (Cell T)) (i n k : ℕ) → SameNexts cells cells' i n → k < n
      → after cells' i k ≡ after cells i k
  after-same cells cells' i n zero same l = refl
  after-same cells cells' i n (suc k) same l =
      after-suc cells' i k
      ∙ (ap (next_of cells') (after-same cells cells' i n k same (omega arith))
      ∙ (same k (omega arith) ∙ sym (after-suc cells i k)))

  -- lists that begin with equal items and go on equally are equal
  joined : (o p : Option T) (xs ys : List T) → o ≡ p → xs ≡ ys → option_to_list o ++ xs ≡ option_to_list p ++ ys
  joined o p xs ys e f = cc

  -- where the cells lead to the same ones and have the same items, the items on the way are the same
  pub items_from-same : (cells cells' : List (Cell T)) (i n : ℕ) → SameNexts cells cells' i n → SameItems cells cells' i n
      → items_from cells' i n ≡ items_from cells i n
  items_from-same cells cells' i zero nexts items = refl
  items_from-same cells cells' i (suc zero) nexts items = joined _ _ [] [] (items 0 (omega arith)) refl
  items_from-same cells cells' i (suc (suc n)) nexts items =
      let rest = items_from-same cells cells' (next_of cells i) (suc n)
      (λ j l. nexts (suc j) (omega arith)) (λ j l. items (suc j) (omega arith)) in
      joined _ _ _ _ (items 0 (omega arith)) (ap (λ k. items_from cells' k (suc n)) (nexts 0 (omega arith)) ∙ rest)

  -- one more cell at the end adds its item at the end
  pub items_from-suc : (cells : List (Cell T)) (i n : ℕ)
      → items_from cells i (suc n) ≡ items_from cells i n ++ option_to_list (item_of cells (after cells i n))
  items_from-suc cells i zero = append-nil (option_to_list (item_of cells i))
  items_from-suc cells i (suc n) =
      let first = option_to_list (item_of cells i) in
      ap (λ xs. first ++ xs) (items_from-suc cells (next_of cells i) n) ∙ sym (append_assoc first _ _)

  -- the same where the number of cells is written as a sum
  pub items_from-more : (cells : List (Cell T)) (i n : ℕ)
      → items_from cells i (n + 1) ≡ items_from cells i n ++ option_to_list (item_of cells (after cells i n))
  items_from-more cells i n =
      let e : n + 1 ≡ suc n = omega arith in ap (items_from cells i) e ∙ items_from-suc cells i n

  -- the first of the cells gives its item, and the rest theirs
  pub items_from-first : (cells : List (Cell T)) (i n : ℕ) → 0 < n
      → items_from cells i n ≡ option_to_list (item_of cells i) ++ items_from cells (next_of cells i) (n - 1)
  items_from-first cells i zero l = absurd (omega arith)
  items_from-first cells i (suc n) l =
      let e : n ≡ suc n - 1 = omega arith in
      ap (λ k. option_to_list (item_of cells i) ++ items_from cells (next_of cells i) k) e

  -- an item or none is at most one
  pub length-option_to_list-le : (o : Option T) → length (option_to_list o) ≤ 1
  length-option_to_list-le None = omega arith
  length-option_to_list-le (Some x) = omega arith

  -- there are no more items than cells
  pub length-items_from-le : (cells : List (Cell T)) (i n : ℕ) → length (items_from cells i n) ≤ n
  length-items_from-le cells i zero = omega arith
  length-items_from-le cells i (suc n) =
      let one = length-option_to_list-le (item_of cells i) in
      let rest = length-items_from-le cells (next_of cells i) n in
      let both = length-append (option_to_list (item_of cells i)) (items_from cells (next_of cells i) n) in
      omega arith
