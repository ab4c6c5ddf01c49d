-- What writing into a table changes of its cells.
use Rattle.std.proofs.Common.{inl, inr, ◌≡◌, ℕ, ◌+◌, ◌<◌, ◌≤◌, ◌==◌, List, [], ◌∷◌, ◌++◌, length, refl, sym, ap, ◌∙◌, arith}
use Rattle.std.proofs.Common.{get_or-set_same, get_or-set_other, length-set}
use Rattle.std.specs.Prelude.{Option, Some, None, slice_set, if◌then◌else◌}
use Rattle.std.proofs.lemmas.Bool.{eq-eqb, ne_eqb, cases_eq}
use Rattle.std.proofs.lemmas.List.{get_or_append_left, length_push}
use Rattle.abc_pool.specs.declared.cells.Cell.{Cell}
use Rattle.abc_pool.specs.declared.cells.Chain.{Chain}
use Rattle.abc_pool.specs.Tables.{no_cell, item_of, next_of, filled, linked, lengthened}

-- a chain that was empty begins with the new cell
pub lengthened-empty : (chain : Chain) (x : ℕ) → chain.count ≡ 0 → (lengthened chain x).first ≡ x
lengthened-empty chain x e = rw (eq-eqb chain.count 0 e) refl

-- another one begins as before
pub lengthened-some : (chain : Chain) (x : ℕ) → (chain.count ≡ 0 → ⊥) → (lengthened chain x).first ≡ chain.first
lengthened-some chain x d = rw (ne_eqb chain.count 0 d) refl

module _ {T : Type 0} where
  -- a cell with another item
  abbrev pub with_item : List (Cell T) → ℕ → Option T → Cell T
  with_item cells i o = record { item = o; next = next_of cells i }

  -- another item changes no next cell
  pub next_of-filled : (cells : List (Cell T)) (i k : ℕ) (o : Option T) → i < length cells → next_of (filled cells i o) k ≡ next_of cells k
  next_of-filled cells i k o l = elim (cases_eq k i) [
    | inl e ↦
        ap (λ (m : ℕ). next_of (filled cells i o) m) e
        ∙ (ap (λ (c : Cell T). c.next) (get_or-set_same cells i (with_item cells i o) no_cell l)
        ∙ ap (λ (m : ℕ). next_of cells m) (sym e))
    | inr d ↦ ap (λ (c : Cell T). c.next) (get_or-set_other cells i k (with_item cells i o) no_cell d)
  ]

  -- the cell has the item
  pub item_of-filled : (cells : List (Cell T)) (i : ℕ) (o : Option T) → i < length cells → item_of (filled cells i o) i ≡ o
  item_of-filled cells i o l =
      ap (λ (c : Cell T). c.item) (get_or-set_same cells i (with_item cells i o) no_cell l)

  -- all others have theirs
  pub item_of-filled_other : (cells : List (Cell T)) (i k : ℕ) (o : Option T) → (k ≡ i → ⊥) → item_of (filled cells i o) k ≡ item_of cells k
  item_of-filled_other cells i k o d =
      ap (λ (c : Cell T). c.item) (get_or-set_other cells i k (with_item cells i o) no_cell d)

  pub length-filled : (cells : List (Cell T)) (i : ℕ) (o : Option T) → length (filled cells i o) ≡ length cells
  length-filled cells i o = length-set cells i (with_item cells i o)

  -- a new cell at the end changes none before it
  pub next_of-grown : (cells : List (Cell T)) (k : ℕ) → k < length cells → next_of (cells ++ no_cell ∷ []) k ≡ next_of cells k
  next_of-grown cells k l = ap (λ (c : Cell T). c.next) (get_or_append_left cells (no_cell ∷ []) no_cell k l)

  pub item_of-grown : (cells : List (Cell T)) (k : ℕ) → k < length cells → item_of (cells ++ no_cell ∷ []) k ≡ item_of cells k
  item_of-grown cells k l = ap (λ (c : Cell T). c.item) (get_or_append_left cells (no_cell ∷ []) no_cell k l)

  module _ (cells : List (Cell T)) (chain : Chain) (x : ℕ) where
    -- the last cell of the chain, leading to another one
    abbrev led : Cell T
    led = record { item = item_of cells chain.last; next = x }

    -- the table with it
    abbrev link : List (Cell T)
    link = slice_set cells chain.last led

    -- behind an empty chain nothing is written
    pub linked-empty : chain.count ≡ 0 → linked cells chain x ≡ cells
    linked-empty e = rw (eq-eqb chain.count 0 e) refl

    -- else the last cell leads to the new one
    pub linked-some : (chain.count ≡ 0 → ⊥) → linked cells chain x ≡ link
    linked-some d = rw (ne_eqb chain.count 0 d) refl

    pub length-linked : length (linked cells chain x) ≡ length cells
    length-linked = elim (cases_eq chain.count 0) [
      | inl e ↦ ap (λ (cs : List (Cell T)). length cs) (linked-empty e)
      | inr d ↦
          ap (λ (cs : List (Cell T)). length cs) (linked-some d)
          ∙ length-set cells chain.last led
    ]

    module _ (last_in : 0 < chain.count → chain.last < length cells) where
      -- the items stay
      pub item_of-linked : (k : ℕ) → item_of (linked cells chain x) k ≡ item_of cells k
      item_of-linked k = elim (cases_eq chain.count 0) [
        | inl e ↦ ap (λ (cs : List (Cell T)). item_of cs k) (linked-empty e)
        | inr d ↦ ap (λ (cs : List (Cell T)). item_of cs k) (linked-some d) ∙ elim (cases_eq k chain.last) [
          | inl e ↦
              ap (λ (m : ℕ). item_of link m) e
              ∙ (ap (λ (c : Cell T). c.item) (get_or-set_same cells chain.last led no_cell (last_in (omega arith)))
              ∙ ap (λ (m : ℕ). item_of cells m) (sym e))
          | inr n ↦ ap (λ (c : Cell T). c.item) (get_or-set_other cells chain.last k led no_cell n)
        ]
      ]

      -- the last cell leads to the new one
      pub next_of-linked : 0 < chain.count → next_of (linked cells chain x) chain.last ≡ x
      next_of-linked some =
          ap (λ (cs : List (Cell T)). next_of cs chain.last) (linked-some (λ e. omega arith))
          ∙ ap (λ (c : Cell T). c.next) (get_or-set_same cells chain.last led no_cell (last_in some))

      -- all other cells lead where they led
      pub next_of-linked_other : (k : ℕ) → (0 < chain.count → k ≡ chain.last → ⊥) → next_of (linked cells chain x) k ≡ next_of cells k
      next_of-linked_other k other = elim (cases_eq chain.count 0) [
        | inl e ↦ ap (λ (cs : List (Cell T)). next_of cs k) (linked-empty e)
        | inr d ↦
            ap (λ (cs : List (Cell T)). next_of cs k) (linked-some d)
            ∙ ap (λ (c : Cell T). c.next)
            (get_or-set_other cells chain.last k led no_cell (other (omega arith)))
      ]
