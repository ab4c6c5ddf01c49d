-- A table of cells, and the chains that go through it.
use Rattle.std.specs.Prelude.{◌≡◌, ℕ, zero, suc, ◌+◌, ◌-◌, ◌<◌, ◌==◌, List, [], ◌∷◌, ◌++◌, length}
use Rattle.std.specs.Prelude.{Option, None, option_to_list, slice_index_or, slice_set, if◌then◌else◌}
use Rattle.std.specs.List.{sum_by}
use Rattle.abc_pool.specs.declared.cells.Cell.{Cell}
use Rattle.abc_pool.specs.declared.cells.Chain.{Chain}

-- what is read past the end of a table, and of a list of chains
abbrev pub no_cell : {T : Type 0} → Cell T
no_cell = record { item = None; next = 0 }

abbrev pub no_chain : Chain
no_chain = record { first = 0; last = 0; count = 0 }

-- the chain with this number
abbrev pub chain_at : List Chain → ℕ → Chain
chain_at chains c = slice_index_or chains c no_chain

-- how many cells it has
abbrev pub count_at : List Chain → ℕ → ℕ
count_at chains c = (chain_at chains c).count

-- a chain with one more cell at its end
abbrev pub lengthened : Chain → ℕ → Chain
lengthened chain cell =
    record { first = if chain.count == 0 then cell else chain.first; last = cell; count = chain.count + 1 }

module _ {T : Type 0} where
  abbrev pub item_of : List (Cell T) → ℕ → Option T
  item_of cells i = (slice_index_or cells i no_cell).item

  abbrev pub next_of : List (Cell T) → ℕ → ℕ
  next_of cells i = (slice_index_or cells i no_cell).next

  -- the cell so many steps after cell i
  abbrev pub after : List (Cell T) → ℕ → ℕ → ℕ
  after cells i zero = i
  after cells i (suc n) = after cells (next_of cells i) n

  -- the items of so many cells from cell i on
  abbrev pub items_from : List (Cell T) → ℕ → ℕ → List T
  items_from cells i zero = []
  items_from cells i (suc n) = option_to_list (item_of cells i) ++ items_from cells (next_of cells i) n

  -- the items of a chain
  abbrev pub items_of : List (Cell T) → Chain → List T
  items_of cells chain = items_from cells chain.first chain.count

  -- the cell at a place of a chain, counted from 0
  abbrev pub cell_at : List (Cell T) → List Chain → ℕ → ℕ → ℕ
  cell_at cells chains c place = after cells (chain_at chains c).first place

  -- each place of a chain has a cell of the table, and no two places have the same
  pub record IsTable (cells : List (Cell T)) (chains : List Chain) : Type 0 where
    pub in_table : (c j : ℕ) → j < count_at chains c → cell_at cells chains c j < length cells
    pub apart : (c d j k : ℕ) → j < count_at chains c → k < count_at chains d
        → cell_at cells chains c j ≡ cell_at cells chains d k → (c ≡ d) × (j ≡ k)
    pub last : (c j : ℕ) → j + 1 ≡ count_at chains c → (chain_at chains c).last ≡ cell_at cells chains c j

  -- the free cells and the queues are chains of one table, each cell of a queue has an item, and each
  -- cell is free or in a queue
  pub record IsPool (cells : List (Cell T)) (free : Chain) (queues : List Chain) : Type 0 where
    pub table : IsTable cells (free ∷ queues)
    pub full : (q : ℕ) → length (items_of cells (chain_at queues q)) ≡ count_at queues q
    pub counted : length cells ≡ free.count + sum_by (λ (c : Chain). c.count) queues

  -- a chain without its first cell
  abbrev pub rest_of : List (Cell T) → Chain → Chain
  rest_of cells chain =
      record { first = next_of cells chain.first; last = chain.last; count = chain.count - 1 }

  -- the table in which a cell has another item, or none
  abbrev pub filled : List (Cell T) → ℕ → Option T → List (Cell T)
  filled cells i o = slice_set cells i (record { item = o; next = next_of cells i })

  -- the table in which the last cell of a chain, if there is one, leads to this cell
  abbrev pub linked : List (Cell T) → Chain → ℕ → List (Cell T)
  linked cells chain cell =
      if chain.count == 0 then cells
      else slice_set cells chain.last (record { item = item_of cells chain.last; next = cell })

  -- the table in which the first cell of a chain has an item, or none, and the last cell of another
  -- chain leads to it
  abbrev pub moved : List (Cell T) → Chain → Chain → Option T → List (Cell T)
  moved cells from to o = linked (filled cells from.first o) to from.first
