-- What a pool keeps when an item is pushed or taken, or a cell is added.
use Rattle.std.proofs.Common.{inl, inr, ◌≡◌, ℕ, zero, suc, ◌+◌, ◌-◌, ◌<◌, ◌≤◌, List, [], ◌∷◌, ◌++◌, length, map, get_or, set, refl, sym, ap, ◌∙◌}
use Rattle.std.proofs.Common.{subst, arith, get_or-set_same, get_or-set_other, length-append, length-set}
use Rattle.std.specs.Prelude.{Option, Some, None, IfSome, IfNone, option_to_list, slice_get, replicate}
use Rattle.std.specs.List.{sum_by}
use Rattle.std.proofs.lemmas.Bool.{cases_eq}
use Rattle.std.proofs.lemmas.List.{get_or-map, length_push, length-map, get_or_default}
use Rattle.std.proofs.lemmas.List.Sums.{sum_by-set, sum_by-cons, get_or-le-sum_by}
use Rattle.abc_pool.specs.declared.cells.Cell.{Cell}
use Rattle.abc_pool.specs.declared.cells.Chain.{Chain}
use Rattle.abc_pool.specs.Queues.{Queues, items_in, cells_of, Pops}
use Rattle.abc_pool.specs.Tables.{no_cell, no_chain, chain_at, count_at, item_of, next_of, items_of, cell_at, IsTable, IsPool}
use Rattle.abc_pool.specs.Tables.{rest_of, filled, linked, lengthened, moved}
use Rattle.abc_pool.proofs.Walks.{SameNexts, items_from-same, items_from-first, length-option_to_list-le, length-items_from-le}
use Rattle.abc_pool.proofs.Links.{next_of-filled, item_of-filled, item_of-filled_other, length-filled, next_of-grown, item_of-grown, length-linked}
use Rattle.abc_pool.proofs.Chains.{IsLoose, IsShifted, IsAppended, IsTable-shifted, IsLoose-shifted, IsLoose-first, IsTable-appended}
use Rattle.abc_pool.proofs.Chains.{gone, gone-same, IsShifted-rest, IsShifted-framed, IsAppended-lengthened, items_of-others, items_of-lengthened}

-- two functions that agree on a list give the same list
map_same : {X Y : Type 0} (f g : X → Y) (xs : List X) (d : X) → ((k : ℕ) → g (get_or xs k d) ≡ f (get_or xs k d)) → map g xs ≡ map f xs
map_same f g [] d same = refl
map_same f g (x ∷ xs) d same = let first = same 0 in let rest = map_same f g xs d (λ k. same (suc k)) in cc

-- two functions that agree on a list, of which one place is changed
map_changed : {X Y : Type 0} (f g : X → Y) (xs : List X) (q : ℕ) (v d : X)
    → ((k : ℕ) → (k ≡ q → ⊥) → g (get_or xs k d) ≡ f (get_or xs k d)) → map g (set xs q v) ≡ set (map f xs) q (g v)
map_changed f g [] q v d same = refl
map_changed f g (x ∷ xs) zero v d same = let rest = map_same f g xs d (λ k. same (suc k) (λ e. omega arith)) in cc
map_changed f g (x ∷ xs) (suc q) v d same =
    let first = same 0 (λ e. omega arith) in
    let rest = map_changed f g xs q v d (λ k n. same (suc k) (λ e. n (omega arith))) in cc

-- the sum of the lengths of lists, made from counts
sum_by_same : {X Y : Type 0} (f : X → List Y) (n : X → ℕ) (xs : List X) (d : X)
    → ((k : ℕ) → length (f (get_or xs k d)) ≡ n (get_or xs k d)) → sum_by (length {A = Y}) (map f xs) ≡ sum_by n xs
sum_by_same f n [] d same = refl
sum_by_same {X} {Y} f n (x ∷ xs) d same =
    let first = same 0 in
    let rest = sum_by_same f n xs d (λ k. same (suc k)) in
    let a = sum_by-cons (length {A = Y}) (f x) (map f xs) in
    let b = sum_by-cons n x xs in omega arith

-- the number of cells of a chain
abbrev counted_cells : Chain → ℕ
counted_cells c = c.count

-- among empty chains each one is empty
chain_none : (n q : ℕ) → chain_at (replicate n no_chain) q ≡ no_chain
chain_none zero q = refl
chain_none (suc n) zero = refl
chain_none (suc n) (suc q) = chain_none n q

-- so it has no cell, like an empty chain of free cells
none_at : (n c : ℕ) → count_at (no_chain ∷ replicate n no_chain) c ≡ 0
none_at n zero = refl
none_at n (suc c) = ap (λ (h : Chain). h.count) (chain_none n c)

-- together they have none
no_cells : (n : ℕ) → 0 + sum_by counted_cells (replicate n no_chain) ≡ 0
no_cells zero = refl
no_cells (suc n) =
    let e = sum_by-cons counted_cells no_chain (replicate n no_chain) in
    let rest = no_cells n in omega arith

-- what is read in a list is the chain with this number
chain_read : (queues : List Chain) (q : ℕ) (chain : Chain) → q < length queues → chain ≡ get_or queues q chain → chain ≡ chain_at queues q
chain_read queues q chain inside e = e ∙ get_or_default queues q chain no_chain inside

-- what is read twice is the same
pub same_read : (queues : List Chain) (q : ℕ) (a b : Chain) → q < length queues → a ≡ get_or queues q a → b ≡ get_or queues q b → a ≡ b
same_read queues q a b inside e f = chain_read queues q a inside e ∙ sym (chain_read queues q b inside f)

module _ {T : Type 0} where
  -- what contracts see of a pool
  abbrev pub seen : List (Cell T) → Chain → List Chain → Queues T
  seen cells free queues = record { queues = map (items_of cells) queues; spare = free.count }

  -- the first cell of one chain gets an item or none, and is put behind the last one of another chain
  module _ (cells : List (Cell T)) (chains : List Chain) (a b : ℕ) (o : Option T) (some : 0 < count_at chains a)
      (a_inside : a < length chains) (b_inside : b < length (set chains a (rest_of cells (chain_at chains a)))) (t : IsTable cells chains) where
    abbrev x : ℕ
    x = (chain_at chains a).first

    -- the chains and the table before the cell is put behind the other chain
    abbrev chains1 : List Chain
    chains1 = set chains a (rest_of cells (chain_at chains a))

    abbrev cells1 : List (Cell T)
    cells1 = filled cells x o

    abbrev chain : Chain
    chain = chain_at chains1 b

    loose : IsLoose cells chains1 x
    loose = IsLoose-first (IsShifted-rest cells chains a some a_inside) a (gone-same cells chains a some a_inside) t

    same_nexts : (c : ℕ) → SameNexts cells cells1 (chain_at chains1 c).first (count_at chains1 c)
    same_nexts c j l = next_of-filled cells x (cell_at cells chains1 c j) o loose.inside

    framed : IsShifted cells cells1 chains1 chains1 (λ _. 0)
    framed = IsShifted-framed cells cells1 chains1 (let e = length-filled cells x o in omega arith) same_nexts

    table1 : IsTable cells1 chains1
    table1 = IsTable-shifted framed (IsTable-shifted (IsShifted-rest cells chains a some a_inside) t)

    pub moved-table : IsTable (linked cells1 chain x) (set chains1 b (lengthened chain x))
    moved-table = IsTable-appended (IsAppended-lengthened cells1 chains1 b x b_inside table1) table1 (IsLoose-shifted framed x loose)

    same_items : (c : ℕ) → items_of cells1 (chain_at chains1 c) ≡ items_of cells (chain_at chains1 c)
    same_items c =
        items_from-same cells cells1 (chain_at chains1 c).first (count_at chains1 c) (same_nexts c)
        (λ j l. item_of-filled_other cells x (cell_at cells chains1 c j) o (λ e. loose.nowhere c j l e))

    -- the chains before the cell was put have the items that they had
    pub moved-others : (c : ℕ) → items_of (linked cells1 chain x) (chain_at chains1 c) ≡ items_of cells (chain_at chains1 c)
    moved-others c = items_of-others cells1 chains1 b x b_inside table1 c ∙ same_items c

    -- the other chain has the item besides
    pub moved-longer : items_of (linked cells1 chain x) (lengthened chain x) ≡ items_of cells chain ++ option_to_list o
    moved-longer =
        items_of-lengthened cells1 chains1 b x b_inside table1
        ∙ (ap (λ (xs : List T). xs ++ option_to_list (item_of cells1 x)) (same_items b)
        ∙ ap (λ (p : Option T). items_of cells chain ++ option_to_list p) (item_of-filled cells x o loose.inside))

    pub moved-length : length (linked cells1 chain x) ≡ length cells
    moved-length = length-linked cells1 chain x ∙ length-filled cells x o

  module _ (cells : List (Cell T)) (free : Chain) (queues : List Chain) (p : IsPool cells free queues) where
    -- the items of a queue
    pub seen-queue : (q : ℕ) → q < length queues → items_in (seen cells free queues) q ≡ items_of cells (chain_at queues q)
    seen-queue q inside = get_or-map (items_of cells) queues q no_chain [] inside

    -- their number
    pub seen-count : (q : ℕ) → q < length queues → length (items_in (seen cells free queues) q) ≡ count_at queues q
    seen-count q inside = ap (λ (xs : List T). length xs) (seen-queue q inside) ∙ p.full q

    -- the number of cells
    pub seen-cells : cells_of (seen cells free queues) ≡ length cells
    seen-cells =
        let sums = sum_by_same (items_of cells) counted_cells queues no_chain p.full in
        let all = p.counted in omega arith

    -- a queue has no more cells than the table has besides the free ones
    pub seen-within : (q : ℕ) → q < length queues → count_at queues q + free.count ≤ length cells
    seen-within q inside =
        let some = get_or-le-sum_by counted_cells queues q no_chain inside in
        let all = p.counted in omega arith

    -- the first cell of a queue that has one is in the table
    pub queue_first-inside : (q : ℕ) → 0 < count_at queues q → (chain_at queues q).first < length cells
    queue_first-inside q some = p.table.in_table (suc q) 0 some

    pub free_first-inside : 0 < free.count → free.first < length cells
    free_first-inside some = p.table.in_table 0 0 some

    pub free_last-inside : 0 < free.count → free.last < length cells
    free_last-inside some =
        let e = p.table.last 0 (free.count - 1) (omega arith) in
        let l = p.table.in_table 0 (free.count - 1) (omega arith) in omega arith

    pub queue_last-inside : (q : ℕ) → 0 < count_at queues q → (chain_at queues q).last < length cells
    queue_last-inside q some =
        let e = p.table.last (suc q) (count_at queues q - 1) (omega arith) in
        let l = p.table.in_table (suc q) (count_at queues q - 1) (omega arith) in omega arith

    -- the first item of a queue is that of its first cell
    pub seen-first : (q : ℕ) → q < length queues → 0 < count_at queues q
        → items_in (seen cells free queues) q
        ≡ option_to_list (item_of cells (chain_at queues q).first) ++ items_of cells (rest_of cells (chain_at queues q))
    seen-first q inside some = seen-queue q inside ∙ items_from-first cells (chain_at queues q).first (count_at queues q) some

    -- and it has one
    pub first-some : (q : ℕ) → q < length queues → 0 < count_at queues q → item_of cells (chain_at queues q).first ≡ None → ⊥
    first-some q inside some none =
        let first = seen-first q inside some in
        let gone = ap (λ (o : Option T). length (option_to_list o ++ items_of cells (rest_of cells (chain_at queues q)))) none in
        let all = ap (λ (xs : List T). length xs) first in
        let few = length-items_from-le cells (next_of cells (chain_at queues q).first) (count_at queues q - 1) in
        let number = seen-count q inside in
        absurd (omega arith)

    -- the first item of a list that begins with an item
    pub front-first : (q : ℕ) → q < length queues → 0 < count_at queues q
        → item_of cells (chain_at queues q).first ≡ slice_get (items_in (seen cells free queues) q) 0
    front-first q inside some =
        let rest = items_of cells (rest_of cells (chain_at queues q)) in
        let at : (o : Option T) → (o ≡ None → ⊥) → o ≡ slice_get (option_to_list o ++ rest) 0 =
        λ o. elim o as (λ (o : Option T). (o ≡ None → ⊥) → o ≡ slice_get (option_to_list o ++ rest) 0) [
          | None ↦ λ n. absurd (n refl)
          | Some y ↦ λ n. refl
        ] in
        at (item_of cells (chain_at queues q).first) (first-some q inside some)
        ∙ ap (λ (xs : List T). slice_get xs 0) (sym (seen-first q inside some))

    -- an empty queue
    pub seen-empty : (q : ℕ) → q < length queues → count_at queues q ≡ 0 → items_in (seen cells free queues) q ≡ []
    seen-empty q inside none =
        seen-queue q inside ∙ ap (λ (n : ℕ). items_of cells (record { first = (chain_at queues q).first; last = 0; count = n })) none

    -- an item is pushed
    module _ (q : ℕ) (y : T) (some : 0 < free.count) (inside : q < length queues) where
      abbrev pushed : List (Cell T)
      pushed = moved cells free (chain_at queues q) (Some y)

      abbrev longer : Chain
      longer = lengthened (chain_at queues q) free.first

      push_table : IsTable pushed (rest_of cells free ∷ set queues q longer)
      push_table = moved-table cells (free ∷ queues) 0 (suc q) (Some y) some (omega arith) (omega arith) p.table

      push_others : (r : ℕ) → items_of pushed (chain_at queues r) ≡ items_of cells (chain_at queues r)
      push_others r = moved-others cells (free ∷ queues) 0 (suc q) (Some y) some (omega arith) (omega arith) p.table (suc r)

      push_longer : items_of pushed longer ≡ items_of cells (chain_at queues q) ++ y ∷ []
      push_longer = moved-longer cells (free ∷ queues) 0 (suc q) (Some y) some (omega arith) (omega arith) p.table

      push_length : length pushed ≡ length cells
      push_length = moved-length cells (free ∷ queues) 0 (suc q) (Some y) some (omega arith) (omega arith) p.table

      push_full : (r : ℕ) → length (items_of pushed (chain_at (set queues q longer) r)) ≡ count_at (set queues q longer) r
      push_full r = elim (cases_eq r q) [
        | inl e ↦
            let at = ap (λ (k : ℕ). chain_at (set queues q longer) k) e ∙ get_or-set_same queues q longer no_chain inside in
            let size = ap (λ (xs : List T). length xs) push_longer in
            let one = length_push (items_of cells (chain_at queues q)) y in
            let before = p.full q in
            let now = ap (λ (h : Chain). length (items_of pushed h)) at in
            let count = ap (λ (h : Chain). h.count) at in
            omega arith
        | inr d ↦
            let at = get_or-set_other queues q r longer no_chain d in
            ap (λ (h : Chain). length (items_of pushed h)) at
            ∙ (ap (λ (xs : List T). length xs) (push_others r) ∙ (p.full r ∙ ap (λ (h : Chain). h.count) (sym at)))
      ]

      pub push-pool : IsPool pushed (rest_of cells free) (set queues q longer)
      push-pool = record {
        table = push_table;
        full = push_full;
        counted =
            let sums = sum_by-set counted_cells queues q longer no_chain inside in
            let all = p.counted in
            let size = push_length in omega arith;
      }

      pub push-queues : map (items_of pushed) (set queues q longer)
          ≡ set (map (items_of cells) queues) q (items_in (seen cells free queues) q ++ y ∷ [])
      push-queues =
          map_changed (items_of cells) (items_of pushed) queues q longer no_chain (λ k n. push_others k)
          ∙ ap (λ (xs : List T). set (map (items_of cells) queues) q xs)
          (push_longer ∙ ap (λ (xs : List T). xs ++ y ∷ []) (sym (seen-queue q inside)))

    -- an item is taken
    module _ (q : ℕ) (some : 0 < count_at queues q) (inside : q < length queues) where
      abbrev head : ℕ
      head = (chain_at queues q).first

      abbrev popped : List (Cell T)
      popped = moved cells (chain_at queues q) free None

      abbrev shorter : Chain
      shorter = rest_of cells (chain_at queues q)

      pop_table : IsTable popped (lengthened free head ∷ set queues q shorter)
      pop_table = moved-table cells (free ∷ queues) (suc q) 0 None some (omega arith) (omega arith) p.table

      pop_others : (r : ℕ) → items_of popped (chain_at (set queues q shorter) r) ≡ items_of cells (chain_at (set queues q shorter) r)
      pop_others r = moved-others cells (free ∷ queues) (suc q) 0 None some (omega arith) (omega arith) p.table (suc r)

      pop_length : length popped ≡ length cells
      pop_length = moved-length cells (free ∷ queues) (suc q) 0 None some (omega arith) (omega arith) p.table

      -- the taken queue has the items behind the first one
      pop_shorter : items_of popped shorter ≡ items_of cells shorter
      pop_shorter =
          let at = get_or-set_same queues q shorter no_chain inside in
          ap (λ (h : Chain). items_of popped h) (sym at) ∙ (pop_others q ∙ ap (λ (h : Chain). items_of cells h) at)

      -- another queue has its items
      pop_same : (r : ℕ) → (r ≡ q → ⊥) → items_of popped (chain_at queues r) ≡ items_of cells (chain_at queues r)
      pop_same r d =
          let at = get_or-set_other queues q r shorter no_chain d in
          ap (λ (h : Chain). items_of popped h) (sym at) ∙ (pop_others r ∙ ap (λ (h : Chain). items_of cells h) at)

      -- there are as many items behind the first as cells
      shorter_full : length (items_of cells shorter) ≡ count_at queues q - 1
      shorter_full =
          let size = ap (λ (xs : List T). length xs) (seen-first q inside some) in
          let both = length-append (option_to_list (item_of cells head)) (items_of cells shorter) in
          let one = length-option_to_list-le (item_of cells head) in
          let few = length-items_from-le cells (next_of cells head) (count_at queues q - 1) in
          let number = seen-count q inside in omega arith

      pop_full : (r : ℕ) → length (items_of popped (chain_at (set queues q shorter) r)) ≡ count_at (set queues q shorter) r
      pop_full r = elim (cases_eq r q) [
        | inl e ↦
            let at = ap (λ (k : ℕ). chain_at (set queues q shorter) k) e ∙ get_or-set_same queues q shorter no_chain inside in
            ap (λ (h : Chain). length (items_of popped h)) at
            ∙ (ap (λ (xs : List T). length xs) pop_shorter ∙ (shorter_full ∙ ap (λ (h : Chain). h.count) (sym at)))
        | inr d ↦
            let at = get_or-set_other queues q r shorter no_chain d in
            ap (λ (h : Chain). length (items_of popped h)) at
            ∙ (ap (λ (xs : List T). length xs) (pop_same r d) ∙ (p.full r ∙ ap (λ (h : Chain). h.count) (sym at)))
      ]

      pub pop-pool : IsPool popped (lengthened free head) (set queues q shorter)
      pop-pool = record {
        table = pop_table;
        full = pop_full;
        counted =
            let sums = sum_by-set counted_cells queues q shorter no_chain inside in
            let all = p.counted in
            let size = pop_length in omega arith;
      }

      -- what contracts see after it
      abbrev pub after_pop : Queues T
      after_pop = seen popped (lengthened free head) (set queues q shorter)

      -- the items of the taken queue
      popped_queue : items_in after_pop q ≡ items_of cells shorter
      popped_queue =
          let at = get_or-set_same queues q shorter no_chain inside in
          let size : q < length (set queues q shorter) = let e = length-set queues q shorter in omega arith in
          get_or-map (items_of popped) (set queues q shorter) q no_chain [] size
          ∙ (ap (λ (h : Chain). items_of popped h) at ∙ pop_shorter)

      popped_queues : after_pop.queues ≡ set (map (items_of cells) queues) q (items_in after_pop q)
      popped_queues =
          map_changed (items_of cells) (items_of popped) queues q shorter no_chain pop_same
          ∙ ap (λ (xs : List T). set (map (items_of cells) queues) q xs) (pop_shorter ∙ sym popped_queue)

      pub pop-pops : (o : Option T) → o ≡ item_of cells head → IfSome o (Pops (seen cells free queues) after_pop q)
      pop-pops o = elim o as (λ (o : Option T). o ≡ item_of cells head → IfSome o (Pops (seen cells free queues) after_pop q)) [
        | None ↦ λ e. tt
        | Some y ↦ λ e. record {
          first =
              seen-first q inside some
              ∙ (ap (λ (p : Option T). option_to_list p ++ items_of cells shorter) (sym e)
              ∙ ap (λ (xs : List T). y ∷ xs) (sym popped_queue));
          queues = popped_queues;
          spare = refl;
        }
      ]

      -- there was an item
      pub pop-none : (o : Option T) (P : Type 0) → o ≡ item_of cells head → IfNone o P
      pop-none o P = elim o as (λ (o : Option T). o ≡ item_of cells head → IfNone o P) [
        | None ↦ λ e. absurd (first-some q inside some (sym e))
        | Some y ↦ λ e. tt
      ]

    -- a free cell is added at the end of the table
    abbrev longer_table : List (Cell T)
    longer_table = cells ++ no_cell ∷ []

    abbrev grown : List (Cell T)
    grown = linked longer_table free (length cells)

    grown_nexts : (c : ℕ) → SameNexts cells longer_table (chain_at (free ∷ queues) c).first (count_at (free ∷ queues) c)
    grown_nexts c j l = next_of-grown cells (cell_at cells (free ∷ queues) c j) (p.table.in_table c j (omega arith))

    grown_frame : IsShifted cells longer_table (free ∷ queues) (free ∷ queues) (λ _. 0)
    grown_frame =
        IsShifted-framed cells longer_table (free ∷ queues) (let e = length_push cells no_cell in omega arith) grown_nexts

    grown_table : IsTable longer_table (free ∷ queues)
    grown_table = IsTable-shifted grown_frame p.table

    -- the new cell stands in no chain
    grown_loose : IsLoose longer_table (free ∷ queues) (length cells)
    grown_loose = record {
      inside = let e = length_push cells no_cell in omega arith;
      nowhere = λ c j l e.
          let m = p.table.in_table c j l in
          let none : j ≡ j + 0 = omega arith in
          let s = grown_frame.places c j l ∙ ap (λ (k : ℕ). cell_at cells (free ∷ queues) c k) (sym none) in
          absurd (omega arith);
    }

    grown_items : (c : ℕ) → items_of longer_table (chain_at (free ∷ queues) c) ≡ items_of cells (chain_at (free ∷ queues) c)
    grown_items c =
        items_from-same cells longer_table (chain_at (free ∷ queues) c).first (count_at (free ∷ queues) c) (grown_nexts c)
        (λ j l. item_of-grown cells (cell_at cells (free ∷ queues) c j) (p.table.in_table c j l))

    grown_queue : (q : ℕ) → items_of grown (chain_at queues q) ≡ items_of cells (chain_at queues q)
    grown_queue q =
        items_of-others longer_table (free ∷ queues) 0 (length cells) (omega arith) grown_table (suc q) ∙ grown_items (suc q)

    pub grown-pool : IsPool grown (lengthened free (length cells)) queues
    grown-pool = record {
      table =
          IsTable-appended (IsAppended-lengthened longer_table (free ∷ queues) 0 (length cells) (omega arith) grown_table) grown_table grown_loose;
      full = λ q. ap (λ (xs : List T). length xs) (grown_queue q) ∙ p.full q;
      counted =
          let size = length-linked longer_table free (length cells) in
          let one = length_push cells no_cell in
          let all = p.counted in omega arith;
    }

    pub grown-queues : map (items_of grown) queues ≡ map (items_of cells) queues
    grown-queues = map_same (items_of cells) (items_of grown) queues no_chain grown_queue

  -- a table, its free cells and its queues that are equal to those of a pool are a pool
  IsPool-same : (cells cells' : List (Cell T)) (free free' : Chain) (queues queues' : List Chain)
      → cells' ≡ cells → free' ≡ free → queues' ≡ queues → IsPool cells free queues → IsPool cells' free' queues'
  IsPool-same cells cells' free free' queues queues' e f g p =
      subst (λ (x : List (Cell T)). IsPool x free' queues') (sym e)
      (subst (λ (x : Chain). IsPool cells x queues') (sym f) (subst (λ (x : List Chain). IsPool cells free x) (sym g) p))

  -- what contracts see of equal fields is the same
  seen-same : (cells cells' : List (Cell T)) (free free' : Chain) (queues queues' : List Chain)
      → cells' ≡ cells → free' ≡ free → queues' ≡ queues → seen cells free queues ≡ seen cells' free' queues'
  seen-same cells cells' free free' queues queues' e f g =
      ap (λ (x : List (Cell T)). seen x free queues) (sym e)
      ∙ (ap (λ (x : Chain). seen cells' x queues) (sym f) ∙ ap (λ (x : List Chain). seen cells' free' x) (sym g))

  -- what a pool is after the first item of a queue was taken, and what was taken
  pub record IsAfterPop (old : Queues T) (cells : List (Cell T)) (free : Chain) (queues : List Chain) (q : ℕ) (o : Option T) : Type 0 where
    pub pool : IsPool cells free queues
    pub some : IfSome o (Pops old (seen cells free queues) q)
    pub never_none : IfNone o ⊥
    pub number : length (map (items_of cells) queues) ≡ length old.queues
    pub as_many : cells_of (seen cells free queues) ≡ cells_of old

  -- what a call's condition says of the list of queues
  inside_of : (old : Queues T) (cells : List (Cell T)) (free : Chain) (queues : List Chain) (q : ℕ)
      → seen cells free queues ≡ old → q < length old.queues → q < length queues
  inside_of old cells free queues q view exists =
      let e = ap (λ (s : Queues T). length s.queues) view in
      let m = length-map queues (items_of cells) in omega arith

  -- a queue that was read as one with a cell is one when it is read again
  pub some-read : (old : Queues T) (cells : List (Cell T)) (free a b : Chain) (queues : List Chain) (q : ℕ)
      → seen cells free queues ≡ old → q < length old.queues → a ≡ get_or queues q a → b ≡ get_or queues q b
      → (a.count ≡ 0 → ⊥) → 0 < b.count
  some-read old cells free a b queues q view exists e f some =
      let n = ap (λ (h : Chain). h.count) (same_read queues q a b (inside_of old cells free queues q view exists) e f) in
      let m : a.count ≡ 0 → ⊥ = some in omega arith

  -- of what is never none everything holds where it is none
  pub IfNone-never : (o : Option T) (P : Type 0) → IfNone o ⊥ → IfNone o P
  IfNone-never o P = elim o as (λ (o : Option T). IfNone o ⊥ → IfNone o P) [
    | None ↦ λ n. absurd n
    | Some y ↦ λ n. tt
  ]

  -- the first cell of a queue that was read is in the table
  pub first-inside : (old : Queues T) (cells : List (Cell T)) (free chain : Chain) (queues : List Chain) (q : ℕ)
      → seen cells free queues ≡ old → IsPool cells free queues → q < length old.queues → chain ≡ get_or queues q chain
      → 0 < chain.count → chain.first < length cells
  first-inside old cells free chain queues q view p exists read some =
      let is = chain_read queues q chain (inside_of old cells free queues q view exists) read in
      let n = ap (λ (h : Chain). h.count) is in
      let f = ap (λ (h : Chain). h.first) is in
      let l = queue_first-inside cells free queues p q (omega arith) in omega arith

  -- and so is its last one
  pub last-inside : (old : Queues T) (cells : List (Cell T)) (free chain : Chain) (queues : List Chain) (q : ℕ)
      → seen cells free queues ≡ old → IsPool cells free queues → q < length old.queues → chain ≡ get_or queues q chain
      → 0 < chain.count → chain.last < length cells
  last-inside old cells free chain queues q view p exists read some =
      let is = chain_read queues q chain (inside_of old cells free queues q view exists) read in
      let n = ap (λ (h : Chain). h.count) is in
      let f = ap (λ (h : Chain). h.last) is in
      let l = queue_last-inside cells free queues p q (omega arith) in omega arith

  -- what is read in its first cell is its first item
  pub front-read : (old : Queues T) (cells : List (Cell T)) (free chain : Chain) (queues : List Chain) (q : ℕ) (cell : Cell T)
      → seen cells free queues ≡ old → IsPool cells free queues → q < length old.queues → chain ≡ get_or queues q chain
      → 0 < chain.count → cell ≡ get_or cells chain.first cell → cell.item ≡ slice_get (items_in old q) 0
  front-read old cells free chain queues q cell view p exists read some at =
      let inside = inside_of old cells free queues q view exists in
      let is = chain_read queues q chain inside read in
      let some' : 0 < count_at queues q = let n = ap (λ (h : Chain). h.count) is in omega arith in
      let l = first-inside old cells free chain queues q view p exists read some in
      let here : cell ≡ get_or cells chain.first no_cell = at ∙ get_or_default cells chain.first cell no_cell l in
      ap (λ (x : Cell T). x.item) here
      ∙ (ap (λ (h : Chain). item_of cells h.first) is
      ∙ (front-first cells free queues p q inside some'
      ∙ ap (λ (w : Queues T). slice_get (items_in w q) 0) view))

  -- a queue that was read has no more cells than the table has besides the free ones
  pub count-within : (old : Queues T) (cells : List (Cell T)) (free chain : Chain) (queues : List Chain) (q : ℕ)
      → seen cells free queues ≡ old → IsPool cells free queues → q < length old.queues → chain ≡ get_or queues q chain
      → chain.count + old.spare ≤ cells_of old
  count-within old cells free chain queues q view p exists read =
      let inside = inside_of old cells free queues q view exists in
      let n = ap (λ (h : Chain). h.count) (chain_read queues q chain inside read) in
      let few = seen-within cells free queues p q inside in
      let all = seen-cells cells free queues p in
      let same = ap (λ (w : Queues T). cells_of w) view in
      let spare = ap (λ (w : Queues T). w.spare) view in omega arith

  -- the first cell of a queue was moved to the free ones
  pub popped-all : (old : Queues T) (cells cells' : List (Cell T)) (free free' chain queue' : Chain) (queues : List Chain) (q : ℕ) (o : Option T)
      → seen cells free queues ≡ old → IsPool cells free queues → q < length old.queues → chain ≡ get_or queues q chain → 0 < chain.count
      → o ≡ item_of cells chain.first → cells' ≡ moved cells chain free None → queue' ≡ rest_of cells chain
      → free' ≡ lengthened free chain.first → IsAfterPop old cells' free' (set queues q queue') q o
  popped-all old cells cells' free free' chain queue' queues q o view p exists read some item table shorter back =
      let inside = inside_of old cells free queues q view exists in
      let is = chain_read queues q chain inside read in
      let some' : 0 < count_at queues q = let n = ap (λ (h : Chain). h.count) is in omega arith in
      let head = (chain_at queues q).first in
      let cells2 = moved cells (chain_at queues q) free None in
      let free2 = lengthened free head in
      let queues2 = set queues q (rest_of cells (chain_at queues q)) in
      let e : cells' ≡ cells2 = table ∙ ap (λ (h : Chain). moved cells h free None) is in
      let f : free' ≡ free2 = back ∙ ap (λ (h : Chain). lengthened free h.first) is in
      let g : set queues q queue' ≡ queues2 =
      ap (λ (h : Chain). set queues q h) shorter ∙ ap (λ (h : Chain). set queues q (rest_of cells h)) is in
      let i : o ≡ item_of cells head = item ∙ ap (λ (h : Chain). item_of cells h.first) is in
      let pool = IsPool-same cells2 cells' free2 free' queues2 (set queues q queue') e f g (pop-pool cells free queues p q some' inside) in
      let now = seen-same cells2 cells' free2 free' queues2 (set queues q queue') e f g in
      record {
        pool = pool;
        some =
            subst (λ (w : Queues T). IfSome o (Pops w (seen cells' free' (set queues q queue')) q)) view
            (subst (λ (w : Queues T). IfSome o (Pops (seen cells free queues) w q)) now (pop-pops cells free queues p q some' inside o i));
        never_none = pop-none cells free queues p q some' inside o ⊥ i;
        number =
            let m = length-map (set queues q queue') (items_of cells') in
            let n = length-set queues q queue' in
            let k = length-map queues (items_of cells) in
            let w = ap (λ (w : Queues T). length w.queues) view in omega arith;
        as_many =
            seen-cells cells' free' (set queues q queue') pool
            ∙ (ap (λ (x : List (Cell T)). length x) e
            ∙ (pop_length cells free queues p q some' inside
            ∙ (sym (seen-cells cells free queues p) ∙ ap (λ (w : Queues T). cells_of w) view)));
      }

  -- what a pool is after an item was pushed
  pub record IsAfterPush (old : Queues T) (cells : List (Cell T)) (free : Chain) (queues : List Chain) (q : ℕ) (y : T) : Type 0 where
    pub pool : IsPool cells free queues
    pub queue_items : map (items_of cells) queues ≡ set old.queues q (items_in old q ++ y ∷ [])
    pub number : length (map (items_of cells) queues) ≡ length old.queues
    pub as_many : cells_of (seen cells free queues) ≡ cells_of old

  -- the first free cell was moved to a queue, with an item
  pub pushed-all : (old : Queues T) (cells cells' : List (Cell T)) (free free' chain queue' : Chain) (queues : List Chain) (q : ℕ) (y : T)
      → seen cells free queues ≡ old → IsPool cells free queues → q < length old.queues → chain ≡ get_or queues q chain → 0 < free.count
      → cells' ≡ moved cells free chain (Some y) → free' ≡ rest_of cells free
      → queue' ≡ lengthened chain free.first → IsAfterPush old cells' free' (set queues q queue') q y
  pushed-all old cells cells' free free' chain queue' queues q y view p exists read some table rest longer =
      let inside = inside_of old cells free queues q view exists in
      let is = chain_read queues q chain inside read in
      let cells2 = moved cells free (chain_at queues q) (Some y) in
      let free2 = rest_of cells free in
      let queues2 = set queues q (lengthened (chain_at queues q) free.first) in
      let e : cells' ≡ cells2 = table ∙ ap (λ (h : Chain). moved cells free h (Some y)) is in
      let g : set queues q queue' ≡ queues2 =
      ap (λ (h : Chain). set queues q h) longer ∙ ap (λ (h : Chain). set queues q (lengthened h free.first)) is in
      let pool = IsPool-same cells2 cells' free2 free' queues2 (set queues q queue') e rest g (push-pool cells free queues p q y some inside) in
      let now = seen-same cells2 cells' free2 free' queues2 (set queues q queue') e rest g in
      record {
        pool = pool;
        queue_items =
            ap (λ (w : Queues T). w.queues) (sym now)
            ∙ (push-queues cells free queues p q y some inside
            ∙ ap (λ (w : Queues T). set w.queues q (items_in w q ++ y ∷ [])) view);
        number =
            let m = length-map (set queues q queue') (items_of cells') in
            let n = length-set queues q queue' in
            let k = length-map queues (items_of cells) in
            let w = ap (λ (w : Queues T). length w.queues) view in omega arith;
        as_many =
            seen-cells cells' free' (set queues q queue') pool
            ∙ (ap (λ (x : List (Cell T)). length x) e
            ∙ (push_length cells free queues p q y some inside
            ∙ (sym (seen-cells cells free queues p) ∙ ap (λ (w : Queues T). cells_of w) view)));
      }

  -- a cell was added to the free ones
  pub record IsGrown (cells cells' : List (Cell T)) (free' : Chain) (queues : List Chain) : Type 0 where
    pub pool : IsPool cells' free' queues
    pub queue_items : map (items_of cells') queues ≡ map (items_of cells) queues

  pub grown-all : (cells cells' : List (Cell T)) (free free' : Chain) (queues : List Chain) (n : ℕ) → IsPool cells free queues → n ≡ length cells
      → cells' ≡ linked (cells ++ no_cell ∷ []) free n → free' ≡ lengthened free n → IsGrown cells cells' free' queues
  grown-all cells cells' free free' queues n p size table back =
      let cells2 = linked (cells ++ no_cell ∷ []) free (length cells) in
      let e : cells' ≡ cells2 = table ∙ ap (λ (k : ℕ). linked (cells ++ no_cell ∷ []) free k) size in
      let f : free' ≡ lengthened free (length cells) = back ∙ ap (λ (k : ℕ). lengthened free k) size in
      record {
        pool = IsPool-same cells2 cells' (lengthened free (length cells)) free' queues queues e f refl (grown-pool cells free queues p);
        queue_items = ap (λ (x : List (Cell T)). map (items_of x) queues) e ∙ grown-queues cells free queues p;
      }

  -- queues without cells and a table without cells are a pool
  pub IsPool-new : (n : ℕ) → IsPool {T = T} [] no_chain (replicate n no_chain)
  IsPool-new n = record {
    table = record {
      in_table = λ c j l. let e = none_at n c in absurd (omega arith);
      apart = λ c d j k l m e. let f = none_at n c in absurd (omega arith);
      last = λ c j e. let f = none_at n c in absurd (omega arith);
    };
    full = λ q. ap (λ (h : Chain). length (items_of {T = T} [] h)) (chain_none n q) ∙ sym (ap (λ (h : Chain). h.count) (chain_none n q));
    counted = sym (no_cells n);
  }

  -- its queues are empty
  pub seen-new : (n : ℕ) → map (items_of {T = T} []) (replicate n no_chain) ≡ replicate n []
  seen-new zero = refl
  seen-new (suc n) = let rest = seen-new n in cc

  -- a pool of so many queues that was just made
  pub new-pool : (cells : List (Cell T)) (chains : List Chain) (n : ℕ) → cells ≡ [] → chains ≡ replicate n no_chain → IsPool cells no_chain chains
  new-pool cells chains n e f = IsPool-same [] cells no_chain no_chain (replicate n no_chain) chains e refl f (IsPool-new n)

  pub new-queues : (cells : List (Cell T)) (chains : List Chain) (n m : ℕ) → cells ≡ [] → chains ≡ replicate n no_chain → n ≡ m
      → map (items_of cells) chains ≡ replicate m []
  new-queues cells chains n m e f g =
      ap (λ (w : Queues T). w.queues) (sym (seen-same [] cells no_chain no_chain (replicate n no_chain) chains e refl f))
      ∙ (seen-new n ∙ ap (λ (k : ℕ). replicate k []) g)
