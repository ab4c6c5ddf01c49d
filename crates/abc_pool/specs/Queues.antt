-- What contracts see of a pool: the items of each queue, and how many more can be pushed without memory.
use Rattle.std.specs.Prelude.{◌≡◌, ℕ, ◌+◌, List, [], ◌∷◌, length, slice_index_or, slice_set, refl}
use Rattle.std.specs.List.{sum_by}
use Rattle.std.specs.Coded.{Coded, code_by, coded×, coded_ℕ, coded_list}

pub record Queues (T : Type 0) : Type 0 where
  pub queues : List (List T)
  pub spare : ℕ

-- what is seen of a pool is stored as the pair of its fields
abbrev pub queues_code : {T : Type 0} → Coded T → Coded (Queues T)
queues_code {T} code =
    code_by (List (List T) × ℕ) (coded× (coded_list (coded_list code)) coded_ℕ)
    (λ s. (s.queues, s.spare)) (λ p. record { queues = p.0; spare = p.1 }) (λ _. refl)

module _ {T : Type 0} where
  -- the items of a queue, the first one first
  abbrev pub items_in : Queues T → ℕ → List T
  items_in pool queue = slice_index_or pool.queues queue []

  -- how many cells the table has: one for each item that is in a queue, or may still be pushed
  abbrev pub cells_of : Queues T → ℕ
  cells_of pool = pool.spare + sum_by length pool.queues

  -- the first item was taken out of a queue, and the other queues are as before
  pub record Pops (old new : Queues T) (queue : ℕ) (item : T) : Type 0 where
    pub first : items_in old queue ≡ item ∷ items_in new queue
    pub queues : new.queues ≡ slice_set old.queues queue (items_in new queue)
    pub spare : new.spare ≡ old.spare + 1
