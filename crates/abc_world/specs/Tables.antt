-- What a micro-step does to the links of a network, each a list of packets in one table.
use Rattle.std.specs.Prelude.{◌≡◌, ℕ, List, [], ◌++◌, length, slice_index_or}
use Rattle.abc_packet.specs.declared.stamped.Stamped.{Stamped}
use Rattle.abc_packet.specs.Outlets.{sent_on}

-- What was taken stood first on its link, what was sent stands last on its own, and all else is as
-- before.
pub record OnTables {L : Type 0} (taken sends : List (ℕ × Stamped L))
    (links after : List (List (Stamped L))) : Type 0 where
  pub many : length after ≡ length links
  pub queues : (l : ℕ) → (q : List (Stamped L))
      × (slice_index_or links l [] ≡ sent_on l taken ++ q)
      × (slice_index_or after l [] ≡ q ++ sent_on l sends)
