-- The law of merges, as it is stated for every label type.
use Rattle.std.specs.Prelude.{◌≡◌, ℕ, List}
use Rattle.abc_packet.specs.declared.log.Entry.{Entry}
use Rattle.abc_logs.specs.Merges.{IsMerge}

-- Two merges of the same logs are the same list.
abbrev pub MergesAreOne : Type 0 → Type 0
MergesAreOne L =
    (logs : List (List (Entry L))) (one other : List (ℕ × ℕ)) →
    IsMerge logs one → IsMerge logs other → one ≡ other
