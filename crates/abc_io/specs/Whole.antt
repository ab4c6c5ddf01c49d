-- What was read from a source in a call.
use Rattle.std.specs.Prelude.{ℕ, List, Option}
use Rattle.std.specs.Io.KnownBytes.{Consumes}

-- Some bytes were read: the bytes that the source told begin with them, the rest is left, and P
-- holds of them. Where the source tells nothing, only that some bytes with P are possible.
abbrev pub HasRead : Option (List ℕ) → Option (List ℕ) → (List ℕ → Type 0) → Type 0
HasRead old new P = (read : List ℕ) × Consumes old new read × P read
