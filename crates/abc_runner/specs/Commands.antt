-- The table of commands: which words are a command, and which one. All other lists of words are
-- none.
--
--   solo LIMIT PICK
--   run SHAPE LIMIT NODES WORKERS PICK
--   print
--   gen NUMBER SIZE SHAPE
use Rattle.std.specs.Prelude.{ℕ, ◌≤◌, ◌==◌, ◌&&◌, Bool, not, List, [], ◌∷◌, length, nat_le, nat_lt, slice_index, Option, Some, None, if◌then◌else◌, codes, is_some, map, String, string_bytes, ⊤}
use Rattle.std.specs.Cmp.Lexicographic.{pointwise}
use Rattle.std.specs.List.{list_all}
use Rattle.std.specs.Char.{is_ascii_digit}
use Rattle.std.specs.Str.Parse.{digits_value}
use Rattle.abc_shape.specs.declared.shape.Shape.{Shape}
use Rattle.abc_shape.specs.declared.shape.Shape.TheVariants.{Cluster, Ring, Tree}
use Rattle.abc_runner.specs.declared.command.Command.{Command}
use Rattle.abc_runner.specs.declared.command.Command.TheVariants.{Solo, Net, Print, Other}
use Rattle.abc_trace.specs.declared.limits.TheConstants.{MOST_LIMIT, MOST_PICK, MOST_NODES}
use Rattle.abc_runner.specs.declared.limits.TheConstants.{MOST_WORKERS, MOST_NUMBER, LEAST_SIZE, MOST_SIZE}

-- the bytes of a word
abbrev pub Word : Type 0
Word = List ℕ

-- the word is this name
abbrev pub is_name : List ℕ → Word → Bool
is_name name word = pointwise ◌==◌ word name

-- a zero before other digits
abbrev pub leads_with_zero : Word → Bool
leads_with_zero word = nat_lt 1 (length word) && slice_index word 0 == 48

-- decimal digits alone, at least one, with no leading zero but in 0 itself
abbrev pub is_plain : Word → Bool
is_plain word = nat_lt 0 (length word) && list_all is_ascii_digit word && not (leads_with_zero word)

-- the number that a word writes, where it is one from low to high
abbrev pub number_of : ℕ → ℕ → Word → Option ℕ
number_of low high word =
    if is_plain word && nat_le low (digits_value 10 word) && nat_le (digits_value 10 word) high
    then Some (digits_value 10 word) else None

abbrev pub is_number : ℕ → ℕ → Word → Bool
is_number low high word = is_some (number_of low high word)

-- the shape that a word names
abbrev pub shape_of : Word → Option Shape
shape_of word =
    if is_name (codes "cluster") word then Some Cluster
    else (if is_name (codes "ring") word then Some Ring
    else (if is_name (codes "tree") word then Some Tree else None))

abbrev pub is_shape : Word → Bool
is_shape word = is_some (shape_of word)

-- ---- the four rows
abbrev pub solo_of : Option ℕ → Option ℕ → Option Command
solo_of (Some limit) (Some pick) = Some (Solo limit pick)
solo_of _ _ = None

abbrev pub solo_row : Word → Word → Word → Option Command
solo_row name limit pick =
    if is_name (codes "solo") name
    then solo_of (number_of 1 MOST_LIMIT limit) (number_of 0 MOST_PICK pick) else None

abbrev pub network_of :
    Option Shape → Option ℕ → Option ℕ → Option ℕ → Option ℕ → Option Command
network_of (Some shape) (Some limit) (Some nodes) (Some workers) (Some pick) =
    Some (Net shape limit nodes workers pick)
network_of _ _ _ _ _ = None

abbrev pub run_row : Word → Word → Word → Word → Word → Word → Option Command
run_row name shape limit nodes workers pick =
    if is_name (codes "run") name
    then network_of (shape_of shape) (number_of 1 MOST_LIMIT limit) (number_of 1 MOST_NODES nodes)
    (number_of 1 MOST_WORKERS workers) (number_of 0 MOST_PICK pick) else None

abbrev pub print_row : Word → Option Command
print_row name = if is_name (codes "print") name then Some Print else None

-- the values of a row that is not built yet
abbrev pub other_where : Bool → Option Command
other_where b = if b then Some Other else None

abbrev pub command_of : List Word → Option Command
command_of (name ∷ []) = print_row name
command_of (name ∷ limit ∷ pick ∷ []) = solo_row name limit pick
command_of (name ∷ number ∷ size ∷ shape ∷ []) =
    other_where (is_name (codes "gen") name && is_number 0 MOST_NUMBER number
    && is_number LEAST_SIZE MOST_SIZE size && is_shape shape)
command_of (name ∷ shape ∷ limit ∷ nodes ∷ workers ∷ pick ∷ []) =
    run_row name shape limit nodes workers pick
command_of _ = None

-- the command of a list of words, by their bytes
abbrev pub command_in : {Z : Type 0} → List (String Z) → Option Command
command_in words = command_of (map string_bytes words)

-- ---- the numbers of a command
-- a network's numbers are within their limits
abbrev pub IsNetworkWithin : ℕ → ℕ → ℕ → Type 0
IsNetworkWithin limit nodes pick =
    (1 ≤ limit) × (limit ≤ MOST_LIMIT) × (1 ≤ nodes) × (nodes ≤ MOST_NODES) × (pick ≤ MOST_PICK)

-- so are those of each command that runs a program
abbrev pub IsWithin : Command → Type 0
IsWithin (Solo limit pick) = (1 ≤ limit) × (limit ≤ MOST_LIMIT) × (pick ≤ MOST_PICK)
IsWithin (Net shape limit nodes workers pick) =
    IsNetworkWithin limit nodes pick × (1 ≤ workers) × (workers ≤ MOST_WORKERS)
IsWithin Print = ⊤
IsWithin Other = ⊤
