-- The literals of the table of forms are those of the values.
use Rattle.std.specs.Prelude.{◌≡◌, ℕ, List}
use Rattle.abc_value.specs.declared.value.Value.{Value}
use Rattle.abc_value.specs.Literals.{literal}
use Rattle.abc_printed.specs.Parts.{bytes_of}
use Rattle.abc_printed.specs.Forms.{literal_parts}

-- whatever the words of the names are
abbrev pub LiteralsAreOne : Type 0
LiteralsAreOne = (words : List (List ℕ)) (v : Value) → bytes_of words (literal_parts v) ≡ literal v
