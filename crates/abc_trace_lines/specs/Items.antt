-- Items one behind another at the front of bytes: values, those that heard, attributes.
use Rattle.std.specs.Prelude.{◌≡◌, ◌<◌, ◌≤◌, ℕ, List, ◌∷◌, ◌++◌, length, flat_map, codes, All}
use Rattle.abc_value.specs.declared.value.Value.{Value}
use Rattle.abc_value.specs.Literals.{literal, IsValue}
use Rattle.abc_text.specs.Tokens.{is_digit}
use Rattle.abc_grammar.specs.declared.limits.TheConstants.{MOST_PARTS}
use Rattle.abc_trace.specs.Lines.{parted}
use Rattle.abc_trace_lines.specs.Plain.{entry_text}
use Rattle.abc_trace_lines.specs.Spelled.{IsEntry}
use Rattle.abc_trace_lines.specs.Fronts.{StopsAt}

-- an item, and what goes on with no digit
pub record IsItemFront {A : Type 0} (print : A → List ℕ) (Good : A → Type 0) (bytes : List ℕ)
    (a : A) (more : List ℕ) : Type 0 where
  pub good : Good a
  pub text : bytes ≡ print a ++ more
  pub stops : StopsAt is_digit more

-- Items parted by a comma and a space, at least one, and what goes on with no digit and no item.
pub record IsPartedFront {A : Type 0} (print : A → List ℕ) (Good : A → Type 0) (bytes : List ℕ)
    (items : List A) (more : List ℕ) : Type 0 where
  pub some : 0 < length items
  pub good : All Good items
  pub text : bytes ≡ parted print items ++ more
  pub stops : StopsAt is_digit more
  pub ends : (behind : List ℕ) → ¬ (more ≡ codes ", " ++ behind)

-- values in brackets, at most eight, and more
pub record IsTupleFront (bytes : List ℕ) (values : List Value) (more : List ℕ) : Type 0 where
  pub few : length values ≤ MOST_PARTS
  pub good : All IsValue values
  pub text : bytes ≡ codes "(" ++ (parted literal values ++ 41 ∷ more)

-- an attribute with its value, and more
pub record IsEntryFront (bytes : List ℕ) (e : List ℕ × Value) (more : List ℕ) : Type 0 where
  pub good : IsEntry e
  pub text : bytes ≡ entry_text e ++ more

-- attributes with their values up to the bracket that closes them, and more
pub record IsEntriesFront (bytes : List ℕ) (entries : List (List ℕ × Value))
    (more : List ℕ) : Type 0 where
  pub good : All IsEntry entries
  pub text : bytes ≡ flat_map entry_text entries ++ 125 ∷ more
