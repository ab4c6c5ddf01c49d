-- What each function appends: the bytes of a form, where `words` has each word at its number.
use Rattle.std.specs.Prelude.{ℕ, List, [], ◌∷◌, ◌++◌, flat_map, nat_lt, if◌then◌else◌}
use Rattle.abc_value.specs.declared.value.Value.{Value}
use Rattle.abc_pred.specs.declared.names.Name.{Name}
use Rattle.abc_pred.specs.Terms.{Operand, Expr, Pred}
use Rattle.abc_text.specs.declared.words.Mark.TheVariants as m
use Rattle.abc_text.specs.declared.words.Keyword.TheVariants as k
use Rattle.abc_term.specs.Processes.{Process, Update}
use Rattle.abc_grammar.specs.Plain.{PlainComponent}
use Rattle.abc_printed.specs.Parts.{Part, Space, Line, mark, keyword, name, variable}
use Rattle.abc_printed.specs.Parts.{behind_comma, listed, bytes_of}
use Rattle.abc_printed.specs.Forms.{operand_grade, operand_parts, rounded, expr_parts}
use Rattle.abc_printed.specs.Forms.{pred_grade, pred_parts, squared}
use Rattle.abc_printed.specs.Forms.{process_grade, process_parts, curled, update_parts}
use Rattle.abc_printed.specs.Forms.{output_parts, input_parts, spaced}
use Rattle.abc_printed.specs.Forms.{definition_parts, initial_parts, shown_parts, component_parts}

-- a bracket, exactly where a part of this grade has one
abbrev pub bracket : ℕ → ℕ → ℕ → List ℕ
bracket byte grade asked = if nat_lt grade asked then byte ∷ [] else []

-- ---- names
unfoldable pub name_list : List (List ℕ) → List Name → List ℕ
name_list words names = bytes_of words (listed (λ n. name n ∷ []) names)

unfoldable pub next_name : List (List ℕ) → Name → List ℕ
next_name words n = bytes_of words (behind_comma (λ n. name n ∷ []) n)

unfoldable pub variable_list : List (List ℕ) → List Name → List ℕ
variable_list words names = bytes_of words (listed (λ n. variable n ∷ []) names)

unfoldable pub next_variable : List (List ℕ) → Name → List ℕ
next_variable words n = bytes_of words (behind_comma (λ n. variable n ∷ []) n)

-- ---- operands and expressions, the operands where a grade is asked
unfoldable pub operand_bytes : List (List ℕ) → ℕ → Operand → List ℕ
operand_bytes words asked o = bytes_of words (rounded asked (operand_grade o) (operand_parts o))

unfoldable pub operand_list : List (List ℕ) → List Operand → List ℕ
operand_list words operands = bytes_of words (listed operand_parts operands)

unfoldable pub next_operand : List (List ℕ) → Operand → List ℕ
next_operand words o = bytes_of words (behind_comma operand_parts o)

unfoldable pub expr_bytes : List (List ℕ) → Expr → List ℕ
expr_bytes words e = bytes_of words (expr_parts e)

unfoldable pub expr_list : List (List ℕ) → List Expr → List ℕ
expr_list words exprs = bytes_of words (listed expr_parts exprs)

unfoldable pub next_expr : List (List ℕ) → Expr → List ℕ
next_expr words e = bytes_of words (behind_comma expr_parts e)

-- ---- predicates, where a grade is asked
unfoldable pub pred_bytes : List (List ℕ) → ℕ → Pred → List ℕ
pred_bytes words asked p = bytes_of words (squared asked (pred_grade p) (pred_parts p))

-- ---- processes, where a grade is asked
unfoldable pub update_bytes : List (List ℕ) → Update → List ℕ
update_bytes words u = bytes_of words (update_parts u)

-- an output and an input up to its point and the space behind it
unfoldable pub output_bytes : List (List ℕ) → List Expr → Pred → List ℕ
output_bytes words exprs p = bytes_of words (output_parts exprs p ++ spaced (mark m.Dot))

unfoldable pub input_bytes : List (List ℕ) → Pred → List Name → List ℕ
input_bytes words p variables = bytes_of words (input_parts p variables ++ spaced (mark m.Dot))

unfoldable pub process_bytes : List (List ℕ) → ℕ → Process → List ℕ
process_bytes words asked P = bytes_of words (curled asked (process_grade P) (process_parts P))

-- ---- programs
unfoldable pub definition_bytes : List (List ℕ) → Name × Process → List ℕ
definition_bytes words d = bytes_of words (definition_parts d)

unfoldable pub initial_bytes : List (List ℕ) → Name × Value → List ℕ
initial_bytes words a = bytes_of words (initial_parts a)

unfoldable pub shown_bytes : List (List ℕ) → List Name → List ℕ
shown_bytes words names = bytes_of words (shown_parts names)

-- `comp NAME {` and a line for each attribute
abbrev pub opening_parts : PlainComponent → List Part
opening_parts C =
    keyword k.Comp ∷ Space ∷ name C.name ∷ Space ∷ mark m.OpenCurly ∷ Line
    ∷ flat_map initial_parts C.initial

unfoldable pub opening_bytes : List (List ℕ) → PlainComponent → List ℕ
opening_bytes words C = bytes_of words (opening_parts C)

-- `  show NAMES;`, `  run PROC;` and `}`
abbrev pub closing_parts : List Name → Process → List Part
closing_parts shown P =
    Space ∷ Space ∷ keyword k.Show ∷ shown_parts shown ++ mark m.Semicolon ∷ Line
    ∷ Space ∷ Space ∷ keyword k.Run ∷ Space ∷ process_parts P
    ++ mark m.Semicolon ∷ Line ∷ mark m.CloseCurly ∷ Line ∷ []

unfoldable pub closing_bytes : List (List ℕ) → List Name → Process → List ℕ
closing_bytes words shown P = bytes_of words (closing_parts shown P)

unfoldable pub component_bytes : List (List ℕ) → PlainComponent → List ℕ
component_bytes words C = bytes_of words (component_parts C)
