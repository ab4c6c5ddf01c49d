-- What is printed of a literal is of the grammar.
use Rattle.std.proofs.Common.{suc, true, false, pos, negsuc, [], ◌∷◌, ◌++◌, subst}
use Rattle.abc_value.specs.declared.scalar.Scalar.{Scalar}
use Rattle.abc_value.specs.declared.scalar.Scalar.TheVariants as s
use Rattle.abc_value.specs.declared.value.Value.{Value}
use Rattle.abc_value.specs.declared.value.Value.TheVariants as v
use Rattle.abc_value.specs.Sets.{set_of}
use Rattle.abc_value.specs.Literals as value
use Rattle.abc_value.proofs.Members.{has_set, rises_set, same_members}
use Rattle.abc_text.specs.declared.words.Mark.TheVariants as m
use Rattle.abc_grammar.specs.declared.lexemes.Lexeme.TheVariants as l
use Rattle.abc_grammar.specs.Literals.{IsScalar, IsLiteral}
use Rattle.abc_grammar.specs.Literals as g
use Rattle.abc_printed.specs.Parts.{mark, listed, lexemes}
use Rattle.abc_printed.specs.Forms.{scalar_parts, literal_parts}
use Rattle.abc_printed_laws.proofs.Parts.{of_pieces}
use Rattle.abc_printed_laws.proofs.Listed.{may_be_listed}

-- A scalar that is a value.
pub scalar_is : (x : Scalar) → value.IsScalar x → IsScalar (lexemes (scalar_parts x)) x
scalar_is (s.Number (pos n)) h = g.number h
scalar_is (s.Number (negsuc n)) h = g.negative {n = suc n} h
scalar_is (s.Text bytes) h = g.text
scalar_is (s.Truth true) h = g.yes
scalar_is (s.Truth false) h = g.no

-- A value; a set is its own set of members, since they rise.
pub literal_is : (v : Value) → value.IsValue v → IsLiteral (lexemes (literal_parts v)) v
literal_is (v.Scalar x) h = g.scalar (scalar_is x h)
literal_is (v.Set xs) h =
    let same = same_members (set_of xs) xs (rises_set xs) h.0.rises (has_set xs) in
    let set = g.set (may_be_listed IsScalar value.IsScalar scalar_parts scalar_is xs h.1) in
    of_pieces (λ ts. IsLiteral (l.Mark m.OpenCurly ∷ ts) (v.Set xs)) (listed scalar_parts xs) (mark m.CloseCurly ∷ [])
    (subst (λ ys. IsLiteral (l.Mark m.OpenCurly ∷ lexemes (listed scalar_parts xs) ++ l.Mark m.CloseCurly ∷ []) (v.Set ys)) same set)
literal_is v.Nothing h = g.nothing
