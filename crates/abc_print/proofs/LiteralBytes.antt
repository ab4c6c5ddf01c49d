-- The table of forms prints a literal as it is written.
use Rattle.std.proofs.Common.{◌≡◌, ℕ, true, false, pos, negsuc, List, [], ◌∷◌, ◌++◌, flat_map, refl, ap, ◌∙◌, append-nil, decimal, suc}
use Rattle.abc_value.specs.declared.scalar.Scalar.{Scalar}
use Rattle.abc_value.specs.declared.scalar.Scalar.TheVariants.{Number, Text, Truth}
use Rattle.abc_value.specs.declared.value.Value.{Value}
use Rattle.abc_value.specs.declared.value.Value.TheVariants.{Scalar as One, Set, Nothing}
use Rattle.abc_value.specs.Literals.{literal, scalar_text, members_text, next_text}
use Rattle.abc_text.specs.Spelling.{text_spelling}
use Rattle.abc_text.specs.declared.words.Mark.TheVariants as m
use Rattle.abc_printed.specs.Parts.{mark, behind_comma, listed, bytes_of}
use Rattle.abc_printed.specs.Forms.{scalar_parts, literal_parts}
use Rattle.abc_print.proofs.Joined.{bytes-append}

scalars : (words : List (List ℕ)) (x : Scalar) → bytes_of words (scalar_parts x) ≡ scalar_text x
scalars words (Number (pos n)) = append-nil (decimal n)
scalars words (Number (negsuc n)) = ap (λ digits. 45 ∷ digits) (append-nil (decimal (suc n)))
scalars words (Text bytes) = append-nil (text_spelling bytes)
scalars words (Truth true) = refl
scalars words (Truth false) = refl

-- members behind the first
others : (words : List (List ℕ)) (xs : List Scalar) → bytes_of words (flat_map (behind_comma scalar_parts) xs) ≡ flat_map next_text xs
others words [] = refl
others words (x ∷ xs) =
    bytes-append words (behind_comma scalar_parts x) (flat_map (behind_comma scalar_parts) xs)
    ∙ ap (λ text. 44 ∷ 32 ∷ (text ++ bytes_of words (flat_map (behind_comma scalar_parts) xs))) (scalars words x)
    ∙ ap (λ rest. next_text x ++ rest) (others words xs)

members : (words : List (List ℕ)) (xs : List Scalar) → bytes_of words (listed scalar_parts xs) ≡ members_text xs
members words [] = refl
members words (x ∷ xs) =
    bytes-append words (scalar_parts x) (flat_map (behind_comma scalar_parts) xs)
    ∙ ap (λ text. text ++ bytes_of words (flat_map (behind_comma scalar_parts) xs)) (scalars words x)
    ∙ ap (λ rest. scalar_text x ++ rest) (others words xs)

pub literals : (words : List (List ℕ)) (v : Value) → bytes_of words (literal_parts v) ≡ literal v
literals words (One x) = scalars words x
literals words (Set xs) =
    ap (λ inner. 123 ∷ inner)
    (bytes-append words (listed scalar_parts xs) (mark m.CloseCurly ∷ []) ∙ ap (λ text. text ++ 125 ∷ []) (members words xs))
literals words Nothing = refl
