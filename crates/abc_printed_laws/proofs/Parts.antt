-- The lexemes of parts, piece by piece.
use Rattle.std.proofs.Common.{◌≡◌, List, ◌∷◌, ◌++◌, sym, ◌∙◌, subst, append_assoc}
use Rattle.std.proofs.lemmas.List.Elements.{filter_map-append}
use Rattle.abc_grammar.specs.declared.lexemes.Lexeme.{Lexeme}
use Rattle.abc_printed.specs.Parts.{Part, Token, lexeme_in, lexemes}
use Rattle.abc_printed.specs.Forms.{spaced}

-- The lexemes of parts behind parts are theirs behind those.
pub lexemes-append : (xs ys : List Part) → lexemes (xs ++ ys) ≡ lexemes xs ++ lexemes ys
lexemes-append xs ys = filter_map-append lexeme_in xs ys

-- Two pieces of which each has such lexemes.
pub pieces : (xs ys : List Part) (ts us : List Lexeme) → lexemes xs ≡ ts → lexemes ys ≡ us → lexemes (xs ++ ys) ≡ ts ++ us
pieces xs ys ts us e f = lexemes-append xs ys ∙ (λ i. e i ++ f i)

-- What holds of lexemes in two pieces holds of those of the parts.
pub of_pieces : (P : List Lexeme → Type 0) (xs ys : List Part) → P (lexemes xs ++ lexemes ys) → P (lexemes (xs ++ ys))
of_pieces P xs ys h = subst P (sym (lexemes-append xs ys)) h

-- And so of two sides and the lexeme between them.
pub of_sides :
    (P : List Lexeme → Type 0) (xs : List Part) (t : Lexeme) (ys : List Part) → P (lexemes xs ++ t ∷ lexemes ys) →
    P (lexemes (xs ++ spaced (Token t) ++ ys))
of_sides P xs t ys h =
    subst (λ (ps : List Part). P (lexemes ps)) (sym (append_assoc xs (spaced (Token t)) ys)) (of_pieces P xs (spaced (Token t) ++ ys) h)
