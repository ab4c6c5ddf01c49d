-- The last token of a predicate's print ends where its bytes end.
use Rattle.std.proofs.Common.{◌≡◌, ℕ, zero, suc, ◌+◌, ◌-◌, Bool, true, false, List, [], ◌∷◌, ◌++◌, length, pos, negsuc, Option, Some, refl, sym, ap, ◌∙◌, subst, append_assoc, arith, length-append}
use Rattle.std.specs.Prelude.{slice_get, nat_lt, if◌then◌else◌}
use Rattle.std.specs.Option.{option_map_or}
use Rattle.abc_value.specs.declared.scalar.Scalar.{Scalar}
use Rattle.abc_value.specs.declared.scalar.Scalar.TheVariants as s
use Rattle.abc_value.specs.declared.value.Value.{Value}
use Rattle.abc_value.specs.declared.value.Value.TheVariants as v
use Rattle.abc_pred.specs.Terms.{Operand, Pred}
use Rattle.abc_pred.specs.Terms as t
use Rattle.abc_text.specs.declared.lexical.Token.{Token as TextToken}
use Rattle.abc_text.specs.declared.words.Mark.{Mark}
use Rattle.abc_text.specs.declared.words.Mark.TheVariants as m
use Rattle.abc_text.specs.declared.words.Keyword.TheVariants as k
use Rattle.abc_grammar.specs.declared.lexemes.Lexeme.{Lexeme}
use Rattle.abc_grammar.specs.declared.lexemes.Lexeme.TheVariants as l
use Rattle.abc_grammar.specs.Fronts.{front_end}
use Rattle.abc_printed.specs.Parts.{Part, Token, Space, Line, mark, keyword, listed, bracketed, lexemes, spelled, bytes_of}
use Rattle.abc_printed.specs.Forms.{spaced, scalar_parts, literal_parts, operand_grade, operand_parts, rounded, pred_grade, pred_parts, squared}
use Rattle.abc_printed_texts.specs.Read.{kind_of}
use Rattle.abc_printed_texts.proofs.ReadParts.{tokens_from}

-- ---- a print of a predicate ends with a lexeme
pub record EndsWithToken (parts : List Part) : Type 0 where
  pub front : List Part
  pub last : Lexeme
  pub whole : parts ≡ front ++ Token last ∷ []

-- A lexeme alone ends with itself.
one : (t : Lexeme) → EndsWithToken (Token t ∷ [])
one t = record { front = []; last = t; whole = refl }

-- What stands before doesn't matter.
behind : (xs : List Part) {ys : List Part} → EndsWithToken ys → EndsWithToken (xs ++ ys)
behind xs {ys} h = record {
  front = xs ++ h.front;
  last = h.last;
  whole = ap (λ (zs : List Part). xs ++ zs) h.whole ∙ sym (append_assoc xs h.front (Token h.last ∷ []));
}

-- Brackets end with the closing one.
bracketed_ends :
    (opener closer : Mark) (asked grade : ℕ) (parts : List Part) → EndsWithToken parts →
    EndsWithToken (bracketed opener closer asked grade parts)
bracketed_ends opener closer asked grade parts h = by (nat_lt grade asked)
  where
    by : (b : Bool) → EndsWithToken (if b then mark opener ∷ parts ++ mark closer ∷ [] else parts)
    by true = behind (mark opener ∷ parts) (one (l.Mark closer))
    by false = h

-- A scalar ends with a lexeme.
scalar_ends : (x : Scalar) → EndsWithToken (scalar_parts x)
scalar_ends (s.Number (pos n)) = one (l.Number n)
scalar_ends (s.Number (negsuc n)) = behind (mark m.Minus ∷ []) (one (l.Number (suc n)))
scalar_ends (s.Text bytes) = one (l.Text bytes)
scalar_ends (s.Truth true) = one (l.Keyword k.True)
scalar_ends (s.Truth false) = one (l.Keyword k.False)

-- A value does.
literal_ends : (v : Value) → EndsWithToken (literal_parts v)
literal_ends (v.Scalar x) = scalar_ends x
literal_ends (v.Set xs) = behind (mark m.OpenCurly ∷ listed scalar_parts xs) (one (l.Mark m.CloseCurly))
literal_ends v.Nothing = one (l.Keyword k.None)

-- An operand does.
operand_ends : (a : Operand) → EndsWithToken (operand_parts a)
operand_ends (t.Literal v) = literal_ends v
operand_ends (t.Attr a) = one (l.Name a)
operand_ends (t.This a) = behind (keyword k.This ∷ mark m.Dot ∷ []) (one (l.Name a))
operand_ends (t.Var x) = one (l.Variable x)
operand_ends (t.Add a b) =
    behind (rounded 0 (operand_grade a) (operand_parts a) ++ spaced (mark m.Plus))
    (bracketed_ends m.OpenRound m.CloseRound 1 (operand_grade b) (operand_parts b) (operand_ends b))
operand_ends (t.Sub a b) =
    behind (rounded 0 (operand_grade a) (operand_parts a) ++ spaced (mark m.Minus))
    (bracketed_ends m.OpenRound m.CloseRound 1 (operand_grade b) (operand_parts b) (operand_ends b))
operand_ends (t.Mul a b) =
    behind (rounded 1 (operand_grade a) (operand_parts a) ++ spaced (mark m.Star))
    (bracketed_ends m.OpenRound m.CloseRound 2 (operand_grade b) (operand_parts b) (operand_ends b))
operand_ends (t.Size a) = behind (keyword k.Size ∷ mark m.OpenRound ∷ operand_parts a) (one (l.Mark m.CloseRound))
operand_ends (t.Free a) = behind (keyword k.Free ∷ mark m.OpenRound ∷ operand_parts a) (one (l.Mark m.CloseRound))

-- And a predicate does.
pub pred_ends : (p : Pred) → EndsWithToken (pred_parts p)
pred_ends t.True = one (l.Keyword k.Tt)
pred_ends t.False = one (l.Keyword k.Ff)
pred_ends (t.Same a b) = behind (operand_parts a ++ spaced (mark m.Equal)) (operand_ends b)
pred_ends (t.Less a b) = behind (operand_parts a ++ spaced (mark m.Below)) (operand_ends b)
pred_ends (t.Member a b) = behind (operand_parts a ++ spaced (keyword k.In)) (operand_ends b)
pred_ends (t.Not p) =
    behind (keyword k.Not ∷ Space ∷ []) (bracketed_ends m.OpenSquare m.CloseSquare 2 (pred_grade p) (pred_parts p) (pred_ends p))
pred_ends (t.And p q) =
    behind (squared 1 (pred_grade p) (pred_parts p) ++ spaced (keyword k.And))
    (bracketed_ends m.OpenSquare m.CloseSquare 2 (pred_grade q) (pred_parts q) (pred_ends q))
pred_ends (t.Or p q) =
    behind (squared 0 (pred_grade p) (pred_parts p) ++ spaced (keyword k.Or))
    (bracketed_ends m.OpenSquare m.CloseSquare 1 (pred_grade q) (pred_parts q) (pred_ends q))

-- ---- where the last token ends
record EndsAt (ts : List TextToken) (size : ℕ) : Type 0 where
  pub front : List TextToken
  pub last : TextToken
  pub whole : ts ≡ front ++ last ∷ []
  pub ends : last.place + last.len ≡ size

-- The tokens of such parts end where the bytes do.
tokens_end :
    (words : List (List ℕ)) (place : ℕ) (front : List Part) (t : Lexeme) →
    EndsAt (tokens_from words place (front ++ Token t ∷ [])) (place + length (bytes_of words (front ++ Token t ∷ [])))
tokens_end words place [] t = record {
  front = [];
  last = record { kind = kind_of t; place = place; len = length (spelled words t) };
  whole = refl;
  ends = omega (arith, length-append {A = ℕ} (spelled words t) []);
}
tokens_end words place (Token u ∷ front) t =
    let more = tokens_end words (place + length (spelled words u)) front t in
    let ends = more.ends in
    record {
      front = record { kind = kind_of u; place = place; len = length (spelled words u) } ∷ more.front;
      last = more.last;
      whole = ap (λ (us : List TextToken). record { kind = kind_of u; place = place; len = length (spelled words u) } ∷ us) more.whole;
      ends = omega (arith, ends, length-append {A = ℕ} (spelled words u) (bytes_of words (front ++ Token t ∷ [])));
    }
tokens_end words place (Space ∷ front) t =
    let more = tokens_end words (place + 1) front t in
    let ends = more.ends in
    record { front = more.front; last = more.last; whole = more.whole; ends = omega (arith, ends) }
tokens_end words place (Line ∷ front) t =
    let more = tokens_end words (place + 1) front t in
    let ends = more.ends in
    record { front = more.front; last = more.last; whole = more.whole; ends = omega (arith, ends) }

-- The last of a list stands at the number of those before it.
get_last : (front : List TextToken) (last : TextToken) (n : ℕ) → n ≡ length front → slice_get (front ++ last ∷ []) n ≡ Some last
get_last [] last zero e = refl
get_last [] last (suc n) e = absurd (omega (arith, e))
get_last (t ∷ front) last zero e = absurd (omega (arith, e))
get_last (t ∷ front) last (suc n) e = get_last front last n (omega (arith, e))

-- So a front of all tokens ends where the last does.
front_ends : (ts : List TextToken) (size count : ℕ) → EndsAt ts size → count ≡ length ts → front_end ts count ≡ size
front_ends ts size count h e =
    let long : length ts ≡ length h.front + 1 = ap (length {A = TextToken}) h.whole ∙ length-append {A = TextToken} h.front (h.last ∷ []) in
    let last : slice_get ts (count - 1) ≡ Some h.last =
    ap (λ (us : List TextToken). slice_get us (count - 1)) h.whole ∙ get_last h.front h.last (count - 1) (omega (arith, e, long)) in
    ap (λ (o : Option TextToken). option_map_or (λ t. t.place + t.len) o 0) last ∙ h.ends

-- each lexeme has one token
pub tokens_length : (words : List (List ℕ)) (place : ℕ) (parts : List Part) → length (tokens_from words place parts) ≡ length (lexemes parts)
tokens_length words place [] = refl
tokens_length words place (Token t ∷ rest) = let more = tokens_length words (place + length (spelled words t)) rest in omega (arith, more)
tokens_length words place (Space ∷ rest) = tokens_length words (place + 1) rest
tokens_length words place (Line ∷ rest) = tokens_length words (place + 1) rest

-- The front of all tokens of such parts ends with their bytes.
pub parts_end : (words : List (List ℕ)) (parts : List Part) → EndsWithToken parts →
    length (bytes_of words parts) ≡ front_end (tokens_from words 0 parts) (length (lexemes parts))
parts_end words parts h =
    let ends : EndsAt (tokens_from words 0 parts) (0 + length (bytes_of words parts)) =
    subst (λ (xs : List Part). EndsAt (tokens_from words 0 xs) (0 + length (bytes_of words xs))) (sym h.whole) (tokens_end words 0 h.front h.last) in
    let all = front_ends (tokens_from words 0 parts) (0 + length (bytes_of words parts)) (length (lexemes parts)) ends
    (sym (tokens_length words 0 parts)) in
    omega (arith, all)
