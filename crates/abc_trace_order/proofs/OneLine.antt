-- The text of a good line holds no line feed.
use Rattle.std.proofs.Common.{◌≡◌, ℕ, suc, ◌+◌, ◌≤◌, ◌<◌, ◌^◌, Bool, true, false, List, [], ◌∷◌, ◌++◌, length, map, decimal, codes, Option, Some, None, All, pos, negsuc, refl, sym, ap, ◌∙◌, subst, eqb, eq-eqb, arith}
use Rattle.std.specs.Prelude.{flat_map, ◌==◌, ◌||◌, if◌then◌else◌, nat_lt}
use Rattle.std.specs.List.{list_any, AllPass}
use Rattle.std.proofs.lemmas.Bool.Decides.{nat_tests}
use Rattle.std.proofs.lemmas.List.Elements.{All-nil, All-cons, All-tail, All-append}
use Rattle.abc_value.specs.declared.value.Value.{Value}
use Rattle.abc_value.specs.declared.value.Value.TheVariants as v
use Rattle.abc_value.specs.declared.scalar.Scalar.{Scalar}
use Rattle.abc_value.specs.declared.scalar.Scalar.TheVariants as s
use Rattle.abc_value.specs.Literals.{scalar_text, next_text, members_text, literal, escaped, IsScalar, IsValue}
use Rattle.abc_value.specs.Text.{IsPrintable}
use Rattle.abc_value.proofs.Fronts.{fits_pos, fits_neg}
use Rattle.abc_pred.specs.Terms.{Operand, Pred}
use Rattle.abc_pred.specs.Terms as t
use Rattle.abc_shape.specs.declared.shape.Shape.{Shape}
use Rattle.abc_shape.specs.declared.shape.Shape.TheVariants.{Cluster, Ring, Tree}
use Rattle.abc_text.specs.declared.lexical.Before.{Before}
use Rattle.abc_text.specs.declared.lexical.Before.TheVariants.{Open, Sign}
use Rattle.abc_text.specs.declared.words.Keyword.{Keyword}
use Rattle.abc_text.specs.declared.words.Keyword.TheVariants as k
use Rattle.abc_text.specs.declared.words.Mark.{Mark}
use Rattle.abc_text.specs.declared.words.Mark.TheVariants as m
use Rattle.abc_text.specs.Words.{keyword_text, mark_text}
use Rattle.abc_text.specs.Tokens.{is_digit, is_letter, is_word_byte, is_printable, greatest}
use Rattle.abc_text.specs.Spelling.{IsWordSpelling, IsTextValue, text_spelling}
use Rattle.abc_grammar.specs.declared.lexemes.Lexeme.{Lexeme}
use Rattle.abc_grammar.specs.declared.lexemes.Lexeme.TheVariants as l
use Rattle.abc_printed.specs.Parts.{Part, Token, Space, Line, mark, keyword, name, behind_comma, listed, bracketed, lexemes, word_at, spelled, part_bytes, bytes_of}
use Rattle.abc_printed.specs.Forms.{scalar_parts, literal_parts, operand_grade, operand_parts, rounded, pred_grade, pred_parts, squared}
use Rattle.abc_printed.specs.Forms as forms
use Rattle.abc_printed.specs.Printed.{pred_text}
use Rattle.abc_printed.specs.Printable.{HasWord, PredHasValues}
use Rattle.abc_printed_texts.proofs.Good.{Fits, AreGood}
use Rattle.abc_printed_texts.proofs.NamesMet.{all_fit}
use Rattle.abc_printed_texts.proofs.Numerals.{decimal_digits}
use Rattle.abc_printed_texts.proofs.Terms.{pred_good}
use Rattle.abc_trace.specs.declared.trace.Head.{Head}
use Rattle.abc_trace.specs.declared.trace.Head.TheVariants.{Solo, Net}
use Rattle.abc_trace.specs.Lines.{spaced, parted, shape_word}
use Rattle.abc_trace.specs.Lines as lines
use Rattle.abc_trace.specs.WellFormed.{IsName, IsSent, HeadIsWellFormed}
use Rattle.abc_trace_lines.specs.Plain as plain
use Rattle.abc_trace_lines.specs.Spelled.{IsSpelled, SaidIsSpelled, TailIsSpelled, IsHearer, IsEntry}
use Rattle.abc_trace_order.specs.Order.{IsPredText, SaysPred, IsGoodLine}
use Rattle.abc_trace_order.specs.Texts.{IsOneLine}
use Rattle.abc_trace_order.proofs.Splits.{NoFeed}

-- ---- bytes
-- one behind the other
both : (xs ys : List ℕ) → IsOneLine xs → IsOneLine ys → IsOneLine (xs ++ ys)
both xs ys h g = All-append NoFeed xs ys h g

-- one byte more
more : (b : ℕ) (xs : List ℕ) → (b == 10) ≡ false → IsOneLine xs → IsOneLine (b ∷ xs)
more b xs never h = All-cons NoFeed b xs (λ is. let yes = eq-eqb b 10 is in let e : true ≡ false = sym yes ∙ never in cc) h

-- bytes that are tried
fixed : (xs : List ℕ) → list_any (λ b. b == 10) xs ≡ false → IsOneLine xs
fixed [] e = All-nil NoFeed
fixed (b ∷ xs) e = by (b == 10) refl e (fixed xs)
  where
    by :
        (c : Bool) → (b == 10) ≡ c → (c || list_any (λ b. b == 10) xs) ≡ false → (list_any (λ b. b == 10) xs ≡ false → IsOneLine xs) →
        IsOneLine (b ∷ xs)
    by true is e rest = absurd (let e' : true ≡ false = e in cc)
    by false is e rest = more b xs is (rest e)

-- bytes that pass a test that a line feed doesn't
pass : (p : ℕ → Bool) (xs : List ℕ) → p 10 ≡ false → AllPass p xs → IsOneLine xs
pass p xs never h i d lt is = let e : true ≡ false = sym (h i d lt) ∙ ap p is ∙ never in cc

-- each item's text
each : {A : Type 0} (f : A → List ℕ) (P : A → Type 0) → ((a : A) → P a → IsOneLine (f a)) → (xs : List A) → All P xs → IsOneLine (flat_map f xs)
each f P one [] h = All-nil NoFeed
each f P one (x ∷ xs) h = both (f x) (flat_map f xs) (one x (h 0 x (omega arith))) (each f P one xs (All-tail P x xs h))

-- items parted by commas
parted_one : {A : Type 0} (f : A → List ℕ) (P : A → Type 0) → ((a : A) → P a → IsOneLine (f a)) → (xs : List A) → All P xs → IsOneLine (parted f xs)
parted_one f P one [] h = All-nil NoFeed
parted_one f P one (x ∷ xs) h =
    both (f x) (flat_map (lines.behind_comma f) xs) (one x (h 0 x (omega arith)))
    (each (lines.behind_comma f) P (λ a g. both (codes ", ") (f a) (fixed (codes ", ") refl) (one a g)) xs (All-tail P x xs h))

-- two parted by a space
spaced_one : (xs ys : List ℕ) → IsOneLine xs → IsOneLine ys → IsOneLine (spaced xs ys)
spaced_one xs ys h g = both xs (32 ∷ ys) h (more 32 ys refl g)

decimal_one : (n : ℕ) → n < 2 ^ 64 → IsOneLine (decimal n)
decimal_one n h = pass is_digit (decimal n) refl (decimal_digits n h)

word_one : (w : List ℕ) → IsWordSpelling w → IsOneLine w
word_one [] h = absurd h
word_one (b ∷ bs) h = All-cons NoFeed b bs (λ is. let e : true ≡ false = sym h.0 ∙ ap is_letter is in cc) (pass is_word_byte bs refl h.1)

-- ---- lexemes
keyword_none : (w : Keyword) → list_any (λ b. b == 10) (keyword_text w) ≡ false
keyword_none k.Abc = refl
keyword_none k.And = refl
keyword_none k.Comp = refl
keyword_none k.Def = refl
keyword_none k.False = refl
keyword_none k.Ff = refl
keyword_none k.Free = refl
keyword_none k.In = refl
keyword_none k.None = refl
keyword_none k.Not = refl
keyword_none k.Or = refl
keyword_none k.Run = refl
keyword_none k.Set = refl
keyword_none k.Show = refl
keyword_none k.Size = refl
keyword_none k.This = refl
keyword_none k.True = refl
keyword_none k.Tt = refl
keyword_none k.Union = refl
keyword_none k.When = refl
keyword_none k.Without = refl

mark_none : (x : Mark) → list_any (λ b. b == 10) (mark_text x) ≡ false
mark_none m.OpenRound = refl
mark_none m.CloseRound = refl
mark_none m.OpenCurly = refl
mark_none m.CloseCurly = refl
mark_none m.OpenSquare = refl
mark_none m.CloseSquare = refl
mark_none m.Semicolon = refl
mark_none m.Comma = refl
mark_none m.Dot = refl
mark_none m.At = refl
mark_none m.Question = refl
mark_none m.Plus = refl
mark_none m.Minus = refl
mark_none m.Star = refl
mark_none m.Bar = refl
mark_none m.Below = refl
mark_none m.Equal = refl
mark_none m.Becomes = refl

-- a printable byte, with a \ before it or not
escaped_one : (b : ℕ) → is_printable b ≡ true → IsOneLine (escaped b)
escaped_one b h = by (b == 34 || b == 92)
  where
    never : NoFeed b
    never is = let e : true ≡ false = sym h ∙ ap is_printable is in cc

    alone : IsOneLine (b ∷ [])
    alone = All-cons NoFeed b [] never (All-nil NoFeed)

    by : (c : Bool) → IsOneLine (if c then 92 ∷ (b ∷ []) else b ∷ [])
    by true = more 92 (b ∷ []) refl alone
    by false = alone

text_one : (bytes : List ℕ) → IsTextValue bytes → IsOneLine (text_spelling bytes)
text_one bytes h =
    more 34 (flat_map escaped bytes ++ 34 ∷ []) refl
    (both (flat_map escaped bytes) (34 ∷ []) (each escaped (λ b. is_printable b ≡ true) escaped_one bytes h.bytes) (fixed (34 ∷ []) refl))

-- how a lexeme is spelled, where it fits
lexeme_one : (words : List (List ℕ)) (x : Lexeme) → HasWord words x → Fits Sign x → IsOneLine (spelled words x)
lexeme_one words (l.Keyword w) h fits = fixed (keyword_text w) (keyword_none w)
lexeme_one words (l.Mark x) h fits = fixed (mark_text x) (mark_none x)
lexeme_one words (l.Name n) h fits = word_one (word_at words n) h.1
lexeme_one words (l.Variable n) h fits = more 36 (word_at words n) refl (word_one (word_at words n) h.1)
lexeme_one words (l.Number n) h fits = decimal_one n (omega (arith, fits))
lexeme_one words (l.Text bytes) h fits = text_one bytes fits

-- ---- parts that end no line
abbrev NoEnd : List Part → Type 0
NoEnd [] = Unit {0}
NoEnd (Token x ∷ rest) = NoEnd rest
NoEnd (Space ∷ rest) = NoEnd rest
NoEnd (Line ∷ rest) = ⊥

parts_one :
    (words : List (List ℕ)) (parts : List Part) → NoEnd parts → All (HasWord words) (lexemes parts) → All (Fits Sign) (lexemes parts) →
    IsOneLine (bytes_of words parts)
parts_one words [] never h fits = All-nil NoFeed
parts_one words (Token x ∷ rest) never h fits =
    both (spelled words x) (bytes_of words rest) (lexeme_one words x (h 0 x (omega arith)) (fits 0 x (omega arith)))
    (parts_one words rest never (All-tail (HasWord words) x (lexemes rest) h) (All-tail (Fits Sign) x (lexemes rest) fits))
parts_one words (Space ∷ rest) never h fits = more 32 (bytes_of words rest) refl (parts_one words rest never h fits)
parts_one words (Line ∷ rest) never h fits = absurd never

-- one behind the other
ends_both : (xs ys : List Part) → NoEnd xs → NoEnd ys → NoEnd (xs ++ ys)
ends_both [] ys h g = g
ends_both (Token x ∷ xs) ys h g = ends_both xs ys h g
ends_both (Space ∷ xs) ys h g = ends_both xs ys h g
ends_both (Line ∷ xs) ys h g = absurd h

-- in brackets, or without
in_brackets : (opener closer : Mark) (asked grade : ℕ) (xs : List Part) → NoEnd xs → NoEnd (bracketed opener closer asked grade xs)
in_brackets opener closer asked grade xs h = by (nat_lt grade asked)
  where
    by : (b : Bool) → NoEnd (if b then mark opener ∷ xs ++ mark closer ∷ [] else xs)
    by true = ends_both xs (mark closer ∷ []) h tt
    by false = h

-- two sides with something between them
sides : (part : Part) (xs ys : List Part) → NoEnd (part ∷ []) → NoEnd xs → NoEnd ys → NoEnd (xs ++ forms.spaced part ++ ys)
sides part xs ys p h g = ends_both (xs ++ forms.spaced part) ys (ends_both xs (forms.spaced part) h (ends_both (part ∷ []) (Space ∷ []) p tt)) g

scalar_ends : (x : Scalar) → NoEnd (scalar_parts x)
scalar_ends (s.Number (pos n)) = tt
scalar_ends (s.Number (negsuc n)) = tt
scalar_ends (s.Text bytes) = tt
scalar_ends (s.Truth true) = tt
scalar_ends (s.Truth false) = tt

members_end : (xs : List Scalar) → NoEnd (flat_map (behind_comma scalar_parts) xs)
members_end [] = tt
members_end (x ∷ xs) = ends_both (scalar_parts x) (flat_map (behind_comma scalar_parts) xs) (scalar_ends x) (members_end xs)

set_ends : (xs : List Scalar) → NoEnd (listed scalar_parts xs)
set_ends [] = tt
set_ends (x ∷ xs) = ends_both (scalar_parts x) (flat_map (behind_comma scalar_parts) xs) (scalar_ends x) (members_end xs)

literal_ends : (x : Value) → NoEnd (literal_parts x)
literal_ends (v.Scalar x) = scalar_ends x
literal_ends (v.Set xs) = ends_both (listed scalar_parts xs) (mark m.CloseCurly ∷ []) (set_ends xs) tt
literal_ends v.Nothing = tt

operand_ends : (a : Operand) → NoEnd (operand_parts a)
operand_ends (t.Literal x) = literal_ends x
operand_ends (t.Attr a) = tt
operand_ends (t.This a) = tt
operand_ends (t.Var x) = tt
operand_ends (t.Add a b) =
    sides (mark m.Plus) (rounded 0 (operand_grade a) (operand_parts a)) (rounded 1 (operand_grade b) (operand_parts b)) tt
    (in_brackets m.OpenRound m.CloseRound 0 (operand_grade a) (operand_parts a) (operand_ends a))
    (in_brackets m.OpenRound m.CloseRound 1 (operand_grade b) (operand_parts b) (operand_ends b))
operand_ends (t.Sub a b) =
    sides (mark m.Minus) (rounded 0 (operand_grade a) (operand_parts a)) (rounded 1 (operand_grade b) (operand_parts b)) tt
    (in_brackets m.OpenRound m.CloseRound 0 (operand_grade a) (operand_parts a) (operand_ends a))
    (in_brackets m.OpenRound m.CloseRound 1 (operand_grade b) (operand_parts b) (operand_ends b))
operand_ends (t.Mul a b) =
    sides (mark m.Star) (rounded 1 (operand_grade a) (operand_parts a)) (rounded 2 (operand_grade b) (operand_parts b)) tt
    (in_brackets m.OpenRound m.CloseRound 1 (operand_grade a) (operand_parts a) (operand_ends a))
    (in_brackets m.OpenRound m.CloseRound 2 (operand_grade b) (operand_parts b) (operand_ends b))
operand_ends (t.Size a) = ends_both (operand_parts a) (mark m.CloseRound ∷ []) (operand_ends a) tt
operand_ends (t.Free a) = ends_both (operand_parts a) (mark m.CloseRound ∷ []) (operand_ends a) tt

pred_ends : (p : Pred) → NoEnd (pred_parts p)
pred_ends t.True = tt
pred_ends t.False = tt
pred_ends (t.Same a b) = sides (mark m.Equal) (operand_parts a) (operand_parts b) tt (operand_ends a) (operand_ends b)
pred_ends (t.Less a b) = sides (mark m.Below) (operand_parts a) (operand_parts b) tt (operand_ends a) (operand_ends b)
pred_ends (t.Member a b) = sides (keyword k.In) (operand_parts a) (operand_parts b) tt (operand_ends a) (operand_ends b)
pred_ends (t.Not p) = in_brackets m.OpenSquare m.CloseSquare 2 (pred_grade p) (pred_parts p) (pred_ends p)
pred_ends (t.And p q) =
    sides (keyword k.And) (squared 1 (pred_grade p) (pred_parts p)) (squared 2 (pred_grade q) (pred_parts q)) tt
    (in_brackets m.OpenSquare m.CloseSquare 1 (pred_grade p) (pred_parts p) (pred_ends p))
    (in_brackets m.OpenSquare m.CloseSquare 2 (pred_grade q) (pred_parts q) (pred_ends q))
pred_ends (t.Or p q) =
    sides (keyword k.Or) (squared 0 (pred_grade p) (pred_parts p)) (squared 1 (pred_grade q) (pred_parts q)) tt
    (in_brackets m.OpenSquare m.CloseSquare 0 (pred_grade p) (pred_parts p) (pred_ends p))
    (in_brackets m.OpenSquare m.CloseSquare 1 (pred_grade q) (pred_parts q) (pred_ends q))

-- the text of a predicate that is sent
pub sent_one : (words : List (List ℕ)) (p : Pred) → IsSent words p → IsOneLine (pred_text words p)
sent_one words p h = parts_one words (pred_parts p) (pred_ends p) h.named (all_fit Open (pred_parts p) (pred_good p h.values))

-- ---- values
printable_byte : (b : ℕ) → IsPrintable b → is_printable b ≡ true
printable_byte b h = let low = h.0 in let high = h.1 in grind (arith, nat_tests)

scalar_one : (x : Scalar) → IsScalar x → IsOneLine (scalar_text x)
scalar_one (s.Number (pos n)) h = decimal_one n (let small = fits_pos n h in omega (arith, small))
scalar_one (s.Number (negsuc n)) h = more 45 (decimal (suc n)) refl (decimal_one (suc n) (let small = fits_neg n h in omega (arith, small)))
scalar_one (s.Text bytes) h =
    let value : IsTextValue bytes = record { short = h.0; bytes = λ i d lt. printable_byte _ (h.1 i d lt) } in text_one bytes value
scalar_one (s.Truth true) h = fixed (codes "true") refl
scalar_one (s.Truth false) h = fixed (codes "false") refl

members_one : (xs : List Scalar) → All IsScalar xs → IsOneLine (members_text xs)
members_one [] h = All-nil NoFeed
members_one (x ∷ xs) h =
    both (scalar_text x) (flat_map next_text xs) (scalar_one x (h 0 x (omega arith)))
    (each next_text IsScalar (λ a g. more 44 (32 ∷ scalar_text a) refl (more 32 (scalar_text a) refl (scalar_one a g))) xs
    (All-tail IsScalar x xs h))

literal_one : (x : Value) → IsValue x → IsOneLine (literal x)
literal_one (v.Scalar x) h = scalar_one x h
literal_one (v.Set xs) h =
    more 123 (members_text xs ++ 125 ∷ []) refl (both (members_text xs) (125 ∷ []) (members_one xs h.1) (fixed (125 ∷ []) refl))
literal_one v.Nothing h = fixed (codes "none") refl

-- ---- lines
shape_one : (x : Shape) → IsOneLine (shape_word x)
shape_one Cluster = fixed (codes "cluster") refl
shape_one Ring = fixed (codes "ring") refl
shape_one Tree = fixed (codes "tree") refl

head_one : (x : Head) → HeadIsWellFormed x → IsOneLine (plain.head_words x)
head_one (Solo limit pick) h =
    both (codes "abc-trace 1 solo ") (spaced (decimal limit) (decimal pick)) (fixed (codes "abc-trace 1 solo ") refl)
    (spaced_one (decimal limit) (decimal pick) (decimal_one limit (omega (arith, h.1))) (decimal_one pick (omega (arith, h.2))))
head_one (Net shape limit nodes pick) h =
    both (codes "abc-trace 1 ") (spaced (shape_word shape) (spaced (decimal limit) (spaced (decimal nodes) (decimal pick))))
    (fixed (codes "abc-trace 1 ") refl)
    (spaced_one (shape_word shape) (spaced (decimal limit) (spaced (decimal nodes) (decimal pick))) (shape_one shape)
    (spaced_one (decimal limit) (spaced (decimal nodes) (decimal pick)) (decimal_one limit (omega (arith, h.1)))
    (spaced_one (decimal nodes) (decimal pick) (decimal_one nodes (omega (arith, h.4))) (decimal_one pick (omega (arith, h.2))))))

hearer_one : (h : List ℕ × ℕ) → IsHearer h → IsOneLine (plain.hearer_text h)
hearer_one h is = both h.0 (58 ∷ decimal h.1) (word_one h.0 is.0.0) (more 58 (decimal h.1) refl (decimal_one h.1 (omega (arith, is.1))))

hearers_one : (heard : List (List ℕ × ℕ)) → All IsHearer heard → IsOneLine (plain.hearers_text heard)
hearers_one [] h = fixed (codes "-") refl
hearers_one (x ∷ heard) h = parted_one plain.hearer_text IsHearer hearer_one (x ∷ heard) h

pred_one : (bytes : List ℕ) → IsPredText bytes → IsOneLine bytes
pred_one bytes h = subst IsOneLine h.3 (sent_one h.0 h.1 h.2)

tail_one : (said : Option plain.Said) → TailIsSpelled said → SaysPred said → IsOneLine (plain.tail_text said)
tail_one None h p = fixed (codes " -") refl
tail_one (Some s) h p =
    let values = parted literal s.values in
    let heard = plain.hearers_text s.heard in
    let front = codes "(" ++ values in
    let until = front ++ codes ") @ (" in
    let pred = until ++ s.pred in
    let arrow = pred ++ codes ") -> " in
    more 58 (spaced (decimal s.place) (arrow ++ heard)) refl
    (spaced_one (decimal s.place) (arrow ++ heard) (decimal_one s.place (let low = h.place in omega (arith, low)))
    (both arrow heard
    (both pred (codes ") -> ")
    (both until s.pred
    (both front (codes ") @ (")
    (both (codes "(") values (fixed (codes "(") refl) (parted_one literal IsValue literal_one s.values h.values))
    (fixed (codes ") @ (") refl))
    (pred_one s.pred p))
    (fixed (codes ") -> ") refl))
    (hearers_one s.heard h.heard)))

entry_one : (e : List ℕ × Value) → IsEntry e → IsOneLine (plain.entry_text e)
entry_one e is =
    both (e.0 ++ codes " = " ++ literal e.1) (codes "; ")
    (both (e.0 ++ codes " = ") (literal e.1) (both e.0 (codes " = ") (word_one e.0 is.0.0) (fixed (codes " = ") refl)) (literal_one e.1 is.1))
    (fixed (codes "; ") refl)

entries_one : (es : List (List ℕ × Value)) → All IsEntry es → IsOneLine (plain.entries_text es)
entries_one [] h = fixed (codes "{}") refl
entries_one (e ∷ es) h =
    both (codes "{ " ++ flat_map plain.entry_text (e ∷ es)) (codes "}")
    (both (codes "{ ") (flat_map plain.entry_text (e ∷ es)) (fixed (codes "{ ") refl) (each plain.entry_text IsEntry entry_one (e ∷ es) h))
    (fixed (codes "}") refl)

last_one : (limited : Bool) (count : ℕ) → count < 2 ^ 64 → IsOneLine (plain.line_text (plain.Last limited count))
last_one true count h = both (codes "limit ") (decimal count) (fixed (codes "limit ") refl) (decimal_one count h)
last_one false count h = both (codes "quiet ") (decimal count) (fixed (codes "quiet ") refl) (decimal_one count h)

pub good_one : (x : plain.Line) → IsGoodLine x → IsOneLine (plain.line_text x)
good_one (plain.First head) h = head_one head h.spelled
good_one (plain.Number n sender said) h =
    spaced_one (decimal n) (sender ++ plain.tail_text said) (decimal_one n h.spelled.0)
    (both sender (plain.tail_text said) (word_one sender h.spelled.1.0) (tail_one said h.spelled.2 h.pred))
good_one (plain.Env component entries) h =
    both (codes "env ") (spaced component (plain.entries_text entries)) (fixed (codes "env ") refl)
    (spaced_one component (plain.entries_text entries) (word_one component h.spelled.0.0) (entries_one entries h.spelled.1))
good_one (plain.Node node handled) h =
    both (codes "node ") (spaced (decimal node) (decimal handled)) (fixed (codes "node ") refl)
    (spaced_one (decimal node) (decimal handled) (decimal_one node h.spelled.0) (decimal_one handled h.spelled.1))
good_one (plain.Last limited count) h = last_one limited count h.spelled
