-- The words of a line are words, and are no more than its text is long.
use Rattle.std.proofs.Common.{◌≡◌, ℕ, ◌+◌, ◌≤◌, ◌<◌, List, [], ◌∷◌, ◌++◌, length, map, decimal, codes, Option, Some, None, All, refl, sym, ap, length-append, arith}
use Rattle.std.specs.Prelude.{flat_map, filter_map}
use Rattle.std.proofs.lemmas.List.{length-map}
use Rattle.std.proofs.lemmas.List.Elements.{All-nil, All-cons, All-tail, All-append, All-map}
use Rattle.abc_value.specs.declared.value.Value.{Value}
use Rattle.abc_value.specs.Literals.{literal}
use Rattle.abc_pred.specs.declared.names.Name.{Name}
use Rattle.abc_pred.specs.Terms.{Pred}
use Rattle.abc_pred.specs.Standing.{pred_of}
use Rattle.abc_text.specs.Spelling.{IsWordSpelling}
use Rattle.abc_grammar.specs.declared.lexemes.Lexeme.{Lexeme}
use Rattle.abc_grammar.specs.declared.lexemes.Lexeme.TheVariants as l
use Rattle.abc_printed.specs.Parts.{Part, Token, Space, Line as LineEnd, word_at, spelled, lexemes, bytes_of}
use Rattle.abc_printed.specs.Forms.{pred_parts}
use Rattle.abc_printed.specs.Printed.{pred_text}
use Rattle.abc_printed.specs.Printable.{HasWord}
use Rattle.abc_trace.specs.declared.trace.Head.{Head}
use Rattle.abc_trace.specs.declared.trace.Said.{Said}
use Rattle.abc_trace.specs.declared.trace.Line.{Line}
use Rattle.abc_trace.specs.declared.trace.EnvLine.{EnvLine}
use Rattle.abc_trace.specs.Lines.{spaced, parted, behind_comma}
use Rattle.abc_trace.specs.WellFormed.{IsHearer, IsEntry, IsSent, TailIsWellFormed, LineIsWellFormed, FinalIsWellFormed, SaidIsWellFormed, words_of}
use Rattle.abc_trace.specs.Met.{lexeme_word, pred_words, said_words, line_words, final_words}
use Rattle.abc_trace_lines.specs.Plain as plain
use Rattle.abc_trace_order.specs.Lines.{worded, said_of, tail_of, number_line, env_line}
use Rattle.abc_trace_order.proofs.InOrder.{each_is}

-- Words that are so, and no more than so many.
pub record AreWords (ws : List (List ℕ)) (many : ℕ) : Type 0 where
  pub spelled : All IsWordSpelling ws
  pub few : length ws ≤ many

-- a word has a byte
word_some : (w : List ℕ) → IsWordSpelling w → 1 ≤ length w
word_some [] h = absurd h
word_some (b ∷ bs) h = omega arith

none_words : (many : ℕ) → AreWords [] many
none_words many = record { spelled = All-nil IsWordSpelling; few = omega arith }

one_words : (w : List ℕ) (ws : List (List ℕ)) (many : ℕ) → IsWordSpelling w → AreWords ws many → AreWords (w ∷ ws) (length w + many)
one_words w ws many h g = record {
  spelled = All-cons IsWordSpelling w ws h g.spelled;
  few = let some = word_some w h in let few = g.few in omega (arith, some, few);
}

more_words : (ws us : List (List ℕ)) (m n : ℕ) → AreWords ws m → AreWords us n → AreWords (ws ++ us) (m + n)
more_words ws us m n h g = record {
  spelled = All-append IsWordSpelling ws us h.spelled g.spelled;
  few = let a = h.few in let b = g.few in omega (arith, a, b, length-append {A = List ℕ} ws us);
}

at_least : (ws : List (List ℕ)) (m n : ℕ) → m ≤ n → AreWords ws m → AreWords ws n
at_least ws m n h g = record { spelled = g.spelled; few = let few = g.few in omega (arith, few, h) }

-- ---- a predicate
parts_words :
    (words : List (List ℕ)) (parts : List Part) → All (HasWord words) (lexemes parts) →
    AreWords (filter_map (lexeme_word words) (lexemes parts)) (length (bytes_of words parts))
parts_words words [] h = none_words 0
parts_words words (Space ∷ rest) h =
    let more = parts_words words rest h in
    at_least (filter_map (lexeme_word words) (lexemes rest)) (length (bytes_of words rest)) _ (omega arith) more
parts_words words (LineEnd ∷ rest) h =
    let more = parts_words words rest h in
    at_least (filter_map (lexeme_word words) (lexemes rest)) (length (bytes_of words rest)) _ (omega arith) more
parts_words words (Token x ∷ rest) h = by x (h 0 x (omega arith)) (parts_words words rest (All-tail (HasWord words) x (lexemes rest) h))
  where
    by :
        (x : Lexeme) → HasWord words x → AreWords (filter_map (lexeme_word words) (lexemes rest)) (length (bytes_of words rest)) →
        AreWords (filter_map (lexeme_word words) (x ∷ lexemes rest)) (length (spelled words x ++ bytes_of words rest))
    by (l.Keyword w) h g =
        at_least _ (length (bytes_of words rest)) _ (omega (arith, length-append (spelled words (l.Keyword w)) (bytes_of words rest))) g
    by (l.Mark m) h g = at_least _ (length (bytes_of words rest)) _ (omega (arith, length-append (spelled words (l.Mark m)) (bytes_of words rest))) g
    by (l.Name n) h g =
        at_least _ (length (word_at words n) + length (bytes_of words rest)) _
        (omega (arith, length-append (word_at words n) (bytes_of words rest)))
        (one_words (word_at words n) (filter_map (lexeme_word words) (lexemes rest)) (length (bytes_of words rest)) h.1 g)
    by (l.Variable n) h g =
        at_least _ (length (word_at words n) + length (bytes_of words rest)) _
        (omega (arith, length-append (36 ∷ word_at words n) (bytes_of words rest)))
        (one_words (word_at words n) (filter_map (lexeme_word words) (lexemes rest)) (length (bytes_of words rest)) h.1 g)
    by (l.Number n) h g =
        at_least _ (length (bytes_of words rest)) _ (omega (arith, length-append (spelled words (l.Number n)) (bytes_of words rest))) g
    by (l.Text bytes) h g =
        at_least _ (length (bytes_of words rest)) _ (omega (arith, length-append (spelled words (l.Text bytes)) (bytes_of words rest))) g

pub sent_words : (words : List (List ℕ)) (p : Pred) → IsSent words p → AreWords (pred_words words p) (length (pred_text words p))
sent_words words p h = parts_words words (pred_parts p) h.named

-- ---- items
-- Each item has a byte.
some_each : {A : Type 0} (f : A → List ℕ) → ((a : A) → 1 ≤ length (f a)) → (xs : List A) → length xs ≤ length (flat_map f xs)
some_each f some [] = omega arith
some_each f some (x ∷ xs) =
    let here = some x in
    let rest = some_each f some xs in
    omega (arith, here, rest, length-append (f x) (flat_map f xs))

-- those that heard
pub heard_long : (heard : List (List ℕ × ℕ)) → length heard ≤ length (plain.hearers_text heard)
heard_long [] = omega arith
heard_long (h ∷ heard) =
    let others = some_each (behind_comma plain.hearer_text)
    (λ a. omega (arith, length-append (codes ", ") (plain.hearer_text a))) heard in
    omega (arith, others, length-append h.0 (58 ∷ decimal h.1), length-append (plain.hearer_text h) (flat_map (behind_comma plain.hearer_text) heard))

-- attributes
pub entries_long : (es : List (List ℕ × Value)) → length es ≤ length (plain.entries_text es)
entries_long [] = omega arith
entries_long (e ∷ es) =
    let each = some_each plain.entry_text (λ a. omega (arith, length-append (a.0 ++ codes " = " ++ literal a.1) (codes "; "))) (e ∷ es) in
    omega (
      arith,
      each,
      length-append (codes "{ " ++ flat_map plain.entry_text (e ∷ es)) (codes "}"),
      length-append (codes "{ ") (flat_map plain.entry_text (e ∷ es)),
    )

-- ---- texts of lines
-- The text behind the sender is as long as the predicate and those that heard.
pub tail_long : (s : plain.Said) → length s.pred + length (plain.hearers_text s.heard) ≤ length (plain.tail_text (Some s))
tail_long s =
    let values = codes "(" ++ parted literal s.values in
    let front = values ++ codes ") @ (" in
    let heard = plain.hearers_text s.heard in
    omega (
      arith,
      length-append (decimal s.place) (32 ∷ (front ++ s.pred ++ codes ") -> " ++ heard)),
      length-append (front ++ s.pred ++ codes ") -> ") heard,
      length-append (front ++ s.pred) (codes ") -> "),
      length-append front s.pred,
    )

pub number_long :
    (n : ℕ) (sender : List ℕ) (said : Option plain.Said) →
    length sender + length (plain.tail_text said) ≤ length (plain.line_text (plain.Number n sender said))
number_long n sender said =
    omega (arith, length-append (decimal n) (32 ∷ (sender ++ plain.tail_text said)), length-append sender (plain.tail_text said))

pub env_long :
    (component : List ℕ) (es : List (List ℕ × Value)) →
    length component + length (plain.entries_text es) + 1 ≤ length (plain.line_text (plain.Env component es))
env_long component es =
    omega (arith, length-append (codes "env ") (spaced component (plain.entries_text es)), length-append component (32 ∷ plain.entries_text es))

-- ---- what lines meet
hearers_words : (words : List (List ℕ)) (heard : List (Name × ℕ)) → All (IsHearer words) heard →
    AreWords (words_of words (λ h. h.0) heard) (length (plain.hearers_text (worded words heard)))
hearers_words words heard h = record {
  spelled = All-map IsWordSpelling (λ (e : Name × ℕ). word_at words e.0) heard
      (each_is (IsHearer words) (λ e. IsWordSpelling (word_at words e.0)) (λ e g. g.0.1.0) heard h);
  few =
      let long = heard_long (worded words heard) in
      omega (arith, long, length-map heard (λ (e : Name × ℕ). word_at words e.0), length-map {B = List ℕ × ℕ} heard (λ (e : Name × ℕ). (word_at words e.0, e.1)));
}

said_are : (head : Head) (words : List (List ℕ)) (o : Option Said) → TailIsWellFormed head words o →
    AreWords (said_words words o) (length (plain.tail_text (tail_of words o)))
said_are head words None h = none_words (length (plain.tail_text None))
said_are head words (Some s) h =
    let pred = pred_of s.pred in
    let heard = words_of words (λ e. e.0) s.heard in
    let long = tail_long (said_of words s) in
    at_least (pred_words words pred ++ heard) (length (pred_text words pred) + length (plain.hearers_text (worded words s.heard)))
    (length (plain.tail_text (Some (said_of words s)))) long
    (more_words (pred_words words pred) heard (length (pred_text words pred)) (length (plain.hearers_text (worded words s.heard)))
    (sent_words words pred h.pred) (hearers_words words s.heard h.heard))

pub line_are : (head : Head) (words : List (List ℕ)) (n : ℕ) (l : Line) → LineIsWellFormed head words l →
    AreWords (line_words words l) (length (plain.line_text (number_line words n l)))
line_are head words n l h =
    let sender = word_at words l.sender in
    let tail = length (plain.tail_text (tail_of words l.said)) in
    let long = number_long n sender (tail_of words l.said) in
    at_least (line_words words l) (length sender + tail) (length (plain.line_text (number_line words n l))) long
    (one_words sender (said_words words l.said) tail h.sender.1.0 (said_are head words l.said h.said))

pub env_are : (words : List (List ℕ)) (f : EnvLine) → FinalIsWellFormed words f →
    AreWords (final_words words f) (length (plain.line_text (env_line words f)))
env_are words f h =
    let component = word_at words f.component in
    let entries : AreWords (words_of words (λ e. e.0) f.entries) (length (plain.entries_text (worded words f.entries))) = record {
      spelled = All-map IsWordSpelling (λ (e : Name × Value). word_at words e.0) f.entries
          (each_is (IsEntry words) (λ e. IsWordSpelling (word_at words e.0)) (λ e g. g.0.1.0) f.entries h.entries);
      few =
          let long = entries_long (worded words f.entries) in
          omega (
            arith,
            long,
            length-map f.entries (λ (e : Name × Value). word_at words e.0),
            length-map {B = List ℕ × Value} f.entries (λ (e : Name × Value). (word_at words e.0, e.1)),
          );
    } in
    let long = env_long component (worded words f.entries) in
    at_least (final_words words f) (length component + length (plain.entries_text (worded words f.entries)))
    (length (plain.line_text (env_line words f))) (omega (arith, long))
    (one_words component (words_of words (λ e. e.0) f.entries) (length (plain.entries_text (worded words f.entries))) h.component.1.0 entries)
