-- Names are few: no more than the bytes that were read.
use Rattle.std.proofs.Common.{◌≡◌, ℕ, ◌+◌, ◌≤◌, ◌<◌, ◌^◌, List, [], ◌∷◌, ◌++◌, length, map, Option, Some, None, Bor, sym, ap, subst, length-append, arith}
use Rattle.std.proofs.lemmas.List.{length-map}
use Rattle.abc_value.specs.declared.value.Value.{Value}
use Rattle.abc_pred.specs.declared.syntax.Pred.{Pred as Held}
use Rattle.abc_pred.specs.Standing.{pred_of}
use Rattle.abc_printed.specs.Printed.{pred_text}
use Rattle.abc_text.specs.Meanings.{with_word, AreDifferent}
use Rattle.abc_text.specs.Spelling.{IsWordSpelling}
use Rattle.abc_trace.specs.Met.{with_words, pred_words}
use Rattle.abc_trace_lines.specs.Plain as plain
use Rattle.abc_trace_lines.specs.declared.parts.SaidParts.{SaidParts}
use Rattle.abc_trace_lines.specs.Reading.{plain_said}
use Rattle.abc_trace_preds.specs.Reading.{IsReadPred}
use Rattle.abc_trace_order.specs.declared.reading.Reading.{Reading}
use Rattle.abc_trace_order.specs.Lines.{front_text}
use Rattle.abc_trace_order.specs.Reading.{trace_of, IsReading, plain_entries}
use Rattle.abc_trace_order.proofs.WordLists.{one_length, words_length, words_different}
use Rattle.abc_trace_order.proofs.Bounds.{sent_words, heard_long, entries_long, tail_long, number_long, env_long}

-- a word has a byte
word_some : (w : List ℕ) → IsWordSpelling w → 1 ≤ length w
word_some [] h = absurd h
word_some (b ∷ bs) h = omega arith

-- ---- the line of a number
pub number_room :
    (r : Reading) → IsReading r → (n : ℕ) (sender : List ℕ) (said : Option plain.Said) →
    length (front_text (trace_of r)) + length (plain.line_text (plain.Number n sender said)) < 2 ^ 32 →
    length r.names + length (sender ++ plain.tail_text said) < 2 ^ 32
number_room r reading n sender said short =
    let few = reading.few in
    let long = number_long n sender said in
    omega (arith, few, long, short, length-append sender (plain.tail_text said))

-- behind the sender
pub sender_room :
    (known : List (List ℕ)) (sender tail : List ℕ) (known' : List (List ℕ)) → IsWordSpelling sender → known' ≡ with_word known sender →
    length known + length (sender ++ tail) < 2 ^ 32 → length known' + length tail < 2 ^ 32
sender_room known sender tail known' is grown few =
    let one = one_length known sender in
    let some = word_some sender is in
    omega (arith, few, one, some, ap (length {A = List ℕ}) grown, length-append sender tail)

-- a word more leaves words different
pub word_different : (known : List (List ℕ)) (word : List ℕ) (known' : List (List ℕ)) → AreDifferent known → known' ≡ with_word known word → AreDifferent known'
word_different known word known' h grown = subst AreDifferent (sym grown) (words_different known (word ∷ []) h)

-- for the predicate
pub pred_room :
    (known : List (List ℕ)) (s : plain.Said) → length known + length (plain.tail_text (Some s)) < 2 ^ 32 → length known + length s.pred < 2 ^ 32
pred_room known s few = let long = tail_long s in omega (arith, few, long)

-- for those that heard
pub heard_room :
    (known : List (List ℕ)) (s : SaidParts) (known' : List (List ℕ)) (p : Held) → length known + length (plain.tail_text (Some (plain_said s))) < 2 ^ 32 →
    IsReadPred known s.pred.now known' (Some p) → length known' + length s.heard < 2 ^ 32
heard_room known s known' p few read =
    let long = tail_long (plain_said s) in
    let heard = heard_long (map (λ h. (h.0.now, h.1)) s.heard) in
    let words = (sent_words known' (pred_of p) read.0).few in
    let grown = words_length known (pred_words known' (pred_of p)) in
    omega (
      arith,
      few,
      long,
      heard,
      words,
      grown,
      ap (length {A = List ℕ}) read.2,
      ap (length {A = ℕ}) read.1,
      length-map {B = List ℕ × ℕ} s.heard (λ (h : Bor (List ℕ) × ℕ). (h.0.now, h.1)),
    )

-- ---- the line of an environment
pub env_room :
    (r : Reading) → IsReading r → (component : List ℕ) (entries : List (Bor (List ℕ) × Value)) →
    length (front_text (trace_of r)) + length (plain.line_text (plain.Env component (plain_entries entries))) < 2 ^ 32 →
    length r.names + 1 + length entries < 2 ^ 32
env_room r reading component entries short =
    let few = reading.few in
    let long = env_long component (plain_entries entries) in
    let each = entries_long (plain_entries entries) in
    omega (arith, few, long, each, short, length-map {B = List ℕ × Value} entries (λ (e : Bor (List ℕ) × Value). (e.0.now, e.1)))

pub entries_room :
    (known : List (List ℕ)) (word : List ℕ) (known' : List (List ℕ)) (n : ℕ) → length known + 1 + n < 2 ^ 32 → known' ≡ with_word known word →
    length known' + n < 2 ^ 32
entries_room known word known' n few grown =
    let one = one_length known word in
    omega (arith, few, one, ap (length {A = List ℕ}) grown)
