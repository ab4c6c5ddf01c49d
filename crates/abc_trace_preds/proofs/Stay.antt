-- More words change nothing of a predicate that has its words.
use Rattle.std.proofs.Common.{◌≡◌, ℕ, zero, suc, ◌+◌, ◌<◌, List, [], ◌∷◌, ◌++◌, length, get_or, All, refl, ap, ◌∙◌, subst, length-append, arith}
use Rattle.std.specs.Prelude.{slice_get}
use Rattle.std.specs.Option.{option_map_or}
use Rattle.abc_pred.specs.declared.names.Name.{Name}
use Rattle.abc_pred.specs.Terms.{Operand, Pred}
use Rattle.abc_pred.specs.Terms as t
use Rattle.abc_grammar.specs.declared.lexemes.Lexeme.{Lexeme}
use Rattle.abc_grammar.specs.declared.lexemes.Lexeme.TheVariants as l
use Rattle.abc_printed.specs.Parts.{word_at, lexemes}
use Rattle.abc_printed.specs.Forms.{pred_parts}
use Rattle.abc_printed.specs.Printed.{pred_text}
use Rattle.abc_printed.specs.Printable.{HasWord}
use Rattle.abc_trace.specs.WellFormed.{IsSent}
use Rattle.abc_trace.specs.Met.{pred_words}
use Rattle.abc_trace_preds.specs.Renaming.{renamed_operand, renamed}
use Rattle.abc_trace_preds.specs.Reading.{PredsStay}
use Rattle.abc_trace_preds.proofs.Words.{KeepsWord, sent_anew}

-- An operand whose names keep their numbers is itself,
operand_itself : (a : Operand) → renamed_operand (λ n. n) a ≡ a
operand_itself (t.Literal v) = refl
operand_itself (t.Attr a) = refl
operand_itself (t.This a) = refl
operand_itself (t.Var x) = refl
operand_itself (t.Add a b) = let x = operand_itself a in let y = operand_itself b in λ i. t.Add (x i) (y i)
operand_itself (t.Sub a b) = let x = operand_itself a in let y = operand_itself b in λ i. t.Sub (x i) (y i)
operand_itself (t.Mul a b) = let x = operand_itself a in let y = operand_itself b in λ i. t.Mul (x i) (y i)
operand_itself (t.Size a) = ap t.Size (operand_itself a)
operand_itself (t.Free a) = ap t.Free (operand_itself a)

-- and so is a predicate.
itself : (p : Pred) → renamed (λ n. n) p ≡ p
itself t.True = refl
itself t.False = refl
itself (t.Same a b) = let x = operand_itself a in let y = operand_itself b in λ i. t.Same (x i) (y i)
itself (t.Less a b) = let x = operand_itself a in let y = operand_itself b in λ i. t.Less (x i) (y i)
itself (t.Member a b) = let x = operand_itself a in let y = operand_itself b in λ i. t.Member (x i) (y i)
itself (t.Not p) = ap t.Not (itself p)
itself (t.And p q) = let x = itself p in let y = itself q in λ i. t.And (x i) (y i)
itself (t.Or p q) = let x = itself p in let y = itself q in λ i. t.Or (x i) (y i)

-- The word at a number stays as more come.
word_stays : (known more : List (List ℕ)) (k : ℕ) → k < length known →
    option_map_or (λ (word : List ℕ). word) (slice_get (known ++ more) k) []
    ≡ option_map_or (λ (word : List ℕ). word) (slice_get known k) []
word_stays [] more k lt = absurd (omega (arith, lt))
word_stays (w ∷ known) more zero lt = refl
word_stays (w ∷ known) more (suc k) lt = word_stays known more k (omega (arith, lt))

-- So each name keeps its word.
more_keep : (known more : List (List ℕ)) (ls : List Lexeme) → All (HasWord known) ls →
    All (KeepsWord known (known ++ more) (λ n. n)) ls
more_keep known more ls h k d lt = keep (get_or ls k d) (h k d lt)
  where
    below : (n : ℕ) → n < length known → n < length (known ++ more)
    below n lt = omega (arith, lt, length-append {A = List ℕ} known more)

    keep : (t : Lexeme) → HasWord known t → KeepsWord known (known ++ more) (λ n. n) t
    keep (l.Name n) g = (word_stays known more n.0 g.0, below n.0 g.0)
    keep (l.Variable n) g = (word_stays known more n.0 g.0, below n.0 g.0)
    keep (l.Keyword k) g = tt
    keep (l.Mark m) g = tt
    keep (l.Number n) g = tt
    keep (l.Text bytes) g = tt

pub preds_stay : PredsStay
preds_stay known more p h =
    let P : Pred → Type 0 = λ q.
    IsSent (known ++ more) q × (pred_text (known ++ more) q ≡ pred_text known p)
    × (pred_words (known ++ more) q ≡ pred_words known p) in
    let stays = sent_anew known (known ++ more) (λ n. n) p h (more_keep known more (lexemes (pred_parts p)) h.named) in
    subst P (itself p) (stays.sent, stays.text, stays.met)
