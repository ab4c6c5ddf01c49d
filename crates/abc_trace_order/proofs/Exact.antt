-- Each answer is due in one case alone.
use Rattle.std.proofs.Common.{◌≡◌, ℕ, ◌+◌, ◌<◌, List, [], ◌∷◌, ◌++◌, length, inl, inr, refl, sym, ap, ◌∙◌, subst, append_assoc, append-nil, length-append, arith}
use Rattle.std.specs.Prelude.{Result, Ok, Err, ◌⊎◌, IfOk, IfErr}
use Rattle.abc_trace.specs.declared.trace.Trace.{Trace}
use Rattle.abc_trace.specs.Lines.{ended}
use Rattle.abc_trace_order.specs.declared.refusal.TraceRefusal.{TraceRefusal}
use Rattle.abc_trace_order.specs.declared.refusal.TraceRefusal.TheVariants as refusal
use Rattle.abc_trace_order.specs.Texts.{IsTraceText, BeginsTrace, IsOneLine, AreWholeLines, GoesWrong, IsBadLine, IsCutShort, IsReadAs, IsTraceRefusal, IsOkOr, IsBadLineAt, IsMissingAt, AnswersTrace}
use Rattle.abc_trace_order.proofs.Splits.{Longer, longer, last_feed, feed_first, feed_in}
use Rattle.abc_trace_order.proofs.TextIs.{text_is_whole}

-- a trace begins with its whole text
begins_all : (bytes : List ℕ) → IsTraceText bytes → BeginsTrace bytes
begins_all bytes h = ([], subst IsTraceText (sym (append-nil bytes)) h)

-- what goes wrong has a byte
wrong_some : (front rest : List ℕ) → GoesWrong front rest → 0 < length rest
wrong_some front rest h = by h.wrong
  where
    by :
        ((more : List ℕ) × (rest ≡ h.line ++ 10 ∷ more) × ¬ BeginsTrace (front ++ h.line ++ 10 ∷ []))
        ⊎ ((rest ≡ h.line) × ¬ (h.line ≡ [])) → 0 < length rest
    by (inl w) = omega (arith, ap (length {A = ℕ}) w.1, length-append h.line (10 ∷ w.0))
    by (inr w) = some rest (λ none. w.1 (sym w.0 ∙ none))
      where
        some : (xs : List ℕ) → ¬ (xs ≡ []) → 0 < length xs
        some [] never = absurd (never refl)
        some (x ∷ xs) never = omega arith

-- Behind the first bad line no trace goes on.
pub none_behind :
    (bytes front rest later behind : List ℕ) → bytes ≡ front ++ rest → bytes ≡ later ++ behind → length front < length later →
    GoesWrong front rest → AreWholeLines later → BeginsTrace later → ⊥
none_behind bytes front rest later behind e f lt wrong whole begins = by whole
  where
    l : Longer front rest later behind
    l = longer front rest later behind (sym e ∙ f) lt

    goes :
        (g : List ℕ) → l.between ≡ g ++ 10 ∷ [] →
        ((more : List ℕ) × (rest ≡ wrong.line ++ 10 ∷ more) × ¬ BeginsTrace (front ++ wrong.line ++ 10 ∷ []))
        ⊎ ((rest ≡ wrong.line) × ¬ (wrong.line ≡ [])) → ⊥
    goes g is (inl w) =
        let stands : g ++ 10 ∷ behind ≡ wrong.line ++ 10 ∷ w.0 =
        sym (append_assoc g (10 ∷ []) behind) ∙ ap (λ b. b ++ behind) (sym is) ∙ sym l.rest ∙ w.1 in
        let cut = feed_first g wrong.line behind w.0 wrong.one stands in
        let more : later ≡ (front ++ wrong.line ++ 10 ∷ []) ++ cut.0 =
        l.front ∙ ap (λ b. front ++ b) (is ∙ cut.1) ∙ sym (append_assoc front (ended wrong.line) cut.0)
        ∙ ap (λ b. b ++ cut.0) (sym (append_assoc front wrong.line (10 ∷ []))) in
        w.2 (
          cut.0 ++ begins.0,
          subst IsTraceText
              (ap (λ b. b ++ begins.0) more ∙ append_assoc (front ++ wrong.line ++ 10 ∷ []) cut.0 begins.0) begins.1,
        )
    goes g is (inr w) =
        feed_in g wrong.line behind wrong.one
        (sym (append_assoc g (10 ∷ []) behind) ∙ ap (λ b. b ++ behind) (sym is) ∙ sym l.rest ∙ w.0)

    by : AreWholeLines later → ⊥
    by (inl none) = absurd (omega (arith, lt, ap (length {A = ℕ}) none))
    by (inr some) =
        let g = last_feed front l.between some.0 (sym l.front ∙ some.1) l.some in
        goes g.0 g.1 wrong.wrong

-- ---- two answers
-- a text with a bad line is none of a trace
pub not_text : (bytes : List ℕ) (place : ℕ) → IsBadLine bytes place → IsTraceText bytes → ⊥
not_text bytes place bad t =
    none_behind bytes bad.front bad.rest bytes [] bad.stands (sym (append-nil bytes))
    (omega (arith, wrong_some bad.front bad.rest bad.bad, ap (length {A = ℕ}) bad.stands, length-append bad.front bad.rest))
    bad.bad (text_is_whole bytes t) (begins_all bytes t)

-- nor is it cut short
pub not_cut : (bytes : List ℕ) (place p : ℕ) → IsBadLine bytes place → IsCutShort bytes p → ⊥
not_cut bytes place p bad cut =
    none_behind bytes bad.front bad.rest bytes [] bad.stands (sym (append-nil bytes))
    (omega (arith, wrong_some bad.front bad.rest bad.bad, ap (length {A = ℕ}) bad.stands, length-append bad.front bad.rest))
    bad.bad cut.whole cut.good

-- and there is one first bad line
pub one_place : (bytes : List ℕ) (p q : ℕ) → IsBadLine bytes p → IsBadLine bytes q → p ≡ q
one_place bytes p q a b =
    let low : ¬ (length a.front < length b.front) =
    λ lt. none_behind bytes a.front a.rest b.front b.rest a.stands b.stands lt a.bad b.whole b.good in
    let high : ¬ (length b.front < length a.front) =
    λ lt. none_behind bytes b.front b.rest a.front a.rest b.stands a.stands lt b.bad a.whole a.good in
    let same : length a.front ≡ length b.front = omega (arith, low, high) in
    a.here ∙ same ∙ sym b.here

-- ---- so an answer that is right is the one that is due
pub answers :
    (bytes : List ℕ) (r : Result Trace TraceRefusal) → IfOk r (IsReadAs bytes) → IfErr r (IsTraceRefusal bytes) → AnswersTrace bytes r
answers bytes (Ok t) read refused = record {
  text = λ _. tt;
  bad = λ place b. not_text bytes place b (t, read.formed, read.text);
  short = λ place s. s.short (t, read.formed, read.text);
}
answers bytes (Err (refusal.BadLine place)) read refused = record {
  text = λ t. not_text bytes place refused t;
  bad = λ p b. one_place bytes place p refused b;
  short = λ p s. not_cut bytes place p refused s;
}
answers bytes (Err (refusal.Missing place)) read refused = record {
  text = λ t. refused.short t;
  bad = λ p b. not_cut bytes p place b refused;
  short = λ p s. refused.here ∙ sym s.here;
}
answers bytes (Err refusal.NoMemory) read refused = record { text = λ _. tt; bad = λ p b. tt; short = λ p s. tt }
