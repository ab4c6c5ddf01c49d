-- What was read of a text, and what its next line makes of the text.
use Rattle.std.proofs.Common.{◌≡◌, ℕ, ◌+◌, ◌<◌, Bool, true, false, eqb, eq-eqb, List, [], ◌∷◌, ◌++◌, length, All, inl, inr, refl, sym, ap, ◌∙◌, subst, append_assoc, append-nil, arith}
use Rattle.std.specs.Prelude.{◌⊎◌}
use Rattle.std.proofs.lemmas.Bool.{eqb-true}
use Rattle.std.proofs.lemmas.List.Elements.{All-cons}
use Rattle.abc_trace.specs.declared.trace.Trace.{Trace}
use Rattle.abc_trace.specs.Lines.{ended}
use Rattle.abc_trace.specs.Texts.{trace_text}
use Rattle.abc_trace.specs.WellFormed.{IsWellFormed, words_of}
use Rattle.abc_trace_lines.specs.Plain as plain
use Rattle.abc_trace_lines.specs.Spelled.{LinesAreOne}
use Rattle.abc_trace_preds.specs.Reading.{PredsStay}
use Rattle.abc_trace_order.specs.declared.reading.Reading.{Reading}
use Rattle.abc_trace_order.specs.Lines.{lines_text, front_lines, trace_lines, front_text}
use Rattle.abc_trace_order.specs.Order.{Stage, Start, Within, Ended, IsGoodLine, Admits, stage_behind, AreInOrder, Refuses}
use Rattle.abc_trace_order.specs.Reading.{trace_of, stage_of, IsReading}
use Rattle.abc_trace_order.specs.Texts.{IsTraceText, BeginsTrace, IsOneLine, AreWholeLines, GoesWrong, IsBadLine, IsCutShort}
use Rattle.abc_trace_order.proofs.Splits.{GoOn, go_on, are_same, are_whole}
use Rattle.abc_trace_order.proofs.OneLine.{good_one}
use Rattle.abc_trace_order.proofs.TextIs.{text_is}
use Rattle.abc_trace_order.proofs.InOrder.{Leads, leads_none, leads_to, begun_leads, whole_leads, admitted, all_next}
use Rattle.abc_trace_order.proofs.Completion.{reading_begins, nothing_begins}

-- These bytes are lines that lead to this stage, and a trace begins with them.
pub record HasRead (front : List ℕ) (s : Stage) : Type 0 where
  pub lines : List plain.Line
  pub text : lines_text lines ≡ front
  pub leads : Leads Start lines s
  pub begins : BeginsTrace front

-- Nothing leads to the start,
pub nothing_read : PredsStay → HasRead [] Start
nothing_read stay = record { lines = []; text = refl; leads = leads_none Start; begins = nothing_begins stay }

-- what was read of a trace to where it stands,
pub reading_read : PredsStay → (r : Reading) → IsReading r → HasRead (front_text (trace_of r)) (stage_of r)
reading_read stay r reading = record {
  lines = front_lines (trace_of r);
  text = refl;
  leads = leads_to _ _ _ (front_lines (trace_of r))
      (ap (λ (ws : List (List ℕ)). Within r.head (length r.lines) ws (length r.handled)) (sym reading.components))
      (begun_leads (trace_of r) reading.begun);
  begins = reading_begins stay r reading;
}

-- and a whole trace to the end.
pub whole_read : (t : Trace) → IsWellFormed t → HasRead (trace_text t) Ended
whole_read t formed = record {
  lines = trace_lines t;
  text = sym (text_is t);
  leads = whole_leads t formed;
  begins = ([], (t, formed, sym (append-nil (trace_text t))));
}

-- ---- what goes wrong
-- Lines are one, and are cut at their feeds.
same_lines : LinesAreOne → (x y : plain.Line) → IsGoodLine x → IsGoodLine y → plain.line_text x ≡ plain.line_text y → x ≡ y
same_lines one x y h g e = one x y h.spelled g.spelled e

-- With a line that may not come no trace goes on.
none_goes :
    LinesAreOne → (front : List ℕ) (s : Stage) (line : List ℕ) → HasRead front s → IsOneLine line → Refuses s line →
    ¬ BeginsTrace (front ++ line ++ 10 ∷ [])
none_goes one front s line read o refuses (rest, (u, formed, is)) =
    let whole = whole_leads u formed in
    let text : lines_text (trace_lines u) ≡ lines_text read.lines ++ (line ++ 10 ∷ rest) =
    sym (text_is u) ∙ is ∙ append_assoc (front ++ line) (10 ∷ []) rest ∙ append_assoc front line (10 ∷ rest)
    ∙ ap (λ b. b ++ (line ++ 10 ∷ rest)) (sym read.text) in
    let on = go_on plain.line_text IsGoodLine good_one (same_lines one) read.lines (trace_lines u) line rest read.leads.good whole.good o text in
    let order : AreInOrder Start (read.lines ++ on.next ∷ on.more) = subst (AreInOrder Start) on.whole whole.order in
    let good : All IsGoodLine (read.lines ++ on.next ∷ on.more) = subst (All IsGoodLine) on.whole whole.good in
    let may : Admits s on.next =
    subst (λ (t : Stage). Admits t on.next) read.leads.stage (admitted Start read.lines on.next on.more order) in
    refuses on.next (all_next IsGoodLine read.lines on.next on.more good) may on.is

-- lines that were read are whole
read_whole : (front : List ℕ) (s : Stage) → HasRead front s → AreWholeLines front
read_whole front s read = subst AreWholeLines read.text (are_whole plain.line_text read.lines)

-- A line that may not come is the first bad one.
pub bad_line :
    LinesAreOne → (bytes front : List ℕ) (s : Stage) (line more : List ℕ) (place : ℕ) → HasRead front s → IsOneLine line → Refuses s line →
    bytes ≡ front ++ (line ++ 10 ∷ more) → place ≡ length front → IsBadLine bytes place
bad_line one bytes front s line more place read o refuses stands here = record {
  front = front;
  rest = line ++ 10 ∷ more;
  stands = stands;
  here = here;
  whole = read_whole front s read;
  good = read.begins;
  bad = record { line = line; one = o; wrong = inl (more, refl, none_goes one front s line read o refuses) };
}

-- So are bytes that no feed ends.
pub bad_rest :
    (bytes front : List ℕ) (s : Stage) (rest : List ℕ) (place : ℕ) → HasRead front s → IsOneLine rest → ¬ (rest ≡ []) →
    bytes ≡ front ++ rest → place ≡ length front → IsBadLine bytes place
bad_rest bytes front s rest place read o some stands here = record {
  front = front;
  rest = rest;
  stands = stands;
  here = here;
  whole = read_whole front s read;
  good = read.begins;
  bad = record { line = rest; one = o; wrong = inr (refl, some) };
}

-- Where the text ends before the trace does it is cut short.
pub cut_short :
    LinesAreOne → (bytes front : List ℕ) (s : Stage) (place : ℕ) → HasRead front s → ¬ (s ≡ Ended) → bytes ≡ front → place ≡ length bytes →
    IsCutShort bytes place
cut_short one bytes front s place read open_ is here = record {
  here = here;
  whole = subst AreWholeLines (sym is) (read_whole front s read);
  good = subst BeginsTrace (sym is) read.begins;
  short = never;
}
  where
    never : ¬ IsTraceText bytes
    never (u, formed, e) =
        let whole = whole_leads u formed in
        let same = are_same plain.line_text IsGoodLine good_one (same_lines one) read.lines (trace_lines u) read.leads.good whole.good
        (sym (text_is u) ∙ e ∙ is ∙ sym read.text) in
        open_ (sym read.leads.stage ∙ ap (stage_behind Start) (sym same) ∙ whole.stage)

-- ---- behind the end
-- Bytes are a line and more, or none ends a line.
split_at_feed : (bytes : List ℕ) → ((line : List ℕ) × (more : List ℕ) × (bytes ≡ line ++ 10 ∷ more) × IsOneLine line) ⊎ IsOneLine bytes
split_at_feed [] = inr (λ k d lt. absurd (omega (arith, lt)))
split_at_feed (b ∷ bytes) = by (feed b) (split_at_feed bytes)
  where
    feed : (b : ℕ) → (b ≡ 10) ⊎ ¬ (b ≡ 10)
    feed b = feed_by (eqb b 10) refl
      where
        feed_by : (c : Bool) → eqb b 10 ≡ c → (b ≡ 10) ⊎ ¬ (b ≡ 10)
        feed_by true e = inl (eqb-true b 10 e)
        feed_by false e = inr (λ is. let yes = eq-eqb b 10 is in let e' : true ≡ false = sym yes ∙ e in cc)

    by :
        (b ≡ 10) ⊎ ¬ (b ≡ 10) → ((line : List ℕ) × (more : List ℕ) × (bytes ≡ line ++ 10 ∷ more) × IsOneLine line) ⊎ IsOneLine bytes →
        ((line : List ℕ) × (more : List ℕ) × (b ∷ bytes ≡ line ++ 10 ∷ more) × IsOneLine line) ⊎ IsOneLine (b ∷ bytes)
    by (inl is) rest = inl ([], bytes, ap (λ c. c ∷ bytes) is, λ k d lt. absurd (omega (arith, lt)))
    by (inr never) (inl h) = inl (b ∷ h.0, h.1, ap (λ xs. b ∷ xs) h.2, All-cons (λ c. ¬ (c ≡ 10)) b h.0 never h.3)
    by (inr never) (inr h) = inr (All-cons (λ c. ¬ (c ≡ 10)) b bytes never h)

-- Whatever stands behind a whole trace is a bad line.
pub bad_end :
    LinesAreOne → (bytes : List ℕ) (t : Trace) (rest : List ℕ) (place : ℕ) → IsWellFormed t → bytes ≡ trace_text t ++ rest → ¬ (rest ≡ []) →
    place ≡ length (trace_text t) → IsBadLine bytes place
bad_end one bytes t rest place formed stands some here = by (split_at_feed rest)
  where
    by : ((line : List ℕ) × (more : List ℕ) × (rest ≡ line ++ 10 ∷ more) × IsOneLine line) ⊎ IsOneLine rest → IsBadLine bytes place
    by (inl h) =
        bad_line one bytes (trace_text t) Ended h.0 h.1 place (whole_read t formed) h.3 (λ x good admits e. admits)
        (stands ∙ ap (λ b. trace_text t ++ b) h.2) here
    by (inr o) = bad_rest bytes (trace_text t) Ended rest place (whole_read t formed) o some stands here
