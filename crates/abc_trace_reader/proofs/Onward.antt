-- From line to line through a text.
use Rattle.std.proofs.Common.{◌≡◌, ℕ, ◌+◌, ◌≤◌, ◌<◌, ◌^◌, List, [], ◌∷◌, ◌++◌, length, Result, Ok, Err, refl, sym, ap, ◌∙◌, subst, append_assoc, append-nil, length-append, arith}
use Rattle.abc_trace.specs.declared.trace.Head.{Head}
use Rattle.abc_trace.specs.declared.trace.Trace.{Trace}
use Rattle.abc_trace.specs.Lines.{ended}
use Rattle.abc_trace.specs.Texts.{trace_text}
use Rattle.abc_trace.specs.WellFormed.{IsWellFormed}
use Rattle.abc_trace_lines.specs.Plain as plain
use Rattle.abc_trace_lines.specs.Spelled.{LinesAreOne}
use Rattle.abc_trace_preds.specs.Reading.{PredsStay}
use Rattle.abc_trace_order.specs.declared.reading.Reading.{Reading}
use Rattle.abc_trace_order.specs.declared.refusal.TraceRefusal.{TraceRefusal}
use Rattle.abc_trace_order.specs.declared.refusal.TraceRefusal.TheVariants as refusal
use Rattle.abc_trace_order.specs.Lines.{front_text}
use Rattle.abc_trace_order.specs.Order.{Stage, Start, Within, Ended, Refuses}
use Rattle.abc_trace_order.specs.Reading.{trace_of, stage_of, IsReading, GrowsBy, EndsBy, IsReadTo, IsReadAll, HasNoLine}
use Rattle.abc_trace_order.specs.Texts.{IsOneLine, IsBadLine, IsTraceRefusal, IsReadAs}
use Rattle.abc_trace_order.proofs.HasRead.{nothing_read, reading_read, bad_line, bad_rest, cut_short, bad_end}

-- ---- the rest of a text
pub rest_back : (bytes front rest : List ℕ) → bytes ≡ front ++ rest → length rest ≤ length bytes
rest_back bytes front rest stands = omega (arith, ap (length {A = ℕ}) stands, length-append front rest)

-- where it begins
rest_here : (bytes front rest : List ℕ) (place : ℕ) → bytes ≡ front ++ rest → place + length rest ≡ length bytes → place ≡ length front
rest_here bytes front rest place stands here = omega (arith, here, ap (length {A = ℕ}) stands, length-append front rest)

-- A line with its feed leaves less.
pub line_shorter : (rest line more : List ℕ) → rest ≡ line ++ 10 ∷ more → length more < length rest
line_shorter rest line more split = omega (arith, ap (length {A = ℕ}) split, length-append line (10 ∷ more))

-- What was read and the line are no longer than the text.
pub line_room :
    (bytes rest : List ℕ) (r : Reading) (line more : List ℕ) → IsReadTo bytes rest r → rest ≡ line ++ 10 ∷ more → length bytes < 2 ^ 32 →
    length (front_text (trace_of r)) + length line < 2 ^ 32
line_room bytes rest r line more read split short =
    omega (
      arith,
      short,
      ap (length {A = ℕ}) read.stands,
      length-append (front_text (trace_of r)) rest,
      ap (length {A = ℕ}) split,
      length-append line (10 ∷ more),
    )

-- The line's end may stand with what was read.
moved : (front line more rest : List ℕ) → rest ≡ line ++ 10 ∷ more → front ++ rest ≡ (front ++ ended line) ++ more
moved front line more rest split =
    ap (λ b. front ++ b) (split ∙ sym (append_assoc line (10 ∷ []) more)) ∙ sym (append_assoc front (ended line) more)

-- ---- behind the first line
-- No line stands at the front of the rest.
pub none_refused :
    LinesAreOne → PredsStay → (bytes rest : List ℕ) (r : Reading) → IsReadTo bytes rest r → (e : TraceRefusal) → HasNoLine bytes rest e →
    IsTraceRefusal bytes e
none_refused one stay bytes rest r read (refusal.BadLine place) h =
    bad_rest bytes (front_text (trace_of r)) (stage_of r) rest place (reading_read stay r read.reading) h.1 h.2 read.stands
    (rest_here bytes (front_text (trace_of r)) rest place read.stands h.0)
none_refused one stay bytes rest r read (refusal.Missing place) h =
    cut_short one bytes (front_text (trace_of r)) (stage_of r) place (reading_read stay r read.reading) more
    (read.stands ∙ ap (λ b. front_text (trace_of r) ++ b) h.1 ∙ append-nil (front_text (trace_of r))) h.0
  where
    more : ¬ (stage_of r ≡ Ended)
    more e = let e' : Within r.head (length r.lines) r.components (length r.handled) ≡ Ended = e in cc
none_refused one stay bytes rest r read refusal.NoMemory h = tt

-- A line stands there that may not come.
pub line_refused :
    LinesAreOne → PredsStay → (bytes rest : List ℕ) (r : Reading) (line more : List ℕ) (place : ℕ) → IsReadTo bytes rest r →
    rest ≡ line ++ 10 ∷ more → IsOneLine line → Refuses (stage_of r) line → place + length rest ≡ length bytes → IsBadLine bytes place
line_refused one stay bytes rest r line more place read split o refuses here =
    bad_line one bytes (front_text (trace_of r)) (stage_of r) line more place (reading_read stay r read.reading) o refuses
    (read.stands ∙ ap (λ b. front_text (trace_of r) ++ b) split) (rest_here bytes (front_text (trace_of r)) rest place read.stands here)

-- One stands there behind which more must come,
pub line_more :
    (bytes rest : List ℕ) (r : Reading) (line more : List ℕ) (r' : Reading) → IsReadTo bytes rest r → rest ≡ line ++ 10 ∷ more → GrowsBy r line r' →
    IsReadTo bytes more r'
line_more bytes rest r line more r' read split grows = record {
  reading = grows.reading;
  stands = read.stands ∙ moved (front_text (trace_of r)) line more rest split ∙ ap (λ b. b ++ more) (sym grows.text);
}

-- or the last one does.
pub line_last :
    (bytes rest : List ℕ) (r : Reading) (line more : List ℕ) (r' : Reading) → IsReadTo bytes rest r → rest ≡ line ++ 10 ∷ more → EndsBy r line r' →
    IsReadAll bytes more r'
line_last bytes rest r line more r' read split ends = record {
  reading = ends.reading;
  formed = ends.formed;
  stands = read.stands ∙ moved (front_text (trace_of r)) line more rest split ∙ ap (λ b. b ++ more) (sym ends.text);
}

-- ---- the first line
pub first_none : LinesAreOne → PredsStay → (bytes : List ℕ) (e : TraceRefusal) → HasNoLine bytes bytes e → IsTraceRefusal bytes e
first_none one stay bytes (refusal.BadLine place) h =
    bad_rest bytes [] Start bytes place (nothing_read stay) h.1 h.2 refl (omega (arith, h.0))
first_none one stay bytes (refusal.Missing place) h =
    cut_short one bytes [] Start place (nothing_read stay) (λ e. let e' : Start ≡ Ended = e in cc) h.1 h.0
first_none one stay bytes refusal.NoMemory h = tt

pub first_refused :
    LinesAreOne → PredsStay → (bytes line more : List ℕ) → bytes ≡ line ++ 10 ∷ more → IsOneLine line → Refuses Start line → IsBadLine bytes 0
first_refused one stay bytes line more split o refuses = bad_line one bytes [] Start line more 0 (nothing_read stay) o refuses split refl

pub first_more :
    (bytes line more : List ℕ) (head : Head) (r : Reading) → bytes ≡ line ++ 10 ∷ more → IsReading r →
    front_text (trace_of r) ≡ ended (plain.line_text (plain.First head)) → plain.line_text (plain.First head) ≡ line → IsReadTo bytes more r
first_more bytes line more head r split reading text is = record {
  reading = reading;
  stands = split ∙ sym (append_assoc line (10 ∷ []) more) ∙ ap (λ b. ended b ++ more) (sym is) ∙ ap (λ b. b ++ more) (sym text);
}

-- ---- the end
pub end_refused :
    LinesAreOne → (bytes rest : List ℕ) (r : Reading) (place : ℕ) → IsReadAll bytes rest r → ¬ (rest ≡ []) → place + length rest ≡ length bytes →
    IsBadLine bytes place
end_refused one bytes rest r place all some here =
    bad_end one bytes (trace_of r) rest place all.formed all.stands some (rest_here bytes (trace_text (trace_of r)) rest place all.stands here)

pub end_read : (bytes rest : List ℕ) (r : Reading) (t : Trace) → IsReadAll bytes rest r → rest ≡ [] → t ≡ trace_of r → IsReadAs bytes t
end_read bytes rest r t all none is =
    subst (IsReadAs bytes) (sym is) (record {
      formed = all.formed;
      text = sym (append-nil (trace_text (trace_of r))) ∙ ap (λ b. trace_text (trace_of r) ++ b) (sym none) ∙ sym all.stands;
      numbered = all.reading.numbered;
    })
