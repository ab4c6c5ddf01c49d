-- Which bytes are the text of a trace, where else they go wrong, and what reading them answers.
use Rattle.std.specs.Prelude.{◌≡◌, ◌⊎◌, ◌++◌, ℕ, List, [], ◌∷◌, length, All, Result, Ok, Err}
use Rattle.abc_trace.specs.declared.trace.Trace.{Trace}
use Rattle.abc_trace.specs.Texts.{trace_text}
use Rattle.abc_trace.specs.WellFormed.{IsWellFormed}
use Rattle.abc_trace.specs.Met.{AreNumberedAsMet}
use Rattle.abc_trace_order.specs.declared.refusal.TraceRefusal.{TraceRefusal}
use Rattle.abc_trace_order.specs.declared.refusal.TraceRefusal.TheVariants as refusal

-- the bytes are the text of a trace
abbrev pub IsTraceText : List ℕ → Type 0
IsTraceText bytes = (t : Trace) × IsWellFormed t × (trace_text t ≡ bytes)

-- the text of a trace begins with them
abbrev pub BeginsTrace : List ℕ → Type 0
BeginsTrace bytes = (rest : List ℕ) × IsTraceText (bytes ++ rest)

-- ---- lines
-- no byte is a line feed
abbrev pub IsOneLine : List ℕ → Type 0
IsOneLine bytes = All (λ b. ¬ (b ≡ 10)) bytes

-- nothing, or lines to their ends
abbrev pub AreWholeLines : List ℕ → Type 0
AreWholeLines bytes = (bytes ≡ []) ⊎ ((front : List ℕ) × (bytes ≡ front ++ 10 ∷ []))

-- Behind these lines a line comes, together with its line feed, with which no text of a trace goes
-- on; or bytes that no line feed ends.
pub record GoesWrong (front rest : List ℕ) : Type 0 where
  pub line : List ℕ
  pub one : IsOneLine line
  pub wrong :
      ((more : List ℕ) × (rest ≡ line ++ 10 ∷ more) × ¬ BeginsTrace (front ++ line ++ 10 ∷ []))
      ⊎ ((rest ≡ line) × ¬ (line ≡ []))

-- The first line with which no text of a trace goes on begins at this place.
pub record IsBadLine (bytes : List ℕ) (place : ℕ) : Type 0 where
  pub front : List ℕ
  pub rest : List ℕ
  pub stands : bytes ≡ front ++ rest
  pub here : place ≡ length front
  pub whole : AreWholeLines front
  pub good : BeginsTrace front
  pub bad : GoesWrong front rest

-- The text of a trace begins with these lines, and more must come.
pub record IsCutShort (bytes : List ℕ) (place : ℕ) : Type 0 where
  pub here : place ≡ length bytes
  pub whole : AreWholeLines bytes
  pub good : BeginsTrace bytes
  pub short : ¬ IsTraceText bytes

-- ---- answers
-- the trace whose text the bytes are, with its names numbered as they are first met
pub record IsReadAs (bytes : List ℕ) (t : Trace) : Type 0 where
  pub formed : IsWellFormed t
  pub text : trace_text t ≡ bytes
  pub numbered : AreNumberedAsMet t

-- want of memory says nothing
abbrev pub IsTraceRefusal : List ℕ → TraceRefusal → Type 0
IsTraceRefusal bytes (refusal.BadLine place) = IsBadLine bytes place
IsTraceRefusal bytes (refusal.Missing place) = IsCutShort bytes place
IsTraceRefusal bytes refusal.NoMemory = Unit {0}

-- ---- and so each answer where it is due, but for want of memory
abbrev pub IsOkOr : Result Trace TraceRefusal → Type 0
IsOkOr (Ok t) = Unit {0}
IsOkOr (Err (refusal.BadLine place)) = ⊥
IsOkOr (Err (refusal.Missing place)) = ⊥
IsOkOr (Err refusal.NoMemory) = Unit {0}

abbrev pub IsBadLineAt : ℕ → Result Trace TraceRefusal → Type 0
IsBadLineAt place (Ok t) = ⊥
IsBadLineAt place (Err (refusal.BadLine p)) = p ≡ place
IsBadLineAt place (Err (refusal.Missing p)) = ⊥
IsBadLineAt place (Err refusal.NoMemory) = Unit {0}

abbrev pub IsMissingAt : ℕ → Result Trace TraceRefusal → Type 0
IsMissingAt place (Ok t) = ⊥
IsMissingAt place (Err (refusal.BadLine p)) = ⊥
IsMissingAt place (Err (refusal.Missing p)) = p ≡ place
IsMissingAt place (Err refusal.NoMemory) = Unit {0}

pub record AnswersTrace (bytes : List ℕ) (answer : Result Trace TraceRefusal) : Type 0 where
  pub text : IsTraceText bytes → IsOkOr answer
  pub bad : (place : ℕ) → IsBadLine bytes place → IsBadLineAt place answer
  pub short : (place : ℕ) → IsCutShort bytes place → IsMissingAt place answer
