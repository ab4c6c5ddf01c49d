-- The laws of reading traces back.
use Rattle.std.specs.Prelude.{◌≡◌, ◌⊎◌, ℕ, List, IfOk, IfErr, Result, Ok, Err}
use Rattle.abc_trace.specs.declared.trace.Trace.{Trace}
use Rattle.abc_trace.specs.Texts.{trace_text}
use Rattle.abc_trace.specs.WellFormed.{IsWellFormed}
use Rattle.abc_trace.specs.Met.{AreNumberedAsMet}
use Rattle.abc_trace_order.specs.declared.refusal.TraceRefusal.{TraceRefusal}
use Rattle.abc_trace_order.specs.declared.refusal.TraceRefusal.TheVariants.{NoMemory}
use Rattle.abc_trace_order.specs.Texts.{IsReadAs, IsTraceRefusal, AnswersTrace}
use Rattle.abc_trace_laws.specs.Plain.{plain_trace}
use Rattle.abc_trace_laws.specs.Renumbered.{renumbered}

-- Two traces with one text, the names of each numbered as they are met in it, are one; and where
-- boxes lie changes no text.
pub record TracesAreOne : Type 0 where
  pub one :
      (t u : Trace) → IsWellFormed t → IsWellFormed u → AreNumberedAsMet t → AreNumberedAsMet u →
      trace_text t ≡ trace_text u → plain_trace t ≡ plain_trace u
  pub text : (t u : Trace) → plain_trace t ≡ plain_trace u → trace_text t ≡ trace_text u

-- The text of a well-formed trace is read as some trace; each that it is read as is the one that
-- was written, renumbered; and one that is numbered as met stays as it is.
pub record WrittenIsReadBack : Type 0 where
  pub there : (t : Trace) → IsWellFormed t → (u : Trace) × IsReadAs (trace_text t) u
  pub same :
      (t u : Trace) → IsWellFormed t → IsReadAs (trace_text t) u → plain_trace u ≡ renumbered t
  pub still : (t : Trace) → IsWellFormed t → AreNumberedAsMet t → plain_trace t ≡ renumbered t

-- ---- so with answers
-- what is promised of an answer to reading these bytes
pub record IsTraceAnswer (bytes : List ℕ) (answer : Result Trace TraceRefusal) : Type 0 where
  pub read : IfOk answer (IsReadAs bytes)
  pub refused : IfErr answer (IsTraceRefusal bytes)
  pub exact : AnswersTrace bytes answer

-- one trace, or one refusal; or one of them is want of memory
abbrev pub AreOneAnswer : Result Trace TraceRefusal → Result Trace TraceRefusal → Type 0
AreOneAnswer (Ok t) (Ok u) = plain_trace t ≡ plain_trace u
AreOneAnswer (Ok t) (Err f) = f ≡ NoMemory
AreOneAnswer (Err e) (Ok u) = e ≡ NoMemory
AreOneAnswer (Err e) (Err f) = (e ≡ f) ⊎ (e ≡ NoMemory) ⊎ (f ≡ NoMemory)

-- Bytes fix what reading them answers, but for want of memory.
abbrev pub TraceAnswersAreOne : Type 0
TraceAnswersAreOne =
    (bytes : List ℕ) (a b : Result Trace TraceRefusal) → IsTraceAnswer bytes a →
    IsTraceAnswer bytes b → AreOneAnswer a b

-- this trace, renumbered, or want of memory
abbrev pub IsRenumbered : Trace → Result Trace TraceRefusal → Type 0
IsRenumbered t (Ok u) = plain_trace u ≡ renumbered t
IsRenumbered t (Err e) = e ≡ NoMemory

-- Reading the text of a well-formed trace answers that.
abbrev pub TraceAnswersAreRenumbered : Type 0
TraceAnswersAreRenumbered =
    (t : Trace) (answer : Result Trace TraceRefusal) → IsWellFormed t →
    IsTraceAnswer (trace_text t) answer → IsRenumbered t answer
