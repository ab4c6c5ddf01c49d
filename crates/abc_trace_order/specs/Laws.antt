-- Laws of the texts of traces.
use Rattle.std.specs.Prelude.{ℕ, List}
use Rattle.abc_trace_order.specs.Texts.{IsTraceText, IsBadLine}

-- A text with a bad line is none of a trace.
abbrev pub BadTextsAreNone : Type 0
BadTextsAreNone = (bytes : List ℕ) (place : ℕ) → IsBadLine bytes place → ¬ IsTraceText bytes
