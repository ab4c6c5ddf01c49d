-- Which runs have traces: those by the rule of places and those by choices, of accepted programs.
use Rattle.std.specs.Prelude.{◌≤◌, ℕ, List, length}
use Rattle.abc_text.specs.declared.lexical.Token.{Token}
use Rattle.abc_term.specs.declared.terms.Program.{Program}
use Rattle.abc_grammar.specs.Accepted.{IsAccepted}
use Rattle.abc_packet.specs.declared.choice.Choice.{Choice}
use Rattle.abc_system.specs.declared.run.Run.{Run}
use Rattle.abc_system.specs.Runs.{IsRunOf, IsSolo, IsReplay, rows_of}
use Rattle.abc_trace.specs.declared.trace.Head.{Head}
use Rattle.abc_trace.specs.declared.trace.Head.TheVariants.{Solo}
use Rattle.abc_trace.specs.Texts.{limit_of}
use Rattle.abc_trace.specs.WellFormed.{IsNet}
use Rattle.abc_traceable.specs.Traceable.{IsTraceable}
use Rattle.abc_run_trace.specs.TraceOf.{AllFitHead}

-- What `trace_of` asks of a program and its run under a head.
pub record HasTrace (p : Program) (head : Head) (r : Run) : Type 0 where
  pub program : IsTraceable p
  pub run : IsRunOf p r
  pub count : length r.steps ≤ limit_of head
  pub said : AllFitHead head (rows_of r)

-- It holds of the run by the rule of places of each accepted program,
abbrev pub SoloRunsHaveTraces : Type 0
SoloRunsHaveTraces =
    (bytes : List ℕ) (ts : List Token) (p : Program) (limit pick : ℕ) (r : Run) →
    IsAccepted bytes ts p → IsSolo p limit pick r → HasTrace p (Solo limit pick) r

-- and of its run by choices, as many as the limit allows, under the head of a network.
abbrev pub ReplaysHaveTraces : Type 0
ReplaysHaveTraces =
    (bytes : List ℕ) (ts : List Token) (p : Program) (choices : List Choice) (r : Run) (head : Head) →
    IsAccepted bytes ts p → IsReplay p choices r → IsNet head → length choices ≤ limit_of head →
    HasTrace p head r
