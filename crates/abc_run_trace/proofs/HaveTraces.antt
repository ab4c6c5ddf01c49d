-- Runs of accepted programs have traces: in a run by the rule of places each step says something,
-- and under the head of a network none has to.
use Rattle.std.proofs.Common.{◌≡◌, ℕ, zero, suc, ◌+◌, List, [], ◌∷◌, length, map, ap, arith}
use Rattle.std.specs.Prelude.{Option, Some, None}
use Rattle.std.proofs.lemmas.List.{length-map}
use Rattle.std.proofs.lemmas.List.Elements.{All-nil, All-cons}
use Rattle.abc_term.specs.Processes.{Definitions, System}
use Rattle.abc_term.specs.Speaking.{Label}
use Rattle.abc_term.specs.Standing.{definitions_of, system_of}
use Rattle.abc_steps.specs.Turns.{RunsByTurns}
use Rattle.abc_steps.specs.Rows.{Row, choice_of_row, place_said}
use Rattle.abc_steps.proofs.OneRun.{turns_end}
use Rattle.abc_system.specs.Systems.{row_of, choice_of}
use Rattle.abc_system.specs.Runs.{rows_of}
use Rattle.abc_trace.specs.declared.trace.Head.{Head}
use Rattle.abc_trace.specs.declared.trace.Head.TheVariants.{Solo}
use Rattle.abc_trace.specs.WellFormed.{IsNet}
use Rattle.abc_traceable.proofs.Accepted.{accepted_are_traceable}
use Rattle.abc_run_trace.specs.TraceOf.{FitsHead, AllFitHead}
use Rattle.abc_run_trace.specs.HasTrace.{SoloRunsHaveTraces, ReplaysHaveTraces}

-- what has a place was said
said_fits : (head : Head) (spoke : Option (ℕ × Label)) (place : ℕ) →
    place_said spoke ≡ Some place → FitsHead head spoke
said_fits head None place e = cc
said_fits head (Some s) place e = tt

turns_fit : (head : Head) (defs : Definitions) (limit turn : ℕ) (S : System) (rows : List Row)
    (T : System) →
    RunsByTurns defs limit turn S (map choice_of_row rows) T → AllFitHead head rows
turns_fit head defs limit turn S [] T h = All-nil (λ r. FitsHead head r.spoke)
turns_fit head defs zero turn S (r ∷ rows) T h = absurd h
turns_fit head defs (suc limit) turn S (r ∷ rows) T h =
    All-cons (λ x. FitsHead head x.spoke) r rows (said_fits head r.spoke h.2.0 h.2.1)
    (turns_fit head defs limit (turn + 1) h.1 rows T h.4)

pub solo_runs_have_traces : SoloRunsHaveTraces
solo_runs_have_traces bytes ts p limit pick r accepted solo =
    let defs = definitions_of p.definitions in
    let choices = map choice_of_row (rows_of r) in
    let most =
    (turns_end defs limit pick (system_of p) choices solo.run.last solo.ruled).0 in
    let as_many = length-map (rows_of r) choice_of_row in
    let steps = length-map r.steps row_of in
    record {
      program = accepted_are_traceable bytes ts p accepted;
      run = solo.run;
      count = omega (arith, most, as_many, steps);
      said =
          turns_fit (Solo limit pick) defs limit pick (system_of p) (rows_of r) solo.run.last
          solo.ruled;
    }

-- ---- in a network
net_fits : (head : Head) → IsNet head → (spoke : Option (ℕ × Label)) → FitsHead head spoke
net_fits head net None = net
net_fits head net (Some s) = tt

all_fit : (head : Head) → IsNet head → (rows : List Row) → AllFitHead head rows
all_fit head net [] = All-nil (λ r. FitsHead head r.spoke)
all_fit head net (r ∷ rows) =
    All-cons (λ x. FitsHead head x.spoke) r rows (net_fits head net r.spoke) (all_fit head net rows)

pub replays_have_traces : ReplaysHaveTraces
replays_have_traces bytes ts p choices r head accepted again net few =
    let same = ap length again.chosen in
    let as_many = length-map (rows_of r) choice_of_row in
    let steps = length-map r.steps row_of in
    let chosen = length-map choices choice_of in
    record {
      program = accepted_are_traceable bytes ts p accepted;
      run = again.run;
      count = omega (arith, few, same, as_many, steps, chosen);
      said = all_fit head net (rows_of r);
    }
