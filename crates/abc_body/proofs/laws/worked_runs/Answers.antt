use Rattle.abc_body.proofs.WorkedRuns.{worked_run, left_out, itself, falling, nobody, no_sender, heard_nothing}
use Rattle.abc_body.proofs.laws.worked_runs.Goals as goal

pub returns : goal.returns
returns c = record {
  run = worked_run;
  left_out = λ S step. left_out S step;
  itself = λ S step. itself S step;
  falling = λ S step. falling S step;
  nobody = λ S step. nobody S step;
  no_sender = λ S step. no_sender S step;
  heard_nothing = λ S step. heard_nothing S step;
}
