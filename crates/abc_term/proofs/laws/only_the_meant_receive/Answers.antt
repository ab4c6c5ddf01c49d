use Rattle.abc_term.proofs.Meant.{only_the_meant_receive, false_is_heard_by_nobody, false_has_no_hearers}
use Rattle.abc_term.proofs.laws.only_the_meant_receive.Goals as goal

pub returns : goal.returns
returns c = record { meant = only_the_meant_receive; nobody = false_is_heard_by_nobody; no_hearers = false_has_no_hearers }
