use Rattle.abc_trace_order.proofs.Exact.{not_text}
use Rattle.abc_trace_order.proofs.HasRead.{bad_end, cut_short}
use Rattle.abc_trace_order.proofs.Numbering.{said_numbered, line_said, line_silent, env_numbered}
use Rattle.abc_trace_order.proofs.Refusing.{refuses_none, refuses_one, number_comes, number_admitted}
use Rattle.abc_trace_order.proofs.Growth.{number_grows, env_grows, node_grows}
use Rattle.abc_trace_order.proofs.laws.bad_texts_are_none.Goals as goal

pub returns : goal.returns
returns c = not_text
