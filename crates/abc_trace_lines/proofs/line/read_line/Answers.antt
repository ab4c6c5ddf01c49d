use Rattle.abc_trace_lines.specs.Reading.{IsFirst, IsEnv, IsNode, IsLast}
use Rattle.abc_trace_lines.proofs.FirstBytes.{only_first, only_env, only_node, only_last, read_as, read_as_ok}
use Rattle.abc_trace_lines.proofs.line.read_line.Goals as goal

pub returns-in-97 : goal.returns-in-97
returns-in-97 c =
    read_as IsFirst _ _ _ c.in-Some.ensures.cases.0 (only_first _ c.in-97.is) _ c.first_line.ensures

pub returns-in-101 : goal.returns-in-101
returns-in-101 c =
    read_as_ok IsEnv _ _ _ c.in-Some.ensures.cases.0 (only_env _ c.in-101.is) _ c.env_line.ensures

pub returns-in-110 : goal.returns-in-110
returns-in-110 c =
    read_as IsNode _ _ _ c.in-Some.ensures.cases.0 (only_node _ c.in-110.is) _ c.node_line.ensures

pub returns-in-108 : goal.returns-in-108
returns-in-108 c =
    read_as IsLast _ _ _ c.in-Some.ensures.cases.0 (only_last _ c.in-108.is) _ c.last_line.ensures
