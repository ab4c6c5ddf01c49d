use Rattle.abc_trace_order.specs.Reading.{plain_entries}
use Rattle.abc_trace_order.proofs.Numbering.{env_numbered}
use Rattle.abc_trace_reader.proofs.Rooms.{entries_room}
use Rattle.abc_trace_reader.proofs.steps.read_env.Goals as goal

pub returns : goal.returns
returns c =
    env_numbered c.args.names.now c.args.component.now (plain_entries c.args.entries) c.in_ok-number.field-0 c.number.new.self
    c.number_entries.new.names c.in_ok-entries.entries c.requires.spelled c.in_ok-number.ensures.number c.in_ok-number.ensures.names
    c.in_ok-entries.ensures
