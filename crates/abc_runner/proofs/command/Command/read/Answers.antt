use Rattle.std.proofs.Common.{arith, string_bytes, Global}
use Rattle.abc_runner.proofs.Rows.{none_of_two, none_of_five, none_of_seven}
use Rattle.abc_runner.proofs.command.Command.read.Goals as goal

pub returns-in_default-2 : goal.returns-in_default-2
returns-in_default-2 c =
    record { value = none_of_two (string_bytes {Z = Global}) c.args.words.now (omega arith) (omega arith); within = tt }

pub returns-in_default-3 : goal.returns-in_default-3
returns-in_default-3 c =
    record { value = none_of_five (string_bytes {Z = Global}) c.args.words.now (omega arith) (omega arith); within = tt }

pub returns-in_default-4 : goal.returns-in_default-4
returns-in_default-4 c = record { value = none_of_seven (string_bytes {Z = Global}) c.args.words.now (omega arith); within = tt }
