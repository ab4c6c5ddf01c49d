use Rattle.std.proofs.Common.{sym, subst}
use Rattle.abc_runner.specs.declared.command.Command.{Command}
use Rattle.abc_runner.specs.Answers.{IsOfProgram}
use Rattle.abc_runner.proofs.text.program_answer.Goals as goal

pub returns-in-Net : goal.returns-in-Net
returns-in-Net c =
    subst (λ (command : Command). IsOfProgram command c.args.program.now c.network_answer.result) (sym c.in-Net.is)
    (c.network_answer.ensures c.in-Net.workers)
