use Rattle.abc_printed_laws.proofs.Programs.{prints_are_terms}
use Rattle.abc_printed_laws.proofs.Values.{programs_have_values}
use Rattle.abc_printed_laws.proofs.NamedPrograms.{names_are_kept}
use Rattle.abc_printed_laws.proofs.Outputs.{outputs_stand}
use Rattle.abc_printed_limits.proofs.Alone.{closed_prints_are_within}
use Rattle.abc_printed_texts.proofs.OutputsRead.{outputs_are_read}
use Rattle.abc_printed_texts.proofs.laws.outputs_are_read.Goals as goal

pub returns : goal.returns
returns c = outputs_are_read prints_are_terms programs_have_values names_are_kept outputs_stand closed_prints_are_within
