use Rattle.abc_printed_laws.proofs.Programs.{prints_are_terms}
use Rattle.abc_printed_laws.proofs.Values.{programs_have_values}
use Rattle.abc_printed_laws.proofs.NamedPrograms.{names_are_kept}
use Rattle.abc_printed_limits.proofs.Limits.{prints_are_within}
use Rattle.abc_printed_texts.proofs.PrintsAccepted.{prints_are_accepted}
use Rattle.abc_printed_texts.proofs.laws.prints_are_accepted.Goals as goal

pub returns : goal.returns
returns c = prints_are_accepted prints_are_terms programs_have_values names_are_kept prints_are_within
