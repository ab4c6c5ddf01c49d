use Rattle.abc_checks_laws.proofs.Finding.{each_is_checked_or_bad, none_is_both}
use Rattle.abc_checks_laws.proofs.laws.programs_are_checked_or_bad.Goals as goal

pub returns : goal.returns
returns c = record { either = each_is_checked_or_bad; never_both = none_is_both }
