use Rattle.abc_parse_laws.proofs.Texts.{each_is_accepted_or_refused, none_is_both}
use Rattle.abc_parse_laws.proofs.laws.texts_are_accepted_or_refused.Goals as goal

pub returns : goal.returns
returns c = record { either = each_is_accepted_or_refused; never_both = none_is_both }
