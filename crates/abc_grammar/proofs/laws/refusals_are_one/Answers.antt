use Rattle.abc_grammar.specs.Limits.{IsTooLarge}
use Rattle.abc_grammar.specs.Limits.{BeginsExtraToken}
use Rattle.abc_grammar.specs.Refusals.{IsSomeProgram, IsSomePred}
use Rattle.abc_grammar.proofs.OneRefusal.{one_refusal}
use Rattle.abc_grammar.proofs.laws.refusals_are_one.Goals as goal

pub returns : goal.returns
returns c = record { programs = one_refusal IsSomeProgram IsTooLarge; preds = one_refusal IsSomePred BeginsExtraToken }
