use Rattle.abc_term.proofs.Bindings.{sat-put, close-put, expr-bound, putting_twice, putting_nothing}
use Rattle.abc_term.proofs.laws.substitution_is_binding.Goals as goal

pub returns : goal.returns
returns c = record { truth = sat-put; closing = close-put; value = expr-bound; twice = putting_twice; nothing = putting_nothing }
