use Rattle.std.proofs.Common.{◌↔◌, sym, subst}
use Rattle.std.specs.Prelude.{IsErrOf}
use Rattle.abc_value.specs.declared.literal.ValueRefusal.TheVariants.{Bad, NoMemory}
use Rattle.abc_value.specs.Literals.{HasNoLiteral}
use Rattle.abc_value.proofs.Steps.{answered, never_wanted}
use Rattle.abc_value.proofs.read.read_value.Goals as goal

pub returns-clause-bad : goal.returns-clause-bad
returns-clause-bad c = subst (λ r. IsErrOf r Bad ↔ HasNoLiteral c.args.bytes.now) (sym c.ok_or.ensures.value) (answered _ _ c.read_plain.ensures)

pub returns-clause-wanted : goal.returns-clause-wanted
returns-clause-wanted c = λ e. absurd (never_wanted _ (subst (λ r. IsErrOf r NoMemory) c.ok_or.ensures.value e))
