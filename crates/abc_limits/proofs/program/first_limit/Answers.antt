use Rattle.std.proofs.Common.{sym, subst}
use Rattle.abc_limits.specs.declared.program.Limit.{Limit}
use Rattle.abc_limits.specs.FirstLimit.{IsLimitOf}
use Rattle.abc_limits.proofs.WalkLaws.{limit_found}
use Rattle.abc_limits.proofs.program.first_limit.Goals as goal

pub returns : goal.returns
returns c =
    subst (λ (limit : Limit). IsLimitOf c.args.lexemes.now limit) (sym c.limit_of.ensures)
    (limit_found c.args.lexemes.now)
