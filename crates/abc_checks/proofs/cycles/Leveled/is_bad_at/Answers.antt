use Rattle.std.proofs.Common.{◌↔◌, Bool, IsTrue, Option, subst}
use Rattle.std.specs.Prelude.{IfOk, IsSomeAnd}
use Rattle.abc_term.specs.declared.terms.Definition.{Definition}
use Rattle.abc_checks.specs.Graphs.{IsBadCycle}
use Rattle.abc_checks.proofs.cycles.Leveled.is_bad_at.Goals as goal

pub returns-in-Some : goal.returns-in-Some
returns-in-Some c =
    let bad : Definition → Type 0 = IsBadCycle c.args.self.now.counted c.args.self.now.places.now.program.now.definitions in
    subst (λ (o : Option Definition). IfOk c.is_bad.result (λ (b : Bool). IsTrue b ↔ IsSomeAnd o bad)) c.in-Some.ensures c.is_bad.ensures
