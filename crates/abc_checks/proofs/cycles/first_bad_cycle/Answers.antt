use Rattle.std.proofs.Common.{◌<◌, ◌^◌, length, sym, subst}
use Rattle.std.specs.Prelude.{IfOk}
use Rattle.abc_term.specs.declared.terms.Program.{Program}
use Rattle.abc_checks.specs.Sites.{IsFirstSite}
use Rattle.abc_checks.specs.Graphs.{CycleSite}
use Rattle.abc_checks.specs.declared.calls.Calls.{Calls}
use Rattle.abc_checks.proofs.cycles.first_bad_cycle.Goals as goal

pub first_bad-requires : goal.first_bad-requires
first_bad-requires c = subst (λ (p : Program). length p.definitions < 2 ^ 32) (sym c.in_ok-calls.ensures.program) c.requires

pub returns : goal.returns
returns c =
    let r = c.first_bad.result in
    let calls = c.in_ok-calls.calls in
    subst (λ (k : Calls). IfOk r (IsFirstSite (CycleSite k c.args.places.now.program.now))) c.in_ok-calls.ensures.counted
    (subst (λ (p : Program). IfOk r (IsFirstSite (CycleSite calls.counted p))) c.in_ok-calls.ensures.program c.first_bad.ensures)
