use Rattle.std.proofs.Common.{◌<◌, subst, get_or, Option, None}
use Rattle.abc_term.specs.declared.terms.Program.{Program}
use Rattle.abc_checks.specs.Sites.{IsFirstSite}
use Rattle.abc_checks.specs.Facts.{HasFact}
use Rattle.abc_checks.specs.declared.causes.Site.{Site}
use Rattle.abc_cause.specs.declared.CheckCause.{CheckCause}
use Rattle.abc_cause.specs.declared.CheckCause.TheVariants.{DoubleName}
use Rattle.abc_checks.specs.declared.checking.TheConstants.{CAUSES}
use Rattle.abc_checks.proofs.Answering.{one_further, same_default}
use Rattle.abc_checks.proofs.checking.first_fact.Goals as goal

pub loop-cause-preserved : goal.loop-cause-preserved
loop-cause-preserved c =
    let i = c.loop-cause.cause-index in
    let e : CheckCause = get_or CAUSES i DoubleName in
    let held = c.in_ok-places.places.program.now in
    let lt : i < 9 = c.loop-cause-test.true in
    let there : IsFirstSite (HasFact e held) None = subst (λ (o : Option Site). IsFirstSite (HasFact e held) o) c.in_default.is c.in_ok-site.ensures in
    let here : IsFirstSite (HasFact e c.args.program.now) None = subst (λ (q : Program). IsFirstSite (HasFact e q) None) c.in_ok-places.ensures there in
    one_further c.args.program.now i e lt (same_default CAUSES i DoubleName e lt) c.loop-cause.invariant here
