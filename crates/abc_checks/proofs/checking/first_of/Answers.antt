use Rattle.std.proofs.Common.{sym, subst}
use Rattle.abc_checks.specs.Sites.{IsFirstSite}
use Rattle.abc_checks.specs.Facts.{HasFact}
use Rattle.abc_cause.specs.declared.CheckCause.{CheckCause}
use Rattle.abc_checks.proofs.checking.first_of.Goals as goal

pub returns-in-DoubleName : goal.returns-in-DoubleName
returns-in-DoubleName c =
    subst (λ (k : CheckCause). IsFirstSite (HasFact k c.args.places.now.program.now) c.first_site.result) (sym c.in-DoubleName.is) c.first_site.ensures

pub returns-in-UnknownName : goal.returns-in-UnknownName
returns-in-UnknownName c =
    subst (λ (k : CheckCause). IsFirstSite (HasFact k c.args.places.now.program.now) c.first_site-in-UnknownName.result) (sym c.in-UnknownName.is) c.first_site-in-UnknownName.ensures
