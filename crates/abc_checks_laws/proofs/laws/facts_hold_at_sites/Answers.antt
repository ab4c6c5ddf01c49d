use Rattle.abc_checks_laws.proofs.Finding.{facts_hold_at_sites}
use Rattle.abc_checks_laws.proofs.laws.facts_hold_at_sites.Goals as goal

pub returns : goal.returns
returns c = facts_hold_at_sites
