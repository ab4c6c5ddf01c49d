use Rattle.std.proofs.Common.{◌∙◌}
use Rattle.abc_system.proofs.Beginning.{begin_under, begin_alike, begin_few}
use Rattle.abc_system.proofs.system.System.start.Goals as goal

pub invariant_of-result-clause-under : goal.invariant_of-result-clause-under
invariant_of-result-clause-under c =
    begin_under c.args.program.now.definitions c.in_ok-members.members.items c.in_ok-lives.lives (c.in_ok-members.ensures ∙ c.into_vec.ensures)
    c.in_ok-lives.ensures.text

pub invariant_of-result-clause-few : goal.invariant_of-result-clause-few
invariant_of-result-clause-few c =
    begin_few c.args.program.now c.in_ok-members.members.items c.in_ok-lives.lives (c.in_ok-members.ensures ∙ c.into_vec.ensures)
    c.in_ok-lives.ensures.count c.requires

pub returns-clause-system : goal.returns-clause-system
returns-clause-system c =
    begin_alike c.args.program.now c.in_ok-members.members.items c.in_ok-lives.lives (c.in_ok-members.ensures ∙ c.into_vec.ensures)
    c.in_ok-lives.ensures.count c.in_ok-lives.ensures.components
