use Rattle.std.proofs.Common.{◌∙◌, ap}
use Rattle.abc_term.specs.Standing.{updates_of}
use Rattle.abc_term.specs.Substitution.{put_updates}
use Rattle.abc_term.specs.Speaking.{updated}
use Rattle.abc_moves.specs.Hears.{inside}
use Rattle.abc_moves.proofs.Reading.{updates_twice}
use Rattle.abc_moves.proofs.hearing.heard.Goals as goal

pub returns-clause-env : goal.returns-clause-env
returns-clause-env c =
    let site = c.args.site.now in let env = c.args.at.now.env.now in
    c.in_ok-env.ensures
    ∙ (λ i. updated (put_updates (inside (c.as_slice-xs.ensures i) (c.as_slice-values.ensures i) site.scope.now)
    (updates_of (c.as_slice.ensures i))) env)
    ∙ ap (λ us. updated us env) (updates_twice site.action.xs.now c.args.label.now.values site.scope.now
    (updates_of site.action.after.now.updates))
