use Rattle.std.proofs.Common.{◌≡◌, drop}
use Rattle.abc_term.specs.Standing.{updates_of}
use Rattle.abc_term.specs.Substitution.{put_updates}
use Rattle.abc_term.specs.Speaking.{updated}
use Rattle.abc_moves.proofs.updates.updated.Given as goal

abbrev pub invariant-loop-update : goal.invariant-loop-update
invariant-loop-update g l =
    updated (put_updates (g.V.Variables.bound l.vars) (updates_of (drop l.update-index l.updates))) l.new
    ≡ updated (put_updates (g.V.Variables.bound l.vars) (updates_of l.updates)) l.env
