use Rattle.std.proofs.Common.{◌≡◌, ◌++◌}
use Rattle.std.specs.Iterator.Adapters.{zip_first, zip_second}
use Rattle.std.specs.Slice.Iter.{iter_rest}
use Rattle.abc_run_text.specs.TextOf.{envs_text}
use Rattle.abc_record_text.proofs.steps.write_envs.Given as goal

-- What is written, and the lines of what is left, are all lines.
abbrev pub invariant-loop-component : goal.invariant-loop-component
invariant-loop-component l =
    l.out ++ envs_text l.names (iter_rest (zip_first l.component-iterator)) (iter_rest (zip_second l.component-iterator))
    ≡ l.initial.out ++ envs_text l.names l.components l.envs
