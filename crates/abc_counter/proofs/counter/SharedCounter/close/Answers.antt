use Rattle.std.proofs.Common.{◌≡◌, min, subst, arith}
use Rattle.std.specs.Prelude.{IsPermutation}
use Rattle.abc_number.specs.Draws.{first_numbers}
use Rattle.abc_counter.specs.Counters.{drawn_by_all}
use Rattle.abc_counter.proofs.Gathered.{settled}
use Rattle.abc_counter.proofs.counter.SharedCounter.close.Goals as goal

pub returns-clause-each_once : goal.returns-clause-each_once
returns-clause-each_once c =
    let self = c.args.self in
    let word = c.word-word.result in
    let drawn = settled self c.gather-whole.result c.args.seats _ _ word c.gather-whole.ensures c.requires.all
    c.close_with-closed.ensures.values.2 c.word-word.ensures in
    let least : min word self.limit ≡ c.min.result = omega arith in
    subst (λ n. IsPermutation (first_numbers n) (drawn_by_all c.args.seats)) least drawn.0

pub returns-clause-full : goal.returns-clause-full
returns-clause-full c =
    let self = c.args.self in
    let drawn = settled self c.gather-whole.result c.args.seats _ _ c.word-word.result c.gather-whole.ensures c.requires.all
    c.close_with-closed.ensures.values.2 c.word-word.ensures in
    λ any. let past = drawn.1 any in omega arith
