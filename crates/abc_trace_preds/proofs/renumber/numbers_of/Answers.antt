use Rattle.std.proofs.Common.{◌≡◌, ℕ, ◌+◌, ◌≤◌, ◌<◌, List, map, take, length, Bor, arith}
use Rattle.std.proofs.lemmas.List.{length-map, length-take}
use Rattle.abc_trace_preds.proofs.Numbers.{numbered_next, numbered_few}
use Rattle.abc_trace_preds.proofs.renumber.numbers_of.Goals as goal

pub number-requires : goal.number-requires
number-requires c =
    let words = take c.loop-word.word-index c.args.words.now in
    let few = numbered_few c.args.names.now c.loop-word.names (map (λ (w : Bor (List ℕ)). w.now) words) c.loop-word.numbers
    c.loop-word.invariant in
    omega (
      arith,
      few,
      c.requires.few,
      length-map words (λ (w : Bor (List ℕ)). w.now),
      length-take c.loop-word.word-index c.args.words.now,
    )

pub loop-word-preserved : goal.loop-word-preserved
loop-word-preserved c =
    numbered_next c.args.names.now c.loop-word.names c.number.new.self c.args.words.now c.loop-word.word-index _
    c.loop-word.numbers c.push.new.self c.in_ok-number.number (omega arith) c.loop-word.invariant
    c.in_ok-number.ensures.names c.in_ok-number.ensures.number c.in_ok-push.ensures.ok
