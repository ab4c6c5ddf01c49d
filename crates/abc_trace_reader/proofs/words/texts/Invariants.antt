use Rattle.std.proofs.Common.{◌≡◌, map, take}
use Rattle.abc_trace_reader.proofs.words.texts.Given as goal

abbrev pub invariant-loop-word : goal.invariant-loop-word
invariant-loop-word l = l.made ≡ map (λ w. w.now) (take l.word-index l.words)
