use Rattle.std.proofs.Common.{◌≡◌, map, take}
use Rattle.abc_text.specs.Meanings.{number_in}
use Rattle.abc_trace.specs.Met.{with_words}
use Rattle.abc_trace_preds.proofs.Numbers.{Numbered}
use Rattle.abc_trace_preds.proofs.renumber.numbers_of.Given as goal

abbrev pub invariant-loop-word : goal.invariant-loop-word
invariant-loop-word l =
    Numbered l.initial.names l.names (map (λ w. w.now) (take l.word-index l.words)) l.numbers
