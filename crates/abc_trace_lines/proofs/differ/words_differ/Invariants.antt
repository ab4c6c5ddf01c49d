use Rattle.std.proofs.Common.{◌≡◌, map, take}
use Rattle.abc_text.specs.Meanings.{AreDifferent}
use Rattle.abc_trace_lines.proofs.differ.words_differ.Given as goal

abbrev pub invariant-loop-item : goal.invariant-loop-item
invariant-loop-item g l =
    (map (λ w. w.now) l.met.keys ≡ map (λ e. e.0.now) (take l.item-index l.items)) × AreDifferent
    (map (λ e. e.0.now) (take l.item-index l.items))
