-- A label as the rules have it.
use Rattle.abc_moves.specs.declared.label.Label.{Label}
use Rattle.abc_pred.specs.Standing.{pred_of}
use Rattle.abc_term.specs.Speaking as term

abbrev pub label_of : Label → term.Label
label_of l = record { shown = l.shown; pred = pred_of l.pred; values = l.values }
