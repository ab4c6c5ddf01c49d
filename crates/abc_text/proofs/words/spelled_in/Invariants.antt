use Rattle.std.proofs.Common.{◌≡◌, map, drop}
use Rattle.abc_text.specs.Words as spec
use Rattle.abc_text.proofs.words.spelled_in.Given as goal

abbrev pub invariant-loop-row : goal.invariant-loop-row
invariant-loop-row g l =
    spec.spelled_in (map (λ row. (row.0, row.1.now)) (drop l.row-index l.rows)) l.word
    ≡ spec.spelled_in (map (λ row. (row.0, row.1.now)) l.rows) l.word
