use Rattle.std.proofs.Common.{◌+◌, ◌++◌, ◌∷◌, [], ◌∙◌, sym, ap, arith}
use Rattle.std.proofs.lemmas.Bool.{false_from_ne_true}
use Rattle.abc_number.specs.Counter.{Counter}
use Rattle.abc_number.specs.Draws.{first_numbers}
use Rattle.abc_number.proofs.FirstNumbers.{first_numbers-more}
use Rattle.abc_number.proofs.plain.PlainCounterNumbers.draw.Goals as goal

pub returns-clause-granted : goal.returns-clause-granted
returns-clause-granted c =
    let at = c.self.inside.count in
    let same = c.self.view_is in
    let count = ap (λ (w : Counter). w.count) same in
    let closed = ap (λ (w : Counter). w.closed) same in
    let limit = ap (λ (w : Counter). w.limit) same in
    let not_closed = false_from_ne_true c.self.inside.closed (λ e. let all = c.self.invariant.all_drawn e in omega arith) in (
      omega arith,
      omega arith,
      first_numbers-more at ∙ ap (λ n. first_numbers n ++ (at + 1) ∷ []) count,
      sym closed ∙ not_closed,
      not_closed,
    )
