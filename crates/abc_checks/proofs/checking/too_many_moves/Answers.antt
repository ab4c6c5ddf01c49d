use Rattle.std.proofs.Common.{ℕ, List, sym, subst}
use Rattle.abc_term.specs.Standing.{definitions_of}
use Rattle.abc_checks.specs.Measures.{breadth_of, IsLeastSolution}
use Rattle.abc_checks.specs.Tables.{number_of}
use Rattle.abc_checks.proofs.checking.too_many_moves.Goals as goal

pub invariant_of-fact : goal.invariant_of-fact
invariant_of-fact c =
    let ds = c.args.places.now.program.now.definitions in
    record { least = subst (λ (t : List ℕ). IsLeastSolution breadth_of (definitions_of ds) (number_of ds t)) (sym c.deref.ensures.value) c.in_ok-breadths.ensures }
