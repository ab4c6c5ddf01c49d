use Rattle.std.proofs.Common.{false, ◌∙◌}
use Rattle.std.proofs.lemmas.Bool.{false≢true}
use Rattle.abc_checks.specs.Graphs.{counts_behind}
use Rattle.abc_checks.proofs.CallPaths.{answered}
use Rattle.abc_checks.proofs.Leveling.{none_rises_alike}
use Rattle.abc_checks.proofs.cycles.Leveled.cycles.Goals as goal

pub returns-then-only_falls : goal.returns-then-only_falls
returns-then-only_falls c =
    let s = c.args.self.now in
    let none = none_rises_alike c.deref.result.now s.graph.items c.deref-then-self.result.now s.levels.items
    c.deref.ensures.value c.deref-then-self.ensures.value (s.falling c.if-self.true) in
    answered (counts_behind s.counted) s.places.now.program.now.definitions c.args.definition.now.name c.deref.result.now
    c.place-node.result false (c.deref.ensures.value ∙ s.right) c.place-node.ensures
    (λ t. absurd (false≢true t), λ p. absurd (c.only_falls.ensures c.if-only_falls.true none p))

pub returns : goal.returns
returns c =
    let s = c.args.self.now in
    answered (counts_behind s.counted) s.places.now.program.now.definitions c.args.definition.now.name c.deref-2.result.now
    c.place-node.result c.in_ok-found.found (c.deref-2.ensures.value ∙ s.right) c.place-node.ensures c.in_ok-found.ensures
