use Rattle.std.proofs.Common.{◌∙◌, refl}
use Rattle.std.proofs.lemmas.Result.{IfOk-weaker}
use Rattle.abc_moves.specs.Labels.{label_of}
use Rattle.abc_moves.specs.Lives.{component_in}
use Rattle.abc_moves.proofs.Leafed.{few_in_tree}
use Rattle.abc_moves.proofs.Whole.{speaks_around}
use Rattle.abc_moves.proofs.live.Live.prepare_output.Goals as goal

pub spoken_at-requires-clause-few : goal.spoken_at-requires-clause-few
spoken_at-requires-clause-few c =
    let self = c.args.self.now in few_in_tree self.definitions.now (component_in self) self.state.tree self.sound refl

pub returns : goal.returns
returns c =
    let self = c.args.self.now in let is = c.new-at.ensures in
    IfOk-weaker c.spoken_at.result _ _
    (λ r s. speaks_around c.new-at.result self.state.tree self.definitions.now self.state.env self.fixed.interface (is.definitions ∙ c.bodies_of-bodies.ensures) is.env is.interface
    c.args.place (label_of r.0) r.1 s) c.spoken_at.ensures
