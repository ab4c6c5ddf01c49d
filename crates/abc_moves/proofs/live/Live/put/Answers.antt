use Rattle.std.proofs.Common.{◌∙◌, List, ap, refl, subst, sym}
use Rattle.abc_term.specs.declared.terms.Definition.{Definition}
use Rattle.abc_term.specs.Processes.{Component}
use Rattle.abc_term.specs.Speaking.{outs}
use Rattle.abc_term.specs.Standing.{definitions_of}
use Rattle.abc_moves.specs.Lives.{component_in}
use Rattle.abc_moves.specs.Moves.{moved}
use Rattle.abc_moves.specs.Sounds.{IsSoundUnder}
use Rattle.abc_moves.specs.States.{component_at}
use Rattle.abc_moves.proofs.Leafed.{few_in_tree}
use Rattle.abc_moves.proofs.Sounding.{move_sound}
use Rattle.abc_moves.proofs.live.Live.put.Goals as goal

pub change-requires-clause-sound : goal.change-requires-clause-sound
change-requires-clause-sound c =
    let self = c.args.self.now in
    subst (λ (ds : List Definition). ∥ IsSoundUnder ds (moved self c.args.made) ∥₁) (sym c.bodies_of-bodies.ensures) (move_sound self c.args.made c.requires)

pub change-requires-clause-few : goal.change-requires-clause-few
change-requires-clause-few c =
    let self = c.args.self.now in few_in_tree self.definitions.now (component_in self) self.state.tree self.sound refl

pub invariant_of-self : goal.invariant_of-self
invariant_of-self c =
    let self = c.args.self.now in let now = component_at c.change.new.state self.fixed.interface in
    record {
      finds = self.finds;
      counted = c.change.ensures.counted ∙ ap (λ (ds : List Definition). outs (definitions_of ds) now) c.bodies_of-bodies.ensures;
      sound = subst (λ (C : Component). ∥ IsSoundUnder self.definitions.now C ∥₁) (sym c.change.ensures.component) (move_sound self c.args.made c.requires);
    }
