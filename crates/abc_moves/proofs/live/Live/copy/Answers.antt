use Rattle.std.proofs.Common.{◌∙◌, nat_eq, sym}
use Rattle.std.specs.HashMap.{get}
use Rattle.abc_term.specs.Standing.{definitions_of}
use Rattle.abc_term.specs.Speaking.{outs}
use Rattle.abc_moves.specs.States.{component_at}
use Rattle.abc_moves.proofs.Sounding.{same_sound}
use Rattle.abc_moves.proofs.live.Live.copy.Goals as goal

pub invariant_of-result : goal.invariant_of-result
invariant_of-result c =
    let self = c.args.self.now in let old = component_at self.state self.fixed.interface in
    let new = component_at c.in_ok-state.state c.in_ok-interface.interface in
    let is = c.in_ok-state.ensures in
    record {
      finds = λ n. (λ i. get nat_eq (c.in_ok-first.ensures i) n) ∙ self.finds n;
      counted =
          is.outputs ∙ self.counted
          ∙ (λ i. outs (definitions_of self.definitions.now) (record { env = sym is.env i; interface = sym c.in_ok-interface.ensures i; process = sym is.process i }));
      sound = same_sound self.definitions.now old new is.process self.sound;
    }
