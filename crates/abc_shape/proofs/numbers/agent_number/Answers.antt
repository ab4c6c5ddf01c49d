use Rattle.std.proofs.Common.{refl, arith, inl, inr}
use Rattle.abc_shape.specs.Plans.{cluster_up, cluster_down}
use Rattle.abc_shape.proofs.Ended.{up-number, down-number, up-at_home, down-at_home, not-cluster}
use Rattle.abc_shape.proofs.numbers.agent_number.Goals as goal

pub returns-in-Cluster-clause-up : goal.returns-in-Cluster-clause-up
returns-in-Cluster-clause-up c h = cluster_up c.args.agent c.args.node c.in-Cluster.is c.requires.agent c.requires.node refl refl refl

pub returns-in-Cluster-clause-down : goal.returns-in-Cluster-clause-down
returns-in-Cluster-clause-down c h = cluster_down c.args.agent c.args.node c.in-Cluster.is c.requires.agent c.requires.node refl refl refl

pub returns-in-Ring : goal.returns-in-Ring
returns-in-Ring c =
    let other = not-cluster c.args.layout.shape c.in-Ring.is in
    record {
      up = λ h. up-at_home c.args.layout c.args.agent c.args.node other c.requires.agent h;
      down = λ h. down-at_home c.args.layout c.args.agent c.args.node other c.requires.agent h;
      no_other_up = λ n r. elim (up-number c.args.layout n c.args.agent c.args.node c.requires.agent r) [ inl e ↦ absurd (other e.0) | inr e ↦ e.2 ];
      no_other_down = λ n r. elim (down-number c.args.layout n c.args.agent c.args.node c.requires.agent r) [ inl e ↦ absurd (other e.0) | inr e ↦ e.2 ];
      small = omega arith;
    }
