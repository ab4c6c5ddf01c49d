-- Copies in a cluster.
use Rattle.std.proofs.Common.{◌≡◌, ◌≢◌, ℕ, ◌+◌, ◌*◌, ◌<◌, ◌≤◌, [], refl, sym, ◌∙◌, arith, inl, inr}
use Rattle.std.specs.Prelude.{◌⊎◌}
use Rattle.abc_shape.specs.declared.shape.Shape.TheVariants.{Cluster, Ring, Tree}
use Rattle.abc_shape.specs.declared.layout.Layout.{Layout}
use Rattle.abc_shape.specs.Plans.{actor_of, IsLink, cluster_down}
use Rattle.abc_shape_laws.specs.Copies.{to_agent, there, onward}
use Rattle.abc_shape_laws.specs.CopyLaws.{ClusterCopies}
use Rattle.abc_shape_laws.proofs.Flows.{Rule, agents, next, others, Flow, comes-once, comes-not_back}

no-tree : (p : Layout) → p.shape ≡ Cluster → p.shape ≢ Tree
no-tree p c t = let two : Cluster ≡ Tree = sym c ∙ t in cc

to-agent : (p : Layout) (s from k to : ℕ) → p.shape ≡ Cluster → Rule p s from k to → (to < p.agents) × (to ≢ s)
to-agent p s from k to c (agents t low ne) = (low, ne)
to-agent p s from k to c (next r ne e) = absurd (let two : Cluster ≡ Ring = sym c ∙ r in cc)
to-agent p s from k to c (others t ne) = absurd (no-tree p c t)

-- An agent sends to a node, and a node to an agent, where it stays.
cluster-flow : (p : Layout) (s : ℕ) → p.shape ≡ Cluster → Flow p s
cluster-flow p s c = record {
  Fits = λ from to. (from < p.agents) ⊎ (to < p.agents);
  Leads = λ from to goal. p.agents ≤ from → goal ≡ to;
  arrives = λ from to fit high. refl;
  fits = λ from k link to fit o. inr (to-agent p s from k to c o.rule).0;
  behind = λ from k link to goal fit o lead high. absurd (elim fit [ inl low ↦ omega arith | inr low ↦ omega arith ]);
  leaves = λ from k link to o lead. let low = (to-agent p s from k to c o.rule).0 in let e = lead (omega arith) in omega arith;
  one = λ from k link to link' to' goal o o' lead lead'. sym (lead (omega arith)) ∙ lead' (omega arith);
  not_back = λ k came link to r o lead. (to-agent p s s k to c o.rule).1 (sym (lead (omega arith)));
}

pub cluster-copies : ClusterCopies
unfolding cluster-flow
cluster-copies p s link l c (low, (k, there_is, r)) =
    let f = cluster-flow p s c in
    record {
      others = λ i i_low ne. record {
        comes = (
            let d : IsLink p (2 * (i * p.nodes + k) + 1) (actor_of p k) i = cluster_down i k c i_low there_is refl refl refl in
            (_, onward link s k _ [] i r (to_agent i (no-tree p c) i_low ne d) (there _ (actor_of p k) i d)));
        once = λ ms ns x y. comes-once p s f link ms ns i x y s (actor_of p k) r (inl low);
      };
      not_itself = λ ms x. comes-not_back p s f link k ms s low r (inl low) x refl;
    }
