-- Which links end at an agent and at a node of a tree, and which leave a node, by number.
use Rattle.std.proofs.Common.{◌≡◌, ℕ, ◌+◌, ◌*◌, ◌%◌, ◌<◌, refl, sym, ap, ◌∙◌}
use Rattle.std.proofs.Common.{subst, arith, inl, inr}
use Rattle.std.specs.Prelude.{◌⊎◌}
use Rattle.abc_shape.specs.declared.shape.Shape.TheVariants.{Tree}
use Rattle.abc_shape.specs.Plans.{IsLink, cluster_up, cluster_down, home_up, home_down, along}
use Rattle.abc_shape.specs.Plans.{tree_up, tree_down, layout_of, step_up}
use Rattle.abc_shape.specs.Routes.{IsChild}
use Rattle.abc_network.specs.Links.{to_home, from_home, to_parent, from_parent}
use Rattle.abc_network.specs.Networks.{EndsAtAgent, EndsAtNode}

module _ (agents nodes : ℕ) where
  -- A link that ends at an agent comes from its home.
  agent-ends : (i l from to : ℕ) → i < agents → to ≡ i →
      IsLink (layout_of Tree agents nodes) l from to →
      (l ≡ from_home i) × (from ≡ agents + i % nodes)
  agent-ends i l from to low is (cluster_up j k shape a b f t n) = absurd (cc)
  agent-ends i l from to low is (cluster_down j k shape a b f t n) = absurd (cc)
  agent-ends i l from to low is (home_up j shape a f t n) = absurd (omega arith)
  agent-ends i l from to low is (home_down j shape a f t n) =
      let same : j ≡ i = sym t ∙ is in
      (n ∙ ap (λ v. 2 * v + 1) same, f ∙ ap (λ v. agents + v % nodes) same)
  agent-ends i l from to low is (along k shape a b f t n) = absurd (cc)
  agent-ends i l from to low is (tree_up k shape a b f t n) = absurd (omega arith)
  agent-ends i l from to low is (tree_down k shape a b f t n) = absurd (omega arith)

  -- A link ends at node k: from an agent that is homed there, from a child, or from the parent.
  abbrev pub TreeEnd : ℕ → ℕ → Type 0
  TreeEnd k l =
      ((i : ℕ) × (i < agents) × (i % nodes ≡ k) × (l ≡ to_home i))
      ⊎ (((c : ℕ) × (0 < c) × (c < nodes) × (step_up c ≡ k) × (l ≡ to_parent agents c))
      ⊎ ((0 < k) × (k < nodes) × (l ≡ from_parent agents k)))

  -- What links end at a node.
  node-ends : (k l from to : ℕ) → to ≡ agents + k →
      IsLink (layout_of Tree agents nodes) l from to → TreeEnd k l
  node-ends k l from to is (cluster_up i j shape a b f t n) = absurd (cc)
  node-ends k l from to is (cluster_down i j shape a b f t n) = absurd (cc)
  node-ends k l from to is (home_up i shape a f t n) = let h : i % nodes ≡ k = omega arith in
      inl (i, a, h, n)
  node-ends k l from to is (home_down i shape a f t n) = absurd (omega arith)
  node-ends k l from to is (along j shape a b f t n) = absurd (cc)
  node-ends k l from to is (tree_up c shape a b f t n) = let h : step_up c ≡ k = omega arith in
      inr (inl (c, a, b, h, n))
  node-ends k l from to is (tree_down c shape a b f t n) =
      let h : c ≡ k = omega arith in inr
      (inr (
        subst (λ v. 0 < v) h a,
        subst (λ v. v < nodes) h b,
        n
            ∙ ap (λ v. from_parent agents v) h,
      ))

  -- A link from a node to a child of it.
  child-link : (k c l from to : ℕ) → from ≡ agents + k → to ≡ agents + c → 0 < c → step_up c ≡ k →
      IsLink (layout_of Tree agents nodes) l from to → (c < nodes) × (l ≡ from_parent agents c)
  child-link k c l from to isf ist low up (cluster_up i j shape a b f t n) = absurd (cc)
  child-link k c l from to isf ist low up (cluster_down i j shape a b f t n) = absurd (cc)
  child-link k c l from to isf ist low up (home_up i shape a f t n) = absurd (omega arith)
  child-link k c l from to isf ist low up (home_down i shape a f t n) = absurd (omega arith)
  child-link k c l from to isf ist low up (along j shape a b f t n) = absurd (cc)
  child-link k c l from to isf ist low up (tree_up j shape a b f t n) = absurd (omega arith)
  child-link k c l from to isf ist low up (tree_down j shape a b f t n) =
      let h : j ≡ c = omega arith in (
        subst (λ v. v < nodes) h b,
        n
            ∙ ap (λ v. from_parent agents v) h,
      )

  -- A link from a node to its parent.
  parent-link : (k l from to : ℕ) → from ≡ agents + k → to ≡ agents + step_up k →
      IsLink (layout_of Tree agents nodes) l from to →
      (0 < k) × (k < nodes) × (l ≡ to_parent agents k)
  parent-link k l from to isf ist (cluster_up i j shape a b f t n) = absurd (cc)
  parent-link k l from to isf ist (cluster_down i j shape a b f t n) = absurd (cc)
  parent-link k l from to isf ist (home_up i shape a f t n) = absurd (omega arith)
  parent-link k l from to isf ist (home_down i shape a f t n) = absurd (omega arith)
  parent-link k l from to isf ist (along j shape a b f t n) = absurd (cc)
  parent-link k l from to isf ist (tree_up j shape a b f t n) =
      let h : j ≡ k = omega arith in (
        subst (λ v. 0 < v) h a,
        subst (λ v. v < nodes) h b,
        n
            ∙ ap (λ v. to_parent agents v) h,
      )
  parent-link k l from to isf ist (tree_down j shape a b f t n) = absurd (omega arith)

  -- The links that end at an agent.
  pub tree-to-agent : (i l : ℕ) → EndsAtAgent (layout_of Tree agents nodes) i l → l ≡ from_home i
  tree-to-agent i l h = (agent-ends i l h.1.0 i h.0 refl h.1.1).0

  -- The links that end at a node.
  pub tree-to-node : (k l : ℕ) → EndsAtNode (layout_of Tree agents nodes) k l → TreeEnd k l
  tree-to-node k l h = node-ends k l h.0 (agents + k) refl h.1

  -- The links of routes: to an agent at its home, to a child, to the parent.
  pub route-direct : (k i l : ℕ) → i < agents →
      IsLink (layout_of Tree agents nodes) l (agents + k) i → l ≡ from_home i
  route-direct k i l low h = (agent-ends i l (agents + k) i low refl h).0

  -- The link to a child,
  pub route-child : (k c l : ℕ) → IsChild k c →
      IsLink (layout_of Tree agents nodes) l (agents + k) (agents + c) →
      (c < nodes) × (l ≡ from_parent agents c)
  route-child k c l child h = child-link k c l (agents + k) (agents + c) refl refl child.0 child.1 h

  -- and that to the parent.
  pub route-parent : (k l : ℕ) → IsLink (layout_of Tree agents nodes) l (agents + k)
      (agents + step_up k) → (0 < k) × (k < nodes) × (l ≡ to_parent agents k)
  route-parent k l h = parent-link k l (agents + k) (agents + step_up k) refl refl h

  -- A node where a link ends is there.
  pub end-there : (k l : ℕ) → 0 < nodes → TreeEnd k l → k < nodes
  end-there k l some (inl h) = let e = h.2 in let a : h.0 % nodes < nodes = omega arith in
      omega arith
  end-there k l some (inr (inl h)) = let e = h.3 in let b = h.2 in omega arith
  end-there k l some (inr (inr h)) = h.1
