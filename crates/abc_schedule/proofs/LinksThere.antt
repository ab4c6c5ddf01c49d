-- Each number below the count of links is a link of the plan.
use Rattle.std.proofs.Common.{◌≡◌, ℕ, ◌+◌, ◌-◌, ◌*◌, ◌%◌, ◌<◌, refl, sym, subst, arith, inl, inr}
use Rattle.std.proofs.lemmas.Bool.{cases_eq, cases_lt}
use Rattle.abc_shape.specs.declared.shape.Shape.{Shape}
use Rattle.abc_shape.specs.declared.shape.Shape.TheVariants.{Cluster, Ring, Tree}
use Rattle.abc_shape.specs.declared.layout.Layout.{Layout}
use Rattle.abc_shape.specs.Plans.{IsLayout, IsLink, link_count, along}
use Rattle.abc_shape.proofs.Ended.{not-cluster}
use Rattle.abc_shape.proofs.Rows.{cluster_even, cluster_odd, home_even, home_odd, tree_even, tree_odd}
use Rattle.abc_shape.proofs.Rows.{count-ring, count-ring_of_one, count-tree, at-number}
use Rattle.abc_schedule.proofs.Actors.{sender, receiver, sender-is, receiver-is}

-- A link with some ends.
abbrev Found : Layout → ℕ → Type 0
Found p l = (from : ℕ) × (to : ℕ) × IsLink p l from to

-- Between an agent and its home.
home-found : (p : Layout) (l : ℕ) → (p.shape ≡ Cluster → ⊥) → l < 2 * p.agents → Found p l
home-found p l other low =
    elim (cases_eq (l % 2) 0) [
      | inl e ↦ (_, _, home_even p l other low e)
      | inr ne ↦ (_, _, home_odd p l other low ne)
    ]

-- By shape.
found-in : (p : Layout) (l : ℕ) (s : Shape) → p.shape ≡ s → IsLayout p → l < link_count p → Found p l
found-in p l Cluster is layout low =
    elim (cases_eq (l % 2) 0) [
      | inl e ↦ (_, _, cluster_even p l layout is low e)
      | inr ne ↦ (_, _, cluster_odd p l layout is low ne)
    ]
found-in p l Ring is layout low =
    elim (cases_lt l (2 * p.agents)) [
      | inl h ↦ home-found p l (not-cluster p.shape (inl is)) h
      | inr past ↦
          elim (cases_lt 1 p.nodes) [
            | inl several ↦
                let count = count-ring p is several in
                (_, _, along (l - 2 * p.agents) is several (omega arith) refl refl (omega arith))
            | inr one ↦
                let some = layout.some_nodes in
                let count = count-ring_of_one p is (omega arith) in absurd (omega arith)
          ]
    ]
found-in p l Tree is layout low =
    elim (cases_lt l (2 * p.agents)) [
      | inl h ↦ home-found p l (not-cluster p.shape (inr is)) h
      | inr past ↦
          let count = count-tree p is in
          let n : ℕ = l - 2 * p.agents in
          let same : 2 * p.agents + n ≡ l = omega arith in
          let few : n < 2 * (p.nodes - 1) = omega arith in
          elim (cases_eq (n % 2) 0) [
            | inl e ↦ (_, _, at-number p (2 * p.agents + n) l _ _ same (tree_even p n is few e))
            | inr ne ↦ (_, _, at-number p (2 * p.agents + n) l _ _ same (tree_odd p n is few ne))
          ]
    ]

-- Its ends are its sender and its receiver.
pub link-there : (p : Layout) (l : ℕ) → IsLayout p → l < link_count p → IsLink p l (sender p l) (receiver p l)
link-there p l layout low =
    let f = found-in p l p.shape refl layout low in
    subst (λ to. IsLink p l (sender p l) to) (sym (receiver-is p l f.0 f.1 f.2))
    (subst (λ from. IsLink p l from f.1) (sym (sender-is p l f.0 f.1 f.2)) f.2)
