-- The way of an agent's packets leads along links.
use Rattle.std.proofs.Common.{◌≡◌, ℕ, ◌+◌, ◌<◌, ◌%◌, refl, sym, subst}
use Rattle.std.proofs.lemmas.Nat.{mod_below}
use Rattle.abc_shape.specs.declared.shape.Shape.{Shape}
use Rattle.abc_shape.specs.declared.shape.Shape.TheVariants.{Cluster, Ring, Tree}
use Rattle.abc_shape.specs.declared.layout.Layout.{Layout}
use Rattle.abc_shape.specs.Plans.{IsLayout, IsLink, cluster_up, home_up, actor_of, home}
use Rattle.abc_packet.specs.Outlets.{SameLinks}
use Rattle.abc_agent.specs.Ways.{way_in, way_of, HasLinksFrom}

-- It does so in each shape,
way_in-is_link : (p : Layout) (s : Shape) (i packets : ℕ) → p.shape ≡ s → 0 < p.nodes → i < p.agents →
    (to : ℕ) × IsLink p (way_in s p.nodes i packets) i to
way_in-is_link p Cluster i packets shape some there =
    let k = (i + packets) % p.nodes in
    (actor_of p k, cluster_up i k shape there (mod_below (i + packets) p.nodes some) refl refl refl)
way_in-is_link p Ring i packets shape some there =
    (actor_of p (home p i), home_up i (λ e. cc) there refl refl refl)
way_in-is_link p Tree i packets shape some there =
    (actor_of p (home p i), home_up i (λ e. cc) there refl refl refl)

-- so a set of links that has all from the agent has its way.
pub leads_along : (p : Layout) (i packets link : ℕ) (has again : ℕ → Type 0) → IsLayout p → i < p.agents →
    link ≡ way_of p i packets → SameLinks has again → HasLinksFrom p i has → again link
leads_along p i packets link has again limits there is same links =
    let (to, leads) = way_in-is_link p p.shape i packets refl limits.some_nodes there in
    subst again (sym is) ((same (way_of p i packets)).0 (links (way_of p i packets) to leads))

-- The same set has them all again.
pub has_links_again : (p q : Layout) (i j : ℕ) (has again : ℕ → Type 0) → q ≡ p → j ≡ i →
    SameLinks has again → HasLinksFrom p i has → HasLinksFrom q j again
has_links_again p q i j has again plan number same links =
    subst (λ r. HasLinksFrom r j again) (sym plan)
    (subst (λ n. HasLinksFrom p n again) (sym number)
    (λ link to is_link. (same link).0 (links link to is_link)))
