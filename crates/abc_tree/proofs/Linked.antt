-- Which links end at a node, come back to it, and lead from it to its neighbours.
use Rattle.std.proofs.Common.{◌≡◌, ℕ, ◌+◌, ◌<◌, ◌==◌, List, refl, sym, ap, ◌∙◌, subst, arith, inl, inr}
use Rattle.std.specs.Prelude.{MatchBool, Some, None, slice_get, unwrap_or}
use Rattle.std.proofs.lemmas.Bool.{eqb-true, eq-eqb, cases_from_iff}
use Rattle.abc_shape.specs.declared.shape.Shape.TheVariants.{Tree}
use Rattle.abc_shape.specs.declared.layout.Layout.{Layout}
use Rattle.abc_shape.specs.declared.layout.LinkEnds.{LinkEnds}
use Rattle.abc_shape.specs.Plans.{IsLink, ListsLinks, actor_of, step_up, tree_up, tree_down}
use Rattle.abc_shape.specs.Routes.{IsRoute, direct, down, up}
use Rattle.abc_shape.proofs.Ended.{tree-number}
use Rattle.abc_shape.proofs.Rows.{ends}
use Rattle.abc_shape_laws.proofs.Routes.{routes-one}
use Rattle.abc_network.specs.Links.{to_parent, from_parent}
use Rattle.abc_network.specs.Trees.{ComesBack}
use Rattle.abc_tree.specs.Seats.{LeavesFrom, EndsAt, IsFromParent, ComesFrom, GoesDown}

-- Where a list has the links of a plan, a place that it has tells the ends of that link.
pub listed-ends : (p : Layout) (es : List LinkEnds) (n from to : ℕ) (e : LinkEnds) → ListsLinks p es → Some e ≡ slice_get es n →
    IsLink p n from to → (e.from ≡ from) × (e.to ≡ to)
listed-ends p es n from to e lists there link =
    let same : Some e ≡ Some (ends from to) = there ∙ (lists.rows n (ends from to)).1 link in
    (ap (λ x. (unwrap_or x e).from) same, ap (λ x. (unwrap_or x e).to) same)

-- A place that it doesn't have is that of no link.
pub not-listed : (p : Layout) (es : List LinkEnds) (n from to : ℕ) → ListsLinks p es → None ≡ slice_get es n → IsLink p n from to → ⊥
not-listed p es n from to lists gone link =
    let here : slice_get es n ≡ Some (ends from to) = (lists.rows n (ends from to)).1 link in cc

-- A link ends where its entry in the list says,
pub ends-tested : (p : Layout) (es : List LinkEnds) (k n here : ℕ) (e : LinkEnds) → ListsLinks p es → Some e ≡ slice_get es n → here ≡ actor_of p k →
    MatchBool (e.to == here) (EndsAt p k n) (EndsAt p k n → ⊥)
ends-tested p es k n here e lists there is = cases_from_iff (
  (λ same. (e.from, subst (λ (x : ℕ). IsLink p n e.from x) (eqb-true e.to here same ∙ is) ((lists.rows n e).0 (sym there)))),
  (λ (from, link). eq-eqb e.to here ((listed-ends p es n from _ e lists there link).1 ∙ sym is)),
)

-- and two links lead there and back where their entries do,
pub back-tested : (p : Layout) (es : List LinkEnds) (k out n here : ℕ) (a b : LinkEnds) → ListsLinks p es → Some a ≡ slice_get es out →
    Some b ≡ slice_get es n → here ≡ actor_of p k → a.from ≡ here → b.to ≡ here →
    MatchBool (b.from == a.to) (ComesBack p k out n) (ComesBack p k out n → ⊥)
back-tested p es k out n here a b lists there back is from to = cases_from_iff (
  (λ same. (
    a.to,
    subst (λ (x : ℕ). IsLink p out x a.to) (from ∙ is) ((lists.rows out a).0 (sym there)),
    subst (λ (x : ℕ). IsLink p n a.to x) (to ∙ is)
        (subst (λ (x : ℕ). IsLink p n x b.to) (eqb-true b.from a.to same) ((lists.rows n b).0 (sym back))),
  )),
  (λ (neighbour, leads, returns).
      let x = listed-ends p es out _ _ a lists there leads in
      let y = listed-ends p es n _ _ b lists back returns in
      eq-eqb b.from a.to (y.0 ∙ sym x.1)),
)

-- and only there.
pub back-ends : (p : Layout) (es : List LinkEnds) (k out n here : ℕ) (a b : LinkEnds) → ListsLinks p es → Some a ≡ slice_get es out →
    Some b ≡ slice_get es n → here ≡ actor_of p k → ComesBack p k out n → (a.from ≡ here) × (b.to ≡ here)
back-ends p es k out n here a b lists there back is (neighbour, leads, returns) =
    ((listed-ends p es out _ _ a lists there leads).0 ∙ sym is, (listed-ends p es n _ _ b lists back returns).1 ∙ sym is)

-- A route leads from its node.
pub route-leaves : (p : Layout) (k i link : ℕ) → IsRoute p k i link → LeavesFrom p k link
route-leaves p k i link (direct leads) = (i, leads)
route-leaves p k i link (down c tree child under leads) = (actor_of p c, leads)
route-leaves p k i link (up tree off leads) = (actor_of p (step_up k), leads)

-- What doesn't come from where the one route leads comes from where no route leads.
pub from-nowhere : (p : Layout) (k link agent route other : ℕ) → IsRoute p k agent route → (ComesBack p k route link → ⊥) →
    ComesFrom p k link agent other → ⊥
from-nowhere p k link agent route other is never (low, leads, back) =
    never (subst (λ (x : ℕ). ComesBack p k x link) (sym (routes-one p k agent route other low is leads)) back)

-- The link to the parent,
pub link-up : (p : Layout) (k : ℕ) → p.shape ≡ Tree → 0 < k → k < p.nodes → IsLink p (to_parent p.agents k) (actor_of p k) (actor_of p (step_up k))
link-up p k tree some there = tree_up k tree some there refl refl refl

-- and that from there.
pub link-down : (p : Layout) (k : ℕ) → p.shape ≡ Tree → 0 < k → k < p.nodes →
    IsLink p (from_parent p.agents k) (actor_of p (step_up k)) (actor_of p k)
link-down p k tree some there = tree_down k tree some there refl refl refl

-- They have these numbers.
pub number-up : (p : Layout) (k link : ℕ) → p.shape ≡ Tree → IsLink p link (actor_of p k) (actor_of p (step_up k)) → link ≡ to_parent p.agents k
number-up p k link tree leads = elim (tree-number p link k (step_up k) tree leads) [
  | inl x ↦ x.2
  | inr x ↦ absurd (let low = x.0 in omega arith)
]

pub number-down : (p : Layout) (k link : ℕ) → p.shape ≡ Tree → IsLink p link (actor_of p (step_up k)) (actor_of p k) → link ≡ from_parent p.agents k
number-down p k link tree leads = elim (tree-number p link (step_up k) k tree leads) [
  | inl x ↦ absurd (let low = x.0 in omega arith)
  | inr x ↦ x.2
]

-- So a link is tested by its number.
pub parent-tested : (p : Layout) (k link number : ℕ) → p.shape ≡ Tree → 0 < k → k < p.nodes → number ≡ to_parent p.agents k →
    MatchBool (link == number + 1) (IsFromParent p k link) (IsFromParent p k link → ⊥)
parent-tested p k link number tree some there is = cases_from_iff (
  (λ same. (
    (λ root. absurd (omega arith)),
    (let on : from_parent p.agents k ≡ link = ap (λ n. n + 1) (sym is) ∙ sym (eqb-true link (number + 1) same) in
        subst (λ (x : ℕ). IsLink p x (actor_of p (step_up k)) (actor_of p k)) on (link-down p k tree some there)),
  )),
  (λ (never, leads). eq-eqb link (number + 1) (number-down p k link tree leads ∙ ap (λ n. n + 1) (sym is))),
)

-- The link to a child.
pub leaves-child : (p : Layout) (k c : ℕ) → p.shape ≡ Tree → 0 < c → c < p.nodes → step_up c ≡ k → LeavesFrom p k (from_parent p.agents c)
leaves-child p k c tree some there over = (actor_of p c, tree_down c tree some there (ap (actor_of p) (sym over)) refl refl)

-- Where the one route leads to the parent, what comes from the parent goes on on none.
pub down-nowhere : (p : Layout) (k link agent route other : ℕ) → p.shape ≡ Tree → 0 < k → k < p.nodes → IsRoute p k agent route →
    route ≡ to_parent p.agents k → GoesDown p k link agent other → ⊥
down-nowhere p k link agent route other tree some there is up_so (low, from_parent_so, leads, never) =
    let same : to_parent p.agents k ≡ other = sym up_so ∙ routes-one p k agent route other low is leads in
    never (subst (λ (x : ℕ). IsLink p x (actor_of p k) (actor_of p (step_up k))) same (link-up p k tree some there))

-- Elsewhere it goes on on the route.
pub goes-down : (p : Layout) (k link agent route number : ℕ) → p.shape ≡ Tree → agent < p.agents → IsFromParent p k link → IsRoute p k agent route →
    number ≡ to_parent p.agents k → (route ≡ number → ⊥) → GoesDown p k link agent route
goes-down p k link agent route number tree low parent is number_so differ =
    (low, parent, is, λ leads. differ (number-up p k route tree leads ∙ sym number_so))
