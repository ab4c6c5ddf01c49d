-- The least front, found one agent after the other.
use Rattle.std.proofs.Common.{◌≡◌, ℕ, ◌+◌, ◌≤◌, min, List, length, map, sym, ◌∙◌, subst, inl, inr, arith}
use Rattle.std.specs.Prelude.{Some, slice_get}
use Rattle.std.proofs.lemmas.Bool.{cases_lt}
use Rattle.abc_agent.specs.Members.{Member}
use Rattle.abc_world.specs.Teams.{actor_in}
use Rattle.abc_world.specs.Fronts.{IsLeastFront}
use Rattle.abc_world.specs.Runnings.{Running}
use Rattle.abc_world.proofs.Networked.{map-there}
use Rattle.abc_world.proofs.Quieting.{FirstAre, first-none, first-next, first-all}

-- One agent has this front, and none of the first agents, so many, has a lesser one.
pub record LeastOf {B L : Type 0} (agents : List (Member B L)) (count front : ℕ) : Type 0 where
  pub one : (i : ℕ) × (a : Member B L) × (slice_get agents i ≡ Some a) × (a.actor.state.front ≡ front)
  pub least : FirstAre (λ a. front ≤ a.actor.state.front) agents count

-- At first it is that of the first agent,
pub least-none : {B L : Type 0} (agents : List (Member B L)) (a : Member B L) (front : ℕ) → slice_get agents 0 ≡ Some a →
    front ≡ a.actor.state.front → LeastOf agents 0 front
least-none agents a front stands is = record { one = (0, a, stands, sym is); least = first-none _ agents }

-- then the lesser of it and the next one's,
pub least-next : {B L : Type 0} (agents : List (Member B L)) (count front front' : ℕ) (a : Member B L) →
    LeastOf agents count front → slice_get agents count ≡ Some a → front' ≡ min front a.actor.state.front →
    LeastOf agents (count + 1) front'
least-next agents count front front' a so stands is =
    let next = a.actor.state.front in
    elim (cases_lt next front) [
      | inl less ↦
          let e : front' ≡ next = omega arith in
          record {
            one = (count, a, stands, sym e);
            least = first-next _ agents count
                (λ i x below there. let old = so.least i x below there in (let h : front' ≤ x.actor.state.front = omega arith in h))
                (λ x there. let one : a ≡ x = cc in subst (λ v. front' ≤ v.actor.state.front) one (omega arith));
          }
      | inr over ↦
          let e : front' ≡ front = omega arith in
          record {
            one = (so.one.0, so.one.1, so.one.2, so.one.3 ∙ sym e);
            least = first-next _ agents count
                (λ i x below there. let old = so.least i x below there in (let h : front' ≤ x.actor.state.front = omega arith in h))
                (λ x there. let one : a ≡ x = cc in subst (λ v. front' ≤ v.actor.state.front) one (omega arith));
          }
    ]

-- and in the end that of all.
pub least-all : {B L N : Type 0} (n : Running B L N) (agents : List (Member B L)) (count front : ℕ) →
    n.net.agents ≡ map actor_in agents → length agents ≤ count → LeastOf agents count front → IsLeastFront n front
least-all n agents count front are many so =
    record {
      one = (
        so.one.0,
        so.one.1.actor,
        subst (λ v. slice_get v so.one.0 ≡ Some so.one.1.actor) (sym are) (map-there actor_in agents so.one.0 so.one.1 so.one.2),
        so.one.3,
      );
      least = λ i a stands. first-all (λ v. front ≤ v.state.front) actor_in agents count many so.least i a
          (subst (λ v. slice_get v i ≡ Some a) are stands);
    }
