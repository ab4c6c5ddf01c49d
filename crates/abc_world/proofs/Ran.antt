-- A network that makes events until it is still.
use Rattle.std.proofs.Common.{◌≡◌, ℕ, suc, ◌+◌, ◌*◌, ◌<◌, List, [], ◌∷◌, ◌++◌, length, refl, sym, ◌∙◌, subst, arith}
use Rattle.std.specs.Prelude.{Some, slice_get}
use Rattle.abc_shape.specs.declared.layout.Layout.{Layout}
use Rattle.abc_body.specs.Meanings.{Meaning}
use Rattle.abc_network.specs.Networks.{Event, Netrun, start_of}
use Rattle.abc_network.specs.Nodes.{NodeMachine}
use Rattle.abc_network_laws.specs.Kept.{Each}
use Rattle.abc_schedule.proofs.Places.{length-both}
use Rattle.abc_world.specs.declared.event.Event as code
use Rattle.abc_world.specs.declared.event.Moved.{Moved}
use Rattle.abc_world.specs.declared.event.Moved.TheVariants.{Done, NotEnabled}
use Rattle.abc_world.specs.Listing.{Listed, CanMake}
use Rattle.abc_world.specs.Runnings.{Running, rules_of, SameNetwork, Answers}
use Rattle.abc_world.specs.Starting.{IsStarted}
use Rattle.abc_world.proofs.Networked.{each-there}
use Rattle.abc_world.proofs.Startings.{run-then, runs-then, same-is}

-- So many events were made.
pub record RanSoFar {B L N : Type 0} (m : Meaning B L) (machine : Layout → NodeMachine L N) (blank : N) (old : Running B L N)
    (count : ℕ) (new : Running B L N) : Type 0 where
  pub same : SameNetwork old new
  pub es : List (Event L)
  pub many : length es ≡ count
  pub run : Netrun m (rules_of machine blank old.plan old.limit old.pick) old.net es new.net

module _ {B L N : Type 0} (m : Meaning B L) (machine : Layout → NodeMachine L N) (blank : N) where
  -- At first none.
  pub ran-none : (old : Running B L N) → RanSoFar m machine blank old 0 old
  ran-none old =
      record { same = record { plan = refl; limit = refl; pick = refl }; es = []; many = refl; run = refl }

  -- An event that can be made was made.
  pub ran-next : (old mid new : Running B L N) (count : ℕ) (e : code.Event) (moved : Moved) → RanSoFar m machine blank old count mid →
      CanMake m machine blank mid e → SameNetwork mid new → Answers m machine blank e.actor e.kind mid moved new →
      RanSoFar m machine blank old (count + 1) new
  ran-next old mid new count e NotEnabled ran can same told = absurd (told.0.0 can)
  ran-next old mid new count e Done ran can same told =
      let n : Running B L N = record { plan = old.plan; limit = old.limit; pick = old.pick; net = mid.net } in
      let stands : mid ≡ n = same-is m machine blank old mid ran.same in
      let step = subst (λ v. Answers m machine blank e.actor e.kind v Done new) stands told in
      let more = length-both ran.es (step.event ∷ []) in
      let was = ran.many in
      record {
        same = record {
          plan = same.plan ∙ ran.same.plan;
          limit = same.limit ∙ ran.same.limit;
          pick = same.pick ∙ ran.same.pick;
        };
        es = ran.es ++ step.event ∷ [];
        many = omega arith;
        run = run-then m (rules_of machine blank old.plan old.limit old.pick) ran.es step.event old.net mid.net new.net ran.run
            step.step;
      }

  -- No run has more events than the bound.
  pub ran-all : (old new : Running B L N) (count : ℕ) → IsStarted m machine blank old →
      15 * (old.limit + old.plan.agents) + old.limit * (2 * old.plan.agents + 2 * old.plan.nodes) < count →
      RanSoFar m machine blank old count new → ⊥
  ran-all old new count h much ran =
      let r = rules_of machine blank old.plan old.limit old.pick in
      let all = runs-then m r h.events ran.es (start_of r h.bodies) old.net new.net h.run ran.run in
      let bound = h.laws.bounded h.bodies (h.events ++ ran.es) new.net h.many all in
      let both = length-both h.events ran.es in
      let many = ran.many in
      absurd (omega arith)

  -- What was listed can be made.
  pub picked : (n : Running B L N) (None : Type 0) (events : List code.Event) (place : ℕ) (e : code.Event) →
      Listed (CanMake m machine blank n) None [] events → slice_get events place ≡ Some e → CanMake m machine blank n e
  picked n None events place e listed stands =
      each-there (CanMake m machine blank n) events place e (subst (Each (CanMake m machine blank n)) (sym listed.grown) listed.each) stands

  -- Where nothing was listed there is none.
  pub none-listed : (n : Running B L N) (None : Type 0) (events : List code.Event) → Listed (CanMake m machine blank n) None [] events →
      length events ≡ 0 → None
  none-listed n None [] listed empty = listed.none (sym listed.grown)
  none-listed n None (e ∷ events) listed empty = absurd (let l : suc (length events) ≡ 0 = empty in omega arith)
