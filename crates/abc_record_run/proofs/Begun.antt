-- A program's components become bodies one after the other.
use Rattle.std.proofs.Common.{◌≡◌, ℕ, ◌+◌, ◌≤◌, List, [], ◌∷◌, ◌++◌, length, All, inl, inr, refl, sym, ◌∙◌, subst, arith}
use Rattle.std.specs.Prelude.{Some, slice_get}
use Rattle.std.proofs.lemmas.Bool.{cases_lt}
use Rattle.std.proofs.lemmas.List.{length-append}
use Rattle.std.proofs.lemmas.List.Elements.{All-nil, All-cons, All-append}
use Rattle.abc_network_laws.proofs.Lists.{each-append}
use Rattle.abc_term.specs.declared.terms.Program.{Program}
use Rattle.abc_term.specs.Standing.{definitions_of}
use Rattle.abc_cause.specs.declared.CheckCause.TheVariants as cause
use Rattle.abc_checks.specs.declared.causes.Site.TheVariants.{Whole}
use Rattle.abc_checks.specs.Facts.{IsChecked}
use Rattle.abc_moves.specs.Lives.{StartsAs}
use Rattle.abc_shape.specs.declared.shape.Shape.{Shape}
use Rattle.abc_shape.specs.Plans.{IsLayout, layout_of}
use Rattle.abc_network_laws.specs.Kept.{Each}
use Rattle.abc_live_body.specs.Running.{RunningComponent}
use Rattle.abc_live_body.specs.AbcMeaning.{abc}
use Rattle.abc_live_body.specs.AbcLaws.{AreStarted}
use Rattle.abc_world.proofs.Seated.{last-or}

-- A checked program has 1 to 256 components, so they and 1 to 64 nodes are a plan.
pub plan-of : (p : Program) (shape : Shape) (nodes : ℕ) → IsChecked p → 1 ≤ nodes → nodes ≤ 64 →
    IsLayout (layout_of shape (length p.components) nodes)
plan-of p shape nodes checked some most =
    let count = length p.components in
    let few : count ≤ 256 = elim (cases_lt 256 count) [
      | inl many ↦ absurd (checked cause.TooManyComponents Whole many)
      | inr fits ↦ fits
    ] in
    let one : 1 ≤ count = elim (cases_lt 0 count) [
      | inl there ↦ there
      | inr none ↦ absurd (checked cause.NoComponent Whole (omega arith))
    ] in
    record { some_agents = one; most_agents = few; some_nodes = some; most_nodes = most }

-- The first components, so many, are bodies.
pub record Begun (p : Program) (bodies : List RunningComponent) (count : ℕ) : Type 0 where
  pub many : length bodies ≡ count
  pub each : (i : ℕ) (b : RunningComponent) → slice_get bodies i ≡ Some b → StartsAs p i b.component
  pub definitions : All (λ b. b.definitions ≡ definitions_of p.definitions) bodies
  pub sound : Each abc.sound bodies

-- None is at first,
pub begun-none : (p : Program) → Begun p [] 0
begun-none p = record { many = refl; each = λ i b stands. absurd (cc); definitions = All-nil (λ b. b.definitions ≡ definitions_of p.definitions); sound = tt }

-- then one more,
pub begun-next : (p : Program) (bodies bodies' : List RunningComponent) (count : ℕ) (b : RunningComponent) →
    Begun p bodies count → StartsAs p count b.component → b.definitions ≡ definitions_of p.definitions → abc.sound b →
    bodies' ≡ bodies ++ b ∷ [] → Begun p bodies' (count + 1)
begun-next p bodies bodies' count b begun starts defs sound grown =
    let l = length-append bodies (b ∷ []) in
    let m = begun.many in
    let all : Begun p (bodies ++ b ∷ []) (count + 1) = record {
      many = omega arith;
      each = λ i v stands. last-or bodies b (λ j w. StartsAs p j w.component) begun.each
          (subst (λ v. StartsAs p v b.component) (sym begun.many) starts) i v stands;
      definitions = All-append (λ v. v.definitions ≡ definitions_of p.definitions) bodies (b ∷ []) begun.definitions
          (All-cons (λ v. v.definitions ≡ definitions_of p.definitions) b [] defs (All-nil _));
      sound = each-append abc.sound bodies (b ∷ []) begun.sound (sound, tt);
    } in
    subst (λ v. Begun p v (count + 1)) (sym grown) all

-- and in the end they are all components, started.
pub begun-all : (p : Program) (bodies : List RunningComponent) (count : ℕ) → count ≡ length p.components →
    Begun p bodies count → AreStarted p bodies
begun-all p bodies count all begun =
    record { count = begun.many ∙ all; components = begun.each; definitions = begun.definitions }
