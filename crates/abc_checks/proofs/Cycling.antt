-- The first definition that is on a cycle that it may not be on.
use Rattle.std.proofs.Common.{◌≡◌, ◌<◌, ◌↔◌, ℕ, Bool, false, IsTrue, List, length, None, Some, sym, subst}
use Rattle.std.specs.Prelude.{true, Result, Ok, Err, IfOk}
use Rattle.abc_term.specs.declared.terms.Definition.{Definition}
use Rattle.abc_term.specs.Standing.{process_of, definitions_of}
use Rattle.abc_term.specs.Calls.{called, Reaches}
use Rattle.abc_checks.specs.Parts.{holds_par}
use Rattle.abc_checks.specs.Graphs.{counts_behind, IsBadCycle}
use Rattle.abc_checks.specs.declared.calls.Calls.{Calls}
use Rattle.abc_checks.specs.declared.calls.Calls.TheVariants.{All, Unguarded}
use Rattle.abc_checks.specs.Sites.{AtSite, IsFirstSite, ComesBefore}
use Rattle.abc_checks.specs.declared.causes.Site.{Site}
use Rattle.abc_checks.specs.declared.causes.Site.TheVariants.{Definition as DefinitionAt, Component as ComponentAt, Whole}

-- ---- A fact of definitions alone

module _ (Holds : ℕ → Type 0) (definitions components : ℕ) where
  abbrev At : Site → Type 0
  At = AtSite definitions components Holds (λ i. ⊥)

  none_before : (n : ℕ) → ((k : ℕ) → k < n → ¬ Holds k) → (t : Site) → ComesBefore t (DefinitionAt n) → ¬ At t
  none_before n none (DefinitionAt k) before h = none k before h.1
  none_before n none (ComponentAt k) before h = before
  none_before n none Whole before h = before

  pub found_first : (n : ℕ) → n < definitions → Holds n → ((k : ℕ) → k < n → ¬ Holds k) → IsFirstSite At (Some (DefinitionAt n))
  found_first n lt here none = ((lt, here), none_before n none)

  pub found_none : ((k : ℕ) → k < definitions → ¬ Holds k) → IsFirstSite At None
  found_none none (DefinitionAt k) h = none k h.0 h.1
  found_none none (ComponentAt k) h = h.1
  found_none none Whole h = h

-- ---- For the code: what one search says

module _ {E : Type 0} (ds : List Definition) (d : Definition) (r : Result Bool E) where
  -- the answer says whether d reaches itself by the calls that count
  abbrev Answers : Calls → Type 0
  Answers counted = IfOk r (λ b. IsTrue b ↔ Reaches (called (counts_behind counted)) (definitions_of ds) d.name d.name)

  -- it says whether d is on a cycle that it may not be on
  abbrev SaysBad : Calls → Type 0
  SaysBad counted = IfOk r (λ b. IsTrue b ↔ IsBadCycle counted ds d)

  pub unguarded_bad : (counted : Calls) → counted ≡ Unguarded → Answers counted → SaysBad counted
  unguarded_bad counted e h = subst SaysBad (sym e) (subst Answers e h)

with_par : {E : Type 0} (ds : List Definition) (d : Definition) (r : Result Bool E) → true ≡ holds_par (process_of d.body) → Answers ds d r All
    → SaysBad ds d r All
with_par ds d (Ok b) par h = (λ t. (sym par, h.0 t), λ p. h.1 p.1)
with_par ds d (Err e) par h = h

pub parallel_bad : {E : Type 0} (ds : List Definition) (d : Definition) (r : Result Bool E) (counted : Calls) → counted ≡ All
    → true ≡ holds_par (process_of d.body) → Answers ds d r counted → SaysBad ds d r counted
parallel_bad ds d r counted e par h = subst (SaysBad ds d r) (sym e) (with_par ds d r par (subst (Answers ds d r) e h))
