-- Whether the first component can hear, and what it does then, case by case.
use Rattle.std.proofs.Common.{◌≡◌, ◌≢◌, ◌∙◌, inl, inr, ℕ, ◌+◌, ◌<◌, ◌≤◌, ◌==◌, Bool, false, List, ◌∷◌, length, Some, MatchBool, refl, ap, sym, subst, arith}
use Rattle.std.specs.Prelude.{◌↔◌}
use Rattle.std.proofs.lemmas.Bool.{eq-eqb, ne_eqb}
use Rattle.abc_term.specs.Processes.{Definitions, Component, System}
use Rattle.abc_term.specs.Speaking.{Label}
use Rattle.abc_term.specs.Hearing.{Hears, ins}
use Rattle.abc_term.specs.Systems.{AreHearers}
use Rattle.abc_steps.specs.Hearers.{CanHear, AllHear}
use Rattle.abc_steps.proofs.Hearers.{Can, Heard, all_hear, heard_rise}

one_first : (g h : ℕ × ℕ) (xs ys : List (ℕ × ℕ)) → g ∷ xs ≡ h ∷ ys → g ≡ h
one_first g h xs ys e = cc

module _ (defs : Definitions) (sender : ℕ) (l : Label) where
  abbrev can_if : Bool → ℕ → Component → System → List (ℕ × ℕ) → Type 0
  can_if b i C S heard = MatchBool b (CanHear defs sender l (i + 1) S heard) (Can defs sender l i C S heard)

  abbrev hear_if : Bool → ℕ → Component → Component → System → System → List (ℕ × ℕ) → Type 0
  hear_if b i C D S T heard = MatchBool b ((D ≡ C) × AllHear defs sender l (i + 1) S heard T) (Heard defs sender l i C D S T heard)

  -- ---- the sender
  pub can_own : (i : ℕ) (C : Component) (S : System) (heard : List (ℕ × ℕ)) → i ≡ sender →
      CanHear defs sender l (i + 1) S heard ↔ CanHear defs sender l i (C ∷ S) heard
  can_own i C S heard own =
      let is = eq-eqb i sender own in
      (λ c. subst (λ (b : Bool). can_if b i C S heard) (sym is) c, λ c. subst (λ (b : Bool). can_if b i C S heard) is c)

  pub own_stays : (i : ℕ) (C : Component) (S T : System) (heard : List (ℕ × ℕ)) → i ≡ sender → AllHear defs sender l (i + 1) S heard T →
      AllHear defs sender l i (C ∷ S) heard (C ∷ T)
  own_stays i C S T heard own a = subst (λ (b : Bool). hear_if b i C C S T heard) (sym (eq-eqb i sender own)) (refl, a)

  module _ (i : ℕ) (C : Component) (S : System) (other : i ≢ sender) where
    is_other : (i == sender) ≡ false
    is_other = ne_eqb i sender other

    -- those who can hear have numbers from there on
    not_before : (k place : ℕ) (heard more : List (ℕ × ℕ)) → k ≤ i → heard ≡ (k, place) ∷ more → CanHear defs sender l (i + 1) S heard → ⊥
    not_before k place heard more le e c =
        let r = all_hear defs sender l (i + 1) S heard c in
        let rise = heard_rise defs sender l (i + 1) (i + 1 + length S) S r.0 heard refl r.1 in
        let first = subst (λ (xs : List (ℕ × ℕ)). AreHearers sender (i + 1 + length S) (i + 1) xs) e rise in
        let above = first.0 in omega arith

    -- ---- a component that is listed
    pub can_listed : (place : ℕ) (heard more : List (ℕ × ℕ)) → heard ≡ (i, place) ∷ more →
        ((place < ins defs C l) × CanHear defs sender l (i + 1) S more) ↔ CanHear defs sender l i (C ∷ S) heard
    can_listed place heard more e = (
      λ c. subst (λ (b : Bool). can_if b i C S heard) (sym is_other) (inl (place, more, e, c.0, c.1)),
      λ c. elim (subst (λ (b : Bool). can_if b i C S heard) is_other c) [
        | inl r ↦
            let both = sym r.2 ∙ e in
            let same : r.0 ≡ place = ap (λ (h : ℕ × ℕ). h.1) (one_first (i, r.0) (i, place) r.1 more both) in
            let rest : r.1 ≡ more = cc in
            (subst (λ (n : ℕ). n < ins defs C l) same r.3, subst (λ (xs : List (ℕ × ℕ)). CanHear defs sender l (i + 1) S xs) rest r.4)
        | inr r ↦ absurd (not_before i place heard more (omega arith) e r.1)
      ],
    )

    pub listed_hears : (place : ℕ) (D : Component) (T : System) (heard more : List (ℕ × ℕ)) → heard ≡ (i, place) ∷ more → Hears defs C l (Some place) D →
        AllHear defs sender l (i + 1) S more T → AllHear defs sender l i (C ∷ S) heard (D ∷ T)
    listed_hears place D T heard more e h a = subst (λ (b : Bool). hear_if b i C D S T heard) (sym is_other) (inl (place, more, e, h, a))

    -- ---- a component that is not
    pub can_unlisted : (heard : List (ℕ × ℕ)) → ((k place : ℕ) (more : List (ℕ × ℕ)) → heard ≡ (k, place) ∷ more → k ≢ i) →
        ((ins defs C l ≡ 0) × CanHear defs sender l (i + 1) S heard) ↔ CanHear defs sender l i (C ∷ S) heard
    can_unlisted heard skips = (
      λ c. subst (λ (b : Bool). can_if b i C S heard) (sym is_other) (inr c),
      λ c. elim (subst (λ (b : Bool). can_if b i C S heard) is_other c) [
        | inl r ↦ absurd (skips i r.0 r.1 r.2 refl)
        | inr r ↦ r
      ],
    )

    pub unlisted_stays : (T : System) (heard : List (ℕ × ℕ)) → ins defs C l ≡ 0 → AllHear defs sender l (i + 1) S heard T → AllHear defs sender l i (C ∷ S) heard (C ∷ T)
    unlisted_stays T heard z a = subst (λ (b : Bool). hear_if b i C C S T heard) (sym is_other) (inr ((z, refl), a))
