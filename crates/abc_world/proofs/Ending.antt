-- At which actor a link ends.
use Rattle.std.proofs.Common.{◌≡◌, ℕ, ◌<◌, List, length, sym, ap, subst, inl, inr, eq-eqb, ne_eqb}
use Rattle.std.specs.Prelude.{Some, slice_get, nat_eq, MatchBool}
use Rattle.std.proofs.lemmas.Bool.{cases_eq}
use Rattle.std.proofs.lemmas.Option.{slice_get_within}
use Rattle.abc_shape.specs.declared.layout.Layout.{Layout}
use Rattle.abc_shape.specs.declared.layout.LinkEnds.{LinkEnds}
use Rattle.abc_shape.specs.Plans.{IsLink, ListsLinks}

-- One item stands at a place of a list.
same-ends : (es : List LinkEnds) (link : ℕ) (e r : LinkEnds) → Some e ≡ slice_get es link → slice_get es link ≡ Some r → e ≡ r
same-ends es link e r h k = cc

-- By the list of all links: the link ends at an actor, or no link of this number does.
pub ends-told : (p : Layout) (es : List LinkEnds) (link actor : ℕ) (e : LinkEnds) → ListsLinks p es → Some e ≡ slice_get es link →
    MatchBool (nat_eq e.to actor) ((from : ℕ) × IsLink p link from actor) ((from : ℕ) → IsLink p link from actor → ⊥)
ends-told p es link actor e lists at =
    elim (cases_eq e.to actor) [
      | inl same ↦
          subst (λ b. MatchBool b ((from : ℕ) × IsLink p link from actor) ((from : ℕ) → IsLink p link from actor → ⊥))
          (sym (eq-eqb e.to actor same))
          (e.from, subst (λ v. IsLink p link e.from v) same ((lists.rows link e).0 (sym at)))
      | inr other ↦
          subst (λ b. MatchBool b ((from : ℕ) × IsLink p link from actor) ((from : ℕ) → IsLink p link from actor → ⊥))
          (sym (ne_eqb e.to actor other))
          (λ from is.
          let r : LinkEnds = record { from = from; to = actor } in
          other (ap (λ (v : LinkEnds). v.to) (same-ends es link e r at ((lists.rows link r).1 is))))
    ]

-- Past the last link none ends anywhere.
pub ends-past : (p : Layout) (es : List LinkEnds) (link actor : ℕ) → ListsLinks p es → (link < length es → ⊥) →
    (from : ℕ) → IsLink p link from actor → ⊥
ends-past p es link actor lists past from is =
    let r : LinkEnds = record { from = from; to = actor } in
    past (slice_get_within es link r ((lists.rows link r).1 is))
