-- The body of a name is that of a definition of a list, or 0.
use Rattle.std.proofs.Common.{◌≡◌, ◌⊎◌, ℕ, suc, Bool, true, false, List, [], ◌∷◌, refl, ◌∙◌, ap, inl, inr, slice_get, Some, if◌then◌else◌}
use Rattle.std.proofs.lemmas.Bool.{cases_Bool}
use Rattle.abc_pred.specs.declared.names.Name.{Name}
use Rattle.abc_pred.specs.Maps.{same_name}
use Rattle.abc_pred.proofs.Shown.{same_name-eq}
use Rattle.abc_term.specs.declared.terms.Definition.{Definition}
use Rattle.abc_term.specs.Processes.{Nil, body_of}
use Rattle.abc_term.specs.Standing.{process_of, definitions_of}

-- the definition of a name: where it stands, and that its body is what a call stands for
pub record BodyOf (ds : List Definition) (c : Name) : Type 0 where
  pub number : ℕ
  pub definition : Definition
  pub at : slice_get ds number ≡ Some definition
  pub name : definition.name ≡ c
  pub body : body_of (definitions_of ds) c ≡ process_of definition.body

here : (ds : List Definition) (d : Definition) (c : Name) → same_name d.name c ≡ true → BodyOf (d ∷ ds) c
here ds d c e = record {
  number = 0;
  definition = d;
  at = refl;
  name = same_name-eq d.name c e;
  body = ap (λ (b : Bool). if b then process_of d.body else body_of (definitions_of ds) c) e;
}

skipped : (ds : List Definition) (d : Definition) (c : Name) → same_name d.name c ≡ false
    → body_of (definitions_of (d ∷ ds)) c ≡ body_of (definitions_of ds) c
skipped ds d c e = ap (λ (b : Bool). if b then process_of d.body else body_of (definitions_of ds) c) e

further : (ds : List Definition) (d : Definition) (c : Name) → same_name d.name c ≡ false → BodyOf ds c → BodyOf (d ∷ ds) c
further ds d c e n = record {
  number = suc n.number;
  definition = n.definition;
  at = n.at;
  name = n.name;
  body = skipped ds d c e ∙ n.body;
}

pub body_found : (ds : List Definition) (c : Name) → (body_of (definitions_of ds) c ≡ Nil) ⊎ BodyOf ds c
body_found [] c = inl refl
body_found (d ∷ ds) c =
    elim (cases_Bool (same_name d.name c)) [
      | inl e ↦ inr (here ds d c e)
      | inr e ↦ elim (body_found ds c) [ inl nil ↦ inl (skipped ds d c e ∙ nil) | inr found ↦ inr (further ds d c e found) ]
    ]
