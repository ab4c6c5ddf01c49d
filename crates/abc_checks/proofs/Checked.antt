-- The laws of checked programs.
use Rattle.std.proofs.Common.{◌≡◌, ◌≤◌, ◌<◌, ◌⊎◌, ℕ, Bool, true, not, IsTrue, List, [], ◌∷◌, sym, subst, inl, inr, arith, Option}
use Rattle.std.specs.Prelude.{IsSomeAnd}
use Rattle.std.specs.List.{list_any}
use Rattle.std.proofs.lemmas.Bool.{or_cases, or_left, or_right, false≢true, true_from_ne_false, not_from_false}
use Rattle.std.proofs.lemmas.Option.{slice_get_within}
use Rattle.abc_pred.specs.declared.names.Name.{Name}
use Rattle.abc_pred.specs.Maps.{lists, same_name}
use Rattle.abc_term.specs.declared.terms.Definition.{Definition}
use Rattle.abc_term.specs.declared.terms.Component.{Component}
use Rattle.abc_term.specs.Processes.{Process, Definitions, body_of}
use Rattle.abc_term.specs.Standing.{process_of, definitions_of}
use Rattle.abc_term.specs.Calls.{calls, unguarded_calls, Reaches, at_once, by_way_of}
use Rattle.abc_term.specs.Guarded.{defines}
use Rattle.abc_term.proofs.Listed.{unguarded_called}
use Rattle.abc_term.proofs.Bodies.{BodyOf, body_found}
use Rattle.abc_pred.proofs.Shown.{same_name-eq}
use Rattle.abc_checks.specs.Measures.{width_of, IsTooWide}
use Rattle.abc_checks.specs.Facts.{calls_unknown}
use Rattle.abc_checks.specs.CheckedLaws.{CallsHaveBodies, CheckedCallsEnd, WidthsAreSmall}
use Rattle.abc_checks.specs.declared.causes.Site.TheVariants as site
use Rattle.abc_cause.specs.declared.CheckCause.TheVariants as cause

-- ---- Each call has a body

any_of : (p : Name → Bool) (xs : List Name) (c : Name) → lists xs c ≡ true → p c ≡ true → list_any p xs ≡ true
any_of p [] c h k = absurd (false≢true h)
any_of p (x ∷ xs) c h k =
    elim (or_cases (same_name x c) (lists xs c) h) [
      | inl e ↦ or_left (p x) (list_any p xs) (subst (λ (n : Name). p n ≡ true) (sym (same_name-eq x c e)) k)
      | inr more ↦ or_right (p x) (list_any p xs) (any_of p xs c more k)
    ]

known : (defs : Definitions) (P : Process) → (calls_unknown defs P ≡ true → ⊥) → (c : Name) → lists (calls P) c ≡ true → defines defs c ≡ true
known defs P none c l = true_from_ne_false (defines defs c) (λ f. none (any_of (λ (d : Name). not (defines defs d)) (calls P) c l (not_from_false (defines defs c) f)))

pub bodies_there : CallsHaveBodies
bodies_there p checked = (
  λ i d at. known (definitions_of p.definitions) (process_of d.body)
      (λ u. checked cause.UnknownName (site.Definition i)
      (slice_get_within p.definitions i d at, subst (λ (o : Option Definition). IsSomeAnd o (λ e. IsTrue (calls_unknown (definitions_of p.definitions) (process_of e.body)))) (sym at) u)),
  λ i C at. known (definitions_of p.definitions) (process_of C.run)
      (λ u. checked cause.UnknownName (site.Component i)
      (slice_get_within p.components i C at, subst (λ (o : Option Component). IsSomeAnd o (λ e. IsTrue (calls_unknown (definitions_of p.definitions) (process_of e.run)))) (sym at) u)),
)

not_more : (m n : ℕ) → (n < m → ⊥) → m ≤ n
not_more m n h =
    let either : (n < m) ⊎ (m ≤ n) = grind arith in
    elim either [ inl more ↦ absurd (h more) | inr less ↦ less ]

pub small_widths : WidthsAreSmall
small_widths p checked i C at w least =
    not_more (width_of w (process_of C.run)) 64
    (λ wide. checked cause.TooWide (site.Component i)
    (slice_get_within p.components i C at, subst (λ (o : Option Component). IsSomeAnd o (λ e. IsTooWide (definitions_of p.definitions) (process_of e.run))) (sym at) (w, least, wide)))

-- ---- Unguarded calls

-- a name whose body calls something has a definition
named : (ds : List Definition) (c d : Name) → lists (unguarded_calls (body_of (definitions_of ds) c)) d ≡ true → BodyOf ds c
named ds c d h =
    elim (body_found ds c) [
      | inl nil ↦ absurd (false≢true (subst (λ (P : Process). lists (unguarded_calls P) d ≡ true) nil h))
      | inr found ↦ found
    ]

first_call : {defs : Definitions} {c e : Name} → Reaches unguarded_calls defs c e → (d : Name) × (lists (unguarded_calls (body_of defs c)) d ≡ true)
first_call (at_once {d = d} h) = (d, h)
first_call (by_way_of {d = d} h r) = (d, h)

pub calls_end : CheckedCallsEnd
calls_end p checked = record {
  defined = λ c d h.
      let n : BodyOf p.definitions c = named p.definitions c d h in
      (bodies_there p checked).0 n.number n.definition n.at d (subst (λ (P : Process). lists (calls P) d ≡ true) n.body (unguarded_called (body_of (definitions_of p.definitions) c) d h));
  acyclic = λ c r.
      let first = first_call r in
      let n : BodyOf p.definitions c = named p.definitions c first.0 first.1 in
      checked cause.Unguarded (site.Definition n.number) (
        slice_get_within p.definitions n.number n.definition n.at,
        subst (λ (o : Option Definition). IsSomeAnd o (λ e. Reaches unguarded_calls (definitions_of p.definitions) e.name e.name)) (sym n.at)
            (subst (λ (m : Name). Reaches unguarded_calls (definitions_of p.definitions) m m) (sym n.name) r),
      );
}
