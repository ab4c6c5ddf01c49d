-- The facts of the checks are the same of two programs with the same plain terms, and the first fact is one.
use Rattle.std.proofs.Common.{◌≡◌, ℕ, zero, suc, ◌<◌, ◌⊎◌, inl, inr, List, [], ◌∷◌, length, take, Option, Some, None, refl, sym, ap, ◌∙◌, subst}
use Rattle.std.proofs.lemmas.List.{length-map}
use Rattle.std.specs.Prelude.{map, slice_get, IsSomeAnd, IsTrue, ◌||◌}
use Rattle.std.specs.Option.{option_map}
use Rattle.std.proofs.lemmas.Option.{slice_get-map}
use Rattle.std.proofs.lemmas.Bool.{cases_order}
use Rattle.abc_pred.specs.declared.names.Name.{Name}
use Rattle.abc_pred.specs.Maps.{lists}
use Rattle.abc_term.specs.Processes.{Process, Definitions}
use Rattle.abc_term.specs.Standing.{process_of, definitions_of}
use Rattle.abc_term.specs.declared.terms.Definition.{Definition as HeldDefinition}
use Rattle.abc_term.specs.declared.terms.Component.{Component as HeldComponent}
use Rattle.abc_term.specs.declared.terms.Program.{Program}
use Rattle.abc_cause.specs.declared.CheckCause.{CheckCause}
use Rattle.abc_cause.specs.declared.CheckCause.TheVariants as cause
use Rattle.abc_checks.specs.declared.causes.Site.{Site}
use Rattle.abc_checks.specs.declared.causes.Site.TheVariants.{Definition, Component, Whole}
use Rattle.abc_checks.specs.Sites.{AtSite, ComesBefore}
use Rattle.abc_term.specs.Calls.{calls, unguarded_calls, Reaches}
use Rattle.abc_checks.specs.Parts.{repeats, repeats_variable, holds_par}
use Rattle.abc_checks.specs.Variables.{process_open}
use Rattle.abc_checks.specs.Measures.{IsTooWide, HasTooManyMoves}
use Rattle.abc_checks.specs.declared.limits.TheConstants.{MOST_COMPONENTS}
use Rattle.abc_checks.specs.Facts.{HasFact, IsFirstFact, rank, calls_unknown}
use Rattle.abc_grammar.specs.Plain.{PlainComponent, PlainProgram, plain_component, plain_program}

-- ---- lists that a function makes the same
module _ {A B : Type 0} (f : A → B) where
  mapped : (o : Option A) (P : B → Type 0) → IsSomeAnd o (λ x. P (f x)) → IsSomeAnd (option_map f o) P
  mapped None P h = h
  mapped (Some x) P h = h

  unmapped : (o : Option A) (P : B → Type 0) → IsSomeAnd (option_map f o) P → IsSomeAnd o (λ x. P (f x))
  unmapped None P h = h
  unmapped (Some x) P h = h

  -- a fact of what the function makes of an item
  item_alike :
      (xs ys : List A) → map f xs ≡ map f ys → (P : B → Type 0) (i : ℕ) → IsSomeAnd (slice_get xs i) (λ x. P (f x)) → IsSomeAnd (slice_get ys i) (λ y. P (f y))
  item_alike xs ys e P i h =
      let of_x : IsSomeAnd (slice_get (map f xs) i) P = subst (λ (o : Option B). IsSomeAnd o P) (sym (slice_get-map f xs i)) (mapped (slice_get xs i) P h) in
      let of_y : IsSomeAnd (slice_get (map f ys) i) P = subst (λ (l : List B). IsSomeAnd (slice_get l i) P) e of_x in
      unmapped (slice_get ys i) P (subst (λ (o : Option B). IsSomeAnd o P) (slice_get-map f ys i) of_y)

  length_alike : (xs ys : List A) → map f xs ≡ map f ys → length xs ≡ length ys
  length_alike xs ys e = sym (length-map xs f) ∙ ap length e ∙ length-map ys f

site_alike :
    (d d' c c' : ℕ) (D D' C C' : ℕ → Type 0) (s : Site) → d ≡ d' → c ≡ c' → ((i : ℕ) → D i → D' i) → ((i : ℕ) → C i → C' i) → AtSite d c D C s → AtSite d' c' D' C' s
site_alike d d' c c' D D' C C' (Definition i) e f g k h = (subst (λ (n : ℕ). i < n) e h.0, g i h.1)
site_alike d d' c c' D D' C C' (Component i) e f g k h = (subst (λ (n : ℕ). i < n) f h.0, k i h.1)
site_alike d d' c c' D D' C C' Whole e f g k h = h

-- the names of the first items
definition_names : (xs : List HeldDefinition) (i : ℕ) → map (λ d. d.name) (take i xs) ≡ map (λ d. d.0) (take i (definitions_of xs))
definition_names xs zero = refl
definition_names [] (suc i) = refl
definition_names (x ∷ xs) (suc i) = ap (λ ns. x.name ∷ ns) (definition_names xs i)

component_names : (xs : List HeldComponent) (i : ℕ) → map (λ d. d.name) (take i xs) ≡ map (λ d. d.name) (take i (map plain_component xs))
component_names xs zero = refl
component_names [] (suc i) = refl
component_names (x ∷ xs) (suc i) = ap (λ ns. x.name ∷ ns) (component_names xs i)

-- ---- facts
-- what the facts see of a definition
abbrev seen_definition : HeldDefinition → Name × Process
seen_definition d = (d.name, process_of d.body)

module _ (p q : Program) (same : plain_program p ≡ plain_program q) where
  same_definitions : definitions_of p.definitions ≡ definitions_of q.definitions
  same_definitions = ap (λ (x : PlainProgram). x.definitions) same

  same_components : map plain_component p.components ≡ map plain_component q.components
  same_components = ap (λ (x : PlainProgram). x.components) same

  definitions_length : length p.definitions ≡ length q.definitions
  definitions_length = length_alike seen_definition p.definitions q.definitions same_definitions

  components_length : length p.components ≡ length q.components
  components_length = length_alike plain_component p.components q.components same_components

  same_names : (i : ℕ) → map (λ d. d.name) (take i p.definitions) ≡ map (λ d. d.name) (take i q.definitions)
  same_names i = definition_names p.definitions i ∙ ap (λ ds. map (λ d. d.0) (take i ds)) same_definitions ∙ sym (definition_names q.definitions i)

  same_component_names : (i : ℕ) → map (λ d. d.name) (take i p.components) ≡ map (λ d. d.name) (take i q.components)
  same_component_names i = component_names p.components i ∙ ap (λ ds. map (λ d. d.name) (take i ds)) same_components ∙ sym (component_names q.components i)

  -- A fact of a definition by what is seen of it, and of what is the same in both programs.
  of_definition :
      {X : Type 0} (P : X → Name × Process → Type 0) (x y : X) → x ≡ y → (i : ℕ) →
      IsSomeAnd (slice_get p.definitions i) (λ d. P x (d.name, process_of d.body)) → IsSomeAnd (slice_get q.definitions i) (λ d. P y (d.name, process_of d.body))
  of_definition P x y e i h =
      subst (λ z. IsSomeAnd (slice_get q.definitions i) (λ d. P z (d.name, process_of d.body))) e
      (item_alike seen_definition p.definitions q.definitions same_definitions (P x) i h)

  of_component :
      {X : Type 0} (P : X → PlainComponent → Type 0) (x y : X) → x ≡ y → (i : ℕ) →
      IsSomeAnd (slice_get p.components i) (λ C. P x (plain_component C)) → IsSomeAnd (slice_get q.components i) (λ C. P y (plain_component C))
  of_component P x y e i h =
      subst (λ z. IsSomeAnd (slice_get q.components i) (λ C. P z (plain_component C))) e
      (item_alike plain_component p.components q.components same_components (P x) i h)

  at_site :
      (D D' C C' : ℕ → Type 0) (s : Site) → ((i : ℕ) → D i → D' i) → ((i : ℕ) → C i → C' i) →
      AtSite (length p.definitions) (length p.components) D C s → AtSite (length q.definitions) (length q.components) D' C' s
  at_site D D' C C' s g k h =
      site_alike (length p.definitions) (length q.definitions) (length p.components) (length q.components) D D' C C' s definitions_length components_length g k h

  double_name : (s : Site) → HasFact cause.DoubleName p s → HasFact cause.DoubleName q s
  double_name s = at_site _ _ _ _ s
      (λ i. of_definition (λ names d. IsTrue (lists names d.0 || repeats_variable d.1)) _ _ (same_names i) i)
      (λ i. of_component (λ names C. IsTrue (lists names C.name || repeats (map (λ a. a.0) C.initial) || repeats C.show || repeats_variable C.run)) _ _ (same_component_names i) i)

  unknown_name : (s : Site) → HasFact cause.UnknownName p s → HasFact cause.UnknownName q s
  unknown_name s = at_site _ _ _ _ s
      (of_definition (λ (ds : Definitions) d. IsTrue (calls_unknown ds d.1)) _ _ same_definitions)
      (of_component (λ (ds : Definitions) C. IsTrue (calls_unknown ds C.run)) _ _ same_definitions)

  open_variable : (s : Site) → HasFact cause.OpenVariable p s → HasFact cause.OpenVariable q s
  open_variable s = at_site _ _ _ _ s
      (of_definition (λ (ds : Definitions) d. IsTrue (process_open [] d.1)) _ _ same_definitions)
      (of_component (λ (ds : Definitions) C. IsTrue (process_open [] C.run)) _ _ same_definitions)

  unguarded : (s : Site) → HasFact cause.Unguarded p s → HasFact cause.Unguarded q s
  unguarded s = at_site _ _ _ _ s (of_definition (λ ds d. Reaches unguarded_calls ds d.0 d.0) _ _ same_definitions) (λ i h. h)

  parallel_cycle : (s : Site) → HasFact cause.ParallelCycle p s → HasFact cause.ParallelCycle q s
  parallel_cycle s = at_site _ _ _ _ s (of_definition (λ ds d. IsTrue (holds_par d.1) × Reaches calls ds d.0 d.0) _ _ same_definitions) (λ i h. h)

  too_wide : (s : Site) → HasFact cause.TooWide p s → HasFact cause.TooWide q s
  too_wide s = at_site _ _ _ _ s (λ i h. h) (of_component (λ ds C. IsTooWide ds C.run) _ _ same_definitions)

  too_many_moves : (s : Site) → HasFact cause.TooManyMoves p s → HasFact cause.TooManyMoves q s
  too_many_moves s = at_site _ _ _ _ s
      (of_definition (λ ds d. HasTooManyMoves ds d.1) _ _ same_definitions) (of_component (λ ds C. HasTooManyMoves ds C.run) _ _ same_definitions)

  no_component : (s : Site) → HasFact cause.NoComponent p s → HasFact cause.NoComponent q s
  no_component (Definition i) h = h
  no_component (Component i) h = h
  no_component Whole h = sym components_length ∙ h

  too_many_components : (s : Site) → HasFact cause.TooManyComponents p s → HasFact cause.TooManyComponents q s
  too_many_components (Definition i) h = h
  too_many_components (Component i) h = h
  too_many_components Whole h = subst (λ (n : ℕ). MOST_COMPONENTS < n) components_length h

  pub fact_alike : (c : CheckCause) (s : Site) → HasFact c p s → HasFact c q s
  fact_alike cause.DoubleName s h = double_name s h
  fact_alike cause.UnknownName s h = unknown_name s h
  fact_alike cause.OpenVariable s h = open_variable s h
  fact_alike cause.Unguarded s h = unguarded s h
  fact_alike cause.ParallelCycle s h = parallel_cycle s h
  fact_alike cause.TooWide s h = too_wide s h
  fact_alike cause.TooManyMoves s h = too_many_moves s h
  fact_alike cause.NoComponent s h = no_component s h
  fact_alike cause.TooManyComponents s h = too_many_components s h

pub first_alike : (p q : Program) → plain_program p ≡ plain_program q → (c : CheckCause) (s : Site) → IsFirstFact p c s → IsFirstFact q c s
first_alike p q same c s h = record {
  holds = fact_alike p q same c s h.holds;
  first_cause = λ d lt t k. h.first_cause d lt t (fact_alike q p (sym same) d t k);
  first_site = λ t before k. h.first_site t before (fact_alike q p (sym same) c t k);
}

-- ---- one first fact
abbrev of_rank : ℕ → Option CheckCause
of_rank n =
    slice_get
    (cause.DoubleName ∷ cause.UnknownName ∷ cause.OpenVariable ∷ cause.Unguarded ∷ cause.ParallelCycle ∷ cause.TooWide ∷ cause.TooManyMoves
    ∷ cause.NoComponent ∷ cause.TooManyComponents ∷ []) n

ranked : (c : CheckCause) → of_rank (rank c) ≡ Some c
ranked cause.DoubleName = refl
ranked cause.UnknownName = refl
ranked cause.OpenVariable = refl
ranked cause.Unguarded = refl
ranked cause.ParallelCycle = refl
ranked cause.TooWide = refl
ranked cause.TooManyMoves = refl
ranked cause.NoComponent = refl
ranked cause.TooManyComponents = refl

same_rank : (c d : CheckCause) → rank c ≡ rank d → c ≡ d
same_rank c d e = let h : Some c ≡ Some d = sym (ranked c) ∙ ap of_rank e ∙ ranked d in cc

site_order : (s t : Site) → (s ≡ t) ⊎ (ComesBefore s t ⊎ ComesBefore t s)
site_order (Definition i) (Definition j) = number_order Definition i j (cases_order i j)
  where
    number_order : (f : ℕ → Site) (i j : ℕ) → (i ≡ j) ⊎ ((i < j) ⊎ (j < i)) → (f i ≡ f j) ⊎ ((i < j) ⊎ (j < i))
    number_order f i j (inl e) = inl (ap f e)
    number_order f i j (inr h) = inr h
site_order (Component i) (Component j) = number_order Component i j (cases_order i j)
  where
    number_order : (f : ℕ → Site) (i j : ℕ) → (i ≡ j) ⊎ ((i < j) ⊎ (j < i)) → (f i ≡ f j) ⊎ ((i < j) ⊎ (j < i))
    number_order f i j (inl e) = inl (ap f e)
    number_order f i j (inr h) = inr h
site_order (Definition i) (Component j) = inr (inl tt)
site_order (Component i) (Definition j) = inr (inr tt)
site_order (Definition i) Whole = inr (inl tt)
site_order (Component i) Whole = inr (inl tt)
site_order Whole (Definition j) = inr (inr tt)
site_order Whole (Component j) = inr (inr tt)
site_order Whole Whole = inl refl

same_site : (p : Program) (c : CheckCause) (s t : Site) → (s ≡ t) ⊎ (ComesBefore s t ⊎ ComesBefore t s) → IsFirstFact p c s → IsFirstFact p c t → s ≡ t
same_site p c s t (inl e) h k = e
same_site p c s t (inr (inl before)) h k = absurd (k.first_site s before h.holds)
same_site p c s t (inr (inr before)) h k = absurd (h.first_site t before k.holds)

one_fact : (p : Program) (c d : CheckCause) (s t : Site) → (rank c ≡ rank d) ⊎ ((rank c < rank d) ⊎ (rank d < rank c)) → IsFirstFact p c s → IsFirstFact p d t → (c ≡ d) × (s ≡ t)
one_fact p c d s t (inl e) h k =
    let same : c ≡ d = same_rank c d e in
    (same, same_site p d s t (site_order s t) (subst (λ x. IsFirstFact p x s) same h) k)
one_fact p c d s t (inr (inl lt)) h k = absurd (k.first_cause c lt s h.holds)
one_fact p c d s t (inr (inr lt)) h k = absurd (h.first_cause d lt t k.holds)

-- the first facts of two programs with the same plain terms are one
pub first_one :
    (p q : Program) → plain_program p ≡ plain_program q → (c d : CheckCause) (s t : Site) → IsFirstFact p c s → IsFirstFact q d t → (c ≡ d) × (s ≡ t)
first_one p q same c d s t h k = one_fact p c d s t (cases_order (rank c) (rank d)) h (first_alike q p (sym same) d t k)
