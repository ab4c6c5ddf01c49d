-- Ways along the arrows between places are paths of calls between names.
use Rattle.std.proofs.Common.{◌≡◌, ◌<◌, ◌↔◌, ℕ, suc, Bool, true, false, IsTrue, List, [], ◌∷◌, length, map, get_or, refl, sym, ◌∙◌, ap, subst, inl, inr, arith, if◌then◌else◌}
use Rattle.std.proofs.lemmas.List.{length-map}
use Rattle.std.proofs.lemmas.Bool.{or_cases, or_left, or_right, false≢true}
use Rattle.abc_pred.specs.declared.names.Name.{Name}
use Rattle.abc_pred.specs.Maps.{lists, same_name}
use Rattle.abc_term.specs.declared.terms.Definition.{Definition}
use Rattle.abc_term.specs.Processes.{Process, Nil, body_of}
use Rattle.abc_term.specs.Standing.{definitions_of, process_of}
use Rattle.abc_term.specs.Calls.{called, Reaches, at_once, by_way_of}
use Rattle.abc_term.proofs.Listed.{same_itself}
use Rattle.abc_pred.proofs.Shown.{same_name-eq}
use Rattle.abc_checks.specs.Parts.{place_of}
use Rattle.abc_checks.specs.Graphs.{graph_of, Member, Arrow, Path, arrow, arrows}

module _ (called_by : Process → List Name) (none : called_by Nil ≡ []) where
  -- ---- Members of the places of names

  to_member : (place : Name → ℕ) (xs : List Name) (d : Name) → lists xs d ≡ true → Member (place d) (map place xs)
  to_member place [] d h = absurd (false≢true h)
  to_member place (x ∷ xs) d h =
      elim (or_cases (same_name x d) (lists xs d) h) [
        | inl e ↦ inl (ap place (same_name-eq x d e))
        | inr more ↦ inr (to_member place xs d more)
      ]

  from_member : (place : Name → ℕ) (xs : List Name) (j : ℕ) → Member j (map place xs) → (d : Name) × (lists xs d ≡ true) × (place d ≡ j)
  from_member place [] j h = absurd h
  from_member place (x ∷ xs) j h =
      elim h [
        | inl e ↦ (x, or_left (same_name x x) (lists xs x) (same_itself x), e)
        | inr more ↦
            let found : (d : Name) × (lists xs d ≡ true) × (place d ≡ j) = from_member place xs j more in
            (found.0, or_right (same_name x found.0) (lists xs found.0) found.1, found.2)
      ]

  -- ---- What stands at the place of a name

  chosen : (b : Bool) (F : Process → List ℕ) (P Q : Process) (xs : List (List ℕ)) (p : ℕ) → get_or xs p [] ≡ F Q
      → get_or (F P ∷ xs) (if b then 0 else suc p) [] ≡ F (if b then P else Q)
  chosen true F P Q xs p h = refl
  chosen false F P Q xs p h = h

  at_place : (F : Process → List ℕ) → F Nil ≡ [] → (ds : List Definition) (c : Name)
      → get_or (map (λ d. F (process_of d.body)) ds) (place_of (definitions_of ds) c) [] ≡ F (body_of (definitions_of ds) c)
  at_place F empty [] c = sym empty
  at_place F empty (d ∷ ds) c =
      chosen (same_name d.name c) F (process_of d.body) (body_of (definitions_of ds) c) (map (λ d. F (process_of d.body)) ds) (place_of (definitions_of ds) c)
      (at_place F empty ds c)

  suc_lt : (m n : ℕ) → m < n → suc m < suc n
  suc_lt m n h = omega arith

  unsuc_lt : (m n : ℕ) → suc m < suc n → m < n
  unsuc_lt m n h = omega arith

  first_lt : (n : ℕ) → 0 < suc n
  first_lt n = omega arith

  -- a name whose body calls something is defined
  chosen_defined : (b : Bool) (P Q : Process) (p n : ℕ) (x : Name) → (lists (called_by Q) x ≡ true → p < n)
      → lists (called_by (if b then P else Q)) x ≡ true → (if b then 0 else suc p) < suc n
  chosen_defined true P Q p n x more h = first_lt n
  chosen_defined false P Q p n x more h = suc_lt p n (more h)

  calls_defined : (ds : List Definition) (c x : Name) → lists (called_by (body_of (definitions_of ds) c)) x ≡ true → place_of (definitions_of ds) c < length ds
  calls_defined [] c x h = absurd (false≢true (subst (λ (xs : List Name). lists xs x ≡ true) none h))
  calls_defined (d ∷ ds) c x h =
      chosen_defined (same_name d.name c) (process_of d.body) (body_of (definitions_of ds) c) (place_of (definitions_of ds) c) (length ds) x
      (calls_defined ds c x) h

  -- one place has one name
  one_place_at : (a b : Bool) (n c d : Name) (p q k : ℕ) → (a ≡ true → n ≡ c) → (b ≡ true → n ≡ d) → (p < k → q ≡ p → d ≡ c)
      → (if a then 0 else suc p) < suc k → (if b then 0 else suc q) ≡ (if a then 0 else suc p) → d ≡ c
  one_place_at true true n c d p q k f g rec lt e = sym (g refl) ∙ f refl
  one_place_at true false n c d p q k f g rec lt e = absurd (omega arith)
  one_place_at false true n c d p q k f g rec lt e = absurd (omega arith)
  one_place_at false false n c d p q k f g rec lt e = rec (unsuc_lt p k lt) (omega arith)

  one_place : (ds : List Definition) (c d : Name) → place_of (definitions_of ds) c < length ds → place_of (definitions_of ds) d ≡ place_of (definitions_of ds) c → d ≡ c
  one_place [] c d lt e = absurd (omega arith)
  one_place (n ∷ ds) c d lt e =
      one_place_at (same_name n.name c) (same_name n.name d) n.name c d (place_of (definitions_of ds) c) (place_of (definitions_of ds) d) (length ds)
      (same_name-eq n.name c) (same_name-eq n.name d) (one_place ds c d) lt e

  -- ---- Ways and paths
  module _ (ds : List Definition) where
    abbrev place : Name → ℕ
    place c = place_of (definitions_of ds) c

    abbrev graph : List (List ℕ)
    graph = graph_of called_by ds

    abbrev names_called : Name → List Name
    names_called c = called_by (body_of (definitions_of ds) c)

    size : length graph ≡ length ds
    size = length-map ds (λ (d : Definition). map (place_of (definitions_of ds)) (called_by (process_of d.body)))

    at_node : (c : Name) → get_or graph (place c) [] ≡ map place (names_called c)
    at_node c = at_place (λ (P : Process). map place (called_by P)) (ap (map place) none) ds c

    along : (c : Name) (j : ℕ) → Arrow graph (place c) j → (d : Name) × (lists (names_called c) d ≡ true) × (place d ≡ j)
    along c j a = from_member place (names_called c) j (subst (λ (xs : List ℕ). Member j xs) (at_node c) a.1)

    path_calls : {i j : ℕ} → Path graph i j → (c : Name) → place c ≡ i → (d : Name) × Reaches called_by (definitions_of ds) c d × (place d ≡ j)
    path_calls {j = j} (arrow a) c e =
        let found = along c j (subst (λ (k : ℕ). Arrow graph k j) (sym e) a) in
        (found.0, at_once found.1, found.2)
    path_calls {j = j} (arrows {j = m} a p) c e =
        let found = along c m (subst (λ (k : ℕ). Arrow graph k m) (sym e) a) in
        let rest = path_calls p found.0 found.2 in
        (rest.0, by_way_of found.1 rest.1, rest.2)

    path_inside : {i j : ℕ} → Path graph i j → j < length graph
    path_inside (arrow a) = a.0
    path_inside (arrows a p) = path_inside p

    by_call : (c d : Name) → place d < length ds → lists (names_called c) d ≡ true → Arrow graph (place c) (place d)
    by_call c d lt l =
        (subst (λ (n : ℕ). place d < n) (sym size) lt, subst (λ (xs : List ℕ). Member (place d) xs) (sym (at_node c)) (to_member place (names_called c) d l))

    reaching_defined : {c d : Name} → Reaches called_by (definitions_of ds) c d → place c < length ds
    reaching_defined {c = c} {d = d} (at_once l) = calls_defined ds c d l
    reaching_defined {c = c} (by_way_of {d = m} l r) = calls_defined ds c m l

    calls_path : {c d : Name} → Reaches called_by (definitions_of ds) c d → place d < length ds → Path graph (place c) (place d)
    calls_path {c = c} {d = d} (at_once l) lt = arrow (by_call c d lt l)
    calls_path {c = c} (by_way_of {d = m} l r) lt = arrows (by_call c m (reaching_defined r) l) (calls_path r lt)

    -- a definition is on a cycle of arrows where it is on one of calls
    cycle : (c : Name) → Path graph (place c) (place c) ↔ Reaches called_by (definitions_of ds) c c
    cycle c = (
      λ p.
          let found = path_calls p c refl in
          subst (λ (d : Name). Reaches called_by (definitions_of ds) c d)
          (one_place ds c found.0 (subst (λ (n : ℕ). place c < n) size (path_inside p)) found.2) found.1,
      λ r. calls_path r (reaching_defined r),
    )

-- ---- For the code: whether a definition's place is on a cycle of the graph says whether it reaches itself
pub answered : (behind : Bool) (ds : List Definition) (c : Name) (g : List (List ℕ)) (n : ℕ) (b : Bool) → g ≡ graph_of (called behind) ds
    → n ≡ place_of (definitions_of ds) c → (IsTrue b ↔ Path g n n) → IsTrue b ↔ Reaches (called behind) (definitions_of ds) c c
answered behind ds c g n b eg en h =
    let onward = cycle (called behind) refl ds c in
    let graph : List (List ℕ) = graph_of (called behind) ds in (
      λ t. onward.0 (subst (λ (k : ℕ). Path graph k k) en (subst (λ (x : List (List ℕ)). Path x n n) eg (h.0 t))),
      λ r. h.1 (subst (λ (x : List (List ℕ)). Path x n n) (sym eg) (subst (λ (k : ℕ). Path graph k k) (sym en) (onward.1 r))),
    )
