-- Whether a name reaches another by calls can be decided. The names on the way are those of definitions, which are
-- taken into account one after another.
use Rattle.std.proofs.Common.{◌≡◌, ◌⊎◌, ◌||◌, Bool, true, false, IsTrue, List, [], ◌∷◌, map, refl, subst, inl, inr, if◌then◌else◌}
use Rattle.std.proofs.lemmas.Bool.{or_cases, false≢true}
use Rattle.std.proofs.Math.Decide.{map_dec}
use Rattle.abc_pred.specs.declared.names.Name.{Name}
use Rattle.abc_pred.specs.Maps.{lists, same_name}
use Rattle.abc_pred.proofs.Shown.{same_name-eq}
use Rattle.abc_term.specs.Processes.{Process, Nil, Definitions, body_of}
use Rattle.abc_term.specs.Calls.{Reaches, at_once, by_way_of}
use Rattle.abc_checks_laws.proofs.Deciding.{both, either, true_or_not}

module _ (called_by : Process → List Name) (none : called_by Nil ≡ []) where
  -- ---- A name whose body calls something is that of a definition

  named_at : (b more : Bool) (P Q : Process) (d : Name) → (lists (called_by Q) d ≡ true → more ≡ true)
      → lists (called_by (if b then P else Q)) d ≡ true → (b || more) ≡ true
  named_at true more P Q d rest h = refl
  named_at false more P Q d rest h = rest h

  named : (ds : Definitions) (c d : Name) → lists (called_by (body_of ds c)) d ≡ true
      → lists (map (λ e. e.0) ds) c ≡ true
  named [] c d h = absurd (false≢true (subst (λ (xs : List Name). lists xs d ≡ true) none h))
  named (e ∷ ds) c d h =
      named_at (same_name e.0 c) (lists (map (λ e. e.0) ds) c) e.1 (body_of ds c) d (named ds c d) h

  module _ (defs : Definitions) where
    abbrev names : List Name
    names = map (λ e. e.0) defs

    abbrev Calls : Name → Name → Type 0
    Calls c d = IsTrue (lists (called_by (body_of defs c)) d)

    -- c reaches d, and every name between them is one of the list
    abbrev Way : List Name → Name → Name → Type 0
    Way [] c d = Calls c d
    Way (x ∷ via) c d = Way via c d ⊎ (Way via c x × Way via x d)

    way_or_not : (via : List Name) (c d : Name) → Dec (Way via c d)
    way_or_not [] c d = true_or_not (lists (called_by (body_of defs c)) d)
    way_or_not (x ∷ via) c d = either (way_or_not via c d) (both (way_or_not via c x) (way_or_not via x d))

    -- ---- A way is a path of calls

    onward : {c d e : Name} → Reaches called_by defs c d → Reaches called_by defs d e → Reaches called_by defs c e
    onward (at_once h) r = by_way_of h r
    onward (by_way_of h q) r = by_way_of h (onward q r)

    way_reaches : (via : List Name) (c d : Name) → Way via c d → Reaches called_by defs c d
    way_reaches [] c d h = at_once h
    way_reaches (x ∷ via) c d (inl h) = way_reaches via c d h
    way_reaches (x ∷ via) c d (inr h) = onward (way_reaches via c x h.0) (way_reaches via x d h.1)

    -- ---- A path of calls is a way by the names of the definitions

    direct : (via : List Name) (c d : Name) → Calls c d → Way via c d
    direct [] c d h = h
    direct (x ∷ via) c d h = inl (direct via c d h)

    up_to : (x : Name) (via : List Name) (c : Name) → Way (x ∷ via) c x → Way via c x
    up_to x via c (inl h) = h
    up_to x via c (inr h) = h.0

    from : (x : Name) (via : List Name) (d : Name) → Way (x ∷ via) x d → Way via x d
    from x via d (inl h) = h
    from x via d (inr h) = h.1

    -- two ways that meet at a name of the list are one
    abbrev Joins : List Name → Name → Type 0
    Joins via m = (c d : Name) → Way via c m → Way via m d → Way via c d

    join_at : (x : Name) (via : List Name) → Joins (x ∷ via) x
    join_at x via c d a b = inr (up_to x via c a, from x via d b)

    join_below : (x : Name) (via : List Name) (m : Name) → Joins via m → Joins (x ∷ via) m
    join_below x via m join c d (inl a) (inl b) = inl (join c d a b)
    join_below x via m join c d (inl a) (inr b) = inr (join c x a b.0, b.1)
    join_below x via m join c d (inr a) (inl b) = inr (a.0, join x d a.1 b)
    join_below x via m join c d (inr a) (inr b) = inr (a.0, b.1)

    join : (via : List Name) (m : Name) → lists via m ≡ true → Joins via m
    join [] m h = absurd (false≢true h)
    join (x ∷ via) m h =
        elim (or_cases (same_name x m) (lists via m) h) [
          | inl same ↦ subst (Joins (x ∷ via)) (same_name-eq x m same) (join_at x via)
          | inr more ↦ join_below x via m (join via m more)
        ]

    reaching_named : {c d : Name} → Reaches called_by defs c d → lists names c ≡ true
    reaching_named {c = c} {d = d} (at_once h) = named defs c d h
    reaching_named {c = c} (by_way_of {d = m} h r) = named defs c m h

    reaches_way : {c d : Name} → Reaches called_by defs c d → Way names c d
    reaches_way {c = c} {d = d} (at_once h) = direct names c d h
    reaches_way {c = c} (by_way_of {d = m} {e = d} h r) =
        join names m (reaching_named r) c d (direct names c m h) (reaches_way r)

    pub reaches_or_not : (c d : Name) → Dec (Reaches called_by defs c d)
    reaches_or_not c d = map_dec (way_reaches names c d) reaches_way (way_or_not names c d)
