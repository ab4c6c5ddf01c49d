-- Unguarded calls end where none reaches itself: a chain of them has no name twice, so it is no longer than the definitions.
use Rattle.std.proofs.Common.{◌≡◌, inl, inr, ℕ, zero, suc, ◌+◌, ◌≤◌, Bool, true, false, ◌||◌, IsTrue, List, [], ◌∷◌, length, map, refl, sym, ap, subst, ◌∙◌, arith}
use Rattle.std.specs.List.{IsDistinct, AllByRecursion, list_any}
use Rattle.std.proofs.lemmas.Bool.{or_cases}
use Rattle.std.proofs.lemmas.Map.Keys.{IsDistinct-cons}
use Rattle.std.proofs.lemmas.Map.Made.{length-le_from_is_member}
use Rattle.abc_pred.specs.declared.names.Name.{Name}
use Rattle.abc_pred.specs.Maps.{same_name, lists}
use Rattle.abc_pred.proofs.Shown.{same_name-eq}
use Rattle.abc_term.specs.Processes.{Process, Definitions, body_of}
use Rattle.abc_term.specs.Calls.{unguarded_calls, Reaches, at_once, by_way_of}
use Rattle.abc_term.specs.Guarded.{CallEnds, defines, AreGuarded}
use Rattle.abc_term.specs.Laws.{GuardedCallsEnd}
use Rattle.abc_term.proofs.Listed.{name_laws}

names : Definitions → List Name
names defs = map {A = Name × Process} (λ d. d.0) defs

length-names : (defs : Definitions) → length (names defs) ≡ length defs
unfolding names
length-names [] = refl
length-names (d ∷ defs) = ap suc (length-names defs)

listed : (defs : Definitions) (c : Name) → defines defs c ≡ list_any (same_name c) (names defs)
unfolding names
listed [] c = refl
listed (d ∷ defs) c = let turned = name_laws.symm d.0 c in let rest = listed defs c in λ i. turned i || rest i

-- the body of c calls d unguarded
abbrev CallsAtOnce : Definitions → Name → Name → Type 0
CallsAtOnce defs c d = IsTrue (lists (unguarded_calls (body_of defs c)) d)

module _ (defs : Definitions) where
  further : {c d e : Name} → Reaches unguarded_calls defs c d → CallsAtOnce defs d e → Reaches unguarded_calls defs c e
  further (at_once h) k = by_way_of h (at_once k)
  further (by_way_of h r) k = by_way_of h (further r k)

  -- the names of a chain that leads to c: each has a definition and reaches c
  abbrev Leads : Name → Name → Type 0
  Leads c v = IsTrue (defines defs v) × Reaches unguarded_calls defs v c

  onward : (c e : Name) (V : List Name) → CallsAtOnce defs c e → AllByRecursion (Leads c) V → AllByRecursion (Leads e) V
  onward c e [] k h = tt
  onward c e (v ∷ V) k h = ((h.0.0, further h.0.1 k), onward c e V k h.1)

  -- what has a definition or is a name that has one
  same_defined : (q v : Name) → same_name q v ≡ true → IsTrue (defines defs v) → IsTrue (defines defs q)
  same_defined q v e k = subst (λ (n : Name). IsTrue (defines defs n)) (sym (same_name-eq q v e)) k

  all_defined : (c : Name) (V : List Name) → AllByRecursion (Leads c) V → (q : Name) → list_any (same_name q) V ≡ true → IsTrue (defines defs q)
  all_defined c [] h q at = cc
  all_defined c (v ∷ V) h q at =
      elim (or_cases (same_name q v) (list_any (same_name q) V) at) [ inl e ↦ same_defined q v e h.0.0 | inr e ↦ all_defined c V h.1 q e ]

  module _ (guarded : AreGuarded defs) where
    apart : (c v : Name) → Reaches unguarded_calls defs v c → (b : Bool) → same_name c v ≡ b → same_name c v ≡ false
    apart c v r true e = absurd (guarded.acyclic c (subst (λ (n : Name). Reaches unguarded_calls defs n c) (sym (same_name-eq c v e)) r))
    apart c v r false e = e

    all_apart : (c : Name) (V : List Name) → AllByRecursion (Leads c) V → AllByRecursion (λ v. same_name c v ≡ false) V
    all_apart c [] h = tt
    all_apart c (v ∷ V) h = (apart c v h.0.1 (same_name c v) refl, all_apart c V h.1)

    each_defined : (c : Name) (V : List Name) → AllByRecursion (Leads c) V → IsTrue (defines defs c) → (q : Name)
        → list_any (same_name q) (c ∷ V) ≡ true → IsTrue (defines defs q)
    each_defined c V h k q at =
        elim (or_cases (same_name q c) (list_any (same_name q) V) at) [ inl e ↦ same_defined q c e k | inr e ↦ all_defined c V h q e ]

    no_longer : (c : Name) (V : List Name) → IsDistinct same_name V → AllByRecursion (Leads c) V → IsTrue (defines defs c)
        → suc (length V) ≤ length defs
    no_longer c V d h k =
        let fits = length-le_from_is_member name_laws (c ∷ V) (names defs) (IsDistinct-cons same_name c V (all_apart c V h) d)
        (λ q at. sym (listed defs q) ∙ each_defined c V h k q at) in
        let e = length-names defs in omega arith

    ends : (depth : ℕ) (V : List Name) (c : Name) → IsDistinct same_name V → AllByRecursion (Leads c) V → IsTrue (defines defs c)
        → length defs ≤ depth + length V → CallEnds depth defs c
    ends zero V c d h k le = let lt = no_longer c V d h k in absurd (omega arith)
    ends (suc depth) V c d h k le = λ e s.
        ends depth (c ∷ V) e (IsDistinct-cons same_name c V (all_apart c V h) d)
        ((k, at_once s), onward c e V s h) (guarded.defined c e s) (omega arith)

no_names : IsDistinct same_name []
unfolding IsDistinct
no_names = tt

pub guarded_calls_end : GuardedCallsEnd
guarded_calls_end defs P guarded each c h = ends defs guarded (length defs) [] c no_names tt (each c h) (omega arith)
