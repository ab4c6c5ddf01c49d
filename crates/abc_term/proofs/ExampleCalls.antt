-- The worked example of calls, computed.
use Rattle.std.proofs.Common.{◌≡◌, ℕ, inl, inr, true, IsTrue, [], ◌∷◌, refl, sym, ap, subst, arith}
use Rattle.std.proofs.lemmas.Bool.{or_cases}
use Rattle.abc_pred.specs.declared.names.Name.{Name}
use Rattle.abc_pred.specs.Maps.{lists, same_name}
use Rattle.abc_pred.proofs.Shown.{same_name-eq}
use Rattle.abc_term.specs.Processes.{body_of}
use Rattle.abc_term.specs.Calls.{unguarded_calls, Reaches, at_once, by_way_of}
use Rattle.abc_term.specs.Guarded.{CallEnds}
use Rattle.abc_term.specs.Examples.Calling.{k, l, m, defs, NamesCalled, NamesCalledAtOnce, ReachedByCalls, NotReachedAtOnce, KEnds, MNeverEnds}

pub names_called : NamesCalled
names_called = (refl, refl, refl)

pub names_called_at_once : NamesCalledAtOnce
names_called_at_once = (refl, refl, refl)

pub reached_by_calls : ReachedByCalls
reached_by_calls = (at_once refl, at_once refl, at_once refl, at_once refl)

-- the only name that is listed is that one
only : (n c : Name) → lists (n ∷ []) c ≡ true → n ≡ c
only n c h = elim (or_cases (same_name n c) (lists [] c) h) [ inl e ↦ same_name-eq n c e | inr none ↦ cc ]

from_l : {c d : Name} → Reaches unguarded_calls defs c d → l ≡ c → ⊥
from_l (at_once {d = d} h) e = let none = subst (λ (n : Name). IsTrue (lists (unguarded_calls (body_of defs n)) d)) (sym e) h in cc
from_l (by_way_of {d = d} h r) e = let none = subst (λ (n : Name). IsTrue (lists (unguarded_calls (body_of defs n)) d)) (sym e) h in cc

from_k : {c d : Name} → Reaches unguarded_calls defs c d → k ≡ c → l ≡ d
from_k (at_once {d = d} h) e = only l d (subst (λ (n : Name). IsTrue (lists (unguarded_calls (body_of defs n)) d)) (sym e) h)
from_k (by_way_of {d = d} h r) e = absurd (from_l r (only l d (subst (λ (n : Name). IsTrue (lists (unguarded_calls (body_of defs n)) d)) (sym e) h)))

pub not_reached_at_once : NotReachedAtOnce
not_reached_at_once r = let none : ◌≡◌ {A = ℕ} 1 0 = ap (λ (n : Name). n.0) (from_k r refl) in omega arith

pub k_ends : KEnds
k_ends c h = subst (λ (n : Name). CallEnds 3 defs n) (only k c h) (λ e s. subst (λ (n : Name). CallEnds 2 defs n) (only l e s) (λ f none. cc))

pub m_never_ends : MNeverEnds
m_never_ends g = g m refl m refl m refl m refl
