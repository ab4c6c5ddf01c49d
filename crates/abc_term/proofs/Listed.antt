-- What a list of names has that is put together of two, as the calls of a process are.
use Rattle.std.proofs.Common.{◌≡◌, ◌⊎◌, inl, inr, ◌++◌, ◌||◌, true, false, List, [], ◌∷◌, refl, sym, ◌∙◌}
use Rattle.std.proofs.lemmas.Cmp.{nat_eq_equiv}
use Rattle.std.proofs.lemmas.Bool.{or_cases, or_left, or_right, false≢true}
use Rattle.std.proofs.Math.Bool.{or_assoc}
use Rattle.std.specs.Cmp.{IsEquivalence}
use Rattle.abc_pred.specs.declared.names.Name.{Name}
use Rattle.abc_pred.specs.Maps.{lists, same_name}
use Rattle.abc_term.specs.Processes.{Process, Nil, Output, Input, When, Choice, Par, Call}
use Rattle.abc_term.specs.Calls.{calls, unguarded_calls}

pub name_laws : IsEquivalence same_name
name_laws = record {
  refl = λ m. nat_eq_equiv.refl m.0;
  symm = λ m n. nat_eq_equiv.symm m.0 n.0;
  congr = λ m n o. nat_eq_equiv.congr m.0 n.0 o.0;
}

-- each name is itself
pub same_itself : (n : Name) → same_name n n ≡ true
same_itself n = name_laws.refl n

pub lists_append : (xs ys : List Name) (x : Name) → lists (xs ++ ys) x ≡ (lists xs x || lists ys x)
lists_append [] ys x = refl
lists_append (z ∷ xs) ys x = rw (lists_append xs ys x) (sym (or_assoc (same_name z x) (lists xs x) (lists ys x)))

pub in_left : (xs ys : List Name) (c : Name) → lists xs c ≡ true → lists (xs ++ ys) c ≡ true
in_left xs ys c h = lists_append xs ys c ∙ or_left (lists xs c) (lists ys c) h

pub in_right : (xs ys : List Name) (c : Name) → lists ys c ≡ true → lists (xs ++ ys) c ≡ true
in_right xs ys c h = lists_append xs ys c ∙ or_right (lists xs c) (lists ys c) h

pub in_either : (xs ys : List Name) (c : Name) → lists (xs ++ ys) c ≡ true → (lists xs c ≡ true) ⊎ (lists ys c ≡ true)
in_either xs ys c h = or_cases (lists xs c) (lists ys c) (sym (lists_append xs ys c) ∙ h)

pub in_itself : (c : Name) → lists (c ∷ []) c ≡ true
in_itself c = or_left (same_name c c) false (same_itself c)

-- what is called unguarded is called
pub unguarded_called : (P : Process) (d : Name) → lists (unguarded_calls P) d ≡ true → lists (calls P) d ≡ true
unguarded_called Nil d h = h
unguarded_called (Output es p us P) d h = absurd (false≢true h)
unguarded_called (Input p xs us P) d h = absurd (false≢true h)
unguarded_called (When g P) d h = unguarded_called P d h
unguarded_called (Choice P Q) d h =
    elim (in_either (unguarded_calls P) (unguarded_calls Q) d h) [
      | inl l ↦ in_left (calls P) (calls Q) d (unguarded_called P d l)
      | inr r ↦ in_right (calls P) (calls Q) d (unguarded_called Q d r)
    ]
unguarded_called (Par P Q) d h =
    elim (in_either (unguarded_calls P) (unguarded_calls Q) d h) [
      | inl l ↦ in_left (calls P) (calls Q) d (unguarded_called P d l)
      | inr r ↦ in_right (calls P) (calls Q) d (unguarded_called Q d r)
    ]
unguarded_called (Call c) d h = h
