-- The places of definitions, and lists of places.
use Rattle.std.proofs.Common.{◌≡◌, ◌≤◌, ◌++◌, ◌||◌, ℕ, zero, suc, Bool, true, false, List, [], ◌∷◌, length, take, refl, ap, arith, nat_lt, if◌then◌else◌, ◌∙◌, map, append_assoc}
use Rattle.std.proofs.lemmas.List.{map-append, map-id}
use Prim.Native.Nat.compare
use Rattle.std.proofs.lemmas.Bool.Decides.{nat_tests}
use Rattle.abc_pred.specs.declared.names.Name.{Name}
use Rattle.abc_pred.specs.Maps.{lists, same_name}
use Rattle.abc_term.specs.declared.terms.Definition.{Definition}
use Rattle.abc_term.specs.Standing.{definitions_of}
use Rattle.abc_term.specs.Guarded.{defines}
use Rattle.abc_checks.specs.Parts.{place_of}
use Rattle.abc_checks.specs.Firsts.{first_place}
use Rattle.abc_term.proofs.Listed.{lists_append}

-- names of a scope: those of the inputs, one after another
pub ruleset in_scope = (lists_append, map-id)

lt-suc : (p n : ℕ) → nat_lt (suc p) (suc n) ≡ nat_lt p n
lt-suc p n = rw compare.suc-suc refl

lt-first : (n : ℕ) → nat_lt 0 (suc n) ≡ true
lt-first n = grind (arith, nat_tests)

shifted : (b e : Bool) (p n : ℕ) → nat_lt p n ≡ e → nat_lt (if b then 0 else suc p) (suc n) ≡ (b || e)
shifted true e p n h = lt-first n
shifted false e p n h = lt-suc p n ∙ h

-- The place of a name among the definitions is that of the first of it among their names.
pub place_among : (ds : List Definition) (c : Name) → first_place (map (λ d. d.name) ds) c ≡ place_of (definitions_of ds) c
place_among [] c = refl
place_among (d ∷ ds) c = ap (λ (p : ℕ). if same_name d.name c then 0 else suc p) (place_among ds c)

no_less : (n : ℕ) → nat_lt n 0 ≡ false
no_less n = grind (arith, nat_tests)

-- A name stands among the first items where its place is below their number.
pub stands_before : {A : Type 0} (name_of : A → Name) (xs : List A) (i : ℕ) (c : Name) → i ≤ length xs
    → nat_lt (first_place (map name_of xs) c) i ≡ lists (map name_of (take i xs)) c
stands_before name_of [] zero c le = no_less 0
stands_before name_of [] (suc i) c le = absurd (omega arith)
stands_before name_of (x ∷ xs) zero c le = no_less (first_place (map name_of (x ∷ xs)) c)
stands_before name_of (x ∷ xs) (suc i) c le =
    shifted (same_name (name_of x) c) (lists (map name_of (take i xs)) c) (first_place (map name_of xs) c) i (stands_before name_of xs i c (omega arith))

-- A name is defined where its place is below the number of definitions.
pub defines_by_place : (ds : List Definition) (c : Name) → nat_lt (place_of (definitions_of ds) c) (length ds) ≡ defines (definitions_of ds) c
defines_by_place [] c = refl
defines_by_place (d ∷ ds) c =
    shifted (same_name d.name c) (defines (definitions_of ds) c) (place_of (definitions_of ds) c) (length ds) (defines_by_place ds c)

pub map_append_on : {A B : Type 0} (f : A → B) (before : List B) (xs ys : List A) → (before ++ map f xs) ++ map f ys ≡ before ++ map f (xs ++ ys)
map_append_on f before xs ys = rw (append_assoc, map-append) refl
