-- The first definition of a name, as the table of first places has it.
use Rattle.std.proofs.Common.{◌≡◌, ℕ, zero, suc, ◌+◌, ◌<◌, ◌≤◌, Bool, true, false, cond, if◌then◌else◌, List, [], ◌∷◌, length, get_or, Option, Some, None, nat_eq, refl, ap, sym, ◌∙◌, arith}
use Rattle.std.proofs.lemmas.Bool.{eqb-true, eq-eqb, ne_eqb}
use Rattle.abc_pred.specs.declared.names.Name.{Name}
use Rattle.abc_term.specs.declared.terms.Definition.{Definition}
use Rattle.abc_term.specs.Processes.{Process, Nil, body_of}
use Rattle.abc_term.specs.Standing.{process_of, definitions_of}
use Rattle.abc_moves.specs.Bodies.{place_from}

-- what is found lies in the list
within-step : (t : Bool) (i k n : ℕ) (o : Option ℕ) → (o ≡ Some k → (i + 1 ≤ k) × (k < i + 1 + n)) → cond t (Some i) o ≡ Some k → (i ≤ k) × (k < i + suc n)
within-step true i k n o more e = let same : i ≡ k = cc in (omega arith, omega arith)
within-step false i k n o more e = let h = more e in let low = h.0 in let high = h.1 in (omega arith, omega arith)

pub found_within : (i : ℕ) (ds : List Definition) (n k : ℕ) → place_from i ds n ≡ Some k → (i ≤ k) × (k < i + length ds)
found_within i [] n k e = cc
found_within i (d ∷ ds) n k e = within-step (nat_eq n d.name.0) i k (length ds) (place_from (i + 1) ds n) (found_within (i + 1) ds n k) e

-- the test of the table and that of the definitions are the same
pub same-test : (m n : ℕ) (t : Bool) → nat_eq m n ≡ t → nat_eq n m ≡ t
same-test m n true e = eq-eqb n m (sym (eqb-true m n e))
same-test m n false e = ne_eqb n m (λ q. let f = eq-eqb m n (sym q) in cc)

-- what is found is what the call stands for
body-step : (t : Bool) (i j : ℕ) (o : Option ℕ) (x : Definition) (xs : List Definition) (d : Definition) (rest : Process) → (o ≡ Some (i + j) → i + 1 ≤ i + j) → ((j' : ℕ) → o ≡ Some (i + 1 + j') → process_of (get_or xs j' d).body ≡ rest) → cond t (Some i) o ≡ Some (i + j) → process_of (get_or (x ∷ xs) j d).body ≡ (if t then process_of x.body else rest)
body-step true i zero o x xs d rest low more e = refl
body-step true i (suc j) o x xs d rest low more e = let same : i ≡ i + suc j = cc in absurd (omega arith)
body-step false i zero o x xs d rest low more e = let past = low e in absurd (omega arith)
body-step false i (suc j) o x xs d rest low more e = let at : i + suc j ≡ i + 1 + j = omega arith in more j (e ∙ ap Some at)

pub found_body : (i : ℕ) (ds : List Definition) (c : Name) (j : ℕ) (d : Definition) → place_from i ds c.0 ≡ Some (i + j) → process_of (get_or ds j d).body ≡ body_of (definitions_of ds) c
found_body i [] c j d e = cc
found_body i (x ∷ xs) c j d e =
    body-step (nat_eq c.0 x.name.0) i j (place_from (i + 1) xs c.0) x xs d (body_of (definitions_of xs) c) (λ h. (found_within (i + 1) xs c.0 (i + j) h).0) (λ j' h. found_body (i + 1) xs c j' d h) e
    ∙ ap (λ t. if t then process_of x.body else body_of (definitions_of xs) c) (sym (same-test c.0 x.name.0 (nat_eq c.0 x.name.0) refl))

-- what is not found has no definition
none-step : (t : Bool) (i : ℕ) (o : Option ℕ) (here rest : Process) → (o ≡ None → rest ≡ Nil) → cond t (Some i) o ≡ None → (if t then here else rest) ≡ Nil
none-step true i o here rest more e = cc
none-step false i o here rest more e = more e

pub found_none : (i : ℕ) (ds : List Definition) (c : Name) → place_from i ds c.0 ≡ None → body_of (definitions_of ds) c ≡ Nil
found_none i [] c e = refl
found_none i (x ∷ xs) c e =
    ap (λ t. if t then process_of x.body else body_of (definitions_of xs) c) (same-test c.0 x.name.0 (nat_eq c.0 x.name.0) refl)
    ∙ none-step (nat_eq c.0 x.name.0) i (place_from (i + 1) xs c.0) (process_of x.body) (body_of (definitions_of xs) c) (found_none (i + 1) xs c) e
