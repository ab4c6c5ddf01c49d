-- The choices of numbers as a list, of which one is changed.
use Rattle.std.proofs.Common.{◌≡◌, ℕ, zero, suc, ◌+◌, ◌-◌, ◌<◌, ◌≤◌, List, [], ◌∷◌, length}
use Rattle.std.proofs.Common.{refl, ap, ◌∙◌, sym, arith, get_or, eq-eqb, ne_eqb}
use Rattle.std.specs.Prelude.{slice_set, if◌then◌else◌, Result, Ok, Err, OnOk}
use Rattle.abc_packet.specs.declared.choice.Choice.{Choice}
use Rattle.abc_merge.specs.Telling.{changed_at}

-- What follows from what Ok brings, Ok brings.
pub on-ok : {X E P Q : Type 0} (r : Result X E) → (P → Q) → OnOk r P → OnOk r Q
on-ok (Ok x) f h = f h
on-ok (Err e) f h = tt

-- Nothing is changed at a number below those of the list.
changed_below : (change : Choice → Choice) (number n : ℕ) (rows : List Choice) → number < n →
    changed_at change number n rows ≡ rows
changed_below change number n [] lt = refl
changed_below change number n (c ∷ rows) lt =
    ap (λ b. (if b then change c else c) ∷ changed_at change number (n + 1) rows)
    (ne_eqb number n (λ e. omega (arith, e, lt)))
    ∙ ap (λ l. c ∷ l) (changed_below change number (n + 1) rows (omega arith))

-- The choice at its place is changed.
set_from : (change : Choice → Choice) (k n number : ℕ) (rows : List Choice) (d : Choice) →
    number ≡ n + k → k < length rows →
    slice_set rows k (change (get_or rows k d)) ≡ changed_at change number n rows
set_from change k n number [] d at lt = absurd (omega arith)
set_from change zero n number (c ∷ rows) d at lt =
    let same : number ≡ n = omega (arith, at) in
    sym (ap (λ b. (if b then change c else c) ∷ changed_at change number (n + 1) rows) (eq-eqb number n same)
    ∙ ap (λ l. change c ∷ l) (changed_below change number (n + 1) rows (omega arith)))
set_from change (suc k) n number (c ∷ rows) d at lt =
    sym (ap (λ b. (if b then change c else c) ∷ changed_at change number (n + 1) rows)
    (ne_eqb number n (λ e. omega (arith, e, at)))
    ∙ ap (λ l. c ∷ l) (sym (set_from change k (n + 1) number rows d (omega (arith, at)) (omega (arith, lt)))))

pub set_at : (change : Choice → Choice) (number : ℕ) (rows : List Choice) (d : Choice) →
    0 < number → number ≤ length rows →
    slice_set rows (number - 1) (change (get_or rows (number - 1) d)) ≡ changed_at change number 1 rows
set_at change number rows d above within =
    set_from change (number - 1) 1 number rows d (omega arith) (omega arith)
