-- A run of bytes at the front is cut off in one way.
use Rattle.std.proofs.Common.{◌≡◌, ℕ, Bool, true, false, List, [], ◌∷◌, ◌++◌, refl, sym, ◌∙◌, subst}
use Rattle.std.specs.List.{AllPass}
use Rattle.std.proofs.lemmas.List.Elements.{All-head, All-tail}
use Rattle.abc_trace_lines.specs.Fronts.{StopsAt, IsCut}

-- a byte that passes is none that stops
no_stop : (p : ℕ → Bool) (b : ℕ) → p b ≡ true → p b ≡ false → ⊥
no_stop p b e f = absurd (let h : true ≡ false = sym e ∙ f in cc)

-- Two runs, each as long as it can be, are one.
pub run_split : (p : ℕ → Bool) (f g r s : List ℕ) → AllPass p f → AllPass p g → StopsAt p r →
    StopsAt p s → f ++ r ≡ g ++ s → (f ≡ g) × (r ≡ s)
run_split p [] [] r s h k u v e = (refl, e)
run_split p [] (c ∷ g) r s h k u v e =
    absurd (no_stop p c (All-head (λ x. p x ≡ true) c g k) (subst (StopsAt p) e u))
run_split p (b ∷ f) [] r s h k u v e =
    absurd (no_stop p b (All-head (λ x. p x ≡ true) b f h) (subst (StopsAt p) (sym e) v))
run_split p (b ∷ f) (c ∷ g) r s h k u v e =
    let first : b ≡ c = cc in
    let behind : f ++ r ≡ g ++ s = cc in
    let more = run_split p f g r s (All-tail (λ x. p x ≡ true) b f h)
    (All-tail (λ x. p x ≡ true) c g k) u v behind in
    ((λ i. first i ∷ more.0 i), more.1)

-- So there is one cut.
pub cut_one : (p : ℕ → Bool) (bytes f g r s : List ℕ) → IsCut p bytes f r → IsCut p bytes g s →
    (f ≡ g) × (r ≡ s)
cut_one p bytes f g r s a b =
    run_split p f g r s a.passes b.passes a.stops b.stops (sym a.text ∙ b.text)
