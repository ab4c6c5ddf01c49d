-- Lists of links, as they are made.
use Rattle.std.proofs.Common.{◌≡◌, ℕ, zero, suc, ◌+◌, ◌<◌, List, [], ◌∷◌, ◌++◌, length, refl, sym, ap, ◌∙◌, subst, arith, inl, inr, length-append}
use Rattle.std.specs.Prelude.{◌⊎◌, ◌==◌, ◌&&◌, true, false, Some, None, slice_get, unwrap_or}
use Rattle.std.proofs.lemmas.Bool.{eqb-true, eq-eqb, and_parts}
use Rattle.std.proofs.lemmas.Option.{slice_get-get_or}
use Rattle.abc_shape.specs.declared.layout.Layout.{Layout}
use Rattle.abc_shape.specs.declared.layout.LinkEnds.{LinkEnds}
use Rattle.abc_shape.specs.Plans.{IsLayout, IsLink, link_count, ListsLinks}
use Rattle.abc_shape.proofs.Rows.{ends, row, row-is, row-below}

-- The rows so far: each place of the list has the row of its number.
abbrev pub HasRows : Layout → List LinkEnds → Type 0
HasRows p es = (n : ℕ) (e : LinkEnds) → slice_get es n ≡ Some e → IsLink p n e.from e.to

slice_get-snoc : {A : Type 0} → (xs : List A) (x y : A) (n : ℕ) → slice_get (xs ++ x ∷ []) n ≡ Some y → (slice_get xs n ≡ Some y) ⊎ ((n ≡ length xs) × (x ≡ y))
slice_get-snoc [] x y zero h = inr (refl, cc)
slice_get-snoc [] x y (suc n) h = absurd (cc)
slice_get-snoc (z ∷ xs) x y zero h = inl h
slice_get-snoc (z ∷ xs) x y (suc n) h = elim (slice_get-snoc xs x y n h) [ inl a ↦ inl a | inr (a, b) ↦ inr (omega arith, b) ]

pub none-yet : (p : Layout) → HasRows p []
none-yet p n e h = absurd (cc)

pub one-more : (p : Layout) (es fs : List LinkEnds) (x : LinkEnds) (n : ℕ) → fs ≡ es ++ x ∷ [] → length es ≡ n → HasRows p es → IsLink p n x.from x.to → HasRows p fs
one-more p es fs x n made len had row k e h =
    let h' : slice_get (es ++ x ∷ []) k ≡ Some e = ap (λ xs. slice_get xs k) (sym made) ∙ h in
    elim (slice_get-snoc es x e k h') [
      | inl a ↦ had k e a
      | inr (a, b) ↦ (let at : n ≡ k = omega arith in subst (λ (y : LinkEnds). IsLink p k y.from y.to) b (subst (λ (m : ℕ). IsLink p m x.from x.to) at row))
    ]

-- With all rows of the tables the list has these and no others.
pub all-listed : (p : Layout) (es : List LinkEnds) → IsLayout p → length es ≡ link_count p → HasRows p es → ListsLinks p es
all-listed p es l len had = record {
  count = len;
  rows = λ n e. (
    had n e,
    λ r.
        let below : n < length es = (let b = row-below p n e.from e.to l r in omega arith) in
        let there = slice_get-get_or es n e below in
        let got = had n _ there in
        there ∙ ap Some (sym (row-is p n _ _ got) ∙ row-is p n e.from e.to r),
  );
}

-- A number is found in the list, by the link's ends.
pub found : (p : Layout) (es : List LinkEnds) (n from to : ℕ) (e : LinkEnds) → ListsLinks p es → Some e ≡ slice_get es n → true ≡ (e.from == from && e.to == to) → IsLink p n from to
found p es n from to e l there same =
    let both = and_parts (e.from == from) (e.to == to) (sym same) in
    let got = (l.rows n e).0 (sym there) in
    subst (λ (x : ℕ). IsLink p n from x) (eqb-true e.to to both.1) (subst (λ (x : ℕ). IsLink p n x e.to) (eqb-true e.from from both.0) got)

-- No number is, where the only one that could be has other ends,
pub other-ends : (p : Layout) (es : List LinkEnds) (n from to : ℕ) (e : LinkEnds) → ListsLinks p es → Some e ≡ slice_get es n → false ≡ (e.from == from && e.to == to) → ((m : ℕ) → IsLink p m from to → m ≡ n) → (m : ℕ) → IsLink p m from to → ⊥
other-ends p es n from to e l there differs only m r =
    let here : slice_get es n ≡ Some (ends from to) = ap (slice_get es) (sym (only m r)) ∙ (l.rows m (ends from to)).1 r in
    let same : Some e ≡ Some (ends from to) = there ∙ here in
    let a : e.from ≡ from = ap (λ x. (unwrap_or x e).from) same in
    let b : e.to ≡ to = ap (λ x. (unwrap_or x e).to) same in
    let x : (e.from == from) ≡ true = eq-eqb e.from from a in
    let y : (e.to == to) ≡ true = eq-eqb e.to to b in
    let z : (e.from == from && e.to == to) ≡ true = rw (x, y) refl in cc

-- or isn't there.
pub not-there : (p : Layout) (es : List LinkEnds) (n from to : ℕ) → ListsLinks p es → None ≡ slice_get es n → ((m : ℕ) → IsLink p m from to → m ≡ n) → (m : ℕ) → IsLink p m from to → ⊥
not-there p es n from to l gone only m r =
    let here : slice_get es n ≡ Some (ends from to) = ap (slice_get es) (sym (only m r)) ∙ (l.rows m (ends from to)).1 r in cc

-- A list that an item was put behind is longer by one.
pub length-snoc : (es fs : List LinkEnds) (x : LinkEnds) (n : ℕ) → fs ≡ es ++ x ∷ [] → length es ≡ n → length fs ≡ n + 1
length-snoc es fs x n made len = let e = ap length made ∙ length-append es (x ∷ []) in omega arith
