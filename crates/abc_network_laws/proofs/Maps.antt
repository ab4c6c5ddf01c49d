-- Looking up in a stored map, after it gained or lost an item.
use Rattle.std.proofs.Common.{◌≡◌, ℕ, List, [], ◌∷◌, refl, sym, ◌∙◌, subst, arith, inl, inr}
use Rattle.std.specs.Prelude.{Option, Some, None}
use Rattle.std.proofs.lemmas.Bool.{eq-eqb, ne_eqb, cases_eq}
use Rattle.abc_wait.specs.Waits.{item_beside}
use Rattle.abc_wait.specs.Changes.{put}
use Rattle.abc_network.specs.Stored.{Gains, Loses}

-- A changed map at the number that changed,
put-same : {X : Type 0} (f : ℕ → Option X) (k n : ℕ) (o : Option X) → k ≡ n → put f k o n ≡ o
put-same f k n o e = rw (eq-eqb n k (sym e)) refl

-- and at another.
put-other : {X : Type 0} (f : ℕ → Option X) (k n : ℕ) (o : Option X) → (k ≡ n → ⊥) →
    put f k o n ≡ f n
put-other f k n o e = rw (ne_eqb n k (λ s. e (sym s))) refl

-- What was stored is found,
pub gained-same : {X : Type 0} (k n : ℕ) (c : X) (old new : List (ℕ × X)) → Gains old k c new →
    k ≡ n → item_beside new n ≡ Some c
gained-same k n c old new g e = g.items n ∙ put-same (item_beside old) k n (Some c) e

-- all else is as it was,
pub gained-other : {X : Type 0} (k n : ℕ) (c : X) (old new : List (ℕ × X)) → Gains old k c new →
    (k ≡ n → ⊥) → item_beside new n ≡ item_beside old n
gained-other k n c old new g e = g.items n ∙ put-other (item_beside old) k n (Some c) e

-- what was taken is not found,
pub lost-same : {X : Type 0} (k n : ℕ) (old new : List (ℕ × X)) → Loses old k new → k ≡ n →
    item_beside new n ≡ None
lost-same k n old new g e = g.items n ∙ put-same (item_beside old) k n None e

-- and all else is as it was.
pub lost-other : {X : Type 0} (k n : ℕ) (old new : List (ℕ × X)) → Loses old k new → (k ≡ n → ⊥) →
    item_beside new n ≡ item_beside old n
lost-other k n old new g e = g.items n ∙ put-other (item_beside old) k n None e

-- A fact of all items stays, where it holds of the new one.
pub gained-each : {X : Type 0} (P : ℕ → X → Type 0) (k : ℕ) (c : X) (old new : List (ℕ × X)) →
    Gains old k c new → P k c → ((n : ℕ) (x : X) → item_beside old n ≡ Some x → P n x) →
    (n : ℕ) (x : X) → item_beside new n ≡ Some x → P n x
gained-each P k c old new g p h n x at = elim (cases_eq k n) [
  | inl e ↦ (let same = gained-same k n c old new g e in let c' : c ≡ x = cc in
      subst (λ v. P v x) e (subst (λ v. P k v) c' p))
  | inr e ↦ h n x (sym (gained-other k n c old new g e) ∙ at)
]

-- A fact of all items but the one that was lost.
pub lost-each : {X : Type 0} (P Q : ℕ → X → Type 0) (k : ℕ) (old new : List (ℕ × X)) →
    Loses old k new → ((n : ℕ) (x : X) → (k ≡ n → ⊥) → P n x → Q n x) →
    ((n : ℕ) (x : X) → item_beside old n ≡ Some x → P n x) → (n : ℕ) (x : X) →
    item_beside new n ≡ Some x → Q n x
lost-each P Q k old new g f h n x at = elim (cases_eq k n) [
  | inl e ↦ (let none = lost-same k n old new g e in absurd (cc))
  | inr e ↦ f n x e (h n x (sym (lost-other k n old new g e) ∙ at))
]

-- An item in front of a list is stored.
pub gains-front : {X : Type 0} (k : ℕ) (c : X) (old : List (ℕ × X)) → Gains old k c ((k, c) ∷ old)
gains-front k c old = record {
  items = λ n. elim (cases_eq k n) [
    | inl e ↦ (rw (eq-eqb k n e) refl) ∙ sym (put-same (item_beside old) k n (Some c) e)
    | inr e ↦ (rw (ne_eqb k n e) refl) ∙ sym (put-other (item_beside old) k n (Some c) e)
  ];
  count = omega arith;
}

-- A list under whose numbers nothing is found is empty.
pub empty-map : {X : Type 0} (es : List (ℕ × X)) →
    ((n : ℕ) (x : X) → item_beside es n ≡ Some x → ⊥) → es ≡ []
empty-map [] h = refl
empty-map (e ∷ es) h = absurd (h e.0 e.1 (rw (eq-eqb e.0 e.0 refl) refl))
