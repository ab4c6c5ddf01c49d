-- Different words: each stands at its number alone, so different names have different words.
use Rattle.std.proofs.Common.{◌≡◌, ◌<◌, ◌∙◌, ℕ, zero, suc, ◌+◌, Bool, true, false, cond, List, [], ◌∷◌, ◌++◌, length, slice_get, Option, Some, refl, sym, ap, subst, arith}
use Rattle.std.specs.Prelude.{◌||◌, not}
use Rattle.std.specs.Option.{option_map_or}
use Rattle.std.specs.Str.{bytes_eq}
use Rattle.std.proofs.lemmas.Slice.Eq.{bytes_eq-Decides}
use Rattle.std.proofs.lemmas.List.Folds.{list_any-append}
use Rattle.abc_pred.specs.declared.names.Name.{Name}
use Rattle.abc_text.specs.Meanings.{has_word, number_in, AreNew, AreDifferent}
use Rattle.abc_printed.specs.Parts.{word_at}

-- ---- parts of a test
left_false : (a b : Bool) → (a || b) ≡ false → a ≡ false
left_false true b h = h
left_false false b h = refl

right_false : (a b : Bool) → (a || b) ≡ false → b ≡ false
right_false true b h = absurd (let e : true ≡ false = h in cc)
right_false false b h = h

-- ---- words at their numbers
-- None of different words is one that was known before.
new_unknown : (known words : List (List ℕ)) → AreNew known words → (k : ℕ) (w : List ℕ) →
    slice_get words k ≡ Some w → has_word known w ≡ false
new_unknown known [] new k w at = cc
new_unknown known (x ∷ words) new zero w at = let same : x ≡ w = cc in
    subst (λ (v : List ℕ). has_word known v ≡ false) same new.0
new_unknown known (x ∷ words) new (suc k) w at =
    left_false (has_word known w) (has_word (x ∷ []) w)
    (sym (list_any-append (bytes_eq w) known (x ∷ [])) ∙
    new_unknown (known ++ x ∷ []) words new.1 k w at)

-- The number of a word among different words.
pub record HasNumber (words : List (List ℕ)) (k : ℕ) (w : List ℕ) : Type 0 where
  pub known : has_word words w ≡ true
  pub number : number_in words w ≡ k

number_at : (known words : List (List ℕ)) → AreNew known words → (k : ℕ) (w : List ℕ) →
    slice_get words k ≡ Some w → HasNumber words k w
number_at known [] new k w at = cc
number_at known (x ∷ words) new zero w at =
    let same : x ≡ w = cc in
    let e : bytes_eq w x ≡ true = (bytes_eq-Decides w x).1 (sym same) in
    record {
      known = ap (λ (b : Bool). b || has_word words w) e;
      number = ap (λ (b : Bool). cond (not b) (1 + number_in words w) 0) e;
    }
number_at known (x ∷ words) new (suc k) w at =
    let other : has_word (known ++ x ∷ []) w ≡ false =
    new_unknown (known ++ x ∷ []) words new.1 k w at in
    let e : bytes_eq w x ≡ false =
    left_false (bytes_eq w x) false
    (right_false (has_word known w) (has_word (x ∷ []) w)
    (sym (list_any-append (bytes_eq w) known (x ∷ [])) ∙ other)) in
    let rest = number_at (known ++ x ∷ []) words new.1 k w at in
    let n = rest.number in
    record {
      known = ap (λ (b : Bool). b || has_word words w) e ∙ rest.known;
      number = ap (λ (b : Bool). cond (not b) (1 + number_in words w) 0) e ∙ (omega (arith, n));
    }

some_word : (words : List (List ℕ)) (k : ℕ) → k < length words →
    (w : List ℕ) × (slice_get words k ≡ Some w)
some_word [] k lt = absurd (omega (arith, lt))
some_word (x ∷ words) zero lt = (x, refl)
some_word (x ∷ words) (suc k) lt = some_word words k (omega (arith, lt))

-- The word of a name has that name's number.
pub word_number : (words : List (List ℕ)) → AreDifferent words → (n : Name) → n.0 < length words →
    HasNumber words n.0 (word_at words n)
word_number words different n lt =
    let some = some_word words n.0 lt in
    let is : word_at words n ≡ some.0 =
    ap (λ (o : Option (List ℕ)). option_map_or (λ word. word) o []) some.1 in
    subst (HasNumber words n.0) (sym is) (number_at [] words different n.0 some.0 some.1)

-- Names with the same word are the same.
pub same_word : (words : List (List ℕ)) → AreDifferent words → (m n : Name) → m.0 < length words →
    n.0 < length words →
    word_at words m ≡ word_at words n → m.0 ≡ n.0
same_word words different m n lm ln e =
    sym (word_number words different m lm).number ∙ ap (number_in words) e ∙
    (word_number words different n ln).number
