-- The list of names only grows.
use Rattle.std.proofs.Common.{◌≡◌, ℕ, zero, suc, ◌+◌, ◌<◌, Bool, true, false, List, [], ◌∷◌, ◌++◌, Option, Some, None, length, cond, eqb, eq-eqb, refl, sym, ap, ◌∙◌, subst, append_assoc, append-nil, arith}
use Rattle.std.specs.Prelude.{◌||◌, not, if◌then◌else◌}
use Rattle.std.specs.Str.{bytes_eq}
use Rattle.std.proofs.lemmas.List.Sums.{fold-append}
use Rattle.std.proofs.lemmas.Slice.Eq.{bytes_eq-Decides}
use Rattle.std.proofs.lemmas.List.Folds.{list_any-append, prefix_len-append}
use Rattle.std.proofs.lemmas.Bool.{ne_eqb}
use Rattle.std.specs.List.{prefix_len}
use Rattle.abc_text.specs.declared.lexical.Token.{Token}
use Rattle.abc_text.specs.Meanings.{named, has_word, number_in, with_word, with_named, names_behind, HasName}
use Rattle.abc_text.specs.Laws.{NamesStay, NamedHaveNumbers}

with_word_grows : (words : List (List ℕ)) (word : List ℕ) → (more : List (List ℕ)) × (with_word words word ≡ words ++ more)
with_word_grows words word = by (has_word words word)
  where
    by : (b : Bool) → (more : List (List ℕ)) × ((if b then words else words ++ word ∷ []) ≡ words ++ more)
    by true = ([], sym (append-nil words))
    by false = (word ∷ [], refl)

with_named_grows : (words : List (List ℕ)) (o : Option (List ℕ)) → (more : List (List ℕ)) × (with_named words o ≡ words ++ more)
with_named_grows words None = ([], sym (append-nil words))
with_named_grows words (Some word) = with_word_grows words word

-- the words that have numbers stay, and keep them
pub behind_grows : (bytes : List ℕ) (words : List (List ℕ)) (ts : List Token) → (more : List (List ℕ)) × (names_behind words bytes ts ≡ words ++ more)
behind_grows bytes words [] = ([], sym (append-nil words))
behind_grows bytes words (t ∷ ts) =
    let here = with_named_grows words (named bytes t) in
    let rest = behind_grows bytes (with_named words (named bytes t)) ts in
    (here.0 ++ rest.0, rest.1 ∙ ap (λ (ws : List (List ℕ)). ws ++ rest.0) here.1 ∙ append_assoc words here.0 rest.0)

pub names_stay : NamesStay
names_stay words bytes ts us =
    let grows = behind_grows bytes (names_behind words bytes ts) us in
    (grows.0, fold-append (λ (known : List (List ℕ)) (t : Token). with_named known (named bytes t)) words ts us ∙ grows.1)

bytes_eq_refl : (w : List ℕ) → bytes_eq w w ≡ true
bytes_eq_refl w = (bytes_eq-Decides w w).1 refl

has_more : (words more : List (List ℕ)) (word : List ℕ) → has_word words word ≡ true → has_word (words ++ more) word ≡ true
has_more words more word h = list_any-append (bytes_eq word) words more ∙ ap (λ (b : Bool). b || has_word more word) h

has_last : (words : List (List ℕ)) (word : List ℕ) → has_word (words ++ word ∷ []) word ≡ true
has_last words word = list_any-append (bytes_eq word) words (word ∷ []) ∙ by (has_word words word) (bytes_eq word word) (bytes_eq_refl word)
  where
    by : (a b : Bool) → b ≡ true → (a || (b || false)) ≡ true
    by true b h = refl
    by false b h = ap (λ (c : Bool). c || false) h

pub with_word_has : (words : List (List ℕ)) (word : List ℕ) → has_word (with_word words word) word ≡ true
with_word_has words word = by (has_word words word) refl
  where
    by : (b : Bool) → has_word words word ≡ b → has_word (if b then words else words ++ word ∷ []) word ≡ true
    by true h = h
    by false h = has_last words word

name_kept : (words more : List (List ℕ)) (o : Option (List ℕ)) → HasName words o → HasName (words ++ more) o
name_kept words more None h = tt
name_kept words more (Some word) h = has_more words more word h

name_given : (words : List (List ℕ)) (o : Option (List ℕ)) → HasName (with_named words o) o
name_given words None = tt
name_given words (Some word) = with_word_has words word

pub named_have_numbers : NamedHaveNumbers
named_have_numbers words bytes [] k d h = absurd (omega (arith, h))
named_have_numbers words bytes (t ∷ ts) zero d h =
    let g = behind_grows bytes (with_named words (named bytes t)) ts in
    subst (λ (ws : List (List ℕ)). HasName ws (named bytes t)) (sym g.1)
    (name_kept (with_named words (named bytes t)) g.0 (named bytes t) (name_given words (named bytes t)))
named_have_numbers words bytes (t ∷ ts) (suc k) d h = named_have_numbers (with_named words (named bytes t)) bytes ts k d (omega (arith, h))

-- the number of a word that has one is below their number
pub number_below : (words : List (List ℕ)) (word : List ℕ) → has_word words word ≡ true → number_in words word < length words
number_below [] word h = absurd (let h' : false ≡ true = h in cc)
number_below (w ∷ ws) word h = by (number_below ws word) (bytes_eq word w) h
  where
    by : (has_word ws word ≡ true → number_in ws word < length ws) → (b : Bool) →
        (b || has_word ws word) ≡ true → cond (not b) (1 + number_in ws word) 0 < length (w ∷ ws)
    by more true e = omega arith
    by more false e = let below = more e in omega (arith, below)

-- a word that has no number is given the next
pub number_none : (words : List (List ℕ)) (word : List ℕ) → has_word words word ≡ false → number_in words word ≡ length words
number_none [] word h = refl
number_none (w ∷ ws) word h = by (number_none ws word) (bytes_eq word w) h
  where
    by : (has_word ws word ≡ false → number_in ws word ≡ length ws) → (b : Bool) →
        (b || has_word ws word) ≡ false → cond (not b) (1 + number_in ws word) 0 ≡ length (w ∷ ws)
    by more true e = absurd (let e' : true ≡ false = e in cc)
    by more false e = let rest = more e in omega (arith, rest)

-- the number of a word stays as more words come
pub number_kept : (words more : List (List ℕ)) (word : List ℕ) → has_word words word ≡ true → number_in (words ++ more) word ≡ number_in words word
number_kept words more word h =
    let below = number_below words word h in
    let other : eqb (number_in words word) (length words) ≡ false = ne_eqb _ _ (λ e. omega (arith, below, e)) in
    prefix_len-append (λ (w : List ℕ). not (bytes_eq word w)) words more
    ∙ ap (λ (b : Bool). cond b (length words + prefix_len (λ w. not (bytes_eq word w)) more) (number_in words word)) other

-- and a word that gets a number has the number that it was to get
pub number_given : (words : List (List ℕ)) (word : List ℕ) → number_in (with_word words word) word ≡ number_in words word
number_given words word = by (has_word words word) refl
  where
    by : (b : Bool) → has_word words word ≡ b → number_in (if b then words else words ++ word ∷ []) word ≡ number_in words word
    by true h = refl
    by false h =
        let next = number_none words word h in
        let same : eqb (number_in words word) (length words) ≡ true = eq-eqb _ _ next in
        let last : prefix_len (λ w. not (bytes_eq word w)) (word ∷ []) ≡ 0 = ap (λ (c : Bool). cond (not c) 1 0) (bytes_eq_refl word) in
        prefix_len-append (λ (w : List ℕ). not (bytes_eq word w)) words (word ∷ [])
        ∙ ap (λ (c : Bool). cond c (length words + prefix_len (λ w. not (bytes_eq word w)) (word ∷ [])) (number_in words word)) same
        ∙ omega (arith, last, next)
