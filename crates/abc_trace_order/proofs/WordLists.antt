-- Words that have numbers, as more are met.
use Rattle.std.proofs.Common.{◌≡◌, ℕ, zero, suc, ◌+◌, ◌≤◌, ◌<◌, Bool, true, false, cond, List, [], ◌∷◌, ◌++◌, length, map, All, refl, sym, ap, ◌∙◌, subst, append_assoc, append-nil, length-append, one-add, arith}
use Rattle.std.specs.Prelude.{◌||◌, not, if◌then◌else◌, fold, slice_get}
use Rattle.std.specs.Option.{option_map_or}
use Rattle.std.specs.Str.{bytes_eq}
use Rattle.std.proofs.lemmas.Slice.Eq.{bytes_eq-Decides}
use Rattle.std.proofs.lemmas.List.{map-append}
use Rattle.std.proofs.lemmas.List.Sums.{fold-append}
use Rattle.std.proofs.lemmas.List.Elements.{All-nil, All-cons, All-tail, All-append}
use Rattle.abc_pred.specs.declared.names.Name.{Name}
use Rattle.abc_text.specs.Meanings.{has_word, with_word, number_in, AreNew, AreDifferent}
use Rattle.abc_text.specs.Spelling.{IsWordSpelling}
use Rattle.abc_text.proofs.Growing.{with_word_has, number_below, number_given}
use Rattle.abc_printed.specs.Parts.{word_at}
use Rattle.abc_trace.specs.WellFormed.{IsName, IsNamed}
use Rattle.abc_trace.specs.Met.{with_words}
use Rattle.abc_trace_order.specs.Lines.{worded}
use Rattle.abc_trace_order.specs.Reading.{AreNumbered}

-- ---- the list of words grows
one_grows : (known : List (List ℕ)) (word : List ℕ) → (more : List (List ℕ)) × (with_word known word ≡ known ++ more)
one_grows known word = by (has_word known word)
  where
    by : (b : Bool) → (more : List (List ℕ)) × ((if b then known else known ++ word ∷ []) ≡ known ++ more)
    by true = ([], sym (append-nil known))
    by false = (word ∷ [], refl)

pub words_grow : (known met : List (List ℕ)) → (more : List (List ℕ)) × (with_words known met ≡ known ++ more)
words_grow known [] = ([], sym (append-nil known))
words_grow known (w ∷ met) =
    let here = one_grows known w in
    let rest = words_grow (with_word known w) met in
    (here.0 ++ rest.0, rest.1 ∙ ap (λ (ws : List (List ℕ)). ws ++ rest.0) here.1 ∙ append_assoc known here.0 rest.0)

pub one_length : (known : List (List ℕ)) (word : List ℕ) → length (with_word known word) ≤ length known + 1
one_length known word = by (has_word known word)
  where
    by : (b : Bool) → length (if b then known else known ++ word ∷ []) ≤ length known + 1
    by true = omega arith
    by false = omega (arith, length-append {A = List ℕ} known (word ∷ []))

-- by no more than were met
pub words_length : (known met : List (List ℕ)) → length (with_words known met) ≤ length known + length met
words_length known [] = omega arith
words_length known (w ∷ met) =
    let here = one_length known w in
    let rest = words_length (with_word known w) met in
    omega (arith, here, rest)

-- what holds of all that had numbers, and of all that were met, holds of all
pub words_all : (P : List ℕ → Type 0) (known met : List (List ℕ)) → All P known → All P met → All P (with_words known met)
words_all P known [] h g = h
words_all P known (w ∷ met) h g = words_all P (with_word known w) met (by (has_word known w)) (All-tail P w met g)
  where
    by : (b : Bool) → All P (if b then known else known ++ w ∷ [])
    by true = h
    by false = All-append P known (w ∷ []) h (All-cons P w [] (g 0 w (omega arith)) (All-nil P))

new_last : (known xs : List (List ℕ)) (word : List ℕ) → AreNew known xs → has_word (known ++ xs) word ≡ false → AreNew known (xs ++ word ∷ [])
new_last known [] word h e = (rw append-nil at e, tt)
new_last known (x ∷ xs) word h e = (h.0, new_last (known ++ x ∷ []) xs word h.1 (rw (append_assoc known (x ∷ []) xs) e))

-- one word more, where it is new
pub different_more : (words : List (List ℕ)) (word : List ℕ) → AreDifferent words → has_word words word ≡ false → AreDifferent (words ++ word ∷ [])
different_more words word h e = new_last [] words word h e

-- they stay different
pub words_different : (known met : List (List ℕ)) → AreDifferent known → AreDifferent (with_words known met)
words_different known [] h = h
words_different known (w ∷ met) h = words_different (with_word known w) met (by (has_word known w) refl)
  where
    by : (b : Bool) → has_word known w ≡ b → AreDifferent (if b then known else known ++ w ∷ [])
    by true e = h
    by false e = new_last [] known w h e

-- first some words, then others
pub words_append : (known xs ys : List (List ℕ)) → with_words known (xs ++ ys) ≡ with_words (with_words known xs) ys
words_append known xs ys = fold-append with_word known xs ys

-- ---- the word at a number
get_stays : {A : Type 0} (xs ys : List A) (n : ℕ) → n < length xs → slice_get (xs ++ ys) n ≡ slice_get xs n
get_stays [] ys n h = absurd (omega (arith, h))
get_stays (x ∷ xs) ys zero h = refl
get_stays (x ∷ xs) ys (suc n) h = get_stays xs ys n (omega (arith, h))

pub word_stays : (words more : List (List ℕ)) (n : Name) → n.0 < length words → word_at (words ++ more) n ≡ word_at words n
word_stays words more n h = ap (λ o. option_map_or (λ word. word) o []) (get_stays words more n.0 h)

-- the word of a number that was given
found : (words : List (List ℕ)) (word : List ℕ) → has_word words word ≡ true → option_map_or (λ w. w) (slice_get words (number_in words word)) [] ≡ word
found [] word h = absurd (let e : false ≡ true = h in cc)
found (w ∷ ws) word h = by (bytes_eq word w) refl h (found ws word)
  where
    by :
        (b : Bool) → bytes_eq word w ≡ b → (b || has_word ws word) ≡ true →
        (has_word ws word ≡ true → option_map_or (λ (w : List ℕ). w) (slice_get ws (number_in ws word)) [] ≡ word) →
        option_map_or (λ (w : List ℕ). w) (slice_get (w ∷ ws) (cond (not b) (1 + number_in ws word) 0)) [] ≡ word
    by true is e rest = sym ((bytes_eq-Decides word w).0 is)
    by false is e rest = rw one-add (rest e)

pub word_given :
    (known : List (List ℕ)) (word : List ℕ) (n : ℕ) (known' : List (List ℕ)) → n ≡ number_in known word → known' ≡ with_word known word →
    word_at known' (record { 0 = n }) ≡ word
word_given known word n known' is grown =
    (λ i. word_at (grown i) (record { 0 = is i }))
    ∙ ap (λ (m : ℕ). word_at (with_word known word) (record { 0 = m })) (sym (number_given known word))
    ∙ found (with_word known word) word (with_word_has known word)

-- and it is one of theirs
pub below_given :
    (known : List (List ℕ)) (word : List ℕ) (n : ℕ) (known' : List (List ℕ)) → n ≡ number_in known word → known' ≡ with_word known word →
    n < length known'
below_given known word n known' is grown =
    let low = number_below (with_word known word) word (with_word_has known word) in
    let same = number_given known word in
    omega (arith, low, same, is, ap (length {A = List ℕ}) grown)

-- ---- items with names
-- Items in words stay so.
pub worded_stays :
    {B : Type 0} (words more : List (List ℕ)) (items : List (Name × B)) → All (λ e. e.0.0 < length words) items →
    worded (words ++ more) items ≡ worded words items
worded_stays words more [] h = refl
worded_stays words more (e ∷ items) h =
    let here = word_stays words more e.0 (h 0 e (omega arith)) in
    let rest = worded_stays words more items (All-tail (λ e. e.0.0 < length words) e items h) in
    λ i. (here i, e.1) ∷ rest i

pub numbered_none : {B : Type 0} (known : List (List ℕ)) → AreNumbered {B = B} known [] known []
numbered_none known = record { met = refl; words = refl; below = All-nil (λ e. e.0.0 < length known) }

-- one item more
pub numbered_more :
    {B : Type 0} (known : List (List ℕ)) (items : List (List ℕ × B)) (known' : List (List ℕ)) (named : List (Name × B)) (word : List ℕ) (b : B)
    (n : ℕ) (known'' : List (List ℕ)) → AreNumbered known items known' named → n ≡ number_in known' word → known'' ≡ with_word known' word →
    AreNumbered known (items ++ (word, b) ∷ []) known'' (named ++ (record { 0 = n }, b) ∷ [])
numbered_more {B} known items known' named word b n known'' h is grown =
    let more = one_grows known' word in
    let longer : known'' ≡ known' ++ more.0 = grown ∙ more.1 in
    let stay : worded known'' named ≡ worded known' named =
    ap (λ (ws : List (List ℕ)). worded ws named) longer ∙ worded_stays known' more.0 named h.below in
    let given = word_given known' word n known'' is grown in
    let low = below_given known' word n known'' is grown in
    record {
      met = grown ∙ ap (λ (ws : List (List ℕ)). with_word ws word) h.met
          ∙ sym (words_append known (map (λ (e : List ℕ × B). e.0) items) (word ∷ []))
          ∙ ap (with_words known) (sym (map-append (λ (e : List ℕ × B). e.0) items ((word, b) ∷ [])));
      words = map-append (λ (e : Name × B). (word_at known'' e.0, e.1)) named ((record { 0 = n }, b) ∷ [])
          ∙ (λ i. (stay ∙ h.words) i ++ (given i, b) ∷ []);
      below = All-append (λ e. e.0.0 < length known'') named ((record { 0 = n }, b) ∷ [])
          (λ k d lt. let low' = h.below k d lt in omega (arith, low', ap (length {A = List ℕ}) longer, length-append {A = List ℕ} known' more.0))
          (All-cons (λ e. e.0.0 < length known'') (record { 0 = n }, b) [] low (All-nil (λ e. e.0.0 < length known'')));
    }
