-- The numbers of words, kept as references to them.
use Rattle.std.proofs.Common.{◌≡◌, ℕ, ◌+◌, Bool, true, false, cond, List, [], ◌∷◌, ◌++◌, map, refl, ap, ◌∙◌}
use Rattle.std.specs.Prelude.{◌||◌, not, if◌then◌else◌}
use Rattle.std.specs.List.{list_any, position_or_len, prefix_len}
use Rattle.std.specs.Str.{bytes_eq}
use Rattle.std.proofs.Common.{Bor}
use Rattle.std.proofs.lemmas.List.{map-append}
use Rattle.abc_text.specs.Meanings.{with_word, number_in}

list_any-map : {A B : Type 0} (f : A → B) (p : B → Bool) (xs : List A) → list_any (λ x. p (f x)) xs ≡ list_any p (map f xs)
list_any-map f p [] = refl
list_any-map f p (x ∷ xs) = ap (λ (b : Bool). p (f x) || b) (list_any-map f p xs)

prefix_len-map : {A B : Type 0} (f : A → B) (p : B → Bool) (xs : List A) → prefix_len (λ x. p (f x)) xs ≡ prefix_len p (map f xs)
prefix_len-map f p [] = refl
prefix_len-map f p (x ∷ xs) = ap (λ (n : ℕ). cond (p (f x)) (1 + n) 0) (prefix_len-map f p xs)

-- the words behind references
abbrev pub words_of : List (Bor (List ℕ)) → List (List ℕ)
words_of ks = map (λ w. w.now) ks

pub words-insert : (ks : List (Bor (List ℕ))) (k : Bor (List ℕ)) → words_of (if list_any (λ w. bytes_eq k.now w.now) ks then ks else ks ++ k ∷ []) ≡ with_word (words_of ks) k.now
words-insert ks k =
    by (list_any (λ (w : Bor (List ℕ)). bytes_eq k.now w.now) ks) ∙ ap (λ (b : Bool). if b then words_of ks else words_of ks ++ k.now ∷ []) (list_any-map (λ (w : Bor (List ℕ)). w.now) (bytes_eq k.now) ks)
  where
    by : (b : Bool) → words_of (if b then ks else ks ++ k ∷ []) ≡ (if b then words_of ks else words_of ks ++ k.now ∷ [])
    by true = refl
    by false = map-append (λ (w : Bor (List ℕ)). w.now) ks (k ∷ [])

pub number-insert : (ks : List (Bor (List ℕ))) (k : Bor (List ℕ)) → position_or_len (λ (w : Bor (List ℕ)). bytes_eq k.now w.now) ks ≡ number_in (words_of ks) k.now
number-insert ks k = prefix_len-map (λ (w : Bor (List ℕ)). w.now) (λ (w : List ℕ). not (bytes_eq k.now w)) ks
