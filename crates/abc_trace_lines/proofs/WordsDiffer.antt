-- Words that are different, one by one.
use Rattle.std.proofs.Common.{◌≡◌, ℕ, ◌+◌, ◌<◌, Bool, true, false, List, [], ◌∷◌, ◌++◌, length, map, take, drop, get_or, refl, sym, ap, ◌∙◌, subst, append_assoc, append-nil}
use Rattle.std.specs.Prelude.{◌||◌, not, if◌then◌else◌}
use Rattle.std.proofs.Common.{Bor}
use Rattle.std.proofs.lemmas.List.{drop_more, take-append-drop, map-append, map_more}
use Rattle.std.specs.List.{list_any}
use Rattle.std.specs.Str.{bytes_eq}
use Rattle.abc_text.specs.Meanings.{has_word, AreNew, AreDifferent}

pub list_any-map : {A B : Type 0} (f : A → B) (p : B → Bool) (xs : List A) →
    list_any (λ x. p (f x)) xs ≡ list_any p (map f xs)
list_any-map f p [] = refl
list_any-map f p (x ∷ xs) = ap (λ (b : Bool). p (f x) || b) (list_any-map f p xs)

-- one more word that none of the others is
pub new_more : (known ws : List (List ℕ)) (w : List ℕ) → AreNew known ws →
    has_word (known ++ ws) w ≡ false → AreNew known (ws ++ w ∷ [])
new_more known [] w h e =
    (subst (λ (ks : List (List ℕ)). has_word ks w ≡ false) (append-nil known) e, tt)
new_more known (v ∷ ws) w h e = (
  h.0,
  new_more (known ++ v ∷ []) ws w h.1
      (subst (λ (ks : List (List ℕ)). has_word ks w ≡ false)
      (sym (append_assoc known (v ∷ []) ws)) e),
)

-- A word that stands among different ones is none of those before it.
pub new_before : (known ws : List (List ℕ)) (w : List ℕ) (more : List (List ℕ)) →
    AreNew known (ws ++ w ∷ more) → has_word (known ++ ws) w ≡ false
new_before known [] w more h =
    subst (λ (ks : List (List ℕ)). has_word ks w ≡ false) (sym (append-nil known)) h.0
new_before known (v ∷ ws) w more h =
    subst (λ (ks : List (List ℕ)). has_word ks w ≡ false) (append_assoc known (v ∷ []) ws)
    (new_before (known ++ v ∷ []) ws w more h.1)

-- ---- words as they are met
-- A word that stands before is seen again.
pub seen_not : {X : Type 0} (f : X → List ℕ) (xs : List X) (i : ℕ) (x : X) → i < length xs →
    x ≡ get_or xs i x → has_word (map f (take i xs)) (f x) ≡ true → ¬ (AreDifferent (map f xs))
seen_not f xs i x lt at seen h =
    let behind : drop i xs ≡ x ∷ drop (i + 1) xs = drop_more xs i x lt
    ∙ ap (λ y. y ∷ drop (i + 1) xs) (sym at) in
    let whole : map f xs ≡ map f (take i xs) ++ f x ∷ map f (drop (i + 1) xs) =
    ap (map f) (sym (take-append-drop i xs) ∙ ap (λ ys. take i xs ++ ys) behind)
    ∙ map-append f (take i xs) (x ∷ drop (i + 1) xs) in
    let new = new_before [] (map f (take i xs)) (f x) (map f (drop (i + 1) xs))
    (subst AreDifferent whole h) in
    let z : true ≡ false = sym seen ∙ new in
    cc

-- the words of one more item
words_more : {X : Type 0} (f : X → List ℕ) (xs : List X) (i : ℕ) (x : X) → i < length xs →
    x ≡ get_or xs i x → map f (take (i + 1) xs) ≡ map f (take i xs) ++ f x ∷ []
words_more f xs i x lt at = map_more f xs i x lt ∙ ap (λ y. map f (take i xs) ++ f y ∷ []) (sym at)

-- A word that is none of those before it is one more.
pub new_so_far : {X : Type 0} (f : X → List ℕ) (xs : List X) (i : ℕ) (x : X) → i < length xs →
    x ≡ get_or xs i x → AreDifferent (map f (take i xs)) →
    has_word (map f (take i xs)) (f x) ≡ false → AreDifferent (map f (take (i + 1) xs))
new_so_far f xs i x lt at h new =
    subst AreDifferent (sym (words_more f xs i x lt at))
    (new_more [] (map f (take i xs)) (f x) h new)

-- ---- words as references
not_back : (a c : Bool) → c ≡ not a → a ≡ not c
not_back true c e = sym (ap not e)
not_back false c e = sym (ap not e)

-- whether the keys have a word, by what adding it answers
pub key_seen : (keys : List (Bor (List ℕ))) (w : Bor (List ℕ)) (b c : Bool) →
    b ≡ not (list_any (λ k. bytes_eq w.now k.now) keys) → b ≡ c →
    has_word (map (λ k. k.now) keys) w.now ≡ not c
key_seen keys w b c e f =
    sym (list_any-map (λ (k : Bor (List ℕ)). k.now) (bytes_eq w.now) keys)
    ∙ not_back (list_any (λ (k : Bor (List ℕ)). bytes_eq w.now k.now) keys) c (sym f ∙ e)

-- a new word is one more key
pub keys_more : (keys new : List (Bor (List ℕ))) (w : Bor (List ℕ)) →
    new ≡ (if list_any (λ k. bytes_eq w.now k.now) keys then keys else keys ++ w ∷ []) →
    has_word (map (λ k. k.now) keys) w.now ≡ false →
    map (λ k. k.now) new ≡ map (λ k. k.now) keys ++ w.now ∷ []
keys_more keys new w e f =
    let none : list_any (λ (k : Bor (List ℕ)). bytes_eq w.now k.now) keys ≡ false = list_any-map
    (λ (k : Bor (List ℕ)). k.now) (bytes_eq w.now) keys ∙ f in
    let added : new ≡ keys ++ w ∷ [] = e
    ∙ ap (λ (b : Bool). if b then keys else keys ++ w ∷ []) none in
    ap (map (λ (k : Bor (List ℕ)). k.now)) added
    ∙ map-append (λ (k : Bor (List ℕ)). k.now) keys (w ∷ [])

pub keys_so_far : {X : Type 0} (f : X →
    List ℕ) (xs : List X) (i : ℕ) (x : X) (words : List (List ℕ)) →
    i < length xs → x ≡ get_or xs i x → words ≡ map f (take i xs) →
    words ++ f x ∷ [] ≡ map f (take (i + 1) xs)
keys_so_far f xs i x words lt at e =
    ap (λ (ws : List (List ℕ)). ws ++ f x ∷ []) e ∙ sym (words_more f xs i x lt at)

-- the words of items, as references and as they are
pub words_kept : {T : Type 0} (xs : List (Bor (List ℕ) × T)) →
    map (λ (e : Bor (List ℕ) × T). e.0.now) xs
    ≡ map (λ (e : List ℕ × T). e.0) (map (λ (e : Bor (List ℕ) × T). (e.0.now, e.1)) xs)
words_kept [] = refl
words_kept (x ∷ xs) = ap (λ (ws : List (List ℕ)). x.0.now ∷ ws) (words_kept xs)
