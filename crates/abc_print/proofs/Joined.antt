-- The bytes of parts that are joined, repeated, listed, and in brackets.
use Rattle.std.proofs.Common.{◌≡◌, ℕ, ◌≤◌, true, false, List, [], ◌∷◌, ◌++◌, map, flat_map, nat_lt, if◌then◌else◌, refl, ap, sym, ◌∙◌}
use Rattle.std.proofs.Common.{append_assoc, append-nil, arith, Bool}
use Rattle.std.proofs.lemmas.Grind.{flat_map-append}
use Rattle.std.proofs.lemmas.List.Folds.{flat_map-map}
use Rattle.std.proofs.lemmas.Bool.{le-ltb}
use Rattle.abc_text.specs.declared.words.Mark.{Mark}
use Rattle.abc_text.specs.Words.{mark_text}
use Rattle.abc_printed.specs.Parts.{Part, mark, behind_comma, listed, bracketed, part_bytes, bytes_of}
use Rattle.abc_printed.specs.Forms.{spaced}

-- parts behind parts
pub bytes-append : (words : List (List ℕ)) (ps qs : List Part) → bytes_of words (ps ++ qs) ≡ bytes_of words ps ++ bytes_of words qs
bytes-append words ps qs = flat_map-append (part_bytes words) ps qs

-- the parts of each item in turn
pub bytes-flat :
    {A : Type 0} (words : List (List ℕ)) (print : A → List Part) (items : List A)
    → bytes_of words (flat_map print items) ≡ flat_map (λ a. bytes_of words (print a)) items
bytes-flat words print [] = refl
bytes-flat words print (a ∷ items) =
    bytes-append words (print a) (flat_map print items) ∙ ap (λ rest. bytes_of words (print a) ++ rest) (bytes-flat words print items)

-- the same where the items stand for others
pub bytes-flat-map :
    {A B : Type 0} (words : List (List ℕ)) (print : B → List Part) (f : A → B) (items : List A)
    → bytes_of words (flat_map print (map f items)) ≡ flat_map (λ a. bytes_of words (print (f a))) items
bytes-flat-map words print f items = bytes-flat words print (map f items) ∙ flat_map-map (λ b. bytes_of words (print b)) f items

-- the first item of a list, and the others, each behind a comma
pub bytes-listed :
    {A B : Type 0} (words : List (List ℕ)) (print : B → List Part) (f : A → B) (a : A) (items : List A)
    → bytes_of words (listed print (f a ∷ map f items))
    ≡ bytes_of words (print (f a)) ++ flat_map (λ x. bytes_of words (behind_comma print (f x))) items
bytes-listed words print f a items =
    bytes-append words (print (f a)) (flat_map (behind_comma print) (map f items))
    ∙ ap (λ rest. bytes_of words (print (f a)) ++ rest) (bytes-flat-map words (behind_comma print) f items)

-- three in a row
pub bytes-three :
    (words : List (List ℕ)) (ps qs rs : List Part)
    → bytes_of words (ps ++ qs ++ rs) ≡ bytes_of words ps ++ (bytes_of words qs ++ bytes_of words rs)
bytes-three words ps qs rs =
    bytes-append words (ps ++ qs) rs
    ∙ ap (λ front. front ++ bytes_of words rs) (bytes-append words ps qs)
    ∙ append_assoc (bytes_of words ps) (bytes_of words qs) (bytes_of words rs)

-- one part alone
pub bytes-alone : (words : List (List ℕ)) (p : Part) → bytes_of words (p ∷ []) ≡ part_bytes words p
bytes-alone words p = append-nil (part_bytes words p)

-- ---- brackets
-- the bytes of a bracket, where it is due
abbrev pub due : Bool → Mark → List ℕ
due is_due m = if is_due then mark_text m else []

around :
    (words : List (List ℕ)) (opener closer : Mark) (parts : List Part) (is_due : Bool)
    → bytes_of words (if is_due then mark opener ∷ parts ++ mark closer ∷ [] else parts)
    ≡ due is_due opener ++ (bytes_of words parts ++ due is_due closer)
around words opener closer parts true =
    ap (λ inner. mark_text opener ++ inner)
    (bytes-append words parts (mark closer ∷ []) ∙ ap (λ end. bytes_of words parts ++ end) (append-nil (mark_text closer)))
around words opener closer parts false = sym (append-nil (bytes_of words parts))

-- two sides in brackets, where these are due
pub bytes-sides :
    (words : List (List ℕ)) (opener closer : Mark) (between : Part) (asked grade : ℕ) (ps qs : List Part)
    → bytes_of words (bracketed opener closer asked grade (ps ++ spaced between ++ qs))
    ≡ due (nat_lt grade asked) opener
    ++ (bytes_of words ps ++ (bytes_of words (spaced between) ++ (bytes_of words qs ++ due (nat_lt grade asked) closer)))
bytes-sides words opener closer between asked grade ps qs =
    around words opener closer (ps ++ spaced between ++ qs) (nat_lt grade asked)
    ∙ ap (λ inner. due (nat_lt grade asked) opener ++ inner)
    (ap (λ middle. middle ++ due (nat_lt grade asked) closer) (bytes-three words ps (spaced between) qs)
    ∙ append_assoc (bytes_of words ps) (bytes_of words (spaced between) ++ bytes_of words qs) (due (nat_lt grade asked) closer)
    ∙ ap (λ rest. bytes_of words ps ++ rest) (append_assoc (bytes_of words (spaced between)) (bytes_of words qs) (due (nat_lt grade asked) closer)))

-- a part of the highest grade has no brackets, since no place asks more
pub bracketed-highest : (opener closer : Mark) (asked : ℕ) (parts : List Part) → asked ≤ 2 → bracketed opener closer asked 2 parts ≡ parts
bracketed-highest opener closer asked parts h = ap (λ t. if t then mark opener ∷ parts ++ mark closer ∷ [] else parts) (le-ltb 2 asked h)

-- nor has any part at a place that asks nothing
pub bracketed-lowest : (opener closer : Mark) (grade : ℕ) (parts : List Part) → bracketed opener closer 0 grade parts ≡ parts
bracketed-lowest opener closer grade parts = ap (λ t. if t then mark opener ∷ parts ++ mark closer ∷ [] else parts) (le-ltb grade 0 (omega arith))

-- what three calls have appended, one behind another
pub appended-three :
    (o n₁ n₂ n₃ a b c all : List ℕ) → n₁ ≡ o ++ a → n₂ ≡ n₁ ++ b → all ≡ a ++ (b ++ c) → n₃ ≡ n₂ ++ c → n₃ ≡ o ++ all
appended-three o n₁ n₂ n₃ a b c all e₁ e₂ e e₃ =
    e₃ ∙ ap (λ n. n ++ c) (e₂ ∙ ap (λ n. n ++ b) e₁) ∙ append_assoc (o ++ a) b c ∙ append_assoc o a (b ++ c) ∙ ap (λ text. o ++ text) (sym e)
