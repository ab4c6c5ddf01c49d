-- Bytes split into lines in one way.
use Rattle.std.proofs.Common.{◌≡◌, ℕ, ◌+◌, ◌<◌, List, [], ◌∷◌, ◌++◌, length, All, inl, inr, refl, sym, ap, ◌∙◌, subst, append_assoc, append-nil, length-append, arith}
use Rattle.std.specs.Prelude.{flat_map, ◌⊎◌}
use Rattle.std.proofs.lemmas.List.Elements.{All-nil, All-cons, All-tail}
use Rattle.abc_trace.specs.Lines.{ended}
use Rattle.abc_trace_order.specs.Texts.{IsOneLine, AreWholeLines}

-- a byte that is no line feed
abbrev pub NoFeed : ℕ → Type 0
NoFeed b = ¬ (b ≡ 10)

-- A line that is cut off at its feed is so in one way.
pub one_split : (a b x y : List ℕ) → IsOneLine a → IsOneLine b → a ++ 10 ∷ x ≡ b ++ 10 ∷ y → (a ≡ b) × (x ≡ y)
one_split [] [] x y ha hb e = (refl, cc)
one_split [] (c ∷ b) x y ha hb e = absurd (hb 0 c (omega arith) (let e' : 10 ∷ x ≡ c ∷ (b ++ 10 ∷ y) = e in cc))
one_split (c ∷ a) [] x y ha hb e = absurd (ha 0 c (omega arith) (let e' : c ∷ (a ++ 10 ∷ x) ≡ 10 ∷ y = e in cc))
one_split (c ∷ a) (d ∷ b) x y ha hb e =
    let e' : c ∷ (a ++ 10 ∷ x) ≡ d ∷ (b ++ 10 ∷ y) = e in
    let first : c ≡ d = cc in
    let more : a ++ 10 ∷ x ≡ b ++ 10 ∷ y = cc in
    let rest = one_split a b x y (All-tail NoFeed c a ha) (All-tail NoFeed d b hb) more in
    (λ i. first i ∷ rest.0 i, rest.1)

-- what stands behind the feed of a line
pub behind_ended : (a x : List ℕ) → ended a ++ x ≡ a ++ 10 ∷ x
behind_ended a x = append_assoc a (10 ∷ []) x

-- No bytes are none with a line feed among them.
pub no_feed : (a x : List ℕ) → [] ≡ a ++ 10 ∷ x → ⊥
no_feed [] x e = let e' : [] ≡ 10 ∷ x = e in cc
no_feed (c ∷ a) x e = let e' : [] ≡ c ∷ (a ++ 10 ∷ x) = e in cc

-- ---- many lines
module _ {A : Type 0} (text : A → List ℕ) where
  -- the text of lines
  abbrev pub all_text : List A → List ℕ
  all_text ls = flat_map (λ x. ended (text x)) ls

  -- one behind another
  pub all_text-append : (xs ys : List A) → all_text (xs ++ ys) ≡ all_text xs ++ all_text ys
  all_text-append [] ys = refl
  all_text-append (x ∷ xs) ys =
      ap (λ t. ended (text x) ++ t) (all_text-append xs ys) ∙ sym (append_assoc (ended (text x)) (all_text xs) (all_text ys))

  -- They are whole lines.
  pub are_whole : (ls : List A) → AreWholeLines (all_text ls)
  are_whole [] = inl refl
  are_whole (x ∷ ls) = by (all_text ls) (are_whole ls)
    where
      by : (t : List ℕ) → AreWholeLines t → AreWholeLines (ended (text x) ++ t)
      by t (inl none) = inr (text x, ap (λ u. ended (text x) ++ u) none ∙ append-nil (ended (text x)))
      by t (inr more) =
          inr (ended (text x) ++ more.0, ap (λ u. ended (text x) ++ u) more.1 ∙ sym (append_assoc (ended (text x)) more.0 (10 ∷ [])))

-- ---- lines that their texts fix
-- Behind these lines comes one with this text, and more.
pub record GoOn {A : Type 0} (text : A → List ℕ) (ls us : List A) (line rest : List ℕ) : Type 0 where
  pub next : A
  pub more : List A
  pub whole : us ≡ ls ++ next ∷ more
  pub is : text next ≡ line
  pub behind : rest ≡ all_text text more

module _ {A : Type 0} (text : A → List ℕ) (Good : A → Type 0) (one : (x : A) → Good x → IsOneLine (text x))
    (same : (x y : A) → Good x → Good y → text x ≡ text y → x ≡ y) where
  -- Lines whose text begins with that of others, and goes on with a line, begin with them and go on with it.
  pub go_on :
      (ls us : List A) (line rest : List ℕ) → All Good ls → All Good us → IsOneLine line →
      all_text text us ≡ all_text text ls ++ (line ++ 10 ∷ rest) → GoOn text ls us line rest
  go_on [] [] line rest gl gu o e = absurd (no_feed line rest e)
  go_on [] (u ∷ us) line rest gl gu o e =
      let both = one_split (text u) line (all_text text us) rest (one u (gu 0 u (omega arith))) o (sym (behind_ended (text u) (all_text text us)) ∙ e) in
      record { next = u; more = us; whole = refl; is = both.0; behind = sym both.1 }
  go_on (l ∷ ls) [] line rest gl gu o e =
      absurd (no_feed (text l) (all_text text ls ++ (line ++ 10 ∷ rest))
      (e ∙ append_assoc (ended (text l)) (all_text text ls) (line ++ 10 ∷ rest) ∙ behind_ended (text l) (all_text text ls ++ (line ++ 10 ∷ rest))))
  go_on (l ∷ ls) (u ∷ us) line rest gl gu o e =
      let whole = all_text text ls ++ (line ++ 10 ∷ rest) in
      let first = gl 0 l (omega arith) in
      let other = gu 0 u (omega arith) in
      let both = one_split (text u) (text l) (all_text text us) whole (one u other) (one l first)
      (sym (behind_ended (text u) (all_text text us)) ∙ e ∙ append_assoc (ended (text l)) (all_text text ls) (line ++ 10 ∷ rest)
      ∙ behind_ended (text l) whole) in
      let is : u ≡ l = same u l other first both.0 in
      let rec = go_on ls us line rest (All-tail Good l ls gl) (All-tail Good u us gu) o both.1 in
      record {
        next = rec.next;
        more = rec.more;
        whole = λ i. is i ∷ rec.whole i;
        is = rec.is;
        behind = rec.behind;
      }

  -- Lines with one text are the same.
  pub are_same : (ls us : List A) → All Good ls → All Good us → all_text text us ≡ all_text text ls → us ≡ ls
  are_same [] [] gl gu e = refl
  are_same [] (u ∷ us) gl gu e = absurd (no_feed (text u) (all_text text us) (sym e ∙ behind_ended (text u) (all_text text us)))
  are_same (l ∷ ls) [] gl gu e = absurd (no_feed (text l) (all_text text ls) (e ∙ behind_ended (text l) (all_text text ls)))
  are_same (l ∷ ls) (u ∷ us) gl gu e =
      let first = gl 0 l (omega arith) in
      let other = gu 0 u (omega arith) in
      let both = one_split (text u) (text l) (all_text text us) (all_text text ls) (one u other) (one l first)
      (sym (behind_ended (text u) (all_text text us)) ∙ e ∙ behind_ended (text l) (all_text text ls)) in
      let is : u ≡ l = same u l other first both.0 in
      let rest = are_same ls us (All-tail Good l ls gl) (All-tail Good u us gu) both.1 in
      λ i. is i ∷ rest i

-- ---- fronts of one text
-- what the longer of two fronts has more
pub record Longer (a x b y : List ℕ) : Type 0 where
  pub between : List ℕ
  pub front : b ≡ a ++ between
  pub rest : x ≡ between ++ y
  pub some : 0 < length between

pub longer : (a x b y : List ℕ) → a ++ x ≡ b ++ y → length a < length b → Longer a x b y
longer [] x [] y e lt = absurd (omega (arith, lt))
longer [] x (d ∷ b) y e lt = record { between = d ∷ b; front = refl; rest = e; some = omega arith }
longer (c ∷ a) x [] y e lt = absurd (omega (arith, lt))
longer (c ∷ a) x (d ∷ b) y e lt =
    let e' : c ∷ (a ++ x) ≡ d ∷ (b ++ y) = e in
    let first : d ≡ c = cc in
    let more : a ++ x ≡ b ++ y = cc in
    let rec = longer a x b y more (omega (arith, lt)) in
    record { between = rec.between; front = λ i. first i ∷ rec.front i; rest = rec.rest; some = rec.some }

-- what stands last ends with the feed that ends all
pub last_feed : (a z f : List ℕ) → a ++ z ≡ f ++ 10 ∷ [] → 0 < length z → (g : List ℕ) × (z ≡ g ++ 10 ∷ [])
last_feed [] z f e some = (f, e)
last_feed (c ∷ a) z [] e some =
    let e' : c ∷ (a ++ z) ≡ 10 ∷ [] = e in
    let none : a ++ z ≡ [] = cc in
    absurd (omega (arith, some, ap (length {A = ℕ}) none, length-append a z))
last_feed (c ∷ a) z (d ∷ f) e some =
    let e' : c ∷ (a ++ z) ≡ d ∷ (f ++ 10 ∷ []) = e in
    let more : a ++ z ≡ f ++ 10 ∷ [] = cc in
    last_feed a z f more some

-- The first line stands before the feed of a later one.
pub feed_first : (z line x y : List ℕ) → IsOneLine line → z ++ 10 ∷ x ≡ line ++ 10 ∷ y → (m : List ℕ) × (z ++ 10 ∷ [] ≡ ended line ++ m)
feed_first [] [] x y o e = ([], refl)
feed_first [] (c ∷ line) x y o e = absurd (o 0 c (omega arith) (let e' : 10 ∷ x ≡ c ∷ (line ++ 10 ∷ y) = e in cc))
feed_first (d ∷ z) [] x y o e =
    let e' : d ∷ (z ++ 10 ∷ x) ≡ 10 ∷ y = e in
    let first : d ≡ 10 = cc in
    (z ++ 10 ∷ [], λ i. first i ∷ (z ++ 10 ∷ []))
feed_first (d ∷ z) (c ∷ line) x y o e =
    let e' : d ∷ (z ++ 10 ∷ x) ≡ c ∷ (line ++ 10 ∷ y) = e in
    let first : d ≡ c = cc in
    let more : z ++ 10 ∷ x ≡ line ++ 10 ∷ y = cc in
    let rec = feed_first z line x y (All-tail NoFeed c line o) more in
    (rec.0, λ i. first i ∷ rec.1 i)

-- A line holds no feed.
pub feed_in : (z line x : List ℕ) → IsOneLine line → z ++ 10 ∷ x ≡ line → ⊥
feed_in z [] x o e = no_feed z x (sym e)
feed_in [] (c ∷ line) x o e = o 0 c (omega arith) (let e' : 10 ∷ x ≡ c ∷ line = e in cc)
feed_in (d ∷ z) (c ∷ line) x o e =
    let e' : d ∷ (z ++ 10 ∷ x) ≡ c ∷ line = e in
    let more : z ++ 10 ∷ x ≡ line = cc in
    feed_in z line x (All-tail NoFeed c line o) more
