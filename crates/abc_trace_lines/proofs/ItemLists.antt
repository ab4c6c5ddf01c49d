-- Items one behind another are read in one way, where each item is.
use Rattle.std.proofs.Common.{◌≡◌, ℕ, ◌<◌, List, [], ◌∷◌, ◌++◌, length, drop, codes, All, refl, sym, ap, ◌∙◌, subst, append_assoc, append-nil, length-append, arith}
use Rattle.std.specs.Prelude.{flat_map}
use Rattle.std.proofs.lemmas.List.{flat_map_more}
use Rattle.std.proofs.lemmas.List.Elements.{All-nil, All-cons, All-append, All-head, All-tail}
use Rattle.abc_text.specs.Tokens.{is_digit}
use Rattle.abc_trace.specs.Lines.{behind_comma, parted}
use Rattle.abc_trace_lines.specs.Fronts.{StopsAt}
use Rattle.abc_trace_lines.specs.Items.{IsItemFront, IsPartedFront}

-- How an item is written, which items there are, and what may follow one.
module _ {A : Type 0} (print : A → List ℕ) (Good : A → Type 0) (Stops : List ℕ → Type 0)
    (split : (a b : A) (r s : List ℕ) → Good a → Good b → Stops r → Stops s →
    print a ++ r ≡ print b ++ s → (a ≡ b) × (r ≡ s))
    (stops : (a : A) (r : List ℕ) → Good a → Stops (print a ++ r)) where
  -- no item stands at the front
  abbrev pub NoItem : List ℕ → Type 0
  NoItem s = (a : A) (t : List ℕ) → Good a → ¬ (s ≡ print a ++ t)

  -- What may follow an item may follow it behind more of them.
  pub stops_behind : (h : List A) (r : List ℕ) → All Good h → Stops r →
      Stops (flat_map print h ++ r)
  stops_behind [] r good k = k
  stops_behind (a ∷ h) r good k =
      subst Stops (sym (append_assoc (print a) (flat_map print h) r))
      (stops a (flat_map print h ++ r) (All-head Good a h good))

  -- items that are read, against all that there are: what is left is the text of those behind
  pub follow : (h g : List A) (r s : List ℕ) → All Good h → All Good g → Stops r → Stops s →
      NoItem s → flat_map print h ++ r ≡ flat_map print g ++ s →
      (k : List A) × (g ≡ h ++ k) × (r ≡ flat_map print k ++ s)
  follow [] g r s x y u v none e = (g, refl, e)
  follow (a ∷ h) [] r s x y u v none e =
      absurd (none a (flat_map print h ++ r) (All-head Good a h x)
      (sym e ∙ append_assoc (print a) (flat_map print h) r))
  follow (a ∷ h) (b ∷ g) r s x y u v none e =
      let whole : print a ++ (flat_map print h ++ r) ≡ print b ++ (flat_map print g ++ s) =
      sym (append_assoc (print a) (flat_map print h) r) ∙ e
      ∙ append_assoc (print b) (flat_map print g) s in
      let x' = All-tail Good a h x in
      let y' = All-tail Good b g y in
      let one = split a b (flat_map print h ++ r) (flat_map print g ++ s) (All-head Good a h x)
      (All-head Good b g y) (stops_behind h r x' u) (stops_behind g s y' v) whole in
      let more = follow h g r s x' y' u v none one.1 in
      (more.0, ap (λ (c : A). c ∷ g) (sym one.0) ∙ ap (λ (t : List A). a ∷ t) more.1, more.2)

  -- So all items are read in one way.
  pub items_one : (h g : List A) (r s : List ℕ) → All Good h → All Good g → Stops r → Stops s →
      NoItem r → NoItem s → flat_map print h ++ r ≡ flat_map print g ++ s → (h ≡ g) × (r ≡ s)
  items_one h g r s x y u v left right e = by (follow h g r s x y u v right e)
    where
      by : (k : List A) × (g ≡ h ++ k) × (r ≡ flat_map print k ++ s) → (h ≡ g) × (r ≡ s)
      by ([], same, rest) = (sym (same ∙ append-nil h), rest)
      by (a ∷ k, same, rest) =
          let y' : All Good (h ++ a ∷ k) = subst (All Good) same y in
          absurd (left a (flat_map print k ++ s) (good_behind h a k y')
          (rest ∙ append_assoc (print a) (flat_map print k) s))
        where
          good_behind : (h : List A) (a : A) (k : List A) → All Good (h ++ a ∷ k) → Good a
          good_behind [] a k z = All-head Good a k z
          good_behind (b ∷ h) a k z = good_behind h a k (All-tail Good b (h ++ a ∷ k) z)

-- ---- items parted by a comma and a space
-- items that are read so far
pub record IsPartedSoFar {A : Type 0} (print : A → List ℕ) (Good : A → Type 0) (bytes : List ℕ)
    (items : List A) (more : List ℕ) : Type 0 where
  pub some : 0 < length items
  pub good : All Good items
  pub text : bytes ≡ parted print items ++ more
  pub stops : StopsAt is_digit more

module _ {A : Type 0} (print : A → List ℕ) (Good : A → Type 0)
    (split : (a b : A) (r s : List ℕ) → Good a → Good b → StopsAt is_digit r →
    StopsAt is_digit s → print a ++ r ≡ print b ++ s → (a ≡ b) × (r ≡ s)) where
  split_comma : (a b : A) (r s : List ℕ) → Good a → Good b → StopsAt is_digit r →
      StopsAt is_digit s → behind_comma print a ++ r ≡ behind_comma print b ++ s → (a ≡ b) × (r ≡ s)
  split_comma a b r s x y u v e = split a b r s x y u v (ap (λ (t : List ℕ). drop 2 t) e)

  stops_comma : (a : A) (r : List ℕ) → Good a → StopsAt is_digit (behind_comma print a ++ r)
  stops_comma a r x = refl

  push_text : (h : List A) (a : A) → 0 < length h →
      parted print (h ++ a ∷ []) ≡ parted print h ++ (codes ", " ++ print a)
  push_text [] a some = absurd (omega (arith, some))
  push_text (b ∷ h) a some = sym (flat_map_more (behind_comma print) (print b) h a)

  pub parted_more : (bytes rest next more : List ℕ) (h : List A) (a : A) →
      IsPartedSoFar print Good bytes h rest → rest ≡ codes ", " ++ next →
      IsItemFront print Good next a more → IsPartedSoFar print Good bytes (h ++ a ∷ []) more
  parted_more bytes rest next more h a so e is = record {
    some = let l = length-append h (a ∷ []) in let s = so.some in omega (arith, l, s);
    good = All-append Good h (a ∷ []) so.good (All-cons Good a [] is.good (All-nil Good));
    text =
        so.text ∙ ap (λ (t : List ℕ). parted print h ++ t)
        (e ∙ ap (λ (t : List ℕ). codes ", " ++ t) is.text)
        ∙ sym (append_assoc (parted print h) (codes ", " ++ print a) more)
        ∙ ap (λ (t : List ℕ). t ++ more) (sym (push_text h a so.some));
    stops = is.stops;
  }

  -- the first of them stands at the front
  first_item : (bytes more : List ℕ) (a : A) (h : List A) → All Good (a ∷ h) →
      bytes ≡ parted print (a ∷ h) ++ more → StopsAt is_digit more →
      IsItemFront print Good bytes a (flat_map (behind_comma print) h ++ more)
  first_item bytes more a h good e stop = record {
    good = All-head Good a h good;
    text = e ∙ append_assoc (print a) (flat_map (behind_comma print) h) more;
    stops = stops_behind (behind_comma print) Good (StopsAt is_digit) split_comma stops_comma h more
        (All-tail Good a h good) stop;
  }

  pub parted_not_first : (bytes : List ℕ) →
      ((a : A) (more : List ℕ) → ¬ (IsItemFront print Good bytes a more)) →
      (items : List A) (more : List ℕ) → ¬ (IsPartedFront print Good bytes items more)
  parted_not_first bytes none [] more is = let s = is.some in omega (arith, s)
  parted_not_first bytes none (a ∷ h) more is =
      none a (flat_map (behind_comma print) h ++ more)
      (first_item bytes more a h is.good is.text is.stops)

  -- Items that are read so far are the first of all that there are.
  parted_follow : (bytes r s : List ℕ) (h g : List A) → IsPartedSoFar print Good bytes h r →
      IsPartedFront print Good bytes g s →
      (k : List A) × (g ≡ h ++ k) × (r ≡ flat_map (behind_comma print) k ++ s)
  parted_follow bytes r s [] g so is = let z = so.some in absurd (omega (arith, z))
  parted_follow bytes r s (a ∷ h) [] so is = let z = is.some in absurd (omega (arith, z))
  parted_follow bytes r s (a ∷ h) (b ∷ g) so is =
      let left = first_item bytes r a h so.good so.text so.stops in
      let right = first_item bytes s b g is.good is.text is.stops in
      let one = split a b (flat_map (behind_comma print) h ++ r)
      (flat_map (behind_comma print) g ++ s) left.good right.good left.stops right.stops
      (sym left.text ∙ right.text) in
      let more = follow (behind_comma print) Good (StopsAt is_digit) split_comma stops_comma h g r s
      (All-tail Good a h so.good) (All-tail Good b g is.good) so.stops is.stops
      (λ c t x f. is.ends (print c ++ t) f) one.1 in
      (more.0, ap (λ (c : A). c ∷ g) (sym one.0) ∙ ap (λ (t : List A). a ∷ t) more.1, more.2)

  pub parted_not_next : (bytes rest next : List ℕ) (h : List A) →
      IsPartedSoFar print Good bytes h rest → rest ≡ codes ", " ++ next →
      ((a : A) (more : List ℕ) → ¬ (IsItemFront print Good next a more)) →
      (items : List A) (more : List ℕ) → ¬ (IsPartedFront print Good bytes items more)
  parted_not_next bytes rest next h so e none g s is = by (parted_follow bytes rest s h g so is)
    where
      good_from : (h : List A) (k : List A) → All Good (h ++ k) → All Good k
      good_from [] k x = x
      good_from (b ∷ h) k x = good_from h k (All-tail Good b (h ++ k) x)

      by : (k : List A) × (g ≡ h ++ k) × (rest ≡ flat_map (behind_comma print) k ++ s) → ⊥
      by ([], same, f) = is.ends next (sym f ∙ e)
      by (c ∷ k, same, f) =
          let good : All Good (c ∷ k) = good_from h (c ∷ k) (subst (All Good) same is.good) in
          let text : codes ", " ++ next ≡ codes ", " ++ (parted print (c ∷ k) ++ s) = sym e ∙ f in
          none c (flat_map (behind_comma print) k ++ s)
          (first_item next s c k good (ap (λ (t : List ℕ). drop 2 t) text) is.stops)

  pub parted_one : (bytes r s : List ℕ) (h g : List A) → IsPartedFront print Good bytes h r →
      IsPartedFront print Good bytes g s → (h ≡ g) × (r ≡ s)
  parted_one bytes r s h g a b =
      let so : IsPartedSoFar print Good bytes h r = record {
        some = a.some;
        good = a.good;
        text = a.text;
        stops = a.stops;
      } in
      by (parted_follow bytes r s h g so b)
    where
      by : (k : List A) × (g ≡ h ++ k) × (r ≡ flat_map (behind_comma print) k ++ s) →
          (h ≡ g) × (r ≡ s)
      by ([], same, f) = (sym (same ∙ append-nil h), f)
      by (c ∷ k, same, f) = absurd (a.ends (parted print (c ∷ k) ++ s) f)
