-- The line of a number.
use Rattle.std.proofs.Common.{◌≡◌, ℕ, Bool, false, true, List, [], ◌∷◌, ◌++◌, get_or, drop, codes, decimal, Option, Some, None, All, refl, sym, ap, ◌∙◌, subst, append_assoc, arith}
use Rattle.std.specs.Prelude.{◌==◌, not, flat_map}
use Rattle.std.specs.List.{AllPass}
use Rattle.std.proofs.lemmas.Bool.{false≢true, eqb-true}
use Rattle.std.proofs.lemmas.List.{append_cancel_left}
use Rattle.std.proofs.lemmas.List.Elements.{All-nil, All-cons, All-append, All-head, All-tail, All-weaker}
use Rattle.abc_value.specs.declared.value.Value.{Value}
use Rattle.abc_value.specs.Literals.{literal}
use Rattle.abc_text.specs.Tokens.{is_digit, is_word_byte}
use Rattle.abc_trace.specs.Lines.{parted, behind_comma}
use Rattle.abc_trace_lines.specs.Plain.{Said, Number, hearer_text, hearers_text, tail_text, line_text}
use Rattle.abc_trace_lines.specs.Spelled.{IsHearer, SaidIsSpelled, TailIsSpelled, IsSpelled}
use Rattle.abc_trace_lines.specs.Fronts.{StopsAt, IsNameFront, IsNumberBefore, IsPlaceFront}
use Rattle.abc_trace_lines.specs.Items.{IsTupleFront}
use Rattle.abc_trace_lines.specs.Reading.{HasNoClose, AreHearers, IsCutLast, IsSent, IsMulticast, IsSaid, IsTail, IsLine}
use Rattle.abc_trace_lines.proofs.Numerals.{decimal_digits, front_of_place, front_one, before_one}
use Rattle.abc_trace_lines.proofs.Words.{name_bytes, name_one, name_split}
use Rattle.abc_trace_lines.proofs.TupleValues.{tuple_one}
use Rattle.abc_trace_lines.proofs.Hearers.{hearers_one}

-- ---- the last )
closes_not : not (41 == 41) ≡ true → ⊥
closes_not h = false≢true h

-- What holds a ) is not without one.
closed : (b s : List ℕ) → HasNoClose (b ++ 41 ∷ s) → ⊥
closed [] s k = closes_not (All-head (λ x. not (x == 41) ≡ true) 41 s k)
closed (c ∷ b) s k = closed b s (All-tail (λ x. not (x == 41) ≡ true) c (b ++ 41 ∷ s) k)

-- Lists are cut at the last ) in one way.
pub last_split : (a b r s : List ℕ) → HasNoClose r → HasNoClose s → a ++ 41 ∷ r ≡ b ++ 41 ∷ s →
    (a ≡ b) × (r ≡ s)
last_split [] [] r s h k e = (refl, ap (λ (t : List ℕ). drop 1 t) e)
last_split [] (c ∷ b) r s h k e =
    let more : r ≡ b ++ 41 ∷ s = ap (λ (t : List ℕ). drop 1 t) e in
    absurd (closed b s (subst HasNoClose more h))
last_split (c ∷ a) [] r s h k e =
    let more : a ++ 41 ∷ r ≡ s = ap (λ (t : List ℕ). drop 1 t) e in
    absurd (closed a r (subst HasNoClose (sym more) k))
last_split (c ∷ a) (d ∷ b) r s h k e =
    let first : c ≡ d = cc in
    let more = last_split a b r s h k (ap (λ (t : List ℕ). drop 1 t) e) in
    ((λ i. first i ∷ more.0 i), more.1)

pub close_never : (bytes : List ℕ) (n : ℕ) → n ≡ 0 → HasNoClose (drop n bytes) →
    (front more : List ℕ) → ¬ (bytes ≡ front ++ 41 ∷ more)
close_never bytes n z h front more e =
    closed front more (subst HasNoClose e (subst (λ (j : ℕ). HasNoClose (drop j bytes)) z h))

cut_last_one : (bytes a b r s : List ℕ) → IsCutLast bytes a r → IsCutLast bytes b s →
    (a ≡ b) × (r ≡ s)
cut_last_one bytes a b r s x y = last_split a b r s x.last y.last (sym x.text ∙ y.text)

-- ---- those that heard hold no )
-- A byte of a kind of which ) is none is no ).
opens_by : (p : ℕ → Bool) → p 41 ≡ false → (b : ℕ) → p b ≡ true → not (b == 41) ≡ true
opens_by p none b h = by (b == 41) refl
  where
    by : (c : Bool) → (b == 41) ≡ c → not c ≡ true
    by false e = refl
    by true e = absurd (false≢true (sym none ∙ ap p (sym (eqb-true b 41 e)) ∙ h))

opens_all : (p : ℕ → Bool) → p 41 ≡ false → (bytes : List ℕ) → AllPass p bytes → HasNoClose bytes
opens_all p none bytes h =
    All-weaker (λ x. p x ≡ true) (λ x. not (x == 41) ≡ true) (opens_by p none) bytes h

joined : (a b : List ℕ) → HasNoClose a → HasNoClose b → HasNoClose (a ++ b)
joined a b h k = All-append (λ x. not (x == 41) ≡ true) a b h k

one_more : (b : ℕ) (bs : List ℕ) → not (b == 41) ≡ true → HasNoClose bs → HasNoClose (b ∷ bs)
one_more b bs h k = All-cons (λ x. not (x == 41) ≡ true) b bs h k

hearer_open : (h : List ℕ × ℕ) → IsHearer h → HasNoClose (hearer_text h)
hearer_open h x =
    joined h.0 (58 ∷ decimal h.1) (opens_all is_word_byte refl h.0 (name_bytes h.0 x.0))
    (one_more 58 (decimal h.1) refl (opens_all is_digit refl (decimal h.1)
    (decimal_digits h.1 (let f = x.1 in omega (arith, f)))))

others_open : (heard : List (List ℕ × ℕ)) → All IsHearer heard →
    HasNoClose (flat_map (behind_comma hearer_text) heard)
others_open [] x = All-nil (λ x. not (x == 41) ≡ true)
others_open (h ∷ heard) x =
    joined (behind_comma hearer_text h) (flat_map (behind_comma hearer_text) heard)
    (one_more 44 (32 ∷ hearer_text h) refl
    (one_more 32 (hearer_text h) refl (hearer_open h (All-head IsHearer h heard x))))
    (others_open heard (All-tail IsHearer h heard x))

hearers_open : (heard : List (List ℕ × ℕ)) → All IsHearer heard → HasNoClose (hearers_text heard)
hearers_open [] x = one_more 45 [] refl (All-nil (λ x. not (x == 41) ≡ true))
hearers_open (h ∷ heard) x =
    joined (hearer_text h) (flat_map (behind_comma hearer_text) heard)
    (hearer_open h (All-head IsHearer h heard x))
    (others_open heard (All-tail IsHearer h heard x))

-- ---- a predicate, and those that heard
-- So the predicate ends at the last ).
sent_cut : (bytes pred : List ℕ) (heard : List (List ℕ × ℕ)) → IsSent bytes pred heard →
    IsCutLast bytes pred (codes " -> " ++ hearers_text heard)
sent_cut bytes pred heard is = record {
  text = is.text;
  last =
      one_more 32 (45 ∷ (62 ∷ (32 ∷ hearers_text heard))) refl
      (one_more 45 (62 ∷ (32 ∷ hearers_text heard)) refl
      (one_more 62 (32 ∷ hearers_text heard) refl
      (one_more 32 (hearers_text heard) refl (hearers_open heard is.good))));
}

pub sent_not_arrow : (bytes front more : List ℕ) → IsCutLast bytes front more →
    ((text : List ℕ) → ¬ (more ≡ codes " -> " ++ text)) →
    (pred : List ℕ) (heard : List (List ℕ × ℕ)) → ¬ (IsSent bytes pred heard)
sent_not_arrow bytes front more cut none pred heard is =
    none (hearers_text heard) (cut_last_one bytes front pred more
    (codes " -> " ++ hearers_text heard) cut (sent_cut bytes pred heard is)).1

pub sent_not_heard : (bytes front more text : List ℕ) → IsCutLast bytes front more →
    more ≡ codes " -> " ++ text → ((heard : List (List ℕ × ℕ)) → ¬ (AreHearers text heard)) →
    (pred : List ℕ) (heard : List (List ℕ × ℕ)) → ¬ (IsSent bytes pred heard)
sent_not_heard bytes front more text cut e none pred heard is = none heard (record {
  good = is.good;
  once = is.once;
  text = append_cancel_left (codes " -> ") text (hearers_text heard)
      (sym e ∙ (cut_last_one bytes front pred more (codes " -> " ++ hearers_text heard) cut
      (sent_cut bytes pred heard is)).1);
})

pub sent_is : (bytes front more text : List ℕ) (heard : List (List ℕ × ℕ)) →
    IsCutLast bytes front more → more ≡ codes " -> " ++ text → AreHearers text heard →
    IsSent bytes front heard
sent_is bytes front more text heard cut e is = record {
  good = is.good;
  once = is.once;
  text = cut.text
      ∙ ap (λ (t : List ℕ). front ++ 41 ∷ t) (e ∙ ap (λ (t : List ℕ). codes " -> " ++ t) is.text);
}

-- There is one reading of them.
sent_one : (bytes p q : List ℕ) (h k : List (List ℕ × ℕ)) → IsSent bytes p h → IsSent bytes q k →
    (p ≡ q) × (hearers_text h ≡ hearers_text k)
sent_one bytes p q h k a b =
    let both = cut_last_one bytes p q (codes " -> " ++ hearers_text h)
    (codes " -> " ++ hearers_text k) (sent_cut bytes p h a) (sent_cut bytes q k b) in
    (both.0, append_cancel_left (codes " -> ") (hearers_text h) (hearers_text k) both.1)

-- ---- a multicast
-- what stands behind its values
behind_values : Said → List ℕ
behind_values s = codes " @ (" ++ (s.pred ++ (codes ") -> " ++ hearers_text s.heard))

tuple_of : (place : ℕ) (bytes : List ℕ) (s : Said) → IsMulticast place bytes s →
    IsTupleFront bytes s.values (behind_values s)
unfolding behind_values
tuple_of place bytes s is = record { few = is.few; good = is.values; text = is.text }

pub multicast_not_values : (place : ℕ) (bytes : List ℕ) →
    ((values : List Value) (more : List ℕ) → ¬ (IsTupleFront bytes values more)) → (s : Said) →
    ¬ (IsMulticast place bytes s)
multicast_not_values place bytes none s is =
    none s.values (behind_values s) (tuple_of place bytes s is)

pub multicast_not_at : (place : ℕ) (bytes rest : List ℕ) (values : List Value) →
    IsTupleFront bytes values rest → ((text : List ℕ) → ¬ (rest ≡ codes " @ (" ++ text)) →
    (s : Said) → ¬ (IsMulticast place bytes s)
unfolding behind_values
multicast_not_at place bytes rest values front none s is =
    none (s.pred ++ (codes ") -> " ++ hearers_text s.heard))
    (tuple_one bytes rest (behind_values s) values s.values front (tuple_of place bytes s is)).1

pub multicast_not_sent : (place : ℕ) (bytes rest text : List ℕ) (values : List Value) →
    IsTupleFront bytes values rest → rest ≡ codes " @ (" ++ text →
    ((pred : List ℕ) (heard : List (List ℕ × ℕ)) → ¬ (IsSent text pred heard)) → (s : Said) →
    ¬ (IsMulticast place bytes s)
unfolding behind_values
multicast_not_sent place bytes rest text values front e none s is = none s.pred s.heard (record {
  good = is.good;
  once = is.once;
  text = append_cancel_left (codes " @ (") text (s.pred ++ (codes ") -> " ++ hearers_text s.heard))
      (sym e ∙ (tuple_one bytes rest (behind_values s) values s.values front
      (tuple_of place bytes s is)).1);
})

pub multicast_is : (bytes rest text : List ℕ) (s : Said) → IsTupleFront bytes s.values rest →
    rest ≡ codes " @ (" ++ text → IsSent text s.pred s.heard → IsMulticast s.place bytes s
multicast_is bytes rest text s front e is = record {
  same = refl;
  few = front.few;
  values = front.good;
  good = is.good;
  once = is.once;
  text = front.text
      ∙ ap (λ (t : List ℕ). codes "(" ++ (parted literal s.values ++ 41 ∷ t))
      (e ∙ ap (λ (t : List ℕ). codes " @ (" ++ t) is.text);
}

-- ---- a multicast behind its place
multicast_text : Said → List ℕ
multicast_text s =
    codes "(" ++ (parted literal s.values
    ++ (codes ") @ (" ++ (s.pred ++ (codes ") -> " ++ hearers_text s.heard))))

-- the text of what was said, part by part
said_text : (s : Said) → tail_text (Some s) ≡ 58 ∷ (decimal s.place ++ 32 ∷ multicast_text s)
unfolding multicast_text
said_text s =
    let values = parted literal s.values in
    let heard = hearers_text s.heard in
    ap (λ (t : List ℕ). 58 ∷ (decimal s.place ++ 32 ∷ t))
    (append_assoc (codes "(" ++ values ++ codes ") @ (" ++ s.pred) (codes ") -> ") heard
    ∙ append_assoc (codes "(" ++ values ++ codes ") @ (") s.pred (codes ") -> " ++ heard)
    ∙ append_assoc (codes "(" ++ values) (codes ") @ (") (s.pred ++ (codes ") -> " ++ heard))
    ∙ append_assoc (codes "(") values (codes ") @ (" ++ (s.pred ++ (codes ") -> " ++ heard))))

place_of : (bytes : List ℕ) (s : Said) → IsSaid bytes s →
    IsPlaceFront bytes s.place (32 ∷ multicast_text s)
place_of bytes s is = record {
  fits = is.spelled.place;
  text = ap (λ (t : List ℕ). drop 1 t) (is.text ∙ said_text s);
  stops = refl;
}

pub said_not_place : (bytes : List ℕ) → ((n : ℕ) (more : List ℕ) → ¬ (IsPlaceFront bytes n more)) →
    (s : Said) → ¬ (IsSaid bytes s)
said_not_place bytes none s is = none s.place (32 ∷ multicast_text s) (place_of bytes s is)

-- There is one place at the front.
place_one : (bytes r s : List ℕ) (n m : ℕ) → IsPlaceFront bytes n r → IsPlaceFront bytes m s →
    (n ≡ m) × (r ≡ s)
place_one bytes r s n m a b =
    front_one bytes r s n m (front_of_place bytes r n a) (front_of_place bytes s m b)

pub said_not_space : (bytes rest : List ℕ) (n : ℕ) → IsPlaceFront bytes n rest →
    ((more : List ℕ) → ¬ (rest ≡ 32 ∷ more)) → (s : Said) → ¬ (IsSaid bytes s)
said_not_space bytes rest n front none s is =
    none (multicast_text s) (place_one bytes rest (32 ∷ multicast_text s) n s.place front
    (place_of bytes s is)).1

pub said_not_multicast : (bytes rest text : List ℕ) (n : ℕ) → IsPlaceFront bytes n rest →
    rest ≡ 32 ∷ text → ((s : Said) → ¬ (IsMulticast n text s)) → (s : Said) → ¬ (IsSaid bytes s)
unfolding multicast_text
said_not_multicast bytes rest text n front e none s is =
    let both = place_one bytes rest (32 ∷ multicast_text s) n s.place front (place_of bytes s is) in
    none s (record {
      same = sym both.0;
      few = is.spelled.few;
      values = is.spelled.values;
      good = is.spelled.heard;
      once = is.spelled.once;
      text = ap (λ (t : List ℕ). drop 1 t) (sym e ∙ both.1);
    })

pub said_is : (bytes rest text : List ℕ) (n : ℕ) (s : Said) → IsPlaceFront bytes n rest →
    rest ≡ 32 ∷ text → IsMulticast n text s → IsSaid bytes s
unfolding multicast_text
said_is bytes rest text n s front e is = record {
  spelled = record {
    place = let f = front.fits in let same = is.same in omega (arith, f, same);
    few = is.few;
    values = is.values;
    heard = is.good;
    once = is.once;
  };
  text =
      ap (λ (t : List ℕ). 58 ∷ t) (front.text ∙ ap (λ (k : ℕ). decimal k ++ rest) (sym is.same)
      ∙ ap (λ (t : List ℕ). decimal s.place ++ t) (e ∙ ap (λ (t : List ℕ). 32 ∷ t) is.text))
      ∙ sym (said_text s);
}

-- ---- what stands behind the sender
pub tail_some : (bytes text : List ℕ) (s : Said) → bytes ≡ 58 ∷ text → IsSaid text s →
    IsTail bytes (Some s)
tail_some bytes text s e is = record { spelled = is.spelled; text = e ∙ is.text }

-- the colon before what was said
colon : (s : Said) → (more : List ℕ) × (tail_text (Some s) ≡ 58 ∷ more)
colon s = (drop 1 (tail_text (Some s)), refl)

pub tail_not_colon : (bytes : List ℕ) → ¬ (bytes ≡ codes " -") →
    ((more : List ℕ) → ¬ (bytes ≡ 58 ∷ more)) → (said : Option Said) → ¬ (IsTail bytes said)
tail_not_colon bytes some none None is = some is.text
tail_not_colon bytes some none (Some s) is = none (colon s).0 (is.text ∙ (colon s).1)

pub tail_not_said : (bytes text : List ℕ) → ¬ (bytes ≡ codes " -") → bytes ≡ 58 ∷ text →
    ((s : Said) → ¬ (IsSaid text s)) → (said : Option Said) → ¬ (IsTail bytes said)
tail_not_said bytes text some e none None is = some is.text
tail_not_said bytes text some e none (Some s) is =
    none s (record { spelled = is.spelled; text = sym e ∙ is.text })

-- ---- the line
-- what stands behind a sender is no part of its name
tail_stops : (said : Option Said) → StopsAt is_word_byte (tail_text said)
tail_stops None = refl
tail_stops (Some s) = refl

number_of : (bytes : List ℕ) (n : ℕ) (sender : List ℕ) (said : Option Said) →
    IsLine bytes (Number n sender said) → IsNumberBefore 32 bytes n (sender ++ tail_text said)
number_of bytes n sender said is = record { fits = is.spelled.0; text = sym is.text }

sender_of : (bytes : List ℕ) (n : ℕ) (sender : List ℕ) (said : Option Said) →
    IsLine bytes (Number n sender said) →
    IsNameFront (sender ++ tail_text said) sender (tail_text said)
sender_of bytes n sender said is =
    record { name = is.spelled.1; text = refl; stops = tail_stops said }

pub line_not_number : (bytes : List ℕ) →
    ((n : ℕ) (more : List ℕ) → ¬ (IsNumberBefore 32 bytes n more)) →
    (n : ℕ) (sender : List ℕ) (said : Option Said) → ¬ (IsLine bytes (Number n sender said))
line_not_number bytes none n sender said is =
    none n (sender ++ tail_text said) (number_of bytes n sender said is)

-- the sender stands behind the number that is read
sender_at : (bytes rest : List ℕ) (k n : ℕ) (sender : List ℕ) (said : Option Said) →
    IsNumberBefore 32 bytes k rest → IsLine bytes (Number n sender said) →
    IsNameFront rest sender (tail_text said)
sender_at bytes rest k n sender said front is =
    subst (λ (t : List ℕ). IsNameFront t sender (tail_text said))
    (before_one 32 bytes (sender ++ tail_text said) rest n k refl
    (number_of bytes n sender said is) front).1 (sender_of bytes n sender said is)

pub line_not_name : (bytes rest : List ℕ) (k : ℕ) → IsNumberBefore 32 bytes k rest →
    ((word : List ℕ) (more : List ℕ) → ¬ (IsNameFront rest word more)) →
    (n : ℕ) (sender : List ℕ) (said : Option Said) → ¬ (IsLine bytes (Number n sender said))
line_not_name bytes rest k front none n sender said is =
    none sender (tail_text said) (sender_at bytes rest k n sender said front is)

pub line_not_tail : (bytes rest word more : List ℕ) (k : ℕ) → IsNumberBefore 32 bytes k rest →
    IsNameFront rest word more → ((said : Option Said) → ¬ (IsTail more said)) →
    (n : ℕ) (sender : List ℕ) (said : Option Said) → ¬ (IsLine bytes (Number n sender said))
line_not_tail bytes rest word more k front name none n sender said is = none said (record {
  spelled = is.spelled.2;
  text = (name_one rest word sender more (tail_text said) name
      (sender_at bytes rest k n sender said front is)).1;
})

pub line_is : (bytes rest word more : List ℕ) (k : ℕ) (said : Option Said) →
    IsNumberBefore 32 bytes k rest → IsNameFront rest word more → IsTail more said →
    IsLine bytes (Number k word said)
line_is bytes rest word more k said front name is = record {
  spelled = (front.fits, name.name, is.spelled);
  text = sym (front.text
      ∙ ap (λ (t : List ℕ). decimal k ++ 32 ∷ t) (name.text ∙ ap (λ (t : List ℕ). word ++ t) is.text));
}

-- ---- one reading
pub saids_one : (s t : Said) → SaidIsSpelled s → SaidIsSpelled t →
    tail_text (Some s) ≡ tail_text (Some t) → s ≡ t
unfolding multicast_text behind_values
saids_one s t x y e =
    let text : List ℕ = decimal t.place ++ 32 ∷ multicast_text t in
    let left : IsPlaceFront text s.place (32 ∷ multicast_text s) = record {
      fits = x.place;
      text = ap (λ (l : List ℕ). drop 1 l) (sym (said_text t) ∙ sym e ∙ said_text s);
      stops = refl;
    } in
    let places = place_one text (32 ∷ multicast_text s) (32 ∷ multicast_text t) s.place t.place left
    (record { fits = y.place; text = refl; stops = refl }) in
    let same : multicast_text s ≡ multicast_text t = ap (λ (l : List ℕ). drop 1 l) places.1 in
    let tuples = tuple_one (multicast_text t) (behind_values s) (behind_values t) s.values t.values
    (record { few = x.few; good = x.values; text = sym same })
    (record { few = y.few; good = y.values; text = refl }) in
    let sent : List ℕ = t.pred ++ (codes ") -> " ++ hearers_text t.heard) in
    let behind : sent ≡ s.pred ++ (codes ") -> " ++ hearers_text s.heard) =
    append_cancel_left (codes " @ (") sent (s.pred ++ (codes ") -> " ++ hearers_text s.heard))
    (sym tuples.1) in
    let both = sent_one sent s.pred t.pred s.heard t.heard
    (record { good = x.heard; once = x.once; text = behind })
    (record { good = y.heard; once = y.once; text = refl }) in
    let heard = hearers_one s.heard t.heard x.heard y.heard both.1 in
    (λ i. record { place = places.0 i; values = tuples.0 i; pred = both.0 i; heard = heard i })

tails_one : (x y : Option Said) → TailIsSpelled x → TailIsSpelled y → tail_text x ≡ tail_text y →
    x ≡ y
tails_one None None h k e = refl
tails_one None (Some t) h k e =
    let f = ap (λ (l : List ℕ). get_or l 0 0) e in absurd (omega (arith, f))
tails_one (Some s) None h k e =
    let f = ap (λ (l : List ℕ). get_or l 0 0) e in absurd (omega (arith, f))
tails_one (Some s) (Some t) h k e = ap Some (saids_one s t h k e)

pub number_lines_one : (n m : ℕ) (u w : List ℕ) (x y : Option Said) → IsSpelled (Number n u x) →
    IsSpelled (Number m w y) → line_text (Number n u x) ≡ line_text (Number m w y) →
    Number n u x ≡ Number m w y
number_lines_one n m u w x y h k e =
    let text : List ℕ = line_text (Number m w y) in
    let left : IsNumberBefore 32 text n (u ++ tail_text x) = record { fits = h.0; text = sym e } in
    let numbers = before_one 32 text (u ++ tail_text x) (w ++ tail_text y) n m refl left
    (record { fits = k.0; text = refl }) in
    let names = name_split u w (tail_text x) (tail_text y) h.1 k.1 (tail_stops x)
    (tail_stops y) numbers.1 in
    let tails = tails_one x y h.2 k.2 names.1 in
    (λ i. Number (numbers.0 i) (names.0 i) (tails i))
