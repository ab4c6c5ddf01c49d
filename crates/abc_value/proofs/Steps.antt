-- The steps through a set as it is written.
use Rattle.std.proofs.Common.{◌≡◌, ◌⊎◌, ◌↔◌, ℕ, zero, suc, ◌+◌, ◌-◌, ◌<◌, ◌≤◌, Bool, true, false, All, List, [], ◌∷◌, ◌++◌, ◌==◌, Option, Some, None, length, get_or, take, drop, flat_map, refl, ap, sym, subst, ◌∙◌, inl, inr, arith, append_assoc, append-nil, add-zero, length-append, length-take-le, take-append-drop}
use Rattle.std.specs.Prelude.{IsErrOf}
use Rattle.std.specs.Option.{ok_or}
use Rattle.std.proofs.Math.Seq.{take-add}
use Rattle.std.proofs.lemmas.Bool.{cases_lt}
use Rattle.std.proofs.lemmas.List.{drop_at, drop_all, drop-drop, take_more, get_or-drop, length-drop}
use Rattle.std.proofs.lemmas.List.Concat.{flat_map-append}
use Rattle.std.proofs.lemmas.List.Elements.{All-push, All-nil, All-head, All-drop}
use Rattle.abc_value.specs.declared.scalar.Scalar.{Scalar}
use Rattle.abc_value.specs.declared.value.Value.{Value}
use Rattle.abc_value.specs.declared.value.Value.TheVariants.{Scalar as One, Set, Nothing}
use Rattle.abc_value.specs.Sets.{IsSet, MayFollow, has_no_member, last_of}
use Rattle.abc_value.specs.Literals.{BeginsWith, IsScalar, IsValue, scalar_text, next_text, members_text, literal, IsLongest, HasLiteral, HasNoLiteral, ReadsValue}
use Rattle.abc_value.specs.declared.literal.ValueRefusal.TheVariants.{Bad, NoMemory}
use Rattle.abc_value.specs.Reading.{IsScalarFront, entry, IsEntry, IsMemberFront, NoMember}
use Rattle.abc_value.proofs.Fronts.{first_is}
use Rattle.abc_value.proofs.Words.{word_front}
use Rattle.abc_value.proofs.Follow.{set_front, set_follow, follow_set, last_put, none_by_length}
use Rattle.abc_value.proofs.Entries.{scalar_first, followed}

-- ---- one step
pub first_member : (bytes : List ℕ) (x : Scalar) (n : ℕ) → (get_or bytes 0 0 ≡ 125 → ⊥) → IsScalarFront bytes x n → IsMemberFront true bytes x n
first_member bytes x n goes f = record {
  is_scalar = f.is_scalar;
  within = f.within;
  front = f.front;
  only = λ y e. followed bytes x n f y e.1.0 e.1.1 e.0 e.1.2.0 e.1.2.1;
  goes_on = goes;
}

comma_first : (bytes : List ℕ) → BeginsWith bytes (44 ∷ (32 ∷ [])) → get_or bytes 0 0 ≡ 125 → ⊥
comma_first bytes b e = let f = first_is bytes 44 (32 ∷ []) b in omega arith

pub next_member : (bytes : List ℕ) (x : Scalar) (n : ℕ) → BeginsWith bytes (44 ∷ (32 ∷ [])) → IsScalarFront (drop 2 bytes) x n → IsMemberFront false bytes x (n + 2)
next_member [] x n b f = absurd (let e = ap length b.1 in omega arith)
next_member (c ∷ []) x n b f = absurd (let e = ap length b.1 in omega arith)
next_member (c ∷ (d ∷ bytes)) x n b f = record {
  is_scalar = f.is_scalar;
  within = let w = f.within in omega arith;
  front = rw add-two ((λ i. c_is i ∷ (d_is i ∷ f.front i)));
  only = λ y e. followed bytes x n f y e.1.0 e.1.1 e.0 e.1.2.0 (ap (λ l. drop 2 l) e.1.2.1);
  goes_on = comma_first (c ∷ (d ∷ bytes)) b;
}
  where
    c_is : c ≡ 44
    c_is = ap (λ l. get_or l 0 0) b.1

    d_is : d ≡ 32
    d_is = ap (λ l. get_or l 1 0) b.1

    add-two : n + 2 ≡ suc (suc n)
    add-two = omega arith

pub two_within : (bytes : List ℕ) → BeginsWith bytes (44 ∷ (32 ∷ [])) → 2 ≤ length bytes
two_within bytes b = (word_front bytes (44 ∷ (32 ∷ [])) b).0

-- ---- literals by their first byte
pub set_first : (bytes : List ℕ) (s : List Scalar) → BeginsWith bytes (literal (Set s)) → get_or bytes 0 0 ≡ 123
set_first bytes s b = first_is bytes 123 (members_text s ++ 125 ∷ []) b

pub none_first : (bytes : List ℕ) → BeginsWith bytes (literal Nothing) → get_or bytes 0 0 ≡ 110
none_first bytes b = first_is bytes 110 (111 ∷ (110 ∷ (101 ∷ []))) b

pub none_longest : (bytes : List ℕ) → BeginsWith bytes (literal Nothing) → IsLongest bytes Nothing 4
none_longest bytes b = record {
  is_value = tt;
  within = (word_front bytes (literal Nothing) b).0;
  front = (word_front bytes (literal Nothing) b).1;
  longest = longest;
}
  where
    longest : (w : Value) → IsValue w → BeginsWith bytes (literal w) → length (literal w) ≤ 4
    longest (One y) h c = absurd ((scalar_first bytes y h c).letter_n (none_first bytes b))
    longest (Set s) h c = let p = set_first bytes s c in let q = none_first bytes b in absurd (omega arith)
    longest Nothing h c = omega arith

pub none_bad : (bytes : List ℕ) → get_or bytes 0 0 ≡ 110 → ¬ (BeginsWith bytes (literal Nothing)) → HasNoLiteral bytes
none_bad bytes e none (One y) h c = (scalar_first bytes y h c).letter_n e
none_bad bytes e none (Set s) h c = let p = set_first bytes s c in omega arith
none_bad bytes e none Nothing h c = none c

-- ---- a set that is read so far

-- the members that are left, the end, and what follows
abbrev pub left : List Scalar → List Scalar → List ℕ → List ℕ
left [] u rest = members_text u ++ 125 ∷ rest
left (x ∷ held) u rest = flat_map next_text u ++ 125 ∷ rest

pub record IsSetSoFar (bytes : List ℕ) (held : List Scalar) (at : ℕ) : Type 0 where
  pub begun : 0 < at
  pub within : at ≤ length bytes
  pub is_set : IsSet held
  pub scalars : All IsScalar held
  pub front : take at bytes ≡ 123 ∷ members_text held
  pub others : (s : List Scalar) (rest : List ℕ) → All IsScalar s → bytes ≡ 123 ∷ (members_text s ++ 125 ∷ rest) → (u : List Scalar) × ((s ≡ held ++ u) × (drop at bytes ≡ left held u rest))

pub set_begins : (bytes : List ℕ) → get_or bytes 0 0 ≡ 123 → IsSetSoFar bytes [] 1
set_begins [] e = absurd (omega arith)
set_begins (c ∷ bytes) e = record {
  begun = omega arith;
  within = omega arith;
  is_set = record { rises = tt; fits = omega arith };
  scalars = All-nil IsScalar;
  front = ap (λ b. b ∷ []) e;
  others = λ s rest all h. (s, (refl, ap (λ l. drop 1 l) h));
}

-- what stands after a member
pub stop_after : (u : List Scalar) (rest : List ℕ) → (c : ℕ) × (r : List ℕ) × (((c ≡ 44) ⊎ (c ≡ 125)) × (flat_map next_text u ++ 125 ∷ rest ≡ c ∷ r))
stop_after [] rest = (125, rest, (inr refl, refl))
stop_after (y ∷ u) rest = (44, 32 ∷ (scalar_text y ++ flat_map next_text u) ++ 125 ∷ rest, (inl refl, refl))

-- the first of the members that are left
left_some : (held : List Scalar) (y : Scalar) (u : List Scalar) (rest : List ℕ) → left held (y ∷ u) rest ≡ entry (has_no_member held) y ++ (flat_map next_text u ++ 125 ∷ rest)
left_some [] y u rest = append_assoc (scalar_text y) (flat_map next_text u) (125 ∷ rest)
left_some (x ∷ held) y u rest = append_assoc (next_text y) (flat_map next_text u) (125 ∷ rest)

left_none : (held : List Scalar) (rest : List ℕ) → left held [] rest ≡ 125 ∷ rest
left_none [] rest = refl
left_none (x ∷ held) rest = refl

left_more : (held : List Scalar) (x : Scalar) (u : List Scalar) (rest : List ℕ) → left (held ++ x ∷ []) u rest ≡ flat_map next_text u ++ 125 ∷ rest
left_more [] x u rest = refl
left_more (y ∷ held) x u rest = refl

is_entry : (bytes : List ℕ) (held : List Scalar) (y : Scalar) (u : List Scalar) (rest : List ℕ) → IsScalar y → bytes ≡ left held (y ∷ u) rest → IsEntry (has_no_member held) bytes y
is_entry bytes held y u rest h e =
    let s = stop_after u rest in
    (h, (s.0, s.1, (s.2.0, e ∙ left_some held y u rest ∙ ap (λ t. entry (has_no_member held) y ++ t) s.2.1)))

members_more : (held : List Scalar) (x : Scalar) → members_text (held ++ x ∷ []) ≡ members_text held ++ entry (has_no_member held) x
members_more [] x = append-nil (scalar_text x)
members_more (y ∷ held) x = ap (λ t. scalar_text y ++ t) (flat_map-append next_text held (x ∷ []) ∙ ap (λ t. flat_map next_text held ++ t) (append-nil (next_text x))) ∙ sym (append_assoc (scalar_text y) (flat_map next_text held) (next_text x))

-- which of a set's members are left
in_set : (held u : List Scalar) (y : Scalar) (s : List Scalar) → s ≡ held ++ y ∷ u → All IsScalar s → IsScalar y
in_set held u y s e all =
    All-head IsScalar y u (subst (λ l. All IsScalar l) (ap (λ l. drop (length held) l) e ∙ drop_at held (y ∷ u) (length held) refl) (All-drop IsScalar (length held) s all))

opens_set : (bytes : List ℕ) (s : List Scalar) (b : BeginsWith bytes (literal (Set s))) → bytes ≡ 123 ∷ (members_text s ++ 125 ∷ b.0)
opens_set bytes s b = b.1 ∙ ap (λ l. 123 ∷ l) (append_assoc (members_text s) (125 ∷ []) b.0)

first_open : (bytes : List ℕ) (held : List Scalar) (at : ℕ) → IsSetSoFar bytes held at → get_or bytes 0 0 ≡ 123
first_open [] held at so = let l = ap length so.front in let w = so.within in let g = so.begun in absurd (omega arith)
first_open (c ∷ bytes) held zero so = let g = so.begun in absurd (omega arith)
first_open (c ∷ bytes) held (suc at) so = ap (λ l. get_or l 0 0) so.front

pub only_sets : (bytes : List ℕ) → get_or bytes 0 0 ≡ 123 → (w : Value) → IsValue w → BeginsWith bytes (literal w) → (P : Value → Type 0) → ((s : List Scalar) → IsValue (Set s) → BeginsWith bytes (literal (Set s)) → P (Set s)) → P w
only_sets bytes e (One y) h b P f = absurd ((scalar_first bytes y h b).opening e)
only_sets bytes e (Set s) h b P f = f s h b
only_sets bytes e Nothing h b P f = let p = none_first bytes b in absurd (omega arith)

-- no more members are left
no_left : (bytes : List ℕ) (held : List Scalar) (rest : List ℕ) → bytes ≡ left held [] rest → get_or bytes 0 0 ≡ 125
no_left bytes held rest e = ap (λ l. get_or l 0 0) (e ∙ left_none held rest)

split_member : (bytes : List ℕ) (at n : ℕ) (text : List ℕ) → take n (drop at bytes) ≡ text → drop at bytes ≡ text ++ drop (at + n) bytes
split_member bytes at n text e = sym (take-append-drop n (drop at bytes)) ∙ (λ i. e i ++ drop-drop n at bytes i)

same_rest : (text s t : List ℕ) → text ++ s ≡ text ++ t → s ≡ t
same_rest text s t e = sym (drop_at text s (length text) refl) ∙ ap (λ l. drop (length text) l) e ∙ drop_at text t (length text) refl

pub set_more : (bytes : List ℕ) (held : List Scalar) (at : ℕ) (x : Scalar) (n : ℕ) → IsSetSoFar bytes held at → IsMemberFront (has_no_member held) (drop at bytes) x n → IsSet (held ++ x ∷ []) → IsSetSoFar bytes (held ++ x ∷ []) (at + n)
set_more bytes held at x n so f s = record {
  begun = let g = so.begun in omega arith;
  within = let l = f.within in let d = length-drop at bytes in let w = so.within in omega arith;
  is_set = s;
  scalars = All-push IsScalar held x so.scalars f.is_scalar;
  front = take-add at n bytes ∙ (λ i. so.front i ++ f.front i) ∙ ap (λ t. 123 ∷ t) (sym (members_more held x));
  others = others;
}
  where
    split : drop at bytes ≡ entry (has_no_member held) x ++ drop (at + n) bytes
    split = split_member bytes at n (entry (has_no_member held) x) f.front

    next : (t : List Scalar) (rest : List ℕ) → All IsScalar t → (u : List Scalar) → t ≡ held ++ u → drop at bytes ≡ left held u rest → (u : List Scalar) × ((t ≡ (held ++ x ∷ []) ++ u) × (drop (at + n) bytes ≡ left (held ++ x ∷ []) u rest))
    next t rest all [] e g = absurd (f.goes_on (no_left (drop at bytes) held rest g))
    next t rest all (y ∷ u) e g =
        let same = f.only y (is_entry (drop at bytes) held y u rest (in_set held u y t e all) g) in (
          u,
          (
            e ∙ ap (λ z. held ++ z ∷ u) same ∙ sym (append_assoc held (x ∷ []) u),
            same_rest (entry (has_no_member held) x) (drop (at + n) bytes) (left (held ++ x ∷ []) u rest)
                (sym split ∙ g ∙ left_some held y u rest ∙ ap (λ z. entry (has_no_member held) z ++ (flat_map next_text u ++ 125 ∷ rest)) same ∙ ap (λ l. entry (has_no_member held) x ++ l) (sym (left_more held x u rest))),
          ),
        )

    others : (t : List Scalar) (rest : List ℕ) → All IsScalar t → bytes ≡ 123 ∷ (members_text t ++ 125 ∷ rest) → (u : List Scalar) × ((t ≡ (held ++ x ∷ []) ++ u) × (drop (at + n) bytes ≡ left (held ++ x ∷ []) u rest))
    others t rest all h = let o = so.others t rest all h in next t rest all o.0 o.1.0 o.1.1

-- ---- where a set stands at the front: all its members are read, or one is left
of_set : (bytes : List ℕ) (held : List Scalar) (at : ℕ) (P : Type 0) → IsSetSoFar bytes held at
    → ((rest : List ℕ) → drop at bytes ≡ left held [] rest → P)
    → ((y : Scalar) (u : List Scalar) (rest : List ℕ) → IsScalar y → IsSet (held ++ y ∷ u) → drop at bytes ≡ left held (y ∷ u) rest → P)
    → HasLiteral bytes → P
of_set bytes held at P so none some l =
    only_sets bytes (first_open bytes held at so) l.0 l.1.0 l.1.1 (λ v. P) (λ s i c.
    let o = so.others s c.0 i.1 (opens_set bytes s c) in which s c.0 i o.0 o.1.0 o.1.1)
  where
    which : (s : List Scalar) (rest : List ℕ) → IsValue (Set s) → (u : List Scalar) → s ≡ held ++ u → drop at bytes ≡ left held u rest → P
    which s rest i [] e g = none rest g
    which s rest i (y ∷ u) e g = some y u rest (in_set held u y s e i.1) (subst (λ l. IsSet l) e i.0) g

-- none stands there where the next is no member
pub set_wrong : (bytes : List ℕ) (held : List Scalar) (at : ℕ) → IsSetSoFar bytes held at → NoMember (has_no_member held) (drop at bytes) → ¬ (HasLiteral bytes)
set_wrong bytes held at so n =
    of_set bytes held at ⊥ so (λ rest g. n.goes_on (no_left (drop at bytes) held rest g))
    (λ y u rest h s g. n.no_entry y (is_entry (drop at bytes) held y u rest h g))

-- the members with the next are a set
pub set_next : (bytes : List ℕ) (held : List Scalar) (at : ℕ) (x : Scalar) (n : ℕ) → IsSetSoFar bytes held at → IsMemberFront (has_no_member held) (drop at bytes) x n → HasLiteral bytes → IsSet (held ++ x ∷ [])
set_next bytes held at x n so f =
    of_set bytes held at (IsSet (held ++ x ∷ [])) so (λ rest g. absurd (f.goes_on (no_left (drop at bytes) held rest g)))
    (λ y u rest h s g.
    let same = f.only y (is_entry (drop at bytes) held y u rest h g) in
    let t : IsSet (held ++ x ∷ u) = subst (λ z. IsSet (held ++ z ∷ u)) same s in
    set_front (held ++ x ∷ []) u (subst (λ l. IsSet l) (sym (append_assoc held (x ∷ []) u)) t))

-- a member that is left does not begin with the end
no_close : (held : List Scalar) (y : Scalar) (u : List Scalar) (rest : List ℕ) → IsScalar y → get_or (left held (y ∷ u) rest) 0 0 ≡ 125 → ⊥
no_close [] y u rest h e = (scalar_first (left [] (y ∷ u) rest) y h (flat_map next_text u ++ 125 ∷ rest, left_some [] y u rest)).closing e
no_close (x ∷ held) y u rest h e = omega arith

pub set_close : (bytes : List ℕ) (held : List Scalar) (at : ℕ) → IsSetSoFar bytes held at → get_or (drop at bytes) 0 0 ≡ 125 → IsLongest bytes (Set held) (at + 1)
set_close bytes held at so q = record {
  is_value = (so.is_set, so.scalars);
  within = let l = w in omega arith;
  front = front;
  longest = λ v h b. only_sets bytes (first_open bytes held at so) v h b (λ v. length (literal v) ≤ at + 1) (λ s i c.
      let o = so.others s c.0 i.1 (opens_set bytes s c) in same_length s c.0 i.1 o.0 o.1.0 o.1.1);
}
  where
    w : at < length bytes
    w = elim (cases_lt at (length bytes)) [ inl g ↦ g | inr g ↦ let z : get_or (drop at bytes) 0 0 ≡ 0 = ap (λ l. get_or l 0 0) (drop_all at bytes g) in absurd (omega arith) ]

    at_end : get_or bytes at 0 ≡ 125
    at_end = ap (λ k. get_or bytes k 0) (sym (add-zero at)) ∙ sym (get_or-drop at bytes 0 0) ∙ q

    front : take (at + 1) bytes ≡ literal (Set held)
    front = take_more bytes at 0 w ∙ (λ i. so.front i ++ (at_end i ∷ []))

    same_length : (s : List Scalar) (rest : List ℕ) → All IsScalar s → (u : List Scalar) → s ≡ held ++ u → drop at bytes ≡ left held u rest → length (literal (Set s)) ≤ at + 1
    same_length s rest all [] e g =
        let n = ap length front in let m = length-take-le (at + 1) bytes (let l = w in omega arith) in
        let t : s ≡ held = e ∙ append-nil held in
        subst (λ l. length (literal (Set l)) ≤ at + 1) (sym t) (omega arith)
    same_length s rest all (y ∷ u) e g = absurd (no_close held y u rest (in_set held u y s e all) (ap (λ l. get_or l 0 0) (sym g) ∙ q))

-- a member takes some bytes
some_text : (t : List ℕ) → (get_or t 0 0 ≡ 0 → ⊥) → 0 ≡ length t → ⊥
some_text [] s e = s refl
some_text (c ∷ t) s e = omega arith

some_entry : (first : Bool) (x : Scalar) → IsScalar x → 0 ≡ length (entry first x) → ⊥
some_entry true x h e = some_text (scalar_text x) (scalar_first (scalar_text x) x h ([], sym (append-nil (scalar_text x)))).some e
some_entry false x h e = omega arith

pub member_width : (first : Bool) (bytes : List ℕ) (x : Scalar) (n : ℕ) → IsMemberFront first bytes x n → 0 < n
member_width first bytes x zero f = absurd (some_entry first x f.is_scalar (ap length f.front))
member_width first bytes x (suc n) f = omega arith

pub member_shrinks : (first : Bool) (bytes : List ℕ) (at : ℕ) (x : Scalar) (n : ℕ) → at ≤ length bytes → IsMemberFront first (drop at bytes) x n → length bytes - (at + n) < length bytes - at
member_shrinks first bytes at x n w f =
    let p = member_width first (drop at bytes) x n f in let l = f.within in let d = length-drop at bytes in omega arith

-- ---- a set that is passed so far: of its members their number and the last are kept
pub record IsPassedSoFar (bytes : List ℕ) (count : ℕ) (last : Option Scalar) (at : ℕ) : Type 0 where
  pub held : List Scalar
  pub so_far : IsSetSoFar bytes held at
  pub number : length held ≡ count
  pub end : last_of held ≡ last

pub passed_none : (bytes : List ℕ) → get_or bytes 0 0 ≡ 123 → IsPassedSoFar bytes 0 None 1
passed_none bytes e = record { held = []; so_far = set_begins bytes e; number = refl; end = refl }

-- whether the step is the first
first_step : (bytes : List ℕ) (count : ℕ) (last : Option Scalar) (at : ℕ) (p : IsPassedSoFar bytes count last at) → (count == 0) ≡ has_no_member p.held
first_step bytes count last at p = ap (λ k. k == 0) (sym p.number) ∙ none_by_length p.held

-- whether a member may follow
follows : (bytes : List ℕ) (count : ℕ) (last : Option Scalar) (at : ℕ) (p : IsPassedSoFar bytes count last at) (x : Scalar) → MayFollow count last x ≡ MayFollow (length p.held) (last_of p.held) x
follows bytes count last at p x = λ i. MayFollow (sym p.number i) (sym p.end i) x

pub passed_more : (bytes : List ℕ) (count : ℕ) (last : Option Scalar) (at : ℕ) (x : Scalar) (n : ℕ) → IsPassedSoFar bytes count last at → IsMemberFront (count == 0) (drop at bytes) x n → MayFollow count last x → IsPassedSoFar bytes (count + 1) (Some x) (at + n)
passed_more bytes count last at x n p f m =
    let front : IsMemberFront (has_no_member p.held) (drop at bytes) x n = subst (λ b. IsMemberFront b (drop at bytes) x n) (first_step bytes count last at p) f in
    let may : MayFollow (length p.held) (last_of p.held) x = subst (λ T. T) (follows bytes count last at p x) m in
    record {
      held = p.held ++ x ∷ [];
      so_far = set_more bytes p.held at x n p.so_far front (follow_set p.held x p.so_far.is_set may);
      number = let l = length-append p.held (x ∷ []) in let k = p.number in omega arith;
      end = last_put p.held x;
    }

pub passed_refused : (bytes : List ℕ) (count : ℕ) (last : Option Scalar) (at : ℕ) (x : Scalar) (n : ℕ) → IsPassedSoFar bytes count last at → IsMemberFront (count == 0) (drop at bytes) x n → ¬ (MayFollow count last x) → HasNoLiteral bytes
passed_refused bytes count last at x n p f refused w h b =
    let front : IsMemberFront (has_no_member p.held) (drop at bytes) x n = subst (λ b. IsMemberFront b (drop at bytes) x n) (first_step bytes count last at p) f in
    refused (subst (λ T. T) (sym (follows bytes count last at p x)) (set_follow p.held x (set_next bytes p.held at x n p.so_far front (w, (h, b)))))

pub passed_wrong : (bytes : List ℕ) (count : ℕ) (last : Option Scalar) (at : ℕ) → IsPassedSoFar bytes count last at → NoMember (count == 0) (drop at bytes) → HasNoLiteral bytes
passed_wrong bytes count last at p n w h b =
    set_wrong bytes p.held at p.so_far (subst (λ b. NoMember b (drop at bytes)) (first_step bytes count last at p) n) (w, (h, b))

-- ---- from the longest literal to one
pub longest_literal : (bytes : List ℕ) (v : Value) (n : ℕ) → IsLongest bytes v n → HasLiteral bytes
longest_literal bytes v n l = (v, (l.is_value, (drop n bytes, sym (take-append-drop n bytes) ∙ ap (λ t. t ++ drop n bytes) l.front)))

pub passed_end : (bytes : List ℕ) (count : ℕ) (last : Option Scalar) (at : ℕ) → IsPassedSoFar bytes count last at → get_or (drop at bytes) 0 0 ≡ 125 → HasLiteral bytes
passed_end bytes count last at p e = longest_literal bytes (Set p.held) (at + 1) (set_close bytes p.held at p.so_far e)

-- where a literal was read, there is one
pub some_literal : (bytes : List ℕ) (v : Value) (n : ℕ) → IsLongest bytes v n → ¬ (HasNoLiteral bytes)
some_literal bytes v n l none = let h = longest_literal bytes v n l in none h.0 h.1.0 h.1.1

-- a reading without memory is never answered by want of memory
pub never_wanted : (r : Option (Value × ℕ)) → IsErrOf (ok_or r Bad) NoMemory → ⊥
never_wanted None e = cc
never_wanted (Some r) e = cc

-- and it is answered by Bad exactly where no literal was read
pub answered : (bytes : List ℕ) (r : Option (Value × ℕ)) → ReadsValue bytes r → IsErrOf (ok_or r Bad) Bad ↔ HasNoLiteral bytes
answered bytes None none = ((λ e. none), (λ h. refl))
answered bytes (Some r) l = ((λ e. cc), (λ h. absurd (some_literal bytes r.0 r.1 l h)))
