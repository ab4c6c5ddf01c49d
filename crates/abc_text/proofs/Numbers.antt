-- A number of a text is below 2^63, or it is 2^63 and stands right behind a sign.
use Rattle.std.proofs.Common.{◌≡◌, ℕ, ◌≤◌, ◌<◌, ◌^◌, ◌⊎◌, inl, inr, Bool, true, false, List, [], ◌∷◌, ◌++◌, length, take, Option, refl, sym, ap, ◌∙◌, subst, arith}
use Rattle.std.specs.Prelude.{if◌then◌else◌}
use Rattle.std.proofs.lemmas.Bool.{cases_lt}
use Rattle.abc_text.specs.declared.lexical.TokenKind.{TokenKind}
use Rattle.abc_text.specs.declared.lexical.TokenKind.TheVariants.{Number}
use Rattle.abc_text.specs.declared.lexical.Before.{Before}
use Rattle.abc_text.specs.declared.lexical.Before.TheVariants.{Open, Operand, Sign}
use Rattle.abc_text.specs.declared.lexical.Next.TheVariants.{Good}
use Rattle.abc_text.specs.declared.lexical.Token.{Token}
use Rattle.abc_text.specs.declared.lexical.Fault.{Fault}
use Rattle.abc_text.specs.Tokens.{skip, next, greatest, ends_operand, is_sign, stands_after, spelled, left, IsNext, IsRead}
use Rattle.abc_text.specs.Meanings.{spelling, number_of, signs_from}
use Rattle.abc_text.specs.Laws.{EndsWithSign, NumbersFit}
use Rattle.abc_text.proofs.Forward.{good_within}
use Rattle.abc_text.proofs.Alone.{token_alone}
use Rattle.abc_text.proofs.OfKind.{number-alone, length-spelling}
use Rattle.abc_text.proofs.Standing.{IsBack, skip_back, back_back, drop_back, back_at, next_stands}

-- a sign stands before what follows these tokens
SignedBehind : Before → List ℕ → List Token → Type 0
SignedBehind before bytes [] = before ≡ Sign
SignedBehind before bytes (t ∷ ts) = SignedBehind (stands_after before t.kind (spelling bytes t)) bytes ts

sign_stands : (before : Before) (kind : TokenKind) (word : List ℕ) → stands_after before kind word ≡ Sign → is_sign before kind word ≡ true
unfolding stands_after
sign_stands before kind word e = by (ends_operand kind word) (is_sign before kind word) e
  where
    by : (b c : Bool) → (if b then Operand else (if c then Sign else Open)) ≡ Sign → c ≡ true
    by true c e = absurd (cc)
    by false true e = refl
    by false false e = absurd (cc)

-- so the last of them is a sign
last_signed : (before : Before) (bytes : List ℕ) (t : Token) (ts : List Token) → SignedBehind before bytes (t ∷ ts) →
    (fs : List Bool) × (signs_from before bytes (t ∷ ts) ≡ fs ++ true ∷ [])
unfolding SignedBehind
last_signed before bytes t [] h = ([], ap (λ (b : Bool). b ∷ []) (sign_stands before t.kind (spelling bytes t) h))
last_signed before bytes t (u ∷ us) h =
    let more = last_signed (stands_after before t.kind (spelling bytes t)) bytes u us h in
    (is_sign before t.kind (spelling bytes t) ∷ more.0, ap (λ (fs : List Bool). is_sign before t.kind (spelling bytes t) ∷ fs) more.1)

ends_signed : (bytes : List ℕ) (ts : List Token) → SignedBehind Open bytes ts → EndsWithSign bytes ts
unfolding SignedBehind
ends_signed bytes [] h = absurd (cc)
ends_signed bytes (t ∷ ts) h = last_signed Open bytes t ts h

at_most : (before : Before) (n : ℕ) → n ≤ greatest before → (n < 2 ^ 63) ⊎ ((n ≡ 2 ^ 63) × (before ≡ Sign))
at_most Open n h = inl (omega arith)
at_most Operand n h = inl (omega arith)
at_most Sign n h = by (cases_lt n (2 ^ 63))
  where
    by : (n < 2 ^ 63) ⊎ (2 ^ 63 ≤ n) → (n < 2 ^ 63) ⊎ ((n ≡ 2 ^ 63) × (Sign ≡ Sign))
    by (inl lt) = inl lt
    by (inr le) = inr (omega arith, refl)

-- the bytes of the next token, as those of the text
pub spelled_at : (bytes : List ℕ) (before : Before) (rest : List ℕ) (t : Token) → IsBack rest bytes → IsNext (length bytes) before rest t →
    spelling bytes t ≡ spelled rest t
spelled_at bytes before rest t back here =
    ap (take t.len) (back_at t.place (skip rest) bytes (back_back (skip rest) rest bytes (skip_back rest) back) here.place)

number_at : (bytes : List ℕ) (before : Before) (rest : List ℕ) (t : Token) → IsBack rest bytes → IsNext (length bytes) before rest t →
    t.kind ≡ Number → number_of bytes t ≤ greatest before
number_at bytes before rest t back here kind =
    let long : length (spelling bytes t) ≡ t.len = length-spelling bytes t (next_stands bytes before rest t back here) in
    let alone : next before (spelling bytes t) ≡ Good t.kind t.len =
    ap (next before) (spelled_at bytes before rest t back here) ∙ token_alone before (skip rest) t.kind t.len here.token in
    number-alone before (spelling bytes t) (alone ∙ (λ i. Good (kind i) (sym long i)))

no_front : (front back : List Token) (t : Token) → [] ≡ front ++ t ∷ back → ⊥
no_front [] back t e = cc
no_front (u ∷ front) back t e = cc

fits :
    (bytes : List ℕ) (before : Before) (rest : List ℕ) (ts : List Token) (fault : Option Fault) → IsBack rest bytes →
    IsRead (length bytes) before rest ts fault →
    (front back : List Token) (t : Token) → ts ≡ front ++ t ∷ back → t.kind ≡ Number →
    (number_of bytes t < 2 ^ 63) ⊎ ((number_of bytes t ≡ 2 ^ 63) × SignedBehind before bytes front)
unfolding SignedBehind
fits bytes before rest [] fault is h front back t e kind = absurd (no_front front back t e)
fits bytes before rest (u ∷ us) fault is h [] back t e kind =
    let same : u ≡ t = cc in
    at_most before (number_of bytes t)
    (subst (λ (v : Token). v.kind ≡ Number → number_of bytes v ≤ greatest before) same (number_at bytes before rest u is h.0) kind)
fits bytes before rest (u ∷ us) fault is h (v ∷ front) back t e kind =
    let same : u ≡ v = cc in
    let more : us ≡ front ++ t ∷ back = cc in
    let w = good_within before (skip rest) u.kind u.len h.0.token in
    let is' = back_back (left rest u) (skip rest) bytes (drop_back u.len (skip rest) w.1) (back_back (skip rest) rest bytes (skip_back rest) is) in
    let word : spelled rest u ≡ spelling bytes u = sym (spelled_at bytes before rest u is h.0) in
    by (fits bytes (stands_after before u.kind (spelled rest u)) (left rest u) us fault is' h.1 front back t more kind)
    (λ s. subst (λ (x : Token). SignedBehind (stands_after before x.kind (spelling bytes x)) bytes front) same
    (subst (λ (ws : List ℕ). SignedBehind (stands_after before u.kind ws) bytes front) word s))
  where
    by :
        (number_of bytes t < 2 ^ 63) ⊎ ((number_of bytes t ≡ 2 ^ 63) × SignedBehind (stands_after before u.kind (spelled rest u)) bytes front) →
        (SignedBehind (stands_after before u.kind (spelled rest u)) bytes front →
        SignedBehind (stands_after before v.kind (spelling bytes v)) bytes front) →
        (number_of bytes t < 2 ^ 63) ⊎ ((number_of bytes t ≡ 2 ^ 63) × SignedBehind (stands_after before v.kind (spelling bytes v)) bytes front)
    by (inl lt) f = inl lt
    by (inr x) f = inr (x.0, f x.1)

pub numbers_fit : NumbersFit
numbers_fit bytes ts fault h front back t e kind = by (fits bytes Open bytes ts fault (drop_back 0 bytes (omega arith)) h front back t e kind)
  where
    by : (number_of bytes t < 2 ^ 63) ⊎ ((number_of bytes t ≡ 2 ^ 63) × SignedBehind Open bytes front) →
        (number_of bytes t < 2 ^ 63) ⊎ ((number_of bytes t ≡ 2 ^ 63) × EndsWithSign bytes front)
    by (inl lt) = inl lt
    by (inr x) = inr (x.0, ends_signed bytes front x.1)
