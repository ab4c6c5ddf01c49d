-- Each text is read in one way.
use Rattle.std.proofs.Common.{◌≡◌, ℕ, zero, suc, ◌+◌, ◌-◌, ◌≤◌, List, [], ◌∷◌, length, drop, Option, Some, None, refl, sym, ap, ◌∙◌, subst, arith, length-drop}
use Rattle.abc_text.specs.declared.lexical.TokenKind.{TokenKind}
use Rattle.abc_cause.specs.declared.Cause.{Cause}
use Rattle.abc_text.specs.declared.lexical.Before.{Before}
use Rattle.abc_text.specs.declared.lexical.Before.TheVariants.{Open}
use Rattle.abc_text.specs.declared.lexical.Next.{Next}
use Rattle.abc_text.specs.declared.lexical.Next.TheVariants.{End, Good, Bad}
use Rattle.abc_text.specs.declared.lexical.Token.{Token}
use Rattle.abc_text.specs.declared.lexical.Fault.{Fault}
use Rattle.abc_text.specs.Tokens.{skip, next, stands_after, IsNext, spelled, left, IsRead}
use Rattle.abc_text.specs.Laws.{OneReading}
use Rattle.abc_text.proofs.Forward.{length-skip-le, good_within}

good_kind : (k l : TokenKind) (m n : ℕ) → Good k m ≡ Good l n → k ≡ l
good_kind k l m n e = cc

good_len : (k l : TokenKind) (m n : ℕ) → Good k m ≡ Good l n → m ≡ n
good_len k l m n e = cc

bad_cause : (c d : Cause) → Bad c ≡ Bad d → c ≡ d
bad_cause c d e = cc

end_good : (k : TokenKind) (n : ℕ) → End ≡ Good k n → ⊥
end_good k n e = cc

end_bad : (c : Cause) → End ≡ Bad c → ⊥
end_bad c e = cc

bad_good : (c : Cause) (k : TokenKind) (n : ℕ) → Bad c ≡ Good k n → ⊥
bad_good c k n e = cc

one_next : (size : ℕ) (before : Before) (bytes : List ℕ) (t u : Token) → IsNext size before bytes t → IsNext size before bytes u → t ≡ u
one_next size before bytes t u h k =
    let both = sym h.token ∙ k.token in
    let kind : t.kind ≡ u.kind = good_kind _ _ _ _ both in
    let len : t.len ≡ u.len = good_len _ _ _ _ both in
    let place : t.place ≡ u.place = omega (arith, h.place, k.place) in
    λ i. record { kind = kind i; place = place i; len = len i }

one_fault : (size : ℕ) (front : List ℕ) (n : Next) (f g : Fault) → (n ≡ Bad f.cause) × (f.place + length front ≡ size) → (n ≡ Bad g.cause) × (g.place + length front ≡ size) → f ≡ g
one_fault size front n f g h k =
    let cause : f.cause ≡ g.cause = bad_cause _ _ (sym h.0 ∙ k.0) in
    let place : f.place ≡ g.place = omega (arith, h.1, k.1) in
    λ i. record { place = place i; cause = cause i }

one : (size : ℕ) (before : Before) (bytes : List ℕ) (ts us : List Token) (f g : Option Fault)
    → IsRead size before bytes ts f → IsRead size before bytes us g → (ts ≡ us) × (f ≡ g)
one size before bytes [] [] None None h k = (refl, refl)
one size before bytes [] [] None (Some g) h k = absurd (end_bad _ (sym h ∙ k.0))
one size before bytes [] [] (Some f) None h k = absurd (end_bad _ (sym k ∙ h.0))
one size before bytes [] [] (Some f) (Some g) h k = (refl, ap Some (one_fault size (skip bytes) (next before (skip bytes)) f g h k))
one size before bytes [] (u ∷ us) None g h k = absurd (end_good _ _ (sym h ∙ k.0.token))
one size before bytes [] (u ∷ us) (Some f) g h k = absurd (bad_good _ _ _ (sym h.0 ∙ k.0.token))
one size before bytes (t ∷ ts) [] f None h k = absurd (end_good _ _ (sym k ∙ h.0.token))
one size before bytes (t ∷ ts) [] f (Some g) h k = absurd (bad_good _ _ _ (sym k.0 ∙ h.0.token))
one size before bytes (t ∷ ts) (u ∷ us) f g h k =
    let same = one_next size before bytes t u h.0 k.0 in
    let rest = one size (stands_after before t.kind (spelled bytes t)) (left bytes t) ts us f g h.1
    (subst (λ (v : Token). IsRead size (stands_after before v.kind (spelled bytes v)) (left bytes v) us g) (sym same) k.1) in
    ((λ i. same i ∷ rest.0 i), rest.1)

some : (fuel size : ℕ) (before : Before) (bytes : List ℕ) → length bytes ≤ fuel → length bytes ≤ size
    → (ts : List Token) × (fault : Option Fault) × IsRead size before bytes ts fault
some zero size before bytes short fits = by (next before (skip bytes)) refl
  where
    by : (n : Next) → next before (skip bytes) ≡ n → (ts : List Token) × (fault : Option Fault) × IsRead size before bytes ts fault
    by End e = ([], None, e)
    by (Bad c) e = ([], Some (record { place = size - length (skip bytes); cause = c }), (e, omega (arith, length-skip-le bytes)))
    by (Good k n) e = absurd (let long = good_within before (skip bytes) k n e in omega (arith, length-skip-le bytes, long.0, long.1))
some (suc fuel) size before bytes short fits = by (λ (b : Before) (bs : List ℕ). some fuel size b bs) (next before (skip bytes)) refl
  where
    by : ((b : Before) (bs : List ℕ) → length bs ≤ fuel → length bs ≤ size → (ts : List Token) × (fault : Option Fault) × IsRead size b bs ts fault)
        → (n : Next) → next before (skip bytes) ≡ n → (ts : List Token) × (fault : Option Fault) × IsRead size before bytes ts fault
    by more End e = ([], None, e)
    by more (Bad c) e = ([], Some (record { place = size - length (skip bytes); cause = c }), (e, omega (arith, length-skip-le bytes)))
    by more (Good k n) e =
        let long = good_within before (skip bytes) k n e in
        let t : Token = record { kind = k; place = size - length (skip bytes); len = n } in
        let rest = more (stands_after before k (spelled bytes t)) (drop n (skip bytes))
        (omega (arith, length-skip-le bytes, length-drop {A = ℕ} n (skip bytes), long.0, long.1))
        (omega (arith, length-skip-le bytes, length-drop {A = ℕ} n (skip bytes))) in
        (t ∷ rest.0, rest.1, (record { token = e; place = omega (arith, length-skip-le bytes) }, rest.2))

pub one_reading : OneReading
one_reading bytes = record {
  some = some (length bytes) (length bytes) Open bytes (omega arith) (omega arith);
  one = λ ts us f g h k. one (length bytes) Open bytes ts us f g h k;
}
