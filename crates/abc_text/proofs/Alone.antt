-- The bytes of a token alone are read as this token.
use Rattle.std.proofs.Common.{◌≡◌, ℕ, zero, suc, ◌+◌, Bool, true, false, cond, List, [], ◌∷◌, length, take, Option, Some, None, refl, sym, ap, ◌∙◌, subst, arith, length-take-le}
use Rattle.std.specs.Prelude.{take_while, ◌==◌, nat_le, if◌then◌else◌}
use Rattle.std.specs.List.{prefix_len}
use Rattle.std.proofs.lemmas.List.Sums.{take_while-cons, prefix_len-le-length}
use Rattle.abc_text.specs.declared.lexical.TokenKind.{TokenKind}
use Rattle.abc_text.specs.declared.lexical.TokenKind.TheVariants.{Word, Variable, Number, Text, Symbol}
use Rattle.abc_cause.specs.declared.Cause.{Cause}
use Rattle.abc_cause.specs.declared.Cause.TheVariants.{BadByte, BadText, LongText, LongName, WideNumber}
use Rattle.abc_text.specs.declared.lexical.Before.{Before}
use Rattle.abc_text.specs.declared.lexical.Next.{Next}
use Rattle.abc_text.specs.declared.lexical.Next.TheVariants.{End, Good, Bad}
use Rattle.abc_value.specs.declared.limits.TheConstants.{LONGEST_TEXT}
use Rattle.abc_text.specs.declared.limits.TheConstants.{MOST_NAME}
use Rattle.abc_text.specs.Tokens.{is_letter, is_digit, is_word_byte, is_quote_mark, is_printable, word_len, word_token, variable_token, decimal, greatest, number_token, one_more, text_len, text_value, closed_text, text_token, two_token, token_at, next}
use Rattle.abc_text.specs.Words.{is_mark}
use Rattle.abc_text.proofs.Lengths.{none_some, some_same, more_some}
use Rattle.abc_text.proofs.Forward.{run_long, letter_is_word, good_within}

-- a run alone is a run
run_run : (p : ℕ → Bool) (bs : List ℕ) → take_while p (take_while p bs) ≡ take_while p bs
run_run p [] = refl
run_run p (b ∷ bs) = by (run_run p bs) (p b) refl
  where
    by : take_while p (take_while p bs) ≡ take_while p bs → (c : Bool) → p b ≡ c → take_while p (take_while p (b ∷ bs)) ≡ take_while p (b ∷ bs)
    by more true e =
        let here : take_while p (b ∷ bs) ≡ b ∷ take_while p bs = take_while-cons p b bs ∙ ap (λ (c : Bool). cond c (b ∷ take_while p bs) []) e in
        ap (take_while p) here ∙ take_while-cons p b (take_while p bs) ∙ ap (λ (c : Bool). cond c (b ∷ take_while p (take_while p bs)) []) e ∙ ap (λ (xs : List ℕ). b ∷ xs) more ∙ sym here
    by more false e =
        let here : take_while p (b ∷ bs) ≡ [] = take_while-cons p b bs ∙ ap (λ (c : Bool). cond c (b ∷ take_while p bs) []) e in
        ap (take_while p) here ∙ sym here

-- as many bytes as a run has are the run
pub take_run : (p : ℕ → Bool) (bs : List ℕ) → take (length (take_while p bs)) bs ≡ take_while p bs
take_run p bs = ap (λ (n : ℕ). take n bs) (length-take-le (prefix_len p bs) bs (prefix_len-le-length p bs))

run_alone : (p : ℕ → Bool) (bs : List ℕ) (n : ℕ) → length (take_while p bs) ≡ n → take_while p (take n bs) ≡ take_while p bs
run_alone p bs n e = ap (λ (m : ℕ). take_while p (take m bs)) (sym e) ∙ ap (take_while p) (take_run p bs) ∙ run_run p bs

-- y is the token that x is, where that has n bytes
Keeps : ℕ → Next → Next → Type 0
Keeps n x y = (k : TokenKind) → x ≡ Good k n → y ≡ Good k n

keeps_if : (n : ℕ) (c : Bool) (x y v w : Next) → (c ≡ true → Keeps n x v) → (c ≡ false → Keeps n y w) → Keeps n (if c then x else y) (if c then v else w)
keeps_if n true x y v w f g = f refl
keeps_if n false x y v w f g = g refl

keeps_same : (n : ℕ) (x : Next) → Keeps n x x
unfolding Keeps
keeps_same n x k e = e

keeps_bad : (n : ℕ) (c : Cause) (y : Next) → Keeps n (Bad c) y
unfolding Keeps
keeps_bad n c y k e = absurd (let e' : Bad c ≡ Good k n = e in cc)

good_len : (k l : TokenKind) (m n : ℕ) → Good k m ≡ Good l n → m ≡ n
good_len k l m n e = cc

keeps_run : (kind : TokenKind) (more n all : ℕ) (w : List ℕ) → n + more ≡ all
    → Keeps all (if nat_le (word_len w) MOST_NAME then Good kind (word_len w + more) else Bad LongName)
    (if nat_le (word_len (take n w)) MOST_NAME then Good kind (word_len (take n w) + more) else Bad LongName)
unfolding Keeps
keeps_run kind more n all w size k e = by (nat_le (word_len w) MOST_NAME) refl e
  where
    by : (c : Bool) → nat_le (word_len w) MOST_NAME ≡ c → (if c then Good kind (word_len w + more) else Bad LongName) ≡ Good k all →
        (if nat_le (word_len (take n w)) MOST_NAME then Good kind (word_len (take n w) + more) else Bad LongName) ≡ Good k all
    by true short e =
        let long = good_len kind k (word_len w + more) all e in
        let mine : length (take_while is_word_byte w) ≡ n = omega (arith, long, size) in
        let same : word_len (take n w) ≡ word_len w = ap length (run_alone is_word_byte w n mine) in
        ap (λ (l : ℕ). if nat_le l MOST_NAME then Good kind (l + more) else Bad LongName) same ∙ ap
        (λ (c : Bool). if c then Good kind (word_len w + more) else Bad LongName) short ∙ e
    by false short e = absurd (let e' : Bad LongName ≡ Good k all = e in cc)

plus_zero : (n : ℕ) → n + 0 ≡ n
plus_zero n = omega arith

keeps_word : (n : ℕ) (w : List ℕ) → Keeps n (word_token w) (word_token (take n w))
keeps_word n w =
    subst (λ (x : Next). Keeps n x (word_token (take n w)))
    (ap (λ (l : ℕ). if nat_le (word_len w) MOST_NAME then Good Word l else Bad LongName) (plus_zero (word_len w)))
    (subst (λ (y : Next). Keeps n (if nat_le (word_len w) MOST_NAME then Good Word (word_len w + 0) else Bad LongName) y)
    (ap (λ (l : ℕ). if nat_le (word_len (take n w)) MOST_NAME then Good Word l else Bad LongName) (plus_zero (word_len (take n w))))
    (keeps_run Word 0 n n w (plus_zero n)))

keeps_variable : (n : ℕ) (w : List ℕ) → Keeps (suc n) (variable_token w) (variable_token (take n w))
unfolding Keeps
keeps_variable n [] k e = absurd (let e' : Bad BadByte ≡ Good k (suc n) = e in cc)
keeps_variable zero (b ∷ w) k e = by (is_letter b) refl e
  where
    by : (c : Bool) → is_letter b ≡ c →
        (if c then (if nat_le (word_len (b ∷ w)) MOST_NAME then Good Variable (word_len (b ∷ w) + 1) else Bad LongName) else Bad BadByte)
        ≡ Good k 1 → variable_token [] ≡ Good k 1
    by true l e = short (nat_le (word_len (b ∷ w)) MOST_NAME) e
      where
        short : (c : Bool) → (if c then Good Variable (word_len (b ∷ w) + 1) else Bad LongName) ≡ Good k 1 → variable_token [] ≡ Good k 1
        short true e = absurd (omega (arith, good_len Variable k (word_len (b ∷ w) + 1) 1 e, run_long is_word_byte b w (letter_is_word b l)))
        short false e = absurd (let e' : Bad LongName ≡ Good k 1 = e in cc)
    by false l e = absurd (let e' : Bad BadByte ≡ Good k 1 = e in cc)
keeps_variable (suc n) (b ∷ w) k e =
    keeps_if (suc (suc n)) (is_letter b) (if nat_le (word_len (b ∷ w)) MOST_NAME then Good Variable (word_len (b ∷ w) + 1) else Bad LongName)
    (Bad BadByte)
    (if nat_le (word_len (b ∷ take n w)) MOST_NAME then Good Variable (word_len (b ∷ take n w) + 1) else Bad LongName) (Bad BadByte)
    (λ _. keeps_run Variable 1 (suc n) (suc (suc n)) (b ∷ w) (omega arith)) (λ _. keeps_bad (suc (suc n)) BadByte (Bad BadByte)) k e

keeps_number : (before : Before) (n : ℕ) (w : List ℕ) → Keeps n (number_token before w) (number_token before (take n w))
unfolding Keeps number_token
keeps_number before n w k e = by (nat_le (decimal (take_while is_digit w)) (greatest before)) refl e
  where
    by : (c : Bool) → nat_le (decimal (take_while is_digit w)) (greatest before) ≡ c → (if c then Good Number (length (take_while is_digit w)) else Bad WideNumber) ≡ Good k n
        → (if nat_le (decimal (take_while is_digit (take n w))) (greatest before) then Good Number (length (take_while is_digit (take n w))) else Bad WideNumber) ≡ Good k n
    by true small e =
        let same = run_alone is_digit w n (good_len Number k (length (take_while is_digit w)) n e) in
        ap (λ (l : List ℕ). if nat_le (decimal l) (greatest before) then Good Number (length l) else Bad WideNumber) same ∙ ap (λ (c : Bool). if c then Good Number (length (take_while is_digit w)) else Bad WideNumber) small ∙ e
    by false small e = absurd (let e' : Bad WideNumber ≡ Good k n = e in cc)

-- the text of these bytes closes after n and stands for the same
pub record ClosesAt (escape : Bool) (w : List ℕ) (n : ℕ) : Type 0 where
  pub len : text_len escape (take n w) ≡ Some n
  pub value : text_value escape (take n w) ≡ text_value escape w

plus_one : (m n : ℕ) → n ≡ suc m → m + 1 ≡ n
plus_one m n e = omega (arith, e)

pub closes_at : (escape : Bool) (w : List ℕ) (n : ℕ) → text_len escape w ≡ Some n → ClosesAt escape w n
closes_at escape [] n e = absurd (none_some n e)
closes_at true (b ∷ w) n e = by (closes_at false w) (is_quote_mark b) refl e
  where
    by : ((m : ℕ) → text_len false w ≡ Some m → ClosesAt false w m) → (c : Bool) → is_quote_mark b ≡ c → (if c then one_more (text_len false w) else None) ≡ Some n → ClosesAt true (b ∷ w) n
    by more true q e =
        let s = more_some (text_len false w) n e in
        let h = more s.0 s.1 in
        subst (ClosesAt true (b ∷ w)) (sym s.2) (record {
          len = ap (λ (c : Bool). if c then one_more (text_len false (take s.0 w)) else None) q ∙ ap one_more h.len ∙ ap Some (plus_one s.0 (suc s.0) refl);
          value = ap (λ (l : List ℕ). b ∷ l) h.value;
        })
    by more false q e = absurd (none_some n e)
closes_at false (b ∷ w) n e = by (closes_at true w) (closes_at false w) (b == 34) (b == 92) (is_printable b) refl refl refl e
  where
    by : ((m : ℕ) → text_len true w ≡ Some m → ClosesAt true w m) → ((m : ℕ) → text_len false w ≡ Some m → ClosesAt false w m)
        → (c d p : Bool) → (b == 34) ≡ c → (b == 92) ≡ d → is_printable b ≡ p
        → (if c then Some 1 else (if d then one_more (text_len true w) else (if p then one_more (text_len false w) else None))) ≡ Some n → ClosesAt false (b ∷ w) n
    by escaped plain true d p hc hd hp e =
        subst (ClosesAt false (b ∷ w)) (some_same 1 n e) (record {
          len = ap (λ (c : Bool). if c then Some 1 else (if b == 92 then one_more (text_len true []) else (if is_printable b then one_more (text_len false []) else None))) hc;
          value = ap (λ (c : Bool). if c then [] else (if b == 92 then text_value true [] else b ∷ text_value false [])) hc ∙ sym (ap (λ (c : Bool). if c then [] else (if b == 92 then text_value true w else b ∷ text_value false w)) hc);
        })
    by escaped plain false true p hc hd hp e =
        let s = more_some (text_len true w) n e in
        let h = escaped s.0 s.1 in
        subst (ClosesAt false (b ∷ w)) (sym s.2) (record {
          len = (λ i. if hc i then Some 1 else (if hd i then one_more (text_len true (take s.0 w)) else (if is_printable b then one_more (text_len false (take s.0 w)) else None))) ∙ ap one_more h.len ∙ ap Some (plus_one s.0 (suc s.0) refl);
          value = (λ i. if hc i then [] else (if hd i then text_value true (take s.0 w) else b ∷ text_value false (take s.0 w))) ∙ h.value ∙ sym (λ i. if hc i then [] else (if hd i then text_value true w else b ∷ text_value false w));
        })
    by escaped plain false false true hc hd hp e =
        let s = more_some (text_len false w) n e in
        let h = plain s.0 s.1 in
        subst (ClosesAt false (b ∷ w)) (sym s.2) (record {
          len = (λ i. if hc i then Some 1 else (if hd i then one_more (text_len true (take s.0 w)) else (if hp i then one_more (text_len false (take s.0 w)) else None))) ∙ ap one_more h.len ∙ ap Some (plus_one s.0 (suc s.0) refl);
          value = (λ i. if hc i then [] else (if hd i then text_value true (take s.0 w) else b ∷ text_value false (take s.0 w))) ∙ ap (λ (l : List ℕ). b ∷ l) h.value ∙ sym (λ i. if hc i then [] else (if hd i then text_value true w else b ∷ text_value false w));
        })
    by escaped plain false false false hc hd hp e = absurd (none_some n e)

closed_good : (size : ℕ) (o : Option ℕ) (k : TokenKind) (n : ℕ) → closed_text size o ≡ Good k (suc n) → o ≡ Some n
closed_good size None k n e = absurd (let e' : Bad BadText ≡ Good k (suc n) = e in cc)
closed_good size (Some m) k n e = by (nat_le size LONGEST_TEXT) e
  where
    by : (c : Bool) → (if c then Good Text (m + 1) else Bad LongText) ≡ Good k (suc n) → Some m ≡ Some n
    by true e = let e' = good_len Text k (m + 1) (suc n) e in let same : m ≡ n = omega (arith, e') in ap Some same
    by false e = absurd (let e' : Bad LongText ≡ Good k (suc n) = e in cc)

keeps_text : (n : ℕ) (w : List ℕ) → Keeps (suc n) (text_token w) (text_token (take n w))
unfolding Keeps text_token
keeps_text n w k e =
    let s = closed_good (length (text_value false w)) (text_len false w) k n e in
    let h = closes_at false w n s in
    (λ i. closed_text (length (h.value i)) ((h.len ∙ sym s) i)) ∙ e

keeps_two : (n : ℕ) (b : ℕ) (w : List ℕ) → Keeps (suc n) (two_token (b ∷ w)) (two_token (b ∷ take n w))
unfolding Keeps
keeps_two n b [] k e = absurd (let e' : Bad BadByte ≡ Good k (suc n) = e in cc)
keeps_two zero b (c ∷ w) k e = by (is_mark (b ∷ (c ∷ []))) e
  where
    by : (t : Bool) → (if t then Good Symbol 2 else Bad BadByte) ≡ Good k 1 → two_token (b ∷ []) ≡ Good k 1
    by true e = absurd (let e' = good_len Symbol k 2 1 e in omega (arith, e'))
    by false e = absurd (let e' : Bad BadByte ≡ Good k 1 = e in cc)
keeps_two (suc n) b (c ∷ w) k e = e

keeps_token : (before : Before) (n : ℕ) (b : ℕ) (w : List ℕ) → Keeps (suc n) (token_at before (b ∷ w)) (token_at before (b ∷ take n w))
keeps_token before n b w =
    keeps_if (suc n) (is_letter b) _ _ _ _ (λ _. keeps_word (suc n) (b ∷ w)) (λ _.
    keeps_if (suc n) (b == 36) _ _ _ _ (λ _. keeps_variable n w) (λ _.
    keeps_if (suc n) (is_digit b) _ _ _ _ (λ _. keeps_number before (suc n) (b ∷ w)) (λ _.
    keeps_if (suc n) (b == 34) _ _ _ _ (λ _. keeps_text n w) (λ _.
    keeps_if (suc n) (is_mark (b ∷ [])) _ _ _ _ (λ _. keeps_same (suc n) (Good Symbol 1)) (λ _.
    keeps_two n b w)))))

pub token_alone : (before : Before) (bytes : List ℕ) (k : TokenKind) (n : ℕ) → next before bytes ≡ Good k n → next before (take n bytes) ≡ Good k n
unfolding next Keeps
token_alone before [] k n e = absurd (let e' : End ≡ Good k n = e in cc)
token_alone before (b ∷ w) k zero e = absurd (let h = good_within before (b ∷ w) k zero e in omega (arith, h.0))
token_alone before (b ∷ w) k (suc n) e = keeps_token before n b w k e
