-- What may follow a token doesn't change it.
use Rattle.std.proofs.Common.{◌≡◌, ℕ, suc, ◌+◌, Bool, true, false, cond, List, [], ◌∷◌, ◌++◌, length, Option, Some, None, refl, sym, ap, ◌∙◌, subst, arith}
use Rattle.std.specs.Prelude.{take_while, ◌==◌, nat_le, if◌then◌else◌}
use Rattle.std.proofs.lemmas.List.Sums.{take_while-cons}
use Rattle.abc_text.specs.declared.lexical.TokenKind.{TokenKind}
use Rattle.abc_text.specs.declared.lexical.TokenKind.TheVariants.{Word, Variable, Number, Symbol}
use Rattle.abc_cause.specs.declared.Cause.{Cause}
use Rattle.abc_cause.specs.declared.Cause.TheVariants.{BadByte, BadText, LongName, WideNumber}
use Rattle.abc_text.specs.declared.lexical.Before.{Before}
use Rattle.abc_text.specs.declared.lexical.Next.{Next}
use Rattle.abc_text.specs.declared.lexical.Next.TheVariants.{End, Good, Bad}
use Rattle.abc_text.specs.declared.limits.TheConstants.{MOST_NAME}
use Rattle.abc_text.specs.Tokens.{is_letter, is_digit, is_word_byte, is_quote_mark, is_printable, word_len, word_token, variable_token, decimal, greatest, number_token, one_more, text_len, text_value, closed_text, text_token, two_token, token_at, next}
use Rattle.abc_text.specs.Words.{is_mark}
use Rattle.abc_text.specs.Laws.{Stops, MayFollow}
use Rattle.abc_text.proofs.Lengths.{none_some, more_some}

-- a run that takes a whole list goes on only into what passes
run_stops : (p : ℕ → Bool) (w rest : List ℕ) → length (take_while p w) ≡ length w → Stops p rest → take_while p (w ++ rest) ≡ take_while p w
run_stops p [] [] h s = refl
run_stops p [] (b ∷ bs) h s = take_while-cons p b bs ∙ ap (λ (c : Bool). cond c (b ∷ take_while p bs) []) s
run_stops p (b ∷ w) rest h s = by (λ (all : length (take_while p w) ≡ length w). run_stops p w rest all s) (p b) refl
  where
    by : (length (take_while p w) ≡ length w → take_while p (w ++ rest) ≡ take_while p w) → (c : Bool) → p b ≡ c → take_while p (b ∷ w ++ rest) ≡ take_while p (b ∷ w)
    by more true e =
        let here : take_while p (b ∷ w) ≡ b ∷ take_while p w = take_while-cons p b w ∙ ap (λ (c : Bool). cond c (b ∷ take_while p w) []) e in
        let all : length (take_while p w) ≡ length w = omega (arith, h, ap (length {A = ℕ}) here) in
        take_while-cons p b (w ++ rest) ∙ ap (λ (c : Bool). cond c (b ∷ take_while p (w ++ rest)) []) e ∙ ap (λ (xs : List ℕ). b ∷ xs) (more all) ∙ sym here
    by more false e =
        let here : take_while p (b ∷ w) ≡ [] = take_while-cons p b w ∙ ap (λ (c : Bool). cond c (b ∷ take_while p w) []) e in
        absurd (omega (arith, h, ap (length {A = ℕ}) here))

-- y is the token that x is, where that takes the n bytes of a spelling and what follows may
Keeps : List ℕ → ℕ → Next → Next → Type 0
Keeps rest n x y = (k : TokenKind) → x ≡ Good k n → MayFollow k rest → y ≡ Good k n

keeps_if : (rest : List ℕ) (n : ℕ) (c : Bool) (x y v w : Next) → (c ≡ true → Keeps rest n x v) → (c ≡ false → Keeps rest n y w) → Keeps rest n (if c then x else y) (if c then v else w)
keeps_if rest n true x y v w f g = f refl
keeps_if rest n false x y v w f g = g refl

keeps_same : (rest : List ℕ) (n : ℕ) (x : Next) → Keeps rest n x x
unfolding Keeps
keeps_same rest n x k e m = e

keeps_bad : (rest : List ℕ) (n : ℕ) (c : Cause) (y : Next) → Keeps rest n (Bad c) y
unfolding Keeps
keeps_bad rest n c y k e m = absurd (let e' : Bad c ≡ Good k n = e in cc)

good_same : (k l : TokenKind) (m n : ℕ) → Good k m ≡ Good l n → (k ≡ l) × (m ≡ n)
good_same k l m n e = (cc, cc)

-- a run of a word, of which `more` bytes stand before
keeps_run : (rest : List ℕ) (n : ℕ) (kind : TokenKind) (more : ℕ) (w : List ℕ) → n ≡ length w + more → (MayFollow kind rest → Stops is_word_byte rest)
    → Keeps rest n (if nat_le (word_len w) MOST_NAME then Good kind (word_len w + more) else Bad LongName)
    (if nat_le (word_len (w ++ rest)) MOST_NAME then Good kind (word_len (w ++ rest) + more) else Bad LongName)
unfolding Keeps
keeps_run rest n kind more w size stops k e m = by (nat_le (word_len w) MOST_NAME) refl e
  where
    by : (c : Bool) → nat_le (word_len w) MOST_NAME ≡ c → (if c then Good kind (word_len w + more) else Bad LongName) ≡ Good k n →
        (if nat_le (word_len (w ++ rest)) MOST_NAME then Good kind (word_len (w ++ rest) + more) else Bad LongName) ≡ Good k n
    by true short e =
        let both = good_same kind k (word_len w + more) n e in
        let all : length (take_while is_word_byte w) ≡ length w = omega (arith, both.1, size) in
        let same : word_len (w ++ rest) ≡ word_len w = ap length (run_stops is_word_byte w rest all (stops (subst (λ (l : TokenKind). MayFollow l rest) (sym both.0) m))) in
        ap (λ (l : ℕ). if nat_le l MOST_NAME then Good kind (l + more) else Bad LongName) same ∙ ap
        (λ (c : Bool). if c then Good kind (word_len w + more) else Bad LongName) short ∙ e
    by false short e = absurd (let e' : Bad LongName ≡ Good k n = e in cc)

plus_zero : (n : ℕ) → n ≡ n + 0
plus_zero n = omega arith

keeps_word : (rest w : List ℕ) → Keeps rest (length w) (word_token w) (word_token (w ++ rest))
keeps_word rest w =
    subst (λ (x : Next). Keeps rest (length w) x (word_token (w ++ rest)))
    (ap (λ (l : ℕ). if nat_le (word_len w) MOST_NAME then Good Word l else Bad LongName) (sym (plus_zero (word_len w))))
    (subst (λ (y : Next). Keeps rest (length w) (if nat_le (word_len w) MOST_NAME then Good Word (word_len w + 0) else Bad LongName) y)
    (ap (λ (l : ℕ). if nat_le (word_len (w ++ rest)) MOST_NAME then Good Word l else Bad LongName) (sym (plus_zero (word_len (w ++ rest)))))
    (keeps_run rest (length w) Word 0 w (omega arith) (λ s. s)))

keeps_variable : (rest w : List ℕ) → Keeps rest (length w + 1) (variable_token w) (variable_token (w ++ rest))
keeps_variable rest [] = keeps_bad rest 1 BadByte (variable_token rest)
keeps_variable rest (b ∷ w) = keeps_if rest (length (b ∷ w) + 1) (is_letter b) _ _ _ _ (λ _. keeps_run rest (length (b ∷ w) + 1) Variable 1 (b ∷ w) refl (λ s. s)) (λ _. keeps_bad rest (length (b ∷ w) + 1) BadByte (Bad BadByte))

keeps_number : (before : Before) (rest w : List ℕ) → Keeps rest (length w) (number_token before w) (number_token before (w ++ rest))
unfolding Keeps number_token
keeps_number before rest w k e m = by (nat_le (decimal (take_while is_digit w)) (greatest before)) refl e
  where
    by : (c : Bool) → nat_le (decimal (take_while is_digit w)) (greatest before) ≡ c → (if c then Good Number (length (take_while is_digit w)) else Bad WideNumber) ≡ Good k (length w)
        → (if nat_le (decimal (take_while is_digit (w ++ rest))) (greatest before) then Good Number (length (take_while is_digit (w ++ rest))) else Bad WideNumber) ≡ Good k (length w)
    by true small e =
        let both = good_same Number k (length (take_while is_digit w)) (length w) e in
        let same = run_stops is_digit w rest both.1 (subst (λ (l : TokenKind). MayFollow l rest) (sym both.0) m) in
        ap (λ (l : List ℕ). if nat_le (decimal l) (greatest before) then Good Number (length l) else Bad WideNumber) same ∙ ap (λ (c : Bool). if c then Good Number (length (take_while is_digit w)) else Bad WideNumber) small ∙ e
    by false small e = absurd (let e' : Bad WideNumber ≡ Good k (length w) = e in cc)

-- where a text closes, what follows is no part of it
pub closes : (escape : Bool) (w rest : List ℕ) (n : ℕ) → text_len escape w ≡ Some n → (text_len escape (w ++ rest) ≡ text_len escape w) × (text_value escape (w ++ rest) ≡ text_value escape w)
closes escape [] rest n e = absurd (none_some n e)
closes true (b ∷ w) rest n e = by (closes false w rest) (is_quote_mark b) e
  where
    by : ((m : ℕ) → text_len false w ≡ Some m → (text_len false (w ++ rest) ≡ text_len false w) × (text_value false (w ++ rest) ≡ text_value false w))
        → (c : Bool) → (if c then one_more (text_len false w) else None) ≡ Some n
        → ((if c then one_more (text_len false (w ++ rest)) else None) ≡ (if c then one_more (text_len false w) else None)) × (b ∷ text_value false (w ++ rest) ≡ b ∷ text_value false w)
    by more true e = let s = more_some (text_len false w) n e in let h = more s.0 s.1 in (ap one_more h.0, ap (λ (l : List ℕ). b ∷ l) h.1)
    by more false e = absurd (none_some n e)
closes false (b ∷ w) rest n e = by (closes true w rest) (closes false w rest) (b == 34) (b == 92) (is_printable b) e
  where
    by : ((m : ℕ) → text_len true w ≡ Some m → (text_len true (w ++ rest) ≡ text_len true w) × (text_value true (w ++ rest) ≡ text_value true w))
        → ((m : ℕ) → text_len false w ≡ Some m → (text_len false (w ++ rest) ≡ text_len false w) × (text_value false (w ++ rest) ≡ text_value false w))
        → (c d p : Bool) → (if c then Some 1 else (if d then one_more (text_len true w) else (if p then one_more (text_len false w) else None))) ≡ Some n
        → ((if c then Some 1 else (if d then one_more (text_len true (w ++ rest)) else (if p then one_more (text_len false (w ++ rest)) else None)))
        ≡ (if c then Some 1 else (if d then one_more (text_len true w) else (if p then one_more (text_len false w) else None))))
        × ((if c then [] else (if d then text_value true (w ++ rest) else b ∷ text_value false (w ++ rest)))
        ≡ (if c then [] else (if d then text_value true w else b ∷ text_value false w)))
    by escaped plain true d p e = (refl, refl)
    by escaped plain false true p e = let s = more_some (text_len true w) n e in let h = escaped s.0 s.1 in (ap one_more h.0, h.1)
    by escaped plain false false true e = let s = more_some (text_len false w) n e in let h = plain s.0 s.1 in (ap one_more h.0, ap (λ (l : List ℕ). b ∷ l) h.1)
    by escaped plain false false false e = absurd (none_some n e)

closed_good : (size : ℕ) (o : Option ℕ) (k : TokenKind) (n : ℕ) → closed_text size o ≡ Good k n → (m : ℕ) × (o ≡ Some m)
closed_good size None k n e = absurd (let e' : Bad BadText ≡ Good k n = e in cc)
closed_good size (Some m) k n e = (m, refl)

keeps_text : (n : ℕ) (rest w : List ℕ) → Keeps rest n (text_token w) (text_token (w ++ rest))
unfolding Keeps text_token
keeps_text n rest w k e m =
    let s = closed_good (length (text_value false w)) (text_len false w) k n e in
    let h = closes false w rest s.0 s.1 in
    (λ i. closed_text (length (h.1 i)) (h.0 i)) ∙ e

keeps_two : (n : ℕ) (rest : List ℕ) (b : ℕ) (w : List ℕ) → Keeps rest n (two_token (b ∷ w)) (two_token (b ∷ (w ++ rest)))
keeps_two n rest b [] = keeps_bad rest n BadByte (two_token (b ∷ rest))
keeps_two n rest b (c ∷ w) = keeps_same rest n (if is_mark (b ∷ (c ∷ [])) then Good Symbol 2 else Bad BadByte)

suc_plus : (n : ℕ) → n + 1 ≡ suc n
suc_plus n = omega arith

keeps_token : (before : Before) (rest : List ℕ) (b : ℕ) (w : List ℕ) → Keeps rest (length (b ∷ w)) (token_at before (b ∷ w)) (token_at before (b ∷ (w ++ rest)))
keeps_token before rest b w =
    keeps_if rest (length (b ∷ w)) (is_letter b) _ _ _ _ (λ _. keeps_word rest (b ∷ w)) (λ _.
    keeps_if rest (length (b ∷ w)) (b == 36) _ _ _ _ (λ _. subst (λ (n : ℕ). Keeps rest n (variable_token w) (variable_token (w ++ rest))) (suc_plus (length w)) (keeps_variable rest w)) (λ _.
    keeps_if rest (length (b ∷ w)) (is_digit b) _ _ _ _ (λ _. keeps_number before rest (b ∷ w)) (λ _.
    keeps_if rest (length (b ∷ w)) (b == 34) _ _ _ _ (λ _. keeps_text (length (b ∷ w)) rest w) (λ _.
    keeps_if rest (length (b ∷ w)) (is_mark (b ∷ [])) _ _ _ _ (λ _. keeps_same rest (length (b ∷ w)) (Good Symbol 1)) (λ _.
    keeps_two (length (b ∷ w)) rest b w)))))

pub followed : (before : Before) (rest s : List ℕ) (k : TokenKind) → next before s ≡ Good k (length s) → MayFollow k rest → next before (s ++ rest) ≡ Good k (length s)
unfolding next Keeps
followed before rest [] k e m = absurd (let e' : End ≡ Good k 0 = e in cc)
followed before rest (b ∷ w) k e m = keeps_token before rest b w k e m
