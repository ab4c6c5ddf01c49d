-- The tokens of spelled tokens are these tokens.
use Rattle.std.proofs.Common.{◌≡◌, ℕ, suc, ◌+◌, Bool, true, false, List, [], ◌∷◌, ◌++◌, length, drop, take, None, refl, sym, ap, ◌∙◌, subst, arith, length-append, eqb-true}
use Rattle.std.specs.Prelude.{◌==◌, ◌||◌, if◌then◌else◌}
use Rattle.std.proofs.lemmas.List.{take_at, drop_at}
use Rattle.std.specs.List.{AllPass}
use Rattle.abc_text.specs.declared.lexical.TokenKind.{TokenKind}
use Rattle.abc_cause.specs.declared.Cause.TheVariants.{BadByte}
use Rattle.abc_text.specs.declared.lexical.Before.{Before}
use Rattle.abc_text.specs.declared.lexical.Before.TheVariants.{Open}
use Rattle.abc_text.specs.declared.lexical.Next.TheVariants.{Good, Bad}
use Rattle.abc_text.specs.Tokens.{is_blank, skip_from, skip, token_at, next, stands_after, IsRead}
use Rattle.abc_text.specs.Words.{mark_at}
use Rattle.abc_text.specs.Laws.{Piece, text_of, tokens_of, AreSpelled, SpelledIsRead}
use Rattle.abc_text.proofs.Following.{followed}

-- a blank, or the # of a comment, begins no token
bad_good : (k : TokenKind) (n : ℕ) → Bad BadByte ≡ Good k n → ⊥
bad_good k n e = cc

no_token : (before : Before) (b : ℕ) (bs : List ℕ) (k : TokenKind) (n : ℕ) (m : ℕ) → b ≡ m → token_at before (m ∷ bs) ≡ Bad BadByte → token_at before (b ∷ bs) ≡ Good k n → ⊥
no_token before b bs k n m same bad e = bad_good k n (sym bad ∙ ap (λ (x : ℕ). token_at before (x ∷ bs)) (sym same) ∙ e)

bad_at : (before : Before) (m : ℕ) → token_at before (m ∷ []) ≡ Bad BadByte → ((c : ℕ) (cs : List ℕ) → token_at before (m ∷ (c ∷ cs)) ≡ Bad BadByte) →
    (bs : List ℕ) → token_at before (m ∷ bs) ≡ Bad BadByte
bad_at before m one more [] = one
bad_at before m one more (c ∷ cs) = more c cs

blank_none : (before : Before) (b : ℕ) (bs : List ℕ) (k : TokenKind) (n : ℕ) → is_blank b ≡ true → token_at before (b ∷ bs) ≡ Good k n → ⊥
unfolding mark_at
blank_none before b bs k n blank e = by (b == 32) (b == 9) (b == 13) (b == 10) refl refl refl refl blank
  where
    by : (s t r l : Bool) → (b == 32) ≡ s → (b == 9) ≡ t → (b == 13) ≡ r → (b == 10) ≡ l → (((s || t) || r) || l) ≡ true → ⊥
    by true t r l hs ht hr hl h = no_token before b bs k n 32 (eqb-true b 32 hs) (bad_at before 32 refl (λ c cs. refl) bs) e
    by false true r l hs ht hr hl h = no_token before b bs k n 9 (eqb-true b 9 ht) (bad_at before 9 refl (λ c cs. refl) bs) e
    by false false true l hs ht hr hl h = no_token before b bs k n 13 (eqb-true b 13 hr) (bad_at before 13 refl (λ c cs. refl) bs) e
    by false false false true hs ht hr hl h = no_token before b bs k n 10 (eqb-true b 10 hl) (bad_at before 10 refl (λ c cs. refl) bs) e
    by false false false false hs ht hr hl h = (let h' : false ≡ true = h in cc)

-- so nothing is skipped before a token
skip-token : (before : Before) (bytes : List ℕ) (k : TokenKind) (n : ℕ) → next before bytes ≡ Good k n → skip bytes ≡ bytes
unfolding next skip mark_at
skip-token before [] k n e = refl
skip-token before (b ∷ bs) k n e = by (b == 35) (is_blank b) refl refl
  where
    by : (c d : Bool) → (b == 35) ≡ c → is_blank b ≡ d → (if c then skip_from true bs else (if d then skip_from false bs else b ∷ bs)) ≡ b ∷ bs
    by true d hc hd = absurd (no_token before b bs k n 35 (eqb-true b 35 hc) (bad_at before 35 refl (λ c cs. refl) bs) e)
    by false true hc hd = absurd (blank_none before b bs k n hd e)
    by false false hc hd = refl

-- a blank is no #
blank_comment : (b : ℕ) → is_blank b ≡ true → (b == 35) ≡ false
blank_comment b blank = by (b == 35) refl
  where
    by : (c : Bool) → (b == 35) ≡ c → c ≡ false
    by false e = refl
    by true e = absurd (let h : is_blank 35 ≡ true = ap is_blank (sym (eqb-true b 35 e)) ∙ blank in let h' : false ≡ true = h in cc)

-- and a gap of blanks is skipped
skip-gap : (gap bytes : List ℕ) → AllPass is_blank gap → skip (gap ++ bytes) ≡ skip bytes
unfolding skip
skip-gap [] bytes h = refl
skip-gap (b ∷ gap) bytes h =
    ap (λ (c : Bool). if c then skip_from true (gap ++ bytes) else (if is_blank b then skip_from false (gap ++ bytes) else b ∷ (gap ++ bytes))) (blank_comment b (h 0 0 (omega arith)))
    ∙ ap (λ (c : Bool). if c then skip_from false (gap ++ bytes) else b ∷ (gap ++ bytes)) (h 0 0 (omega arith))
    ∙ skip-gap gap bytes (λ k d l. h (suc k) d (omega arith))

spelled_from : (size place : ℕ) (before : Before) (ps : List Piece) → AreSpelled before ps → place + length (text_of ps) ≡ size → IsRead size before (text_of ps) (tokens_of place ps) None
unfolding next skip
spelled_from size place before [] h e = refl
spelled_from size place before (p ∷ ps) h e =
    let token = followed before (text_of ps) p.spelling p.kind h.1 h.2 in
    let front : skip (p.gap ++ (p.spelling ++ text_of ps)) ≡ p.spelling ++ text_of ps = skip-gap p.gap (p.spelling ++ text_of ps) h.0 ∙ skip-token before (p.spelling ++ text_of ps) p.kind (length p.spelling) token in
    let long = length-append {A = ℕ} p.gap (p.spelling ++ text_of ps) in
    let short = length-append {A = ℕ} p.spelling (text_of ps) in
    let mine = ap (take (length p.spelling)) front ∙ take_at p.spelling (text_of ps) (length p.spelling) refl in
    let theirs = ap (drop (length p.spelling)) front ∙ drop_at p.spelling (text_of ps) (length p.spelling) refl in (
      record {
        token = ap (next before) front ∙ token;
        place = omega (arith, e, long, short, ap (length {A = ℕ}) front);
      },
      subst (λ (bs : List ℕ). IsRead size (stands_after before p.kind (take (length p.spelling) (skip (p.gap ++ (p.spelling ++ text_of ps))))) bs (tokens_of (place + length p.gap + length p.spelling) ps) None) (sym theirs)
          (subst (λ (word : List ℕ). IsRead size (stands_after before p.kind word) (text_of ps) (tokens_of (place + length p.gap + length p.spelling) ps) None) (sym mine)
          (spelled_from size (place + length p.gap + length p.spelling) (stands_after before p.kind p.spelling) ps h.3 (omega (arith, e, long, short)))),
    )

pub spelled_is_read : SpelledIsRead
spelled_is_read ps h = spelled_from (length (text_of ps)) 0 Open ps h (omega arith)
