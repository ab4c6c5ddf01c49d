-- Lists that are split in two ways, and brackets that belong together.
use Rattle.std.proofs.Common.{◌≡◌, ℕ, ◌+◌, List, [], ◌∷◌, ◌++◌, refl, sym, ap, ◌∙◌, arith}
use Rattle.abc_grammar.specs.declared.lexemes.Lexeme.{Lexeme}
use Rattle.abc_grammar.specs.Limits.{open_with, open_behind}
use Rattle.abc_grammar.specs.Laws.{Balanced}
use Rattle.abc_grammar.proofs.Balance.{open_behind-append}

-- Where the places of two splits stand to each other: at one place, or one behind the other.
pub data Splits (xs ys : List Lexeme) (t u : Lexeme) (ts us : List Lexeme) : Type 0 where
  same : xs ≡ ys → t ≡ u → ts ≡ us → Splits xs ys t u ts us
  first : (mid : List Lexeme) → ys ≡ xs ++ t ∷ mid → ts ≡ mid ++ u ∷ us → Splits xs ys t u ts us
  second : (mid : List Lexeme) → xs ≡ ys ++ u ∷ mid → us ≡ mid ++ t ∷ ts → Splits xs ys t u ts us

pub cons_both : {x y : Lexeme} {xs ys : List Lexeme} → ◌≡◌ {A = List Lexeme} (x ∷ xs) (y ∷ ys) → (x ≡ y) × (xs ≡ ys)
cons_both e = (cc, cc)

pub splits : (xs ys : List Lexeme) (t u : Lexeme) (ts us : List Lexeme) → xs ++ t ∷ ts ≡ ys ++ u ∷ us → Splits xs ys t u ts us
splits [] [] t u ts us e = let h = cons_both e in same refl h.0 h.1
splits [] (y ∷ ys) t u ts us e = let h = cons_both e in first ys (ap (λ (z : Lexeme). z ∷ ys) (sym h.0)) h.1
splits (x ∷ xs) [] t u ts us e = let h = cons_both e in second xs (ap (λ (z : Lexeme). z ∷ xs) h.0) (sym h.1)
splits (x ∷ xs) (y ∷ ys) t u ts us e = let h = cons_both e in by (splits xs ys t u ts us h.1) h.0
  where
    by : Splits xs ys t u ts us → x ≡ y → Splits (x ∷ xs) (y ∷ ys) t u ts us
    by (same a b c) d = same (λ i. d i ∷ a i) b c
    by (first mid a b) d = first mid (λ i. sym d i ∷ a i) b
    by (second mid a b) d = second mid (λ i. d i ∷ a i) b

-- the last tokens of two lists
pub last_both : (xs ys : List Lexeme) (t u : Lexeme) → xs ++ t ∷ [] ≡ ys ++ u ∷ [] → (xs ≡ ys) × (t ≡ u)
last_both [] [] t u e = let h = cons_both e in (refl, h.0)
last_both [] (y ∷ ys) t u e = let h = cons_both e in absurd (none ys u h.1)
  where
    none : (zs : List Lexeme) (v : Lexeme) → [] ≡ zs ++ v ∷ [] → ⊥
    none [] v e = cc
    none (z ∷ zs) v e = cc
last_both (x ∷ xs) [] t u e = let h = cons_both e in absurd (none xs t h.1)
  where
    none : (zs : List Lexeme) (v : Lexeme) → zs ++ v ∷ [] ≡ [] → ⊥
    none [] v e = cc
    none (z ∷ zs) v e = cc
last_both (x ∷ xs) (y ∷ ys) t u e =
    let h = cons_both e in
    let more = last_both xs ys t u h.1 in
    (λ i. h.0 i ∷ more.0 i, more.1)

-- an opened bracket behind balanced tokens is not closed by balanced ones
unclosed : (mid ts : List Lexeme) (t : Lexeme) → ((n : ℕ) → open_with n t ≡ n + 1) → Balanced ts → ¬ Balanced (mid ++ t ∷ ts)
unclosed mid ts t opens inner whole =
    let e = sym (open_behind-append mid (t ∷ ts) 0) ∙ whole 0 in
    let one = opens (open_behind 0 mid) in
    let rest : open_behind (open_with (open_behind 0 mid) t) ts ≡ open_with (open_behind 0 mid) t = inner (open_with (open_behind 0 mid) t) in
    absurd (omega (arith, e, one, rest))

-- two opened brackets with balanced tokens behind them up to the same end are one
pub same_bracket :
    (xs ys ts us : List Lexeme) (t u : Lexeme) → ((n : ℕ) → open_with n t ≡ n + 1) → ((n : ℕ) → open_with n u ≡ n + 1) → Balanced ts → Balanced us →
    xs ++ t ∷ ts ≡ ys ++ u ∷ us → (xs ≡ ys) × (t ≡ u) × (ts ≡ us)
same_bracket xs ys ts us t u open_t open_u balanced_ts balanced_us e = by (splits xs ys t u ts us e)
  where
    by : Splits xs ys t u ts us → (xs ≡ ys) × (t ≡ u) × (ts ≡ us)
    by (same a b c) = (a, b, c)
    by (first mid a b) = absurd (unclosed mid us u open_u balanced_us (λ n. ap (open_behind n) (sym b) ∙ balanced_ts n))
    by (second mid a b) = absurd (unclosed mid ts t open_t balanced_ts (λ n. ap (open_behind n) (sym b) ∙ balanced_us n))
