-- Fronts of lists of tokens.
use Rattle.std.proofs.Common.{◌≡◌, ℕ, zero, suc, ◌<◌, ◌≤◌, [], ◌∷◌, ◌++◌, length, take, refl, sym, ap, ◌∙◌, arith}
use Rattle.abc_grammar.specs.declared.lexemes.Lexeme.{Lexeme}
use Rattle.abc_readers.specs.Operands.{Tokens}

cons_inj : {x y : Lexeme} {us vs : Tokens} → ◌≡◌ {A = Tokens} (x ∷ us) (y ∷ vs) → (x ≡ y) × (us ≡ vs)
cons_inj e = (cc, cc)

-- a front of a front is the front of as many
pub take_front : (d : ℕ) (ts mid us : Tokens) → take d ts ≡ mid ++ us → take (length mid) ts ≡ mid
take_front d ts [] us e = refl
take_front zero ts (x ∷ mid) us e = absurd (cc)
take_front (suc d) [] (x ∷ mid) us e = absurd (cc)
take_front (suc d) (y ∷ ts) (x ∷ mid) us e = let h = cons_inj e in ap (λ (z : Lexeme). z ∷ take (length mid) ts) h.0 ∙ ap (λ (zs : Tokens). x ∷ zs) (take_front d ts mid us h.1)

pub take_split : (n d : ℕ) (ts : Tokens) → n ≤ d → (post : Tokens) × (take d ts ≡ take n ts ++ post)
take_split zero d ts h = (take d ts, refl)
take_split (suc n) zero ts h = absurd (omega arith)
take_split (suc n) (suc d) [] h = ([], refl)
take_split (suc n) (suc d) (t ∷ ts) h = let r = take_split n d ts (omega arith) in (r.0, ap (λ (us : Tokens). t ∷ us) r.1)

pub take_length : (d : ℕ) (ts : Tokens) → d ≤ length ts → length (take d ts) ≡ d
take_length zero ts h = refl
take_length (suc d) [] h = absurd (omega arith)
take_length (suc d) (t ∷ ts) h = let r = take_length d ts (omega arith) in omega (arith, r)

pub take_all : (ts : Tokens) → take (length ts) ts ≡ ts
take_all [] = refl
take_all (t ∷ ts) = ap (λ (us : Tokens). t ∷ us) (take_all ts)

pub one_of : (ts : Tokens) → 0 < length ts → (t : Lexeme) × (us : Tokens) × (ts ≡ t ∷ us)
one_of [] h = absurd (omega arith)
one_of (t ∷ us) h = (t, us, refl)

pub take_short : (d : ℕ) (ts : Tokens) → length (take d ts) ≤ d
take_short zero ts = omega arith
take_short (suc d) [] = omega arith
take_short (suc d) (t ∷ ts) = let le = take_short d ts in omega (arith, le)

pub take_fits : (d : ℕ) (ts : Tokens) → length (take d ts) ≤ length ts
take_fits zero ts = omega arith
take_fits (suc d) [] = omega arith
take_fits (suc d) (t ∷ ts) = let le = take_fits d ts in omega (arith, le)

-- a front of a front
pub take_take : (n d : ℕ) (ts : Tokens) → n ≤ d → take n (take d ts) ≡ take n ts
take_take zero d ts h = refl
take_take (suc n) zero ts h = absurd (omega arith)
take_take (suc n) (suc d) [] h = refl
take_take (suc n) (suc d) (t ∷ ts) h = ap (λ (us : Tokens). t ∷ us) (take_take n d ts (omega arith))

pub none_of : (ts : Tokens) → length ts ≡ 0 → ts ≡ []
none_of [] h = refl
none_of (t ∷ ts) h = absurd (omega (arith, h))

pub some_of : (m n : ℕ) → m ≡ n → (m ≡ 0 → ⊥) → 0 < n
some_of zero n e h = absurd (h refl)
some_of (suc m) n e h = omega (arith, e)
