-- A length that is one more than another is one.
use Rattle.std.proofs.Common.{◌≡◌, ℕ, suc, ◌+◌, Option, Some, None, refl, arith}
use Rattle.abc_text.specs.Tokens.{one_more}

pub none_some : (n : ℕ) → ◌≡◌ {A = Option ℕ} None (Some n) → ⊥
none_some n e = cc

pub some_same : (m n : ℕ) → Some m ≡ Some n → m ≡ n
some_same m n e = cc

pub more_some : (o : Option ℕ) (n : ℕ) → one_more o ≡ Some n → (m : ℕ) × (o ≡ Some m) × (n ≡ suc m)
more_some None n e = absurd (none_some n e)
more_some (Some m) n e = let e' = some_same (m + 1) n e in (m, refl, omega (arith, e'))
