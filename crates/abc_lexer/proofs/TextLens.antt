-- Steps of the reader of texts.
use Rattle.std.proofs.Common.{◌≡◌, ℕ, ◌+◌, Option, Some, None, refl, ap, arith}
use Rattle.abc_text.specs.Tokens.{one_more}

-- so many bytes more, where there is a length
abbrev pub more_by : ℕ → Option ℕ → Option ℕ
more_by len None = None
more_by len (Some n) = Some (n + len)

pub more_by-one_more : (len : ℕ) (o : Option ℕ) → more_by len (one_more o) ≡ more_by (len + 1) o
more_by-one_more len None = refl
more_by-one_more len (Some n) = let e : n + 1 + len ≡ n + (len + 1) = omega arith in ap Some e

pub more_by-zero : (o : Option ℕ) → more_by 0 o ≡ o
more_by-zero None = refl
more_by-zero (Some n) = let e : n + 0 ≡ n = omega arith in ap Some e
