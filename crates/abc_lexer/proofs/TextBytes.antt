-- A byte of a text that is put together.
use Rattle.std.proofs.Common.{◌≡◌, ℕ, ◌<◌, List, ◌∷◌, ◌++◌, length, All, get_or, sym, ap, ◌∙◌, subst, refl, arith, length-append}
use Rattle.std.proofs.lemmas.List.{get_or_at}
use Rattle.std.proofs.lemmas.Bool.{leb-true}
use Rattle.std.specs.Prelude.{Bool, true, false, ◌&&◌, nat_le}
use Rattle.std.specs.List.{AllPass}
use Rattle.abc_text.specs.Tokens.{is_printable}
use Rattle.abc_value.specs.Text.{IsPrintable}

pub printable_at : (held : List ℕ) (b : ℕ) (tail whole : List ℕ) → held ++ (b ∷ tail) ≡ whole → All IsPrintable whole → IsPrintable b
printable_at held b tail whole e h =
    let in_range : length held < length whole = omega (arith, ap (length {A = ℕ}) (sym e), length-append {A = ℕ} held (b ∷ tail)) in
    let here : get_or whole (length held) 0 ≡ b = ap (λ (xs : List ℕ). get_or xs (length held) 0) (sym e) ∙ get_or_at held b tail 0 (length held) refl in
    subst IsPrintable here (h (length held) 0 in_range)

pub all_printable : (value : List ℕ) → AllPass is_printable value → All IsPrintable value
all_printable value h k d l = both (get_or value k d) (h k d l)
  where
    both : (b : ℕ) → is_printable b ≡ true → IsPrintable b
    both b e = by (nat_le 32 b) (nat_le b 126) refl refl e
      where
        by : (c d : Bool) → nat_le 32 b ≡ c → nat_le b 126 ≡ d → (c && d) ≡ true → IsPrintable b
        by true true low high e = (leb-true 32 b low, leb-true b 126 high)
        by true false low high e = absurd (let e' : false ≡ true = e in cc)
        by false d low high e = absurd (let e' : false ≡ true = e in cc)
