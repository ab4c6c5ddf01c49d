-- The text that stands behind an opening quote.
use Rattle.std.proofs.Common.{◌≡◌, ℕ, ◌+◌, ◌≤◌, Bool, false, List, length, drop, take, Some, sym, ap, ◌∙◌, subst, arith, le-leb}
use Rattle.std.specs.Prelude.{if◌then◌else◌}
use Rattle.std.proofs.lemmas.Grind.{common_steps}
use Rattle.abc_value.specs.declared.limits.TheConstants.{LONGEST_TEXT}
use Rattle.abc_cause.specs.declared.Cause.TheVariants.{LongText}
use Rattle.abc_text.specs.declared.lexical.TokenKind.TheVariants.{Text}
use Rattle.abc_text.specs.declared.lexical.Next.TheVariants.{Good, Bad}
use Rattle.abc_text.specs.Tokens.{text_len, text_value, closed_text, text_token}
use Rattle.abc_text.specs.Spelling.{IsTextValue}
use Rattle.abc_text.proofs.Alone.{closes_at}
use Rattle.abc_text.proofs.OfKind.{printable}

text_good : (more : List ℕ) (len : ℕ) → text_len false more ≡ Some len → length
    (text_value false more) ≤ LONGEST_TEXT → text_token more ≡ Good Text (len + 1)
unfolding text_token
text_good more len closed short =
    ap (closed_text (length (text_value false more))) closed ∙ ap (λ (b : Bool). if b then Good Text
    (len + 1) else Bad LongText)
    (le-leb (length (text_value false more)) LONGEST_TEXT short)

text_front : (len : ℕ) (bytes : List ℕ) → take len (drop 1 bytes) ≡ drop 1 (take (len + 1) bytes)
text_front len bytes = grind (arith, common_steps)

text_fits : (more : List ℕ) (len : ℕ) → text_len false more ≡ Some len → length
    (text_value false more) ≤ LONGEST_TEXT → IsTextValue (text_value false (take len more))
text_fits more len closed short =
    subst IsTextValue (sym (closes_at false more len closed).value) (record {
      short = short;
      bytes = printable false more len closed;
    })

-- the first bytes behind the quote are a text, where it closes with them and isn't long
pub text_steps : (bytes more front : List ℕ) (len : ℕ) → more ≡ drop 1 bytes → front ≡ take len more →
    text_len false more ≡ Some len →
    length (text_value false more) ≤ LONGEST_TEXT →
    (text_token (drop 1 bytes) ≡ Good Text (len + 1)) × ((front ≡ drop 1 (take (len + 1) bytes)) × IsTextValue
    (text_value false front))
text_steps bytes more front len behind is closed short = (
  ap text_token (sym behind) ∙ text_good more len closed short,
  (
    is ∙ ap (take len) behind ∙ text_front len bytes,
    subst (λ (text : List ℕ). IsTextValue (text_value false text))
        (sym is) (text_fits more len closed short),
  ),
)
