-- The lines of nodes, and the last line.
use Rattle.std.proofs.Common.{◌≡◌, ℕ, List, decimal, refl}
use Rattle.std.proofs.lemmas.Fmt.{decimal_injective}
use Rattle.abc_trace_lines.specs.Fronts.{IsNumberText, IsNumberBefore}
use Rattle.abc_trace_lines.specs.Reading.{IsTwoNumbers}
use Rattle.abc_trace_lines.proofs.Numerals.{before_one}

-- ---- two numbers
pub two_not_second : (bytes more : List ℕ) (k : ℕ) → IsNumberBefore 32 bytes k more →
    ((n : ℕ) → ¬ (IsNumberText more n)) → (m n : ℕ) → ¬ (IsTwoNumbers bytes m n)
two_not_second bytes more k first none m n is =
    let mine : IsNumberBefore 32 bytes m (decimal n) = record { fits = is.first; text = is.text } in
    let same = before_one 32 bytes more (decimal n) k m refl first mine in
    none n (record { fits = is.second; text = same.1 })

-- ---- the line of a node
-- ---- the last line
-- ---- one reading
pub two_one : (bytes : List ℕ) (m n j k : ℕ) → IsTwoNumbers bytes m n → IsTwoNumbers bytes j k →
    (m ≡ j) × (n ≡ k)
two_one bytes m n j k a b =
    let left : IsNumberBefore 32 bytes m (decimal n) = record { fits = a.first; text = a.text } in
    let right : IsNumberBefore 32 bytes j (decimal k) = record { fits = b.first; text = b.text } in
    let both = before_one 32 bytes (decimal n) (decimal k) m j refl left right in
    (both.0, decimal_injective n k a.second b.second both.1)
