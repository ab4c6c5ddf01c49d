-- The kinds of lines differ at their first byte.
use Rattle.std.proofs.Common.{◌≡◌, ◌⊎◌, ℕ, ◌<◌, ◌^◌, true, false, List, [], ◌∷◌, ◌++◌, length, get_or, decimal, Option, Some, None, refl, ap, ◌∙◌, subst, inl, inr, arith}
use Rattle.std.specs.Prelude.{Result, Ok, Err, IfOk}
use Rattle.std.specs.Int.{IsInRange}
use Rattle.std.proofs.lemmas.Fmt.{decimal_nonempty}
use Rattle.abc_trace.specs.declared.trace.Head.TheVariants.{Solo, Net}
use Rattle.abc_trace_lines.specs.declared.parts.LineParts.{LineParts}
use Rattle.abc_trace_lines.specs.Plain.{Line, First, Number, Env, Node, Last, tail_text, line_text}
use Rattle.abc_trace_lines.specs.Spelled.{IsSpelled}
use Rattle.abc_trace_lines.specs.Reading.{IsLine, IsReadLine, IsReadAs, IsFirst, IsEnv, IsNode, IsLast}
use Rattle.abc_trace_lines.proofs.Numerals.{decimal_digits, digit_in}

-- the first byte of each kind of line
unfoldable pub FirstOf : Line → ℕ → Type 0
FirstOf (First head) b = b ≡ 97
FirstOf (Number n sender said) b = IsInRange 48 57 b
FirstOf (Env component entries) b = b ≡ 101
FirstOf (Node node handled) b = b ≡ 110
FirstOf (Last limited count) b = (b ≡ 108) ⊎ (b ≡ 113)

-- A number begins with a digit.
begins_digit : (ds more : List ℕ) → 0 < length ds → (b : ℕ) → get_or (ds ++ more) 0 0 ≡ b →
    ((c : ℕ) → get_or ds 0 0 ≡ c → IsInRange 48 57 c) → IsInRange 48 57 b
begins_digit [] more some b e digit = absurd (omega (arith, some))
begins_digit (d ∷ ds) more some b e digit = subst (IsInRange 48 57) e (digit d refl)

first_digit : (n : ℕ) → n < 2 ^ 64 → IsInRange 48 57 (get_or (decimal n) 0 0)
first_digit n h = digit_in (get_or (decimal n) 0 0) (decimal_digits n h 0 0 (decimal_nonempty n h))

pub first_of : (x : Line) → IsSpelled x → FirstOf x (get_or (line_text x) 0 0)
unfolding FirstOf
first_of (First (Solo limit pick)) h = refl
first_of (First (Net shape limit nodes pick)) h = refl
first_of (Number n sender said) h =
    begins_digit (decimal n) (32 ∷ (sender ++ tail_text said)) (decimal_nonempty n h.0)
    (get_or (line_text (Number n sender said)) 0 0) refl
    (λ c e. subst (IsInRange 48 57) e (first_digit n h.0))
first_of (Env component entries) h = refl
first_of (Node node handled) h = refl
first_of (Last true count) h = inl refl
first_of (Last false count) h = inr refl

-- the first byte of a line's text
first_at : (bytes : List ℕ) (b : ℕ) (bs : List ℕ) (x : Line) → bytes ≡ b ∷ bs → IsLine bytes x →
    FirstOf x b
first_at bytes b bs x e is =
    subst (FirstOf x) (ap (λ (t : List ℕ). get_or t 0 0) (is.text ∙ e)) (first_of x is.spelled)

-- So the first byte says of which kind a line is.
pub only_first : (b : ℕ) → b ≡ 97 → (x : Line) → FirstOf x b → IsFirst x
unfolding FirstOf
only_first b e (First head) h = tt
only_first b e (Number n sender said) h = let l = h.1 in absurd (omega (arith, e, l))
only_first b e (Env component entries) h = absurd (omega (arith, e, h))
only_first b e (Node node handled) h = absurd (omega (arith, e, h))
only_first b e (Last limited count) (inl h) = absurd (omega (arith, e, h))
only_first b e (Last limited count) (inr h) = absurd (omega (arith, e, h))

pub only_env : (b : ℕ) → b ≡ 101 → (x : Line) → FirstOf x b → IsEnv x
unfolding FirstOf
only_env b e (First head) h = absurd (omega (arith, e, h))
only_env b e (Number n sender said) h = let l = h.1 in absurd (omega (arith, e, l))
only_env b e (Env component entries) h = tt
only_env b e (Node node handled) h = absurd (omega (arith, e, h))
only_env b e (Last limited count) (inl h) = absurd (omega (arith, e, h))
only_env b e (Last limited count) (inr h) = absurd (omega (arith, e, h))

pub only_node : (b : ℕ) → b ≡ 110 → (x : Line) → FirstOf x b → IsNode x
unfolding FirstOf
only_node b e (First head) h = absurd (omega (arith, e, h))
only_node b e (Number n sender said) h = let l = h.1 in absurd (omega (arith, e, l))
only_node b e (Env component entries) h = absurd (omega (arith, e, h))
only_node b e (Node node handled) h = tt
only_node b e (Last limited count) (inl h) = absurd (omega (arith, e, h))
only_node b e (Last limited count) (inr h) = absurd (omega (arith, e, h))

pub only_last : (b : ℕ) → (b ≡ 108) ⊎ (b ≡ 113) → (x : Line) → FirstOf x b → IsLast x
unfolding FirstOf
only_last b (inl e) (First head) h = absurd (omega (arith, e, h))
only_last b (inr e) (First head) h = absurd (omega (arith, e, h))
only_last b (inl e) (Number n sender said) h = let l = h.1 in absurd (omega (arith, e, l))
only_last b (inr e) (Number n sender said) h = let l = h.1 in absurd (omega (arith, e, l))
only_last b (inl e) (Env component entries) h = absurd (omega (arith, e, h))
only_last b (inr e) (Env component entries) h = absurd (omega (arith, e, h))
only_last b (inl e) (Node node handled) h = absurd (omega (arith, e, h))
only_last b (inr e) (Node node handled) h = absurd (omega (arith, e, h))
only_last b e (Last limited count) h = tt

-- Where the first byte says the kind, reading a line as one of that kind is reading it.
pub read_as : (Kind : Line → Type 0) (bytes : List ℕ) (b : ℕ) (bs : List ℕ) → bytes ≡ b ∷ bs →
    ((x : Line) → FirstOf x b → Kind x) → (r : Option LineParts) → IsReadAs Kind bytes r →
    IsReadLine bytes r
read_as Kind bytes b bs e kind None none = λ x spelled text.
    let is : IsLine bytes x = record { spelled = spelled; text = text } in
    none x (kind x (first_at bytes b bs x e is)) is
read_as Kind bytes b bs e kind (Some parts) is = (is.spelled, is.text)

-- the same where memory may be wanting
pub read_as_ok : {E : Type 0} (Kind : Line → Type 0) (bytes : List ℕ) (b : ℕ) (bs : List ℕ) →
    bytes ≡ b ∷ bs → ((x : Line) → FirstOf x b → Kind x) → (r : Result (Option LineParts) E) →
    IfOk r (IsReadAs Kind bytes) → IfOk r (IsReadLine bytes)
read_as_ok Kind bytes b bs e kind (Ok o) is = read_as Kind bytes b bs e kind o is
read_as_ok Kind bytes b bs e kind (Err z) is = is
