-- A line's text fixes what it says.
use Rattle.std.proofs.Common.{◌≡◌, ℕ, true, false, List, get_or, decimal, codes, refl, sym, ap, subst, ⊎_elim, arith}
use Rattle.std.proofs.lemmas.Fmt.{decimal_injective}
use Rattle.std.proofs.lemmas.List.{append_cancel_left}
use Rattle.abc_trace.specs.Lines.{spaced}
use Rattle.abc_trace_lines.specs.Plain.{Line, First, Number, Env, Node, Last, line_text}
use Rattle.abc_trace_lines.specs.Spelled.{IsSpelled, LinesAreOne}
use Rattle.abc_trace_lines.specs.Reading.{IsLine}
use Rattle.abc_trace_lines.proofs.CountLines.{two_one}
use Rattle.abc_trace_lines.proofs.HeadLines.{heads_one}
use Rattle.abc_trace_lines.proofs.SaidLines.{number_lines_one}
use Rattle.abc_trace_lines.proofs.EntryLists.{env_lines_one}
use Rattle.abc_trace_lines.proofs.FirstBytes.{first_of, FirstOf}

-- the line of itself
itself : (x : Line) → IsSpelled x → IsLine (line_text x) x
itself x h = record { spelled = h; text = refl }

-- Lines with one text begin with one byte.
first_same : (x y : Line) → IsSpelled x → IsSpelled y → line_text x ≡ line_text y →
    (b : ℕ) × (FirstOf x b × FirstOf y b)
first_same x y h k e = (
  get_or (line_text x) 0 0,
  (
    first_of x h,
    subst (FirstOf y)
        (ap (λ (t : List ℕ). get_or t 0 0) (sym e)) (first_of y k),
  ),
)

-- Lines of two kinds begin otherwise.
unlike : (x y : Line) → IsSpelled x → IsSpelled y → line_text x ≡ line_text y →
    ((b : ℕ) → FirstOf x b → FirstOf y b → ⊥) → ⊥
unlike x y h k e other = let first = first_same x y h k e in other first.0 first.1.0 first.1.1

pub lines_one : LinesAreOne
unfolding FirstOf
lines_one (First g) (First h) x y e = ap First (heads_one g h x y e)
lines_one (Number n u s) (Number m w t) x y e = number_lines_one n m u w s t x y e
lines_one (Env u s) (Env w t) x y e = env_lines_one u w s t x y e
lines_one (Node m n) (Node j k) x y e =
    let same = append_cancel_left (codes "node ") (spaced (decimal m) (decimal n))
    (spaced (decimal j) (decimal k)) e in
    let both = two_one (spaced (decimal j) (decimal k)) m n j k
    (record { first = x.0; second = x.1; text = sym same })
    (record { first = y.0; second = y.1; text = refl }) in
    (λ i. Node (both.0 i) (both.1 i))
lines_one (Last true m) (Last true n) x y e =
    ap (Last true) (decimal_injective m n x y
    (append_cancel_left (codes "limit ") (decimal m) (decimal n) e))
lines_one (Last false m) (Last false n) x y e =
    ap (Last false) (decimal_injective m n x y
    (append_cancel_left (codes "quiet ") (decimal m) (decimal n) e))
lines_one (Last true m) (Last false n) x y e =
    let f = ap (λ (t : List ℕ). get_or t 0 0) e in absurd (omega (arith, f))
lines_one (Last false m) (Last true n) x y e =
    let f = ap (λ (t : List ℕ). get_or t 0 0) e in absurd (omega (arith, f))
lines_one (First g) (Number j w t) x y e =
    absurd (unlike (First g) (Number j w t) x y e (λ c f h. let l = h.1 in omega (arith, l, f)))
lines_one (First g) (Env w t) x y e =
    absurd (unlike (First g) (Env w t) x y e (λ c f h. omega (arith, f, h)))
lines_one (First g) (Node j k) x y e =
    absurd (unlike (First g) (Node j k) x y e (λ c f h. omega (arith, f, h)))
lines_one (Number n u s) (First h) x y e =
    absurd (unlike (Number n u s) (First h) x y e (λ c f h. let l = f.1 in omega (arith, l, h)))
lines_one (Number n u s) (Env w t) x y e =
    absurd (unlike (Number n u s) (Env w t) x y e (λ c f h. let l = f.1 in omega (arith, l, h)))
lines_one (Number n u s) (Node j k) x y e =
    absurd (unlike (Number n u s) (Node j k) x y e (λ c f h. let l = f.1 in omega (arith, l, h)))
lines_one (Env u s) (First h) x y e =
    absurd (unlike (Env u s) (First h) x y e (λ c f h. omega (arith, f, h)))
lines_one (Env u s) (Number j w t) x y e =
    absurd (unlike (Env u s) (Number j w t) x y e (λ c f h. let l = h.1 in omega (arith, l, f)))
lines_one (Env u s) (Node j k) x y e =
    absurd (unlike (Env u s) (Node j k) x y e (λ c f h. omega (arith, f, h)))
lines_one (Node m n) (First h) x y e =
    absurd (unlike (Node m n) (First h) x y e (λ c f h. omega (arith, f, h)))
lines_one (Node m n) (Number j w t) x y e =
    absurd (unlike (Node m n) (Number j w t) x y e (λ c f h. let l = h.1 in omega (arith, l, f)))
lines_one (Node m n) (Env w t) x y e =
    absurd (unlike (Node m n) (Env w t) x y e (λ c f h. omega (arith, f, h)))
lines_one (First g) (Last limited count) x y e =
    absurd (unlike (First g) (Last limited count) x y e
    (λ c f h. ⊎_elim (λ z. omega (arith, f, z)) (λ z. omega (arith, f, z)) h))
lines_one (Last limited count) (First h) x y e =
    absurd (unlike (Last limited count) (First h) x y e
    (λ c f h. ⊎_elim (λ z. omega (arith, h, z)) (λ z. omega (arith, h, z)) f))
lines_one (Number n u s) (Last limited count) x y e =
    absurd (unlike (Number n u s) (Last limited count) x y e
    (λ c f h. let l = f.1 in ⊎_elim (λ z. omega (arith, l, z)) (λ z. omega (arith, l, z)) h))
lines_one (Last limited count) (Number j w t) x y e =
    absurd (unlike (Last limited count) (Number j w t) x y e
    (λ c f h. let l = h.1 in ⊎_elim (λ z. omega (arith, l, z)) (λ z. omega (arith, l, z)) f))
lines_one (Env u s) (Last limited count) x y e =
    absurd (unlike (Env u s) (Last limited count) x y e
    (λ c f h. ⊎_elim (λ z. omega (arith, f, z)) (λ z. omega (arith, f, z)) h))
lines_one (Last limited count) (Env w t) x y e =
    absurd (unlike (Last limited count) (Env w t) x y e
    (λ c f h. ⊎_elim (λ z. omega (arith, h, z)) (λ z. omega (arith, h, z)) f))
lines_one (Node m n) (Last limited count) x y e =
    absurd (unlike (Node m n) (Last limited count) x y e
    (λ c f h. ⊎_elim (λ z. omega (arith, f, z)) (λ z. omega (arith, f, z)) h))
lines_one (Last limited count) (Node j k) x y e =
    absurd (unlike (Last limited count) (Node j k) x y e
    (λ c f h. ⊎_elim (λ z. omega (arith, h, z)) (λ z. omega (arith, h, z)) f))
