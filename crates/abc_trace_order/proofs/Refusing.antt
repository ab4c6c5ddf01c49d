-- Which lines may not come next.
use Rattle.std.proofs.Common.{◌≡◌, ℕ, ◌+◌, ◌≤◌, ◌<◌, ◌==◌, Bool, true, false, List, [], ◌∷◌, length, Option, Some, None, inl, inr, refl, sym, ap, ◌∙◌, subst, arith}
use Rattle.std.specs.Prelude.{is_some, ◌⊎◌}
use Rattle.std.proofs.lemmas.List.{length-map}
use Rattle.abc_text.specs.Meanings.{has_word, number_in}
use Rattle.abc_text.proofs.Growing.{number_below, number_none}
use Rattle.abc_printed.specs.Parts.{word_at}
use Rattle.abc_trace.specs.declared.trace.Head.{Head}
use Rattle.abc_trace.specs.declared.trace.EnvLine.{EnvLine}
use Rattle.abc_trace.specs.Texts.{limit_of}
use Rattle.abc_trace.specs.WellFormed.{IsNet, nodes_of}
use Rattle.abc_trace_lines.specs.declared.parts.SaidParts.{SaidParts}
use Rattle.abc_trace_lines.specs.declared.parts.LineParts.{LineParts}
use Rattle.abc_trace_lines.specs.Plain as plain
use Rattle.abc_trace_lines.specs.Spelled.{IsSpelled, LinesAreOne}
use Rattle.abc_trace_lines.specs.Reading.{plain_tail, plain_line, IsReadLine}
use Rattle.abc_trace_order.specs.declared.reading.Reading.{Reading}
use Rattle.abc_trace_order.specs.Order.{Stage, Start, HasPred, SaysPred, IsGoodLine, MayBeSaid, Admits, Refuses}
use Rattle.abc_trace_order.specs.Reading.{trace_of, stage_of, IsReading, MayBeNumber}
use Rattle.abc_trace_order.proofs.Growth.{NumberComes, EnvComes, NodeComes}

-- bytes that are no line
pub refuses_none : (s : Stage) (bytes : List ℕ) → IsReadLine bytes None → Refuses s bytes
refuses_none s bytes none x good admits e = none x good.spelled e

-- a line that isn't good, or may not come
pub refuses_one : LinesAreOne → (s : Stage) (y : plain.Line) → IsSpelled y → (HasPred y → Admits s y → ⊥) → Refuses s (plain.line_text y)
refuses_one one s y spelled never x good admits e =
    let same : x ≡ y = one x y good.spelled spelled e in
    never (subst HasPred same good.pred) (subst (λ (z : plain.Line). Admits s z) same admits)

-- There are as many words of components as lines of them.
pub components_many : (r : Reading) → IsReading r → length r.components ≡ length r.finals
components_many r reading =
    ap (length {A = List ℕ}) reading.components ∙ length-map r.finals (λ (f : EnvLine). word_at r.names f.component)

-- ---- the line of a number
pub number_comes :
    (r : Reading) (n : ℕ) (said : Option SaidParts) → MayBeNumber r n (is_some said) → NumberComes r n (plain_tail said)
number_comes r n said may = record { first = may.0; next = may.1; within = may.2; may = by said may.3 }
  where
    by : (said : Option SaidParts) → (is_some said ≡ true) ⊎ IsNet r.head → MayBeSaid r.head (plain_tail said)
    by None (inl e) = absurd (let e' : false ≡ true = e in cc)
    by None (inr net) = net
    by (Some s) h = tt

pub number_admitted :
    (r : Reading) → IsReading r → (n : ℕ) (sender : List ℕ) (said : Option SaidParts) →
    Admits (stage_of r) (plain.Number n sender (plain_tail said)) → MayBeNumber r n (is_some said)
number_admitted r reading n sender said admits =
    let many = components_many r reading in
    (omega (arith, many, admits.0), admits.1, admits.2, by said admits.3)
  where
    by : (said : Option SaidParts) → MayBeSaid r.head (plain_tail said) → (is_some said ≡ true) ⊎ IsNet r.head
    by None net = inr net
    by (Some s) h = inl refl

-- ---- the line of an environment
-- Its component has the next number exactly where it is new.
pub component_new :
    (r : Reading) → IsReading r → (component : List ℕ) → length r.finals ≤ number_in r.components component → has_word r.components component ≡ false
component_new r reading component high = by (has_word r.components component) refl
  where
    by : (b : Bool) → has_word r.components component ≡ b → b ≡ false
    by true is = let low = number_below r.components component is in let many = components_many r reading in absurd (omega (arith, low, many, high))
    by false is = refl

pub component_known :
    (r : Reading) → IsReading r → (component : List ℕ) → number_in r.components component < length r.finals → has_word r.components component ≡ false → ⊥
component_known r reading component low is =
    let next = number_none r.components component is in let many = components_many r reading in omega (arith, low, next, many)
