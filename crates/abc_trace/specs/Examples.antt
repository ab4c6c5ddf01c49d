-- The lines of traces, worked through the definitions.
use Rattle.std.specs.Prelude.{◌≡◌, ℕ, List, [], ◌∷◌, codes, pos, negsuc, flat_map, true, Some, None}
use Rattle.abc_value.specs.declared.scalar.Scalar.TheVariants as s
use Rattle.abc_value.specs.declared.value.Value.TheVariants as v
use Rattle.abc_value.specs.declared.value.Value.{Value}
use Rattle.abc_pred.specs.declared.names.Name.{Name}
use Rattle.abc_pred.specs.declared.syntax.Pred as p
use Rattle.abc_pred.specs.Terms as t
use Rattle.abc_shape.specs.declared.shape.Shape.TheVariants.{Cluster, Ring, Tree}
use Rattle.abc_trace.specs.declared.trace.Head.TheVariants.{Solo, Net}
use Rattle.abc_trace.specs.declared.trace.Said.{Said}
use Rattle.abc_trace.specs.declared.trace.Line.{Line}
use Rattle.abc_trace.specs.declared.trace.EnvLine.{EnvLine}
use Rattle.abc_trace.specs.declared.trace.Trace.{Trace}
use Rattle.abc_trace.specs.Lines.{ended, head_text, said_text, empty_text, env_text, node_text, end_text}
use Rattle.abc_trace.specs.Texts.{trace_text}

-- ---- how the examples are written
-- the names 0 to 3 are the words Ann, Bob, a and x
abbrev pub words : List (List ℕ)
words = codes "Ann" ∷ codes "Bob" ∷ codes "a" ∷ codes "x" ∷ []

abbrev pub Ann : Name
Ann = record { 0 = 0 }

abbrev pub Bob : Name
Bob = record { 0 = 1 }

abbrev pub a : Name
a = record { 0 = 2 }

abbrev pub x : Name
x = record { 0 = 3 }

abbrev pub integer : ℕ → Value
integer n = v.Scalar (s.Number (pos n))

-- {-1, 2, "q", true}
abbrev pub set : Value
set = v.Set (s.Number (negsuc 0) ∷ s.Number (pos 2) ∷ s.Text (codes "q") ∷ s.Truth true ∷ [])

-- lines, each with its end
abbrev pub lines : List (List ℕ) → List ℕ
lines ls = flat_map ended ls

-- ---- the first line
pub record WorkedHeads : Type 0 where
  pub solo : head_text (Solo 1 0) ≡ ended (codes "abc-trace 1 solo 1 0")
  pub cluster : head_text (Net Cluster 10 1 7) ≡ ended (codes "abc-trace 1 cluster 10 1 7")
  pub ring :
      head_text (Net Ring 100000 64 4294967295)
      ≡ ended (codes "abc-trace 1 ring 100000 64 4294967295")
  pub tree : head_text (Net Tree 2 3 4) ≡ ended (codes "abc-trace 1 tree 2 3 4")

-- ---- the lines of numbers
pub record WorkedLines : Type 0 where
  pub one_heard :
      said_text words 1 Ann 0 (integer 5 ∷ set ∷ []) (t.Same (t.Attr a) (t.Literal (integer 5)))
      ((Bob, 2) ∷ [])
      ≡ ended (codes "1 Ann:0 (5, {-1, 2, \"q\", true}) @ (a = 5) -> Bob:2")
  pub two_heard :
      said_text words 12 Bob 3 (v.Nothing ∷ []) (t.Or t.False (t.Not t.True))
      ((Ann, 0) ∷ (Bob, 1) ∷ [])
      ≡ ended (codes "12 Bob:3 (none) @ (ff or not tt) -> Ann:0, Bob:1")
  pub nobody_heard : said_text words 2 Ann 1 [] t.True [] ≡ ended (codes "2 Ann:1 () @ (tt) -> -")
  pub nothing_said : empty_text words 3 Bob ≡ ended (codes "3 Bob -")

-- ---- the lines behind the last number
pub record WorkedEnds : Type 0 where
  pub no_attribute : env_text words Ann [] ≡ ended (codes "env Ann {}")
  pub one_attribute : env_text words Ann ((a, integer 0) ∷ []) ≡ ended (codes "env Ann { a = 0; }")
  pub two_attributes :
      env_text words Bob ((a, set) ∷ (x, v.Scalar (s.Truth true)) ∷ [])
      ≡ ended (codes "env Bob { a = {-1, 2, \"q\", true}; x = true; }")
  pub node : node_text 0 12 ≡ ended (codes "node 0 12")
  pub at_the_limit : end_text 10 10 ≡ ended (codes "limit 10")
  pub below_the_limit : end_text 10 9 ≡ ended (codes "quiet 9")
  pub at_once : end_text 1 0 ≡ ended (codes "quiet 0")

-- ---- whole traces
-- Ann says a text, which Bob hears; then Bob has nothing to say
abbrev pub said : Said
said = record {
  place = 0;
  values = v.Scalar (s.Text (codes "hi")) ∷ [];
  pred = p.True;
  heard = (Bob, 1) ∷ [];
}

abbrev pub two_lines : List Line
two_lines = record { sender = Ann; said = Some said } ∷ record { sender = Bob; said = None } ∷ []

abbrev pub two_finals : List EnvLine
two_finals =
    record { component = Ann; entries = [] }
    ∷ record { component = Bob; entries = (a, integer 4) ∷ [] } ∷ []

abbrev pub solo_trace : Trace
solo_trace = record {
  names = words;
  head = Solo 2 9;
  lines = two_lines;
  finals = two_finals;
  handled = [];
}

abbrev pub net_trace : Trace
net_trace = record {
  names = words;
  head = Net Tree 3 2 9;
  lines = two_lines;
  finals = two_finals;
  handled = 6 ∷ 0 ∷ [];
}

pub record WorkedTraces : Type 0 where
  pub solo :
      trace_text solo_trace
      ≡ lines (codes "abc-trace 1 solo 2 9"
      ∷ codes "1 Ann:0 (\"hi\") @ (tt) -> Bob:1" ∷ codes "2 Bob -"
      ∷ codes "env Ann {}" ∷ codes "env Bob { a = 4; }" ∷ codes "limit 2" ∷ [])
  pub net :
      trace_text net_trace
      ≡ lines (codes "abc-trace 1 tree 3 2 9"
      ∷ codes "1 Ann:0 (\"hi\") @ (tt) -> Bob:1" ∷ codes "2 Bob -"
      ∷ codes "env Ann {}" ∷ codes "env Bob { a = 4; }"
      ∷ codes "node 0 6" ∷ codes "node 1 0" ∷ codes "quiet 2" ∷ [])
