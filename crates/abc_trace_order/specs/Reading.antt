-- What was read of a trace so far, and what the next line makes of it.
use Rattle.std.specs.Prelude.{◌≡◌, ◌≤◌, ◌<◌, ◌+◌, ◌^◌, ◌⊎◌, ◌==◌, ℕ, Bool, true, false, List, [], ◌∷◌, ◌++◌, length, map, All, Option, Some, None}
use Rattle.std.specs.Borrow.{Bor}
use Rattle.abc_value.specs.declared.value.Value.{Value}
use Rattle.abc_pred.specs.declared.names.Name.{Name}
use Rattle.abc_text.specs.Meanings.{has_word, AreDifferent}
use Rattle.abc_text.specs.Spelling.{IsWordSpelling}
use Rattle.abc_checks.specs.declared.limits.TheConstants.{MOST_COMPONENTS}
use Rattle.abc_trace.specs.declared.trace.Head.{Head}
use Rattle.abc_trace.specs.declared.trace.Said.{Said}
use Rattle.abc_trace.specs.declared.trace.Line.{Line}
use Rattle.abc_trace.specs.declared.trace.EnvLine.{EnvLine}
use Rattle.abc_trace.specs.declared.trace.Trace.{Trace}
use Rattle.abc_trace.specs.Lines.{ended}
use Rattle.abc_trace.specs.Texts.{limit_of, trace_text}
use Rattle.abc_trace.specs.WellFormed.{HeadIsWellFormed, LineIsWellFormed, FinalIsWellFormed, SaidIsWellFormed, IsWellFormed, IsNet, words_of, nodes_of}
use Rattle.abc_trace.specs.Met.{with_words, said_words, line_words, final_words, AreNumberedAsMet}
use Rattle.abc_trace_lines.specs.declared.parts.SaidParts.{SaidParts}
use Rattle.abc_trace_lines.specs.Plain as plain
use Rattle.abc_trace_lines.specs.Reading.{plain_said, plain_tail}
use Rattle.abc_trace_order.specs.declared.reading.Reading.{Reading}
use Rattle.abc_trace_order.specs.declared.reading.Step.{Step}
use Rattle.abc_trace_order.specs.declared.reading.Step.TheVariants as step
use Rattle.abc_trace_order.specs.declared.refusal.TraceRefusal.{TraceRefusal}
use Rattle.abc_trace_order.specs.declared.refusal.TraceRefusal.TheVariants as refusal
use Rattle.abc_trace_order.specs.Texts.{IsOneLine}
use Rattle.abc_trace_order.specs.Lines.{worded, said_of, number_line, env_line, front_text}
use Rattle.abc_trace_order.specs.Order.{Stage, Start, Within, IsPredText, SaysPred, MayBeSaid, Refuses}

-- what stands of the trace
abbrev pub trace_of : Reading → Trace
trace_of r = record {
  names = r.names;
  head = r.head;
  lines = r.lines;
  finals = r.finals;
  handled = r.handled;
}

abbrev pub stage_of : Reading → Stage
stage_of r = Within r.head (length r.lines) r.components (length r.handled)

-- A trace that is well formed as far as it goes: components may be missing, and nodes.
pub record IsBegun (t : Trace) : Type 0 where
  pub names : AreDifferent t.names
  pub head : HeadIsWellFormed t.head
  pub lines : All (LineIsWellFormed t.head t.names) t.lines
  pub count : length t.lines ≤ limit_of t.head
  pub finals : All (FinalIsWellFormed t.names) t.finals
  pub few : length t.finals ≤ MOST_COMPONENTS
  pub once : AreDifferent (words_of t.names (λ f. f.component) t.finals)
  pub order : (length t.handled ≡ 0) ⊎ (1 ≤ length t.finals)
  pub nodes : length t.handled ≤ nodes_of t.head
  pub handled : All (λ n. n < 2 ^ 64) t.handled

-- What was read is such a trace, with its names numbered as their words were met.
pub record IsReading (r : Reading) : Type 0 where
  pub begun : IsBegun (trace_of r)
  pub numbered : AreNumberedAsMet (trace_of r)
  pub components : r.components ≡ words_of r.names (λ f. f.component) r.finals
  pub words : All IsWordSpelling r.names
  pub few : length r.names ≤ length (front_text (trace_of r))

-- ---- what a line makes of it
-- The line of this number may come next, with something said under it or nothing.
abbrev pub MayBeNumber : Reading → ℕ → Bool → Type 0
MayBeNumber r n is_said =
    (length r.finals ≡ 0) × (n ≡ length r.lines + 1) × (n ≤ limit_of r.head)
    × ((is_said ≡ true) ⊎ IsNet r.head)

-- The line of this component may come next.
abbrev pub MayBeEnv : Reading → List ℕ → Type 0
MayBeEnv r component =
    (length r.handled ≡ 0) × (has_word r.components component ≡ false)
    × (length r.finals < MOST_COMPONENTS)

-- So may that of this node.
abbrev pub MayBeNode : Reading → ℕ → Type 0
MayBeNode r node =
    (1 ≤ length r.finals) × (node ≡ length r.handled) × (length r.handled < nodes_of r.head)

-- So may the last line, after so many numbers.
abbrev pub MayBeLast : Reading → Bool → ℕ → Type 0
MayBeLast r limited count =
    (1 ≤ length r.finals) × (length r.handled ≡ nodes_of r.head) × (count ≡ length r.lines)
    × (limited ≡ (count == limit_of r.head))

-- with the line, more must come
pub record GrowsBy (r : Reading) (line : List ℕ) (r' : Reading) : Type 0 where
  pub reading : IsReading r'
  pub text : front_text (trace_of r') ≡ front_text (trace_of r) ++ ended line

-- with the line, it is a whole trace
pub record EndsBy (r : Reading) (line : List ℕ) (r' : Reading) : Type 0 where
  pub reading : IsReading r'
  pub formed : IsWellFormed (trace_of r')
  pub text : trace_text (trace_of r') ≡ front_text (trace_of r) ++ ended line

-- or the line may not come
abbrev pub IsStep : Reading → List ℕ → Step → Reading → Type 0
IsStep r line step.More r' = GrowsBy r line r'
IsStep r line step.Last r' = EndsBy r line r'
IsStep r line step.Bad r' = Refuses (stage_of r) line

-- ---- words and their numbers
-- Words with what stands at them are such names, where these words had numbers before and those have
-- them then.
pub record AreNumbered {B : Type 0} (known : List (List ℕ)) (items : List (List ℕ × B))
    (known' : List (List ℕ)) (named : List (Name × B)) : Type 0 where
  pub met : known' ≡ with_words known (map (λ e. e.0) items)
  pub words : worded known' named ≡ items
  pub below : All (λ e. e.0.0 < length known') named

-- what is said, numbered, or its predicate is none that is sent
pub record IsNumberedSaid (known : List (List ℕ)) (said : plain.Said) (known' : List (List ℕ))
    (s : Said) : Type 0 where
  pub formed : SaidIsWellFormed known' s
  pub same : said_of known' s ≡ said
  pub met : known' ≡ with_words known (said_words known' (Some s))

abbrev pub IsReadSaid : List (List ℕ) → plain.Said → List (List ℕ) → Option Said → Type 0
IsReadSaid known said known' None = ¬ IsPredText said.pred
IsReadSaid known said known' (Some s) = IsNumberedSaid known said known' s

-- the line of a number, numbered, where what it says may be said
pub record IsNumberedLine (known : List (List ℕ)) (sender : List ℕ) (said : Option plain.Said)
    (known' : List (List ℕ)) (l : Line) : Type 0 where
  pub formed : (head : Head) → MayBeSaid head said → LineIsWellFormed head known' l
  pub same : (n : ℕ) → number_line known' n l ≡ plain.Number n sender said
  pub met : known' ≡ with_words known (line_words known' l)

abbrev pub IsReadLine :
    List (List ℕ) → List ℕ → Option plain.Said → List (List ℕ) → Option Line → Type 0
IsReadLine known sender said known' None = ¬ SaysPred said
IsReadLine known sender said known' (Some l) = IsNumberedLine known sender said known' l

-- attributes with their values, in words
abbrev pub plain_entries : List (Bor (List ℕ) × Value) → List (List ℕ × Value)
plain_entries entries = map (λ e. (e.0.now, e.1)) entries

-- the line of an environment, numbered
pub record IsNumberedEnv (known : List (List ℕ)) (component : List ℕ)
    (entries : List (List ℕ × Value)) (known' : List (List ℕ)) (f : EnvLine) : Type 0 where
  pub formed : FinalIsWellFormed known' f
  pub same : env_line known' f ≡ plain.Env component entries
  pub met : known' ≡ with_words known (final_words known' f)

-- ---- whole texts
-- What stands before the rest of a text is what was read.
pub record IsReadTo (bytes rest : List ℕ) (r : Reading) : Type 0 where
  pub reading : IsReading r
  pub stands : bytes ≡ front_text (trace_of r) ++ rest

-- It is a whole trace, whatever stands behind it.
pub record IsReadAll (bytes rest : List ℕ) (r : Reading) : Type 0 where
  pub reading : IsReading r
  pub formed : IsWellFormed (trace_of r)
  pub stands : bytes ≡ trace_text (trace_of r) ++ rest

-- no line stands at the front of the rest, whatever was read before it
abbrev pub HasNoLine : List ℕ → List ℕ → TraceRefusal → Type 0
HasNoLine bytes rest (refusal.BadLine place) =
    (place + length rest ≡ length bytes) × IsOneLine rest × ¬ (rest ≡ [])
HasNoLine bytes rest (refusal.Missing place) = (place ≡ length bytes) × (rest ≡ [])
HasNoLine bytes rest refusal.NoMemory = ⊥

-- The line is the first one with this head, or no first one.
abbrev pub IsFirst : List ℕ → Option Head → Type 0
IsFirst line None = Refuses Start line
IsFirst line (Some head) = HeadIsWellFormed head × (plain.line_text (plain.First head) ≡ line)
