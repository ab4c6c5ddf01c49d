-- The tokens of a text are no more than its bytes, and its bad token is bad for a lexical cause.
use Rattle.std.proofs.Common.{ℕ, ◌≤◌, List, [], ◌∷◌, length, Option, Some, None, length-drop, arith}
use Rattle.abc_text.specs.declared.lexical.Token.{Token}
use Rattle.abc_text.specs.declared.lexical.Fault.{Fault}
use Rattle.abc_text.specs.declared.lexical.Before.{Before}
use Rattle.abc_text.specs.Tokens.{skip, stands_after, spelled, left, IsRead, Reads}
use Rattle.abc_text.proofs.Forward.{good_within, length-skip-le}
use Rattle.abc_text.proofs.Faults.{faults_are_lexical}
use Rattle.abc_grammar.specs.Refusals.{HasLexical}

read_fewer : (size : ℕ) (before : Before) (bytes : List ℕ) (ts : List Token) (fault : Option Fault) → IsRead size before bytes ts fault → length ts ≤ length bytes
read_fewer size before bytes [] None h = omega arith
read_fewer size before bytes [] (Some fault) h = omega arith
read_fewer size before bytes (t ∷ ts) fault h =
    let w = good_within before (skip bytes) t.kind t.len h.0.token in
    let rest = read_fewer size (stands_after before t.kind (spelled bytes t)) (left bytes t) ts fault h.1 in
    omega (arith, w.0, w.1, rest, length-skip-le bytes, length-drop {A = ℕ} t.len (skip bytes))

pub tokens_fewer : (bytes : List ℕ) (ts : List Token) (fault : Option Fault) → Reads bytes ts fault → length ts ≤ length bytes
tokens_fewer bytes ts fault h = read_fewer (length bytes) _ bytes ts fault h

-- a bad token is bad for a cause of tokens
pub faults_lexical : (bytes : List ℕ) (ts : List Token) (fault : Option Fault) → Reads bytes ts fault → HasLexical fault
faults_lexical bytes ts None h = tt
faults_lexical bytes ts (Some fault) h = faults_are_lexical bytes ts fault h
