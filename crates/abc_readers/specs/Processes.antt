-- Reading processes, as plain functions on lists of lexemes.
use Rattle.std.specs.Prelude.{ℕ, zero, suc, Bool, true, false, List, ◌∷◌, Option, Some, None}
use Rattle.abc_pred.specs.declared.names.Name.{Name}
use Rattle.abc_pred.specs.Terms.{Expr, Pred}
use Rattle.abc_term.specs.Processes.{Process, Update}
use Rattle.abc_term.specs.Processes as P
use Rattle.abc_cause.specs.declared.Cause.TheVariants.{Syntax}
use Rattle.abc_grammar.specs.declared.lexemes.Lexeme.{Lexeme}
use Rattle.abc_grammar.specs.declared.lexemes.Lexeme.TheVariants as l
use Rattle.abc_text.specs.declared.words.Mark.TheVariants as m
use Rattle.abc_text.specs.declared.words.Keyword.TheVariants as k
use Rattle.abc_reading.specs.Reading.{Read, ◌>>=◌, mapped, again, Joins, chain}
use Rattle.abc_readers.specs.Operands.{Tokens, Reading, refuse, close_curly}
use Rattle.abc_readers.specs.Exprs.{whole, whole_expr}
use Rattle.abc_readers.specs.Preds.{pred}
use Rattle.abc_readers.specs.Combining.{one, then_read, repeated, closed}

-- ---- tokens that have a meaning: marks and keywords, names, variables
abbrev pub round_opens : Lexeme → Option (Unit {0})
round_opens (l.Mark m.OpenRound) = Some tt
round_opens t = None

abbrev pub round_closes : Lexeme → Option (Unit {0})
round_closes (l.Mark m.CloseRound) = Some tt
round_closes t = None

abbrev pub square_opens : Lexeme → Option (Unit {0})
square_opens (l.Mark m.OpenSquare) = Some tt
square_opens t = None

abbrev pub square_closes : Lexeme → Option (Unit {0})
square_closes (l.Mark m.CloseSquare) = Some tt
square_closes t = None

abbrev pub at_sign : Lexeme → Option (Unit {0})
at_sign (l.Mark m.At) = Some tt
at_sign t = None

abbrev pub dot : Lexeme → Option (Unit {0})
dot (l.Mark m.Dot) = Some tt
dot t = None

abbrev pub question : Lexeme → Option (Unit {0})
question (l.Mark m.Question) = Some tt
question t = None

abbrev pub becomes : Lexeme → Option (Unit {0})
becomes (l.Mark m.Becomes) = Some tt
becomes t = None

abbrev pub when_word : Lexeme → Option (Unit {0})
when_word (l.Keyword k.When) = Some tt
when_word t = None

abbrev pub a_name : Lexeme → Option Name
a_name (l.Name n) = Some n
a_name t = None

abbrev pub a_variable : Lexeme → Option Name
a_variable (l.Variable n) = Some n
a_variable t = None

-- ---- heads: what may stand before a prefix
-- A guard, an output with its updates, an input with its updates.
pub data Head : Type 0 where
  guard : Pred → Head
  output : List Expr → Pred → List Update → Head
  input : Pred → List Name → List Update → Head

abbrev pub under : Head → Process → Process
under (guard p) A = P.When p A
under (output es p us) A = P.Output es p us A
under (input p xs us) A = P.Input p xs us A

-- "(" pred ")"
unfoldable pub whole_pred : Tokens → Reading Pred
whole_pred ts = whole pred ts

abbrev pub condition_of : Unit {0} × (Pred × Unit {0}) → Pred
condition_of x = x.1.0

unfoldable pub condition : Tokens → Reading Pred
condition ts = mapped condition_of (then_read (one round_opens) (then_read whole_pred (one round_closes)) ts)

-- "[" NAME ":=" expr "]"
abbrev pub update_of : Unit {0} × (Name × (Unit {0} × (Expr × Unit {0}))) → Update
update_of x = (x.1.0, x.1.1.1.0)

unfoldable pub update : Tokens → Reading Update
update ts = mapped update_of (then_read (one square_opens) (then_read (one a_name) (then_read (one becomes) (then_read whole_expr
    (one square_closes)))) ts)

abbrev pub starts_update : Lexeme → Bool
starts_update (l.Mark m.OpenSquare) = true
starts_update t = false

-- "." { update }
abbrev pub updates_of : Unit {0} × List Update → List Update
updates_of x = x.1

unfoldable pub dotted_updates : Tokens → Reading (List Update)
dotted_updates ts = mapped updates_of (then_read (one dot) (repeated starts_update update) ts)

-- "when" condition
abbrev pub guard_of : Unit {0} × Pred → Head
guard_of x = guard x.1

unfoldable pub guard_head : Tokens → Reading Head
guard_head ts = mapped guard_of (then_read (one when_word) condition ts)

-- What is read between the brackets of an output's tuple and of an input's variables, the bracket that closes them with it.
-- The limit of eight is theirs alone, so all that stands around them is written once.
abbrev pub Tuple : Type 0
Tuple = Tokens → Reading (List Expr)

abbrev pub Variables : Type 0
Variables = Tokens → Reading (List Name)

-- limits aside
abbrev pub any_tuple : Tuple
any_tuple ts = closed round_closes whole_expr ts

abbrev pub any_variables : Variables
any_variables ts = closed round_closes (one a_variable) ts

-- "(" [ expr { "," expr } ] ")" "@" condition "." { update }
abbrev pub output_of : Unit {0} × (List Expr × (Unit {0} × (Pred × List Update))) → Head
output_of x = output x.1.0 x.1.1.1.0 x.1.1.1.1

-- behind the opening bracket
abbrev pub output_tail_with : Tuple → Tokens → Reading (List Expr × (Unit {0} × (Pred × List Update)))
output_tail_with tuple ts = then_read tuple (then_read (one at_sign) (then_read condition dotted_updates)) ts

abbrev pub output_tail : Tokens → Reading (List Expr × (Unit {0} × (Pred × List Update)))
output_tail ts = output_tail_with any_tuple ts

abbrev pub output_with : Tuple → Tokens → Reading Head
output_with tuple ts = mapped output_of (then_read (one round_opens) (output_tail_with tuple) ts)

abbrev pub output_head : Tokens → Reading Head
output_head ts = output_with any_tuple ts

-- "?" condition "(" [ VAR { "," VAR } ] ")" "." { update }
abbrev pub input_of : Unit {0} × (Pred × (Unit {0} × (List Name × List Update))) → Head
input_of x = input x.1.0 x.1.1.1.0 x.1.1.1.1

-- behind the question mark
abbrev pub input_tail_with : Variables → Tokens → Reading (Pred × (Unit {0} × (List Name × List Update)))
input_tail_with variables ts = then_read condition (then_read (one round_opens) (then_read variables dotted_updates)) ts

abbrev pub input_tail : Tokens → Reading (Pred × (Unit {0} × (List Name × List Update)))
input_tail ts = input_tail_with any_variables ts

abbrev pub input_with : Variables → Tokens → Reading Head
input_with variables ts = mapped input_of (then_read (one question) (input_tail_with variables) ts)

abbrev pub input_head : Tokens → Reading Head
input_head ts = input_with any_variables ts

-- ---- processes
-- what is read again: a process in braces, or a prefix behind a head
pub data Again : Type 0 where
  process_again : Again
  prefix_again : Again

abbrev pub pluses : Joins Lexeme Process
pluses (l.Mark m.Plus) = Some P.Choice
pluses t = None

abbrev pub bars : Joins Lexeme Process
bars (l.Mark m.Bar) = Some P.Par
bars t = None

-- the number of a process is 0
abbrev pub nil_at : ℕ → Tokens → Reading Process
nil_at zero ts = Read P.Nil ts
nil_at (suc n) ts = refuse (l.Number (suc n) ∷ ts)

module _ (inner : Again → Tokens → Reading Process) where
  abbrev pub headed_by : (Tokens → Reading Head) → Tokens → Reading Process
  headed_by head ts = head ts >>= λ h us. mapped (under h) (inner prefix_again us)

  abbrev pub braced_by : Tokens → Reading Process
  braced_by ts = inner process_again ts >>= close_curly

module _ (tuple : Tuple) (variables : Variables) (inner : Again → Tokens → Reading Process) where
  abbrev pub prefix_with : Tokens → Reading Process
  prefix_with (l.Number n ∷ ts) = nil_at n ts
  prefix_with (l.Name c ∷ ts) = Read (P.Call c) ts
  prefix_with (l.Mark m.OpenCurly ∷ ts) = braced_by inner ts
  prefix_with (l.Keyword k.When ∷ ts) = headed_by inner guard_head (l.Keyword k.When ∷ ts)
  prefix_with (l.Mark m.OpenRound ∷ ts) = headed_by inner (output_with tuple) (l.Mark m.OpenRound ∷ ts)
  prefix_with (l.Mark m.Question ∷ ts) = headed_by inner (input_with variables) (l.Mark m.Question ∷ ts)
  prefix_with ts = refuse ts

  abbrev pub choice_with : Tokens → Reading Process
  choice_with ts = chain Syntax prefix_with pluses ts

  abbrev pub process_with : Tokens → Reading Process
  process_with ts = whole (chain Syntax choice_with bars) ts

abbrev pub step_with : Tuple → Variables → (Again → Tokens → Reading Process) → Again → Tokens → Reading Process
step_with tuple variables inner process_again ts = process_with tuple variables inner ts
step_with tuple variables inner prefix_again ts = prefix_with tuple variables inner ts

-- ---- the same, limits aside
abbrev pub prefix_by : (Again → Tokens → Reading Process) → Tokens → Reading Process
prefix_by inner ts = prefix_with any_tuple any_variables inner ts

abbrev pub choice_by : (Again → Tokens → Reading Process) → Tokens → Reading Process
choice_by inner ts = choice_with any_tuple any_variables inner ts

abbrev pub process_by : (Again → Tokens → Reading Process) → Tokens → Reading Process
process_by inner ts = process_with any_tuple any_variables inner ts

abbrev pub process_step : (Again → Tokens → Reading Process) → Again → Tokens → Reading Process
process_step inner x ts = step_with any_tuple any_variables inner x ts

unfoldable pub process : Tokens → Reading Process
process ts = again Syntax process_step process_again ts

unfoldable pub prefix : Tokens → Reading Process
prefix ts = again Syntax process_step prefix_again ts

-- prefixes joined by `+`
unfoldable pub choice : Tokens → Reading Process
choice ts = chain Syntax prefix pluses ts
