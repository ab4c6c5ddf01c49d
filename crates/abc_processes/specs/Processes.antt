-- Processes as the code reads them: heads as it holds them, what passing heads leaves to be read, and whole choices.
use Rattle.std.specs.Prelude.{◌≡◌, List, [], ◌∷◌, map, Option, Some, None, Result, Ok, Err}
use Rattle.abc_pred.specs.Standing.{expr_of, pred_of}
use Rattle.abc_term.specs.declared.terms.Update.{Update}
use Rattle.abc_term.specs.Processes.{Process}
use Rattle.abc_term.specs.Processes as term
use Rattle.abc_term.specs.Standing.{exprs_of, updates_of}
use Rattle.abc_grammar.specs.declared.lexemes.Lexeme.TheVariants as l
use Rattle.abc_text.specs.declared.words.Mark.TheVariants as m
use Rattle.abc_text.specs.declared.words.Keyword.TheVariants as k
use Rattle.abc_reading.specs.Reading.{Refused, mapped}
use Rattle.abc_readers.specs.Operands.{Tokens, Reading}
use Rattle.abc_readers.specs.Exprs.{whole}
use Rattle.abc_readers.specs.Processes.{guard, output, input, under, prefix, choice}
use Rattle.abc_readers.specs.Processes as plain
use Rattle.abc_phrases.specs.declared.parser.Parser.{Parser}
use Rattle.abc_phrases.specs.declared.parser.Stop.{Stop}
use Rattle.abc_phrases.specs.declared.parser.Stop.TheVariants as stop
use Rattle.abc_processes.specs.declared.heads.Head.{Head}
use Rattle.abc_processes.specs.declared.heads.Head.TheVariants.{Guard, Output, Input}
use Rattle.abc_processes.specs.Answers.{left}

abbrev pub update_of : Update → term.Update
update_of u = (u.name, expr_of u.value)

abbrev pub head_of : Head → plain.Head
head_of (Guard p) = guard (pred_of p)
head_of (Output es p us) = output (exprs_of es) (pred_of p) (updates_of us)
head_of (Input p xs us) = input (pred_of p) xs (updates_of us)

-- a process under several heads, the first one outermost
abbrev pub under_all : List plain.Head → Process → Process
under_all [] A = A
under_all (h ∷ hs) A = under h (under_all hs A)

-- the next token begins no head
abbrev pub HasNoHead : Tokens → Type 0
HasNoHead (l.Keyword k.When ∷ ts) = ⊥
HasNoHead (l.Mark m.OpenRound ∷ ts) = ⊥
HasNoHead (l.Mark m.Question ∷ ts) = ⊥
HasNoHead ts = Unit {0}

-- If the next token begins a head, it is read, and the prefix behind it is left to be read; else all stays.
-- A head that is refused is a prefix that is refused.
abbrev pub TakesHead : Parser → Result (Option Head) Stop → Parser → Type 0
TakesHead before (Ok None) after = (left after ≡ left before) × HasNoHead (left after)
TakesHead before (Ok (Some h)) after = prefix (left before) ≡ mapped (under (head_of h)) (prefix (left after))
TakesHead before (Err (stop.Refused c)) after = prefix (left before) ≡ Refused c (left after)
TakesHead before (Err stop.NoMemory) after = Unit {0}

-- All the heads that stand here are read, and the prefix behind them is left to be read.
abbrev pub TakesHeads : Parser → Result (List Head) Stop → Parser → Type 0
TakesHeads before (Ok hs) after =
    (prefix (left before) ≡ mapped (under_all (map head_of hs)) (prefix (left after))) × HasNoHead (left after)
TakesHeads before (Err (stop.Refused c)) after = prefix (left before) ≡ Refused c (left after)
TakesHeads before (Err stop.NoMemory) after = Unit {0}

-- prefixes joined by `+` that are read whole
unfoldable pub whole_choice : Tokens → Reading Process
whole_choice ts = whole choice ts
