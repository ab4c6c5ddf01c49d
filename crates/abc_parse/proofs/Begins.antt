-- A text of whose tokens no front is a predicate begins with none.
use Rattle.std.proofs.Common.{◌≡◌, ℕ, List, length, ap, ◌∙◌, Option}
use Rattle.abc_cause.specs.declared.Cause.{Cause}
use Rattle.abc_text.specs.declared.lexical.Token.{Token}
use Rattle.abc_text.specs.declared.lexical.Fault.{Fault}
use Rattle.abc_text.specs.Tokens.{Reads}
use Rattle.abc_text.specs.Meanings.{names_behind}
use Rattle.abc_grammar.specs.declared.lexemes.Lexeme.{Lexeme}
use Rattle.abc_grammar.specs.Lexemes.{lexemes_of}
use Rattle.abc_grammar.specs.Refusals.{end_cause, place_at}
use Rattle.abc_grammar.specs.Scanned.{IsScanned}
use Rattle.abc_grammar.specs.Fronts.{BeginsWithNoPred}
use Rattle.abc_parse.specs.declared.front.Front.TheVariants as front
use Rattle.abc_parse.specs.Fronting.{IsFrontOf}
use Rattle.abc_parse.proofs.Texts.{faults_lexical}

pub refused_begins : (names : List (List ℕ)) (bytes : List ℕ) (ts : List Token) (fault : Option Fault) (ls : List Lexeme) (n : ℕ) (c : Cause) (place : ℕ) → IsScanned names bytes ts fault ls
    → IsFrontOf ls (front.Refused n c) → place ≡ place_at ts fault (length bytes) n → BeginsWithNoPred names bytes place c
refused_begins names bytes ts fault ls n c place scanned h stands = record {
  tokens = ts;
  fault = fault;
  lexemes = ls;
  scanned = scanned;
  none = h.0;
  number = n;
  first = h.2 fault;
  stands = stands;
}

pub ends_begins : (names : List (List ℕ)) (bytes : List ℕ) (ts : List Token) (fault : Option Fault) (ls : List Lexeme) (place : ℕ) → IsScanned names bytes ts fault ls
    → IsFrontOf ls front.Ends → place ≡ place_at ts fault (length bytes) (length ls) → BeginsWithNoPred names bytes place (end_cause fault)
ends_begins names bytes ts fault ls place scanned h stands = record {
  tokens = ts;
  fault = fault;
  lexemes = ls;
  scanned = scanned;
  none = h.0;
  number = length ls;
  first = h.1 fault (faults_lexical bytes ts fault scanned.read);
  stands = stands;
}
