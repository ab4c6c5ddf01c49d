-- A trace as plain terms: the boxes of its predicates are gone, and all else stands.
use Rattle.std.specs.Prelude.{ℕ, List, map, Option}
use Rattle.std.specs.Option.{option_map}
use Rattle.abc_value.specs.declared.value.Value.{Value}
use Rattle.abc_pred.specs.declared.names.Name.{Name}
use Rattle.abc_pred.specs.Terms.{Pred}
use Rattle.abc_pred.specs.Standing.{pred_of}
use Rattle.abc_trace.specs.declared.trace.Head.{Head}
use Rattle.abc_trace.specs.declared.trace.Said.{Said}
use Rattle.abc_trace.specs.declared.trace.Line.{Line}
use Rattle.abc_trace.specs.declared.trace.EnvLine.{EnvLine}
use Rattle.abc_trace.specs.declared.trace.Trace.{Trace}

-- a multicast
pub record PlainSaid : Type 0 where
  pub place : ℕ
  pub values : List Value
  pub pred : Pred
  pub heard : List (Name × ℕ)

-- what happened under a number
pub record PlainLine : Type 0 where
  pub sender : Name
  pub said : Option PlainSaid

pub record PlainTrace : Type 0 where
  pub names : List (List ℕ)
  pub head : Head
  pub lines : List PlainLine
  pub finals : List EnvLine
  pub handled : List ℕ

-- what a trace's value stands for
abbrev pub plain_said : Said → PlainSaid
plain_said s = record {
  place = s.place;
  values = s.values;
  pred = pred_of s.pred;
  heard = s.heard;
}

abbrev pub plain_line : Line → PlainLine
plain_line l = record { sender = l.sender; said = option_map plain_said l.said }

abbrev pub plain_trace : Trace → PlainTrace
plain_trace t = record {
  names = t.names;
  head = t.head;
  lines = map plain_line t.lines;
  finals = t.finals;
  handled = t.handled;
}
