-- The examples of order.
use Rattle.std.proofs.Common.{List, [], ◌∷◌, ◌++◌, refl}
use Rattle.abc_pred.specs.Terms as t
use Rattle.abc_term.specs.Processes as P
use Rattle.abc_grammar.specs.declared.lexemes.Lexeme.{Lexeme}
use Rattle.abc_grammar.specs.declared.lexemes.Lexeme.TheVariants as l
use Rattle.abc_text.specs.declared.words.Mark.TheVariants as m
use Rattle.abc_text.specs.declared.words.Keyword.TheVariants as k
use Rattle.abc_text.specs.Words.{keyword_at, mark_at}
use Rattle.abc_grammar.specs.Listed as listed
use Rattle.abc_grammar.specs.Literals as lit
use Rattle.abc_grammar.specs.Operands as o
use Rattle.abc_grammar.specs.Exprs as e
use Rattle.abc_grammar.specs.Preds as p
use Rattle.abc_grammar.specs.Processes.{IsPrefix}
use Rattle.abc_grammar.specs.Processes as q
use Rattle.abc_grammar.specs.Programs as g
use Rattle.abc_grammar.specs.Examples.{name, a, b, K, number, attr_a}
use Rattle.abc_grammar.specs.OrderExamples.{number_value, attr_b, two_definitions, first_component, second_component, hearer, speaker, TwoOfEach, NamePlaces}
use Rattle.abc_grammar.proofs.Worked.{one, two, operand}

hears :
    IsPrefix
    (l.Mark m.Question ∷ l.Mark m.OpenRound ∷ l.Keyword k.Tt ∷ l.Mark m.CloseRound ∷ l.Mark m.OpenRound ∷ l.Variable
    (name 0) ∷ l.Mark m.Comma ∷ l.Variable (name 1)
    ∷ l.Mark m.CloseRound ∷ l.Mark m.Dot ∷ l.Number 0 ∷ [])
    hearer.run
hears =
    q.input {ts = l.Keyword k.Tt ∷ []} {us = l.Variable (name 0) ∷ l.Mark m.Comma ∷ l.Variable (name 1) ∷ []} {vs = l.Number 0 ∷ []}
    {xs = name 0 ∷ name 1 ∷ []}
    (p.both (p.test p.always))
    (listed.some (listed.more {ts = l.Variable (name 0) ∷ []} {us = l.Variable (name 1) ∷ []} {items = name 0 ∷ []}
    (listed.one listed.variable) listed.variable))
    (q.after {ts = []} {us = l.Number 0 ∷ []} listed.none q.nil)

hears_first : g.IsComponent first_component hearer
hears_first =
    g.component {c = name 0}
    {ts = a ∷ l.Mark m.Equal ∷ l.Number 1 ∷ l.Mark m.Semicolon ∷ b ∷ l.Mark m.Equal ∷ l.Number 2 ∷ l.Mark m.Semicolon ∷ []}
    {us = a ∷ l.Mark m.Comma ∷ b ∷ []}
    {vs = l.Mark m.Question ∷ l.Mark m.OpenRound ∷ l.Keyword k.Tt ∷ l.Mark m.CloseRound ∷ l.Mark m.OpenRound ∷ l.Variable
    (name 0) ∷ l.Mark m.Comma ∷ l.Variable (name 1)
    ∷ l.Mark m.CloseRound ∷ l.Mark m.Dot ∷ l.Number 0 ∷ []}
    {first = (name 0, number_value 1) ∷ (name 1, number_value 2) ∷ []} {shown = name 0 ∷ name 1 ∷ []}
    (listed.more {ts = a ∷ l.Mark m.Equal ∷ l.Number 1 ∷ l.Mark m.Semicolon ∷ []} {us = b ∷ l.Mark m.Equal ∷ l.Number 2 ∷ l.Mark m.Semicolon ∷ []}
    {items = (name 0, number_value 1) ∷ []}
    (listed.more {ts = []} {us = a ∷ l.Mark m.Equal ∷ l.Number 1 ∷ l.Mark m.Semicolon ∷ []} {items = []} listed.none
    (g.initial {a = name 0} {ts = l.Number 1 ∷ []} (lit.scalar (lit.number {n = 1} refl))))
    (g.initial {a = name 1} {ts = l.Number 2 ∷ []} (lit.scalar (lit.number {n = 2} refl))))
    (listed.some (listed.more {ts = a ∷ []} {us = b ∷ []} {items = name 0 ∷ []} (listed.one listed.name) listed.name))
    (q.choice (q.prefix hears))

abbrev set_a : List Lexeme
set_a = l.Mark m.OpenSquare ∷ a ∷ l.Mark m.Becomes ∷ l.Number 1 ∷ l.Mark m.CloseSquare ∷ []

abbrev set_b : List Lexeme
set_b = l.Mark m.OpenSquare ∷ b ∷ l.Mark m.Becomes ∷ l.Number 2 ∷ l.Mark m.CloseSquare ∷ []

speaks :
    IsPrefix
    (l.Mark m.OpenRound ∷ a ∷ l.Mark m.Comma ∷ b ∷ l.Mark m.CloseRound ∷ l.Mark m.At ∷ l.Mark m.OpenRound ∷ l.Keyword k.Tt ∷ l.Mark
    m.CloseRound ∷ l.Mark m.Dot
    ∷ set_a ++ (set_b ++ l.Number 0 ∷ []))
    speaker.run
speaks =
    q.output {ts = a ∷ l.Mark m.Comma ∷ b ∷ []} {us = l.Keyword k.Tt ∷ []} {vs = set_a ++ (set_b ++ l.Number 0 ∷ [])}
    {es = t.Plain attr_a ∷ t.Plain attr_b ∷ []}
    (listed.some (listed.more {ts = a ∷ []} {us = b ∷ []} {items = t.Plain attr_a ∷ []} (listed.one (e.operand (operand o.attribute)))
    (e.operand (operand o.attribute))))
    (p.both (p.test p.always))
    (q.after {ts = set_a ++ set_b} {us = l.Number 0 ∷ []} {updates = (name 0, t.Plain (number 1)) ∷ (name 1, t.Plain (number 2)) ∷ []}
    (listed.more {ts = set_a} {us = set_b} {items = (name 0, t.Plain (number 1)) ∷ []}
    (listed.more {ts = []} {us = set_a} {items = []} listed.none (q.update {a = name 0} {ts = l.Number 1 ∷ []} (e.operand (operand one))))
    (q.update {a = name 1} {ts = l.Number 2 ∷ []} (e.operand (operand two))))
    q.nil)

speaks_second : g.IsComponent second_component speaker
speaks_second =
    g.component {c = name 1} {ts = []} {us = []}
    {vs = l.Mark m.OpenRound ∷ a ∷ l.Mark m.Comma ∷ b ∷ l.Mark m.CloseRound ∷ l.Mark m.At ∷ l.Mark m.OpenRound ∷ l.Keyword k.Tt ∷ l.Mark
    m.CloseRound ∷ l.Mark m.Dot
    ∷ set_a ++ (set_b ++ l.Number 0 ∷ [])}
    {first = []} {shown = []} listed.none listed.none (q.choice (q.prefix speaks))

abbrev def_K : List Lexeme
def_K = l.Keyword k.Def ∷ K ∷ l.Mark m.Equal ∷ l.Number 0 ∷ l.Mark m.Semicolon ∷ []

abbrev def_b : List Lexeme
def_b = l.Keyword k.Def ∷ b ∷ l.Mark m.Equal ∷ K ∷ l.Mark m.Semicolon ∷ []

pub two_of_each : TwoOfEach
two_of_each =
    g.headed_1 {ts = two_definitions} {us = first_component ++ second_component} {definitions = (name 2, P.Nil) ∷ (name 1, P.Call (name 2)) ∷ []}
    {components = hearer ∷ speaker ∷ []}
    (listed.more {ts = def_K} {us = def_b} {items = (name 2, P.Nil) ∷ []}
    (listed.more {ts = []} {us = def_K} {items = []} listed.none (g.definition {c = name 2} {ts = l.Number 0 ∷ []} (q.choice (q.prefix q.nil))))
    (g.definition {c = name 1} {ts = K ∷ []} (q.choice (q.prefix q.call))))
    (listed.more {ts = first_component} {us = second_component} {items = hearer ∷ []}
    (listed.more {ts = []} {us = first_component} {items = []} listed.none hears_first) speaks_second)

pub name_places : NamePlaces
unfolding keyword_at mark_at
name_places = record {
  meant = refl;
  definition = refl;
  next_definition = refl;
  no_definition = refl;
  component = refl;
  next_component = refl;
  no_component = refl;
  whole = refl;
}
