-- The grammar of programs: which tokens are which program.
use Rattle.std.specs.Prelude.{List, [], ◌∷◌, ◌++◌}
use Rattle.abc_value.specs.declared.value.Value.{Value}
use Rattle.abc_pred.specs.declared.names.Name.{Name}
use Rattle.abc_term.specs.Processes.{Process}
use Rattle.abc_grammar.specs.declared.lexemes.Lexeme.{Lexeme}
use Rattle.abc_grammar.specs.declared.lexemes.Lexeme.TheVariants as l
use Rattle.abc_text.specs.declared.words.Mark.TheVariants as m
use Rattle.abc_text.specs.declared.words.Keyword.TheVariants as k
use Rattle.abc_grammar.specs.Listed.{MayBeListed, AreRepeated, IsName}
use Rattle.abc_grammar.specs.Literals.{IsLiteral}
use Rattle.abc_grammar.specs.Processes.{IsProcess}
use Rattle.abc_grammar.specs.Plain.{PlainComponent, PlainProgram}

-- definition = "def" NAME "=" proc ";"
pub data IsDefinition : List Lexeme → Name × Process → Type 0 where
  definition :
      {c : Name} {ts : List Lexeme} {A : Process} → IsProcess ts A →
      IsDefinition (l.Keyword k.Def ∷ l.Name c ∷ l.Mark m.Equal ∷ ts ++ l.Mark m.Semicolon ∷ []) (c, A)

-- initial = NAME "=" literal ";"
pub data IsInitial : List Lexeme → Name × Value → Type 0 where
  initial :
      {a : Name} {ts : List Lexeme} {v : Value} → IsLiteral ts v →
      IsInitial (l.Name a ∷ l.Mark m.Equal ∷ ts ++ l.Mark m.Semicolon ∷ []) (a, v)

-- component = "comp" NAME "{" { NAME "=" literal ";" } "show" [ NAME { "," NAME } ] ";" "run" proc ";" "}"
pub data IsComponent : List Lexeme → PlainComponent → Type 0 where
  component :
      {c : Name} {ts us vs : List Lexeme} {first : List (Name × Value)} {shown : List Name} {A : Process} →
      AreRepeated IsInitial ts first → MayBeListed IsName us shown → IsProcess vs A →
      IsComponent
      (l.Keyword k.Comp ∷ l.Name c ∷ l.Mark m.OpenCurly ∷ ts ++ l.Keyword k.Show ∷ us ++ l.Mark m.Semicolon ∷ l.Keyword k.Run ∷ vs ++ l.Mark m.Semicolon ∷ l.Mark m.CloseCurly ∷ [])
      (record { name = c; initial = first; show = shown; run = A })

-- program = "abc" NUMBER ";" { definition } { component }
-- One rule for each value of the number: it is 1.
pub data IsProgram : List Lexeme → PlainProgram → Type 0 where
  headed_1 :
      {ts us : List Lexeme} {definitions : List (Name × Process)} {components : List PlainComponent} →
      AreRepeated IsDefinition ts definitions → AreRepeated IsComponent us components →
      IsProgram (l.Keyword k.Abc ∷ l.Number 1 ∷ l.Mark m.Semicolon ∷ ts ++ us) (record { definitions = definitions; components = components })
