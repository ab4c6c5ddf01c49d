-- The grammar of operands: which tokens are which operand.
use Rattle.std.specs.Prelude.{List, [], ◌∷◌, ◌++◌}
use Rattle.abc_value.specs.declared.value.Value.{Value}
use Rattle.abc_pred.specs.declared.names.Name.{Name}
use Rattle.abc_pred.specs.Terms.{Operand}
use Rattle.abc_pred.specs.Terms as o
use Rattle.abc_grammar.specs.declared.lexemes.Lexeme.{Lexeme}
use Rattle.abc_grammar.specs.declared.lexemes.Lexeme.TheVariants as l
use Rattle.abc_text.specs.declared.words.Mark.TheVariants as m
use Rattle.abc_text.specs.declared.words.Keyword.TheVariants as k
use Rattle.abc_grammar.specs.Literals.{IsLiteral}

mutual
  -- operand = product { ( "+" | "-" ) product }      (to the left)
  pub data IsOperand : List Lexeme → Operand → Type 0 where
    product : {ts : List Lexeme} {a : Operand} → IsProduct ts a → IsOperand ts a
    plus :
        {ts us : List Lexeme} {a b : Operand} → IsOperand ts a → IsProduct us b →
        IsOperand (ts ++ l.Mark m.Plus ∷ us) (o.Add a b)
    minus :
        {ts us : List Lexeme} {a b : Operand} → IsOperand ts a → IsProduct us b →
        IsOperand (ts ++ l.Mark m.Minus ∷ us) (o.Sub a b)

  -- product = atom { "*" atom }                      (to the left)
  pub data IsProduct : List Lexeme → Operand → Type 0 where
    atom : {ts : List Lexeme} {a : Operand} → IsAtom ts a → IsProduct ts a
    times :
        {ts us : List Lexeme} {a b : Operand} → IsProduct ts a → IsAtom us b →
        IsProduct (ts ++ l.Mark m.Star ∷ us) (o.Mul a b)

  -- atom = literal | NAME | "this" "." NAME | VAR | "(" operand ")"
  --      | "size" "(" operand ")" | "free" "(" operand ")"
  pub data IsAtom : List Lexeme → Operand → Type 0 where
    literal : {ts : List Lexeme} {v : Value} → IsLiteral ts v → IsAtom ts (o.Literal v)
    attribute : {a : Name} → IsAtom (l.Name a ∷ []) (o.Attr a)
    own : {a : Name} → IsAtom (l.Keyword k.This ∷ l.Mark m.Dot ∷ l.Name a ∷ []) (o.This a)
    variable : {x : Name} → IsAtom (l.Variable x ∷ []) (o.Var x)
    bracketed :
        {ts : List Lexeme} {a : Operand} → IsOperand ts a →
        IsAtom (l.Mark m.OpenRound ∷ ts ++ l.Mark m.CloseRound ∷ []) a
    size :
        {ts : List Lexeme} {a : Operand} → IsOperand ts a →
        IsAtom (l.Keyword k.Size ∷ l.Mark m.OpenRound ∷ ts ++ l.Mark m.CloseRound ∷ []) (o.Size a)
    free :
        {ts : List Lexeme} {a : Operand} → IsOperand ts a →
        IsAtom (l.Keyword k.Free ∷ l.Mark m.OpenRound ∷ ts ++ l.Mark m.CloseRound ∷ []) (o.Free a)
