-- The grammar of predicates: which tokens are which predicate.
use Rattle.std.specs.Prelude.{List, [], ◌∷◌, ◌++◌}
use Rattle.abc_pred.specs.Terms.{Operand, Pred}
use Rattle.abc_pred.specs.Terms as p
use Rattle.abc_grammar.specs.declared.lexemes.Lexeme.{Lexeme}
use Rattle.abc_grammar.specs.declared.lexemes.Lexeme.TheVariants as l
use Rattle.abc_text.specs.declared.words.Mark.TheVariants as m
use Rattle.abc_text.specs.declared.words.Keyword.TheVariants as k
use Rattle.abc_grammar.specs.Operands.{IsOperand}

mutual
  -- pred = both { "or" both }                        (to the left)
  pub data IsPred : List Lexeme → Pred → Type 0 where
    both : {ts : List Lexeme} {a : Pred} → IsBoth ts a → IsPred ts a
    or :
        {ts us : List Lexeme} {a b : Pred} → IsPred ts a → IsBoth us b →
        IsPred (ts ++ l.Keyword k.Or ∷ us) (p.Or a b)

  -- both = test { "and" test }                       (to the left)
  pub data IsBoth : List Lexeme → Pred → Type 0 where
    test : {ts : List Lexeme} {a : Pred} → IsTest ts a → IsBoth ts a
    and :
        {ts us : List Lexeme} {a b : Pred} → IsBoth ts a → IsTest us b →
        IsBoth (ts ++ l.Keyword k.And ∷ us) (p.And a b)

  -- test = "tt" | "ff" | "not" test | "[" pred "]"
  --      | operand "=" operand | operand "<" operand | operand "in" operand
  pub data IsTest : List Lexeme → Pred → Type 0 where
    always : IsTest (l.Keyword k.Tt ∷ []) p.True
    never : IsTest (l.Keyword k.Ff ∷ []) p.False
    not : {ts : List Lexeme} {a : Pred} → IsTest ts a → IsTest (l.Keyword k.Not ∷ ts) (p.Not a)
    bracketed :
        {ts : List Lexeme} {a : Pred} → IsPred ts a →
        IsTest (l.Mark m.OpenSquare ∷ ts ++ l.Mark m.CloseSquare ∷ []) a
    same :
        {ts us : List Lexeme} {a b : Operand} → IsOperand ts a → IsOperand us b →
        IsTest (ts ++ l.Mark m.Equal ∷ us) (p.Same a b)
    below :
        {ts us : List Lexeme} {a b : Operand} → IsOperand ts a → IsOperand us b →
        IsTest (ts ++ l.Mark m.Below ∷ us) (p.Less a b)
    member :
        {ts us : List Lexeme} {a b : Operand} → IsOperand ts a → IsOperand us b →
        IsTest (ts ++ l.Keyword k.In ∷ us) (p.Member a b)
