-- What stands around an `@`, a `.` and a `{` of a text of the grammar.
use Rattle.std.specs.Prelude.{◌≡◌, List, [], ◌∷◌, ◌++◌}
use Rattle.abc_value.specs.declared.scalar.Scalar.{Scalar}
use Rattle.abc_pred.specs.declared.names.Name.{Name}
use Rattle.abc_pred.specs.Terms.{Expr, Pred}
use Rattle.abc_term.specs.Processes.{Process, Update}
use Rattle.abc_grammar.specs.declared.lexemes.Lexeme.{Lexeme}
use Rattle.abc_grammar.specs.declared.lexemes.Lexeme.TheVariants as l
use Rattle.abc_text.specs.declared.words.Mark.TheVariants as m
use Rattle.abc_grammar.specs.Listed.{AreListed, MayBeListed, IsVariable}
use Rattle.abc_grammar.specs.Literals.{IsScalar}
use Rattle.abc_grammar.specs.Exprs.{IsExpr}
use Rattle.abc_grammar.specs.Preds.{IsPred}
use Rattle.abc_grammar.specs.Plain.{PlainProgram}
use Rattle.abc_grammar.specs.Processes.{IsAfter}
use Rattle.abc_grammar.specs.Programs.{IsProgram}

-- behind an `@`: the predicate of an output, and what follows it
pub record FollowsAt (after : List Lexeme) : Type 0 where
  pub us : List Lexeme
  pub vs : List Lexeme
  pub rest : List Lexeme
  pub p : Pred
  pub updates : List Update
  pub next : Process
  pub stands : after ≡ l.Mark m.OpenRound ∷ us ++ l.Mark m.CloseRound ∷ l.Mark m.Dot ∷ vs ++ rest
  pub pred : IsPred us p
  pub behind : IsAfter vs updates next

-- before it: the tuple of that output in brackets
pub record EndsTuple (before : List Lexeme) : Type 0 where
  pub front : List Lexeme
  pub parts : List Lexeme
  pub exprs : List Expr
  pub stands : before ≡ front ++ l.Mark m.OpenRound ∷ parts ++ l.Mark m.CloseRound ∷ []
  pub listed : MayBeListed IsExpr parts exprs

-- before the brackets of an input's variables: the predicate of that input in brackets
pub record EndsPred (before : List Lexeme) : Type 0 where
  pub front : List Lexeme
  pub us : List Lexeme
  pub p : Pred
  pub stands : before ≡ front ++ l.Mark m.Question ∷ l.Mark m.OpenRound ∷ us ++ l.Mark m.CloseRound ∷ []
  pub pred : IsPred us p

-- behind scalars and a comma: more of them, up to the brace that closes the set literal
pub record ClosesSet (parts after : List Lexeme) : Type 0 where
  pub more : List Lexeme
  pub rest : List Lexeme
  pub scalars : List Scalar
  pub stands : after ≡ more ++ l.Mark m.CloseCurly ∷ rest
  pub listed : AreListed IsScalar (parts ++ l.Mark m.Comma ∷ more) scalars

pub record MarksStand : Type 0 where
  -- an `@` stands only behind the tuple of an output
  pub outputs :
      (ts : List Lexeme) (program : PlainProgram) → IsProgram ts program → (before after : List Lexeme) → ts ≡ before ++ l.Mark m.At ∷ after →
      EndsTuple before × FollowsAt after
  -- so expressions in brackets before an `@` are that tuple: these brackets belong together
  pub tuples :
      (front parts : List Lexeme) (exprs : List Expr) → AreListed IsExpr parts exprs →
      (h : EndsTuple (front ++ l.Mark m.OpenRound ∷ parts ++ l.Mark m.CloseRound ∷ [])) → (h.front ≡ front) × (h.parts ≡ parts)
  -- of lists in brackets only the variables of an input are followed by a `.`
  pub variables :
      (ts : List Lexeme) (program : PlainProgram) → IsProgram ts program →
      (before parts after : List Lexeme) (xs : List Name) → AreListed IsVariable parts xs →
      ts ≡ before ++ l.Mark m.OpenRound ∷ parts ++ l.Mark m.CloseRound ∷ l.Mark m.Dot ∷ after → EndsPred before
  -- only a `{` that opens a set literal is followed by a scalar and a comma
  pub sets :
      (ts : List Lexeme) (program : PlainProgram) → IsProgram ts program →
      (before parts after : List Lexeme) (scalars : List Scalar) → AreListed IsScalar parts scalars →
      ts ≡ before ++ l.Mark m.OpenCurly ∷ parts ++ l.Mark m.Comma ∷ after → ClosesSet parts after
