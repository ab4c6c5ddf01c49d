-- The grammar of processes: which tokens are which process.
use Rattle.std.specs.Prelude.{List, [], ◌∷◌, ◌++◌}
use Rattle.abc_pred.specs.declared.names.Name.{Name}
use Rattle.abc_pred.specs.Terms.{Expr, Pred}
use Rattle.abc_term.specs.Processes.{Process, Update}
use Rattle.abc_term.specs.Processes as P
use Rattle.abc_grammar.specs.declared.lexemes.Lexeme.{Lexeme}
use Rattle.abc_grammar.specs.declared.lexemes.Lexeme.TheVariants as l
use Rattle.abc_text.specs.declared.words.Mark.TheVariants as m
use Rattle.abc_text.specs.declared.words.Keyword.TheVariants as k
use Rattle.abc_grammar.specs.Listed.{MayBeListed, AreRepeated, IsVariable}
use Rattle.abc_grammar.specs.Exprs.{IsExpr}
use Rattle.abc_grammar.specs.Preds.{IsPred}

-- update = "[" NAME ":=" expr "]"
pub data IsUpdate : List Lexeme → Update → Type 0 where
  update :
      {a : Name} {ts : List Lexeme} {e : Expr} → IsExpr ts e →
      IsUpdate (l.Mark m.OpenSquare ∷ l.Name a ∷ l.Mark m.Becomes ∷ ts ++ l.Mark m.CloseSquare ∷ []) (a, e)

mutual
  -- proc = choice { "|" choice }                     (to the left)
  pub data IsProcess : List Lexeme → Process → Type 0 where
    choice : {ts : List Lexeme} {A : Process} → IsChoice ts A → IsProcess ts A
    par :
        {ts us : List Lexeme} {A B : Process} → IsProcess ts A → IsChoice us B →
        IsProcess (ts ++ l.Mark m.Bar ∷ us) (P.Par A B)

  -- choice = prefix { "+" prefix }                   (to the left)
  pub data IsChoice : List Lexeme → Process → Type 0 where
    prefix : {ts : List Lexeme} {A : Process} → IsPrefix ts A → IsChoice ts A
    plus :
        {ts us : List Lexeme} {A B : Process} → IsChoice ts A → IsPrefix us B →
        IsChoice (ts ++ l.Mark m.Plus ∷ us) (P.Choice A B)

  -- prefix = NUMBER (the number's value is 0) | NAME | "{" proc "}" | "when" "(" pred ")" prefix
  --        | "(" [ expr { "," expr } ] ")" "@" "(" pred ")" "." after
  --        | "?" "(" pred ")" "(" [ VAR { "," VAR } ] ")" "." after
  pub data IsPrefix : List Lexeme → Process → Type 0 where
    nil : IsPrefix (l.Number 0 ∷ []) P.Nil
    call : {c : Name} → IsPrefix (l.Name c ∷ []) (P.Call c)
    braced :
        {ts : List Lexeme} {A : Process} → IsProcess ts A →
        IsPrefix (l.Mark m.OpenCurly ∷ ts ++ l.Mark m.CloseCurly ∷ []) A
    when :
        {ts us : List Lexeme} {p : Pred} {A : Process} → IsPred ts p → IsPrefix us A →
        IsPrefix (l.Keyword k.When ∷ l.Mark m.OpenRound ∷ ts ++ l.Mark m.CloseRound ∷ us) (P.When p A)
    output :
        {ts us vs : List Lexeme} {es : List Expr} {p : Pred} {updates : List Update} {A : Process} →
        MayBeListed IsExpr ts es → IsPred us p → IsAfter vs updates A →
        IsPrefix
        (l.Mark m.OpenRound ∷ ts ++ l.Mark m.CloseRound ∷ l.Mark m.At ∷ l.Mark m.OpenRound ∷ us ++ l.Mark m.CloseRound ∷ l.Mark m.Dot ∷ vs)
        (P.Output es p updates A)
    input :
        {ts us vs : List Lexeme} {p : Pred} {xs : List Name} {updates : List Update} {A : Process} →
        IsPred ts p → MayBeListed IsVariable us xs → IsAfter vs updates A →
        IsPrefix
        (l.Mark m.Question ∷ l.Mark m.OpenRound ∷ ts ++ l.Mark m.CloseRound ∷ l.Mark m.OpenRound ∷ us ++ l.Mark m.CloseRound ∷ l.Mark m.Dot ∷ vs)
        (P.Input p xs updates A)

  -- after = { "[" NAME ":=" expr "]" } prefix
  pub data IsAfter : List Lexeme → List Update → Process → Type 0 where
    after :
        {ts us : List Lexeme} {updates : List Update} {A : Process} →
        AreRepeated IsUpdate ts updates → IsPrefix us A → IsAfter (ts ++ us) updates A
