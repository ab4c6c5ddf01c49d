-- No token begins a part of a tuple and a scalar of a set literal that are both one too many.
use Rattle.std.proofs.Common.{◌≡◌, List, [], ◌∷◌, ◌++◌, refl, sym, ◌∙◌, take}
use Rattle.abc_grammar.specs.declared.lexemes.Lexeme.{Lexeme}
use Rattle.abc_grammar.specs.declared.lexemes.Lexeme.TheVariants as l
use Rattle.abc_text.specs.declared.words.Mark.TheVariants as m
use Rattle.abc_grammar.specs.Laws.{Balanced}
use Rattle.abc_grammar.proofs.Balance.{listed_balance, scalar_balance, expr_balance, variable_balance}
use Rattle.abc_grammar_laws.specs.Meeting.{LimitsMeet}
use Rattle.abc_grammar_laws.proofs.Splits.{last_both, same_bracket}

-- the same tokens don't end with a `(` and balanced tokens and with a `{` and balanced tokens, before a comma
apart :
    (all xs ys ts us : List Lexeme) → Balanced ts → Balanced us → all ≡ xs ++ l.Mark m.OpenRound ∷ ts ++ l.Mark m.Comma ∷ [] →
    ¬ (all ≡ ys ++ l.Mark m.OpenCurly ∷ us ++ l.Mark m.Comma ∷ [])
apart all xs ys ts us h k round curly =
    let last = last_both (xs ++ l.Mark m.OpenRound ∷ ts) (ys ++ l.Mark m.OpenCurly ∷ us) (l.Mark m.Comma) (l.Mark m.Comma) (sym round ∙ curly) in
    let same = same_bracket xs ys ts us (l.Mark m.OpenRound) (l.Mark m.OpenCurly) (λ n. refl) (λ n. refl) h k last.0 in
    let differ : l.Mark m.OpenRound ≡ l.Mark m.OpenCurly = same.1 in
    absurd (cc)

pub limits_meet : LimitsMeet
limits_meet = record {
  exprs = λ ts k h i.
      apart (take k ts) h.before i.before h.parts i.parts (listed_balance (λ us a j. expr_balance j) h.listed)
      (listed_balance scalar_balance i.listed) h.stands i.stands;
  variables = λ ts k h i. apart (take k ts) h.before i.before h.parts i.parts (listed_balance variable_balance h.listed)
      (listed_balance scalar_balance i.listed) h.stands i.stands;
}
