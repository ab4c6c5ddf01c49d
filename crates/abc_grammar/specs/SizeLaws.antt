-- The size of a predicate, by the grammar: the number of its tokens, each literal counting as one.
use Rattle.std.specs.Prelude.{◌≡◌, ℕ, ◌+◌, List}
use Rattle.abc_pred.specs.Terms.{Operand, Pred}
use Rattle.abc_grammar.specs.declared.lexemes.Lexeme.{Lexeme}
use Rattle.abc_grammar.specs.Operands.{IsOperand, IsProduct, IsAtom}
use Rattle.abc_grammar.specs.Operands as o
use Rattle.abc_grammar.specs.Preds.{IsPred, IsBoth, IsTest}
use Rattle.abc_grammar.specs.Preds as p
use Rattle.abc_grammar.specs.Sizes.{size_of}

abbrev mutual
  pub operand_size : {ts : List Lexeme} {a : Operand} → IsOperand ts a → ℕ
  operand_size (o.product h) = product_size h
  operand_size (o.plus h i) = operand_size h + 1 + product_size i
  operand_size (o.minus h i) = operand_size h + 1 + product_size i

  pub product_size : {ts : List Lexeme} {a : Operand} → IsProduct ts a → ℕ
  product_size (o.atom h) = atom_size h
  product_size (o.times h i) = product_size h + 1 + atom_size i

  pub atom_size : {ts : List Lexeme} {a : Operand} → IsAtom ts a → ℕ
  atom_size (o.literal h) = 1
  atom_size o.attribute = 1
  atom_size o.own = 3
  atom_size o.variable = 1
  atom_size (o.bracketed h) = 1 + operand_size h + 1
  atom_size (o.size h) = 2 + operand_size h + 1
  atom_size (o.free h) = 2 + operand_size h + 1

abbrev mutual
  pub pred_size : {ts : List Lexeme} {a : Pred} → IsPred ts a → ℕ
  pred_size (p.both h) = both_size h
  pred_size (p.or h i) = pred_size h + 1 + both_size i

  pub both_size : {ts : List Lexeme} {a : Pred} → IsBoth ts a → ℕ
  both_size (p.test h) = test_size h
  both_size (p.and h i) = both_size h + 1 + test_size i

  pub test_size : {ts : List Lexeme} {a : Pred} → IsTest ts a → ℕ
  test_size p.always = 1
  test_size p.never = 1
  test_size (p.not h) = 1 + test_size h
  test_size (p.bracketed h) = 1 + pred_size h + 1
  test_size (p.same h i) = operand_size h + 1 + operand_size i
  test_size (p.below h i) = operand_size h + 1 + operand_size i
  test_size (p.member h i) = operand_size h + 1 + operand_size i

-- The tokens of a predicate count as the grammar says.
abbrev pub SizesCountLiterals : Type 0
SizesCountLiterals = (ts : List Lexeme) (a : Pred) (h : IsPred ts a) → size_of ts ≡ pred_size h
