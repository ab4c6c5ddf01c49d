-- What is a predicate is read, whatever follows it; and each front that is one is read at least.
use Rattle.std.proofs.Common.{◌≡◌, ℕ, [], ◌∷◌, ◌++◌, length, refl, sym, ap, ◌∙◌, append_assoc, arith}
use Rattle.abc_value.specs.declared.scalar.Scalar.{Scalar}
use Rattle.abc_value.specs.declared.value.Value.{Value}
use Rattle.abc_pred.specs.Terms.{Operand, Pred}
use Rattle.abc_pred.specs.Terms as p
use Rattle.abc_cause.specs.declared.Cause.TheVariants.{Syntax}
use Rattle.abc_grammar.specs.declared.lexemes.Lexeme.{Lexeme}
use Rattle.abc_grammar.specs.declared.lexemes.Lexeme.TheVariants as l
use Rattle.abc_text.specs.declared.words.Mark.TheVariants as m
use Rattle.abc_text.specs.declared.words.Keyword.TheVariants as k
use Rattle.abc_grammar.specs.Literals.{IsScalar, IsLiteral}
use Rattle.abc_grammar.specs.Literals as gs
use Rattle.abc_grammar.specs.Operands.{IsOperand, IsProduct, IsAtom}
use Rattle.abc_grammar.specs.Operands as og
use Rattle.abc_grammar.specs.Preds.{IsPred, IsBoth, IsTest}
use Rattle.abc_grammar.specs.Preds as g
use Rattle.abc_reading.specs.Reading.{Read, Cut, Refused, ◌>>=◌, mapped, joined, chain}
use Rattle.abc_reading.proofs.Chain.{Leaves, Ends, Reaches, reads_leaves, joined_ends, chain_first, chain_more, then_reaches, chain_reaches}
use Rattle.abc_readers.specs.Operands.{Tokens, Reading, operand}
use Rattle.abc_readers.specs.Preds.{close_square, compared, comparison, ands, ors, test_by, pred, both, test}
use Rattle.abc_readers.proofs.OperandWhole.{EndsOperand, operand_ends, operand_reach}
use Rattle.abc_readers.proofs.PredReads.{test_by_reads, both_by_reads, pred_reads, pred-eq}

-- a test that begins as an operand does is a comparison
begins_scalar : (inner : Tokens → Reading Pred) {ts : Tokens} {x : Scalar} → IsScalar ts x → (rest : Tokens) → test_by inner (ts ++ rest) ≡ comparison (ts ++ rest)
begins_scalar inner (gs.number e) rest = refl
begins_scalar inner (gs.negative e) rest = refl
begins_scalar inner gs.text rest = refl
begins_scalar inner gs.yes rest = refl
begins_scalar inner gs.no rest = refl

begins_literal : (inner : Tokens → Reading Pred) {ts : Tokens} {x : Value} → IsLiteral ts x → (rest : Tokens) → test_by inner (ts ++ rest) ≡ comparison (ts ++ rest)
begins_literal inner (gs.scalar h) rest = begins_scalar inner h rest
begins_literal inner gs.nothing rest = refl
begins_literal inner (gs.set h) rest = refl

begins_atom : (inner : Tokens → Reading Pred) {ts : Tokens} {a : Operand} → IsAtom ts a → (rest : Tokens) → test_by inner (ts ++ rest) ≡ comparison (ts ++ rest)
begins_atom inner (og.literal h) rest = begins_literal inner h rest
begins_atom inner og.attribute rest = refl
begins_atom inner og.own rest = refl
begins_atom inner og.variable rest = refl
begins_atom inner (og.bracketed h) rest = refl
begins_atom inner (og.size h) rest = refl
begins_atom inner (og.free h) rest = refl

begins_product : (inner : Tokens → Reading Pred) {ts : Tokens} {a : Operand} → IsProduct ts a → (rest : Tokens) → test_by inner (ts ++ rest) ≡ comparison (ts ++ rest)
begins_product inner (og.atom h) rest = begins_atom inner h rest
begins_product inner (og.times {ts} {us} h q) rest = rw (append_assoc ts (l.Mark m.Star ∷ us) rest) (begins_product inner h (l.Mark m.Star ∷ (us ++ rest)))

begins_operand : (inner : Tokens → Reading Pred) {ts : Tokens} {a : Operand} → IsOperand ts a → (rest : Tokens) → test_by inner (ts ++ rest) ≡ comparison (ts ++ rest)
begins_operand inner (og.product h) rest = begins_product inner h rest
begins_operand inner (og.plus {ts} {us} h q) rest = rw (append_assoc ts (l.Mark m.Plus ∷ us) rest) (begins_operand inner h (l.Mark m.Plus ∷ (us ++ rest)))
begins_operand inner (og.minus {ts} {us} h q) rest = rw (append_assoc ts (l.Mark m.Minus ∷ us) rest) (begins_operand inner h (l.Mark m.Minus ∷ (us ++ rest)))

pub test_leaves : Leaves test
unfolding test
test_leaves = reads_leaves IsTest test (test_by_reads pred pred_reads)

pub both_leaves : Leaves both
unfolding both
both_leaves = reads_leaves IsBoth both (both_by_reads pred pred_reads)

pub both-eq : (ts : Tokens) → both ts ≡ chain Syntax test ands ts
unfolding both test
both-eq ts = refl

-- up to the comparing token, a comparison is its first operand
compares : {ts : Tokens} {a : Operand} → IsOperand ts a → (t : Lexeme) (us : Tokens) → EndsOperand (t ∷ us) → test (ts ++ t ∷ us) ≡ compared a (t ∷ us)
unfolding test comparison
compares {ts} {a} h t us ends = begins_operand pred h (t ∷ us) ∙ ap (λ (y : Reading Operand). y >>= compared) (operand_ends h (t ∷ us) ends)

mutual
  unfolding test

  pub whole-pred : {ts : Tokens} {a : Pred} → IsPred ts a → (rest : Tokens) → EndsOperand rest → Ends ands rest → pred (ts ++ rest) ≡ joined Syntax both ors a rest
  whole-pred (g.both {ts} {a} h) rest ends ands_end =
      pred-eq (ts ++ rest) ∙ chain_first Syntax both ors both_leaves ts a rest (whole-both h rest ends ∙ joined_ends Syntax test ands test_leaves a rest ands_end)
  whole-pred (g.or {ts} {us} {a} {b} h q) rest ends ands_end =
      pred-eq ((ts ++ l.Keyword k.Or ∷ us) ++ rest)
      ∙ chain_more Syntax both ors both_leaves ts us a b (l.Keyword k.Or) p.Or rest refl
      (sym (pred-eq (ts ++ l.Keyword k.Or ∷ (us ++ rest))) ∙ whole-pred h (l.Keyword k.Or ∷ (us ++ rest)) (record { stars = refl; signs = refl }) refl)
      (whole-both q rest ends ∙ joined_ends Syntax test ands test_leaves b rest ands_end)

  pub whole-both : {ts : Tokens} {a : Pred} → IsBoth ts a → (rest : Tokens) → EndsOperand rest → both (ts ++ rest) ≡ joined Syntax test ands a rest
  whole-both (g.test {ts} {a} h) rest ends = both-eq (ts ++ rest) ∙ chain_first Syntax test ands test_leaves ts a rest (whole-test h rest ends)
  whole-both (g.and {ts} {us} {a} {b} h q) rest ends =
      both-eq ((ts ++ l.Keyword k.And ∷ us) ++ rest)
      ∙ chain_more Syntax test ands test_leaves ts us a b (l.Keyword k.And) p.And rest refl
      (sym (both-eq (ts ++ l.Keyword k.And ∷ (us ++ rest))) ∙ whole-both h (l.Keyword k.And ∷ (us ++ rest)) (record { stars = refl; signs = refl }))
      (whole-test q rest ends)

  pub whole-test : {ts : Tokens} {a : Pred} → IsTest ts a → (rest : Tokens) → EndsOperand rest → test (ts ++ rest) ≡ Read a rest
  whole-test g.always rest ends = refl
  whole-test g.never rest ends = refl
  whole-test (g.not h) rest ends = ap (mapped p.Not) (whole-test h rest ends)
  whole-test (g.bracketed {ts} {a} h) rest ends =
      rw (append_assoc ts (l.Mark m.CloseSquare ∷ []) rest) (ap (λ (y : Reading Pred). y >>= close_square)
      (whole-pred h (l.Mark m.CloseSquare ∷ rest) (record { stars = refl; signs = refl }) refl ∙ joined_ends Syntax both ors both_leaves a (l.Mark m.CloseSquare ∷ rest) refl))
  whole-test (g.same {ts} {us} {a} {b} h q) rest ends =
      rw (append_assoc ts (l.Mark m.Equal ∷ us) rest) (compares h (l.Mark m.Equal) (us ++ rest) (record { stars = refl; signs = refl }) ∙ ap (mapped (p.Same a)) (operand_ends q rest ends))
  whole-test (g.below {ts} {us} {a} {b} h q) rest ends =
      rw (append_assoc ts (l.Mark m.Below ∷ us) rest) (compares h (l.Mark m.Below) (us ++ rest) (record { stars = refl; signs = refl }) ∙ ap (mapped (p.Less a)) (operand_ends q rest ends))
  whole-test (g.member {ts} {us} {a} {b} h q) rest ends =
      rw (append_assoc ts (l.Keyword k.In ∷ us) rest) (compares h (l.Keyword k.In) (us ++ rest) (record { stars = refl; signs = refl }) ∙ ap (mapped (p.Member a)) (operand_ends q rest ends))

pub pred_ends : {ts : Tokens} {a : Pred} → IsPred ts a → (rest : Tokens) → EndsOperand rest → Ends ands rest → Ends ors rest → pred (ts ++ rest) ≡ Read a rest
pred_ends {ts} {a} h rest ends ands_end ors_end = whole-pred h rest ends ands_end ∙ joined_ends Syntax both ors both_leaves a rest ors_end

-- ---- each front that is a predicate is read at least
mapped_reaches : {A B : Type 0} (n : ℕ) (f : A → B) (y : Reading A) → Reaches n y → Reaches n (mapped f y)
mapped_reaches n f (Read a us) r = r
mapped_reaches n f (Cut a us c vs) r = r
mapped_reaches n f (Refused c vs) r = absurd r

test_reach : {ts : Tokens} {a : Pred} → IsTest ts a → (rest : Tokens) → Reaches (length rest) (test (ts ++ rest))
unfolding test
test_reach g.always rest = omega arith
test_reach g.never rest = omega arith
test_reach (g.not {ts} h) rest = mapped_reaches (length rest) p.Not (test (ts ++ rest)) (test_reach h rest)
test_reach (g.bracketed {ts} {a} h) rest =
    rw (append_assoc ts (l.Mark m.CloseSquare ∷ []) rest, pred_ends h (l.Mark m.CloseSquare ∷ rest) (record { stars = refl; signs = refl }) refl refl) (omega arith)
test_reach (g.same {ts} {us} {a} {b} h q) rest =
    rw (append_assoc ts (l.Mark m.Equal ∷ us) rest, compares h (l.Mark m.Equal) (us ++ rest) (record { stars = refl; signs = refl })) (mapped_reaches (length rest) (p.Same a) (operand (us ++ rest)) (operand_reach q rest))
test_reach (g.below {ts} {us} {a} {b} h q) rest =
    rw (append_assoc ts (l.Mark m.Below ∷ us) rest, compares h (l.Mark m.Below) (us ++ rest) (record { stars = refl; signs = refl })) (mapped_reaches (length rest) (p.Less a) (operand (us ++ rest)) (operand_reach q rest))
test_reach (g.member {ts} {us} {a} {b} h q) rest =
    rw (append_assoc ts (l.Keyword k.In ∷ us) rest, compares h (l.Keyword k.In) (us ++ rest) (record { stars = refl; signs = refl })) (mapped_reaches (length rest) (p.Member a) (operand (us ++ rest)) (operand_reach q rest))

both_reach : {ts : Tokens} {a : Pred} → IsBoth ts a → (rest : Tokens) → Reaches (length rest) (both (ts ++ rest))
both_reach (g.test {ts} {a} h) rest = rw (both-eq (ts ++ rest)) (then_reaches Syntax test ands test_leaves (length rest) (test (ts ++ rest)) (test_reach h rest))
both_reach (g.and {ts} {us} {a} {b} h q) rest =
    rw (append_assoc ts (l.Keyword k.And ∷ us) rest, both-eq (ts ++ l.Keyword k.And ∷ (us ++ rest)))
    (chain_reaches Syntax test ands test_leaves ts (us ++ rest) a (l.Keyword k.And) p.And (length rest) refl (sym (both-eq (ts ++ l.Keyword k.And ∷ (us ++ rest))) ∙ whole-both h (l.Keyword k.And ∷ (us ++ rest)) (record { stars = refl; signs = refl })) (test_reach q rest))

pub pred_reach : {ts : Tokens} {a : Pred} → IsPred ts a → (rest : Tokens) → Reaches (length rest) (pred (ts ++ rest))
pred_reach (g.both {ts} {a} h) rest = rw (pred-eq (ts ++ rest)) (then_reaches Syntax both ors both_leaves (length rest) (both (ts ++ rest)) (both_reach h rest))
pred_reach (g.or {ts} {us} {a} {b} h q) rest =
    rw (append_assoc ts (l.Keyword k.Or ∷ us) rest, pred-eq (ts ++ l.Keyword k.Or ∷ (us ++ rest)))
    (chain_reaches Syntax both ors both_leaves ts (us ++ rest) a (l.Keyword k.Or) p.Or (length rest) refl (sym (pred-eq (ts ++ l.Keyword k.Or ∷ (us ++ rest))) ∙ whole-pred h (l.Keyword k.Or ∷ (us ++ rest)) (record { stars = refl; signs = refl }) refl) (both_reach q rest))

pub ruleset preds = (pred-eq, both-eq)
