-- What the loops of the parser do, by the next token.
use Rattle.std.proofs.Common.{◌≡◌, ℕ, zero, suc, List, [], ◌∷◌, ◌+◌, add-one, refl, sym, ap, ◌∙◌}
use Rattle.abc_value.specs.declared.scalar.Scalar.{Scalar}
use Rattle.abc_pred.specs.Terms.{Operand, Pred}
use Rattle.abc_cause.specs.declared.Cause.TheVariants.{Syntax}
use Rattle.abc_grammar.specs.Literals.{IsScalar}
use Rattle.abc_pred.specs.Terms as p
use Rattle.abc_grammar.specs.declared.lexemes.Lexeme.TheVariants as l
use Rattle.abc_text.specs.declared.words.Keyword.TheVariants as k
use Rattle.abc_reading.specs.Reading.{Read, Cut, Refused, mapped, join, joined}
use Rattle.abc_reading.proofs.Chain.{Leaves, reads_leaves, joined-step}
use Rattle.abc_phrases.specs.Answers.{HasNoNot, after_nots, PassesNots}
use Rattle.abc_readers.specs.Operands.{Tokens, Reading, scalar, alone, commas, atom, stars, product, signs}
use Rattle.abc_readers.specs.Preds.{plain, nots, test, ands, both, ors}
use Rattle.abc_readers.proofs.OperandReads.{Alone, alone_reads, scalar_reads}
use Rattle.abc_readers.proofs.OperandWhole.{atom_leaves, product_leaves}
use Rattle.abc_readers.proofs.PredWhole.{test_leaves, both_leaves}

scalar_leaves : Leaves (λ us. mapped alone (scalar us))
scalar_leaves = reads_leaves (Alone IsScalar scalar scalar_reads) (λ us. mapped alone (scalar us)) (alone_reads IsScalar scalar scalar_reads)

pub scalars-step : (a : List Scalar) (ts : Tokens) → joined Syntax (λ us. mapped alone (scalar us)) commas a ts
    ≡ join (λ us. mapped alone (scalar us)) commas (joined Syntax (λ us. mapped alone (scalar us)) commas) a ts
scalars-step = joined-step Syntax (λ us. mapped alone (scalar us)) commas scalar_leaves

pub atoms-step : (a : Operand) (ts : Tokens) → joined Syntax atom stars a ts ≡ join atom stars (joined Syntax atom stars) a ts
atoms-step = joined-step Syntax atom stars atom_leaves

pub products-step : (a : Operand) (ts : Tokens) → joined Syntax product signs a ts ≡ join product signs (joined Syntax product signs) a ts
products-step = joined-step Syntax product signs product_leaves

pub tests-step : (a : Pred) (ts : Tokens) → joined Syntax test ands a ts ≡ join test ands (joined Syntax test ands) a ts
tests-step = joined-step Syntax test ands test_leaves

pub boths-step : (a : Pred) (ts : Tokens) → joined Syntax both ors a ts ≡ join both ors (joined Syntax both ors) a ts
boths-step = joined-step Syntax both ors both_leaves

pub ruleset scalar_steps = (scalars-step)

pub ruleset operand_steps = (atoms-step, products-step)

pub ruleset pred_steps = (tests-step, boths-step)

-- ---- tests behind `not`s
mapped-not : (n : ℕ) (x : Reading Pred) → mapped p.Not (mapped (nots n) x) ≡ mapped (nots (suc n)) x
mapped-not n (Read a us) = refl
mapped-not n (Cut a us c vs) = refl
mapped-not n (Refused c vs) = refl

mapped-none : (x : Reading Pred) → mapped (nots 0) x ≡ x
mapped-none (Read a us) = refl
mapped-none (Cut a us c vs) = refl
mapped-none (Refused c vs) = refl

test_plain : (ts : Tokens) → HasNoNot ts → test ts ≡ plain ts
unfolding test plain
test_plain [] h = refl
test_plain (l.Keyword k.Not ∷ ts) h = absurd h
test_plain (t ∷ ts) h = refl

test_behind : (n : ℕ) (rest : Tokens) → HasNoNot rest → test (after_nots n rest) ≡ mapped (nots n) (plain rest)
unfolding test
test_behind zero rest h = test_plain rest h ∙ sym (mapped-none (plain rest))
test_behind (suc n) rest h = ap (mapped p.Not) (test_behind n rest h) ∙ mapped-not n (plain rest)

pub test-nots : (ts : Tokens) (n : ℕ) (rest : Tokens) → PassesNots ts n rest → test ts ≡ mapped (nots n) (plain rest)
test-nots ts n rest h = ap test h.0 ∙ test_behind n rest h.1

pub ruleset test_steps = (test-nots)

not_more : (n : ℕ) (ts : Tokens) → after_nots n (l.Keyword k.Not ∷ ts) ≡ after_nots (suc n) ts
not_more zero ts = refl
not_more (suc n) ts = ap (λ (us : Tokens). l.Keyword k.Not ∷ us) (not_more n ts)

-- one more `not` is passed
pub after_nots-more : (n : ℕ) (ts us vs : Tokens) → ts ≡ after_nots n us → us ≡ l.Keyword k.Not ∷ vs → ts ≡ after_nots (n + 1) vs
after_nots-more n ts us vs h e = rw add-one (h ∙ ap (after_nots n) e ∙ not_more n vs)
