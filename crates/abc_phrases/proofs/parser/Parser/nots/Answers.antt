use Rattle.std.proofs.Common.{rules, arith, ◌≡◌, ℕ, ◌+◌, ◌-◌, ◌∷◌, length, ap, subst}
use Rattle.std.proofs.lemmas.Grind.{common_steps}
use Rattle.abc_grammar.specs.declared.lexemes.Lexeme.{Lexeme}
use Rattle.abc_grammar.specs.declared.lexemes.Lexeme.TheVariants as l
use Rattle.abc_text.specs.declared.words.Keyword.TheVariants as k
use Rattle.abc_readers.specs.Operands.{Tokens}
use Rattle.abc_phrases.specs.Answers.{after_nots}
use Rattle.abc_phrases.proofs.Steps.{after_nots-more}
use Rattle.abc_phrases.proofs.parser.Parser.nots.Goals as goal

pub loop-more-preserved : goal.loop-more-preserved
loop-more-preserved c =
    let ts : Tokens = c.args.self.now.rest.lexemes.now in
    let us : Tokens = c.loop-more.self.rest.lexemes.now in
    let vs : Tokens = c.in-Some-Keyword-Not-default.more.lexemes.now in
    let here : us ≡ l.Keyword k.Not ∷ vs = first_of (search rules, grind (arith, common_steps)) in
    let size = ap (length {A = Lexeme}) here in
    let le = c.loop-more.invariant.left in
    let more : (length ts - length us) + 1 ≡ length ts - length vs = omega (arith, size, le) in
    record {
      passed = subst (λ (n : ℕ). ts ≡ after_nots n vs) more (after_nots-more (length ts - length us) ts us vs c.loop-more.invariant.passed here);
      left = omega (arith, size, le);
    }
