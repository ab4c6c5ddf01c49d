use Rattle.std.proofs.Common.{◌++◌, ◌∷◌, [], ℕ, List, sym, subst, arith}
use Rattle.abc_text.specs.declared.lexical.Before.TheVariants.{Open}
use Rattle.abc_text.specs.declared.lexical.Token.{Token}
use Rattle.abc_grammar.specs.declared.lexemes.Lexeme.{Lexeme}
use Rattle.abc_lexer.proofs.Scans.{found_shorter}
use Rattle.abc_lexemes.proofs.SoFar.{IsSoFar, so_far_begins, so_far_ends, so_far_bad, so_far_few, so_far_on, has_text}
use Rattle.abc_lexemes.proofs.lexed.read_lexemes.Goals as goal

pub tokens-init : goal.tokens-init
tokens-init c =
    subst (λ (ts : List Token). IsSoFar c.args.names.now c.args.bytes.now ts c.in_ok-lexemes.lexemes c.in_ok-known.known Open c.args.bytes.now)
    (sym c.in_ok-tokens.ensures)
    (subst (λ (ls : List Lexeme). IsSoFar c.args.names.now c.args.bytes.now [] ls c.in_ok-known.known Open c.args.bytes.now)
    (sym c.in_ok-lexemes.ensures)
    (subst (λ (known : List (List ℕ)). IsSoFar c.args.names.now c.args.bytes.now [] [] known Open c.args.bytes.now)
    (sym c.in_ok-known.ensures)
    (so_far_begins c.args.names.now c.args.bytes.now)))

pub returns-in-End : goal.returns-in-End
returns-in-End c =
    let all = so_far_ends _ _ _ _ _ _ _ c.tokens.invariant c.in-End.ensures in record {
      scanned = all.0;
      names = all.1;
    }

pub returns-in-Bad : goal.returns-in-Bad
returns-in-Bad c =
    let all = so_far_bad _ _ _ _ _ _ _ c.in-Bad.fault c.tokens.invariant c.in-Bad.ensures in record {
      scanned = all.0;
      names = all.1;
    }

pub lexeme-requires-clause-few : goal.lexeme-requires-clause-few
lexeme-requires-clause-few c = let few = so_far_few _ _ _ _ _ _ _ c.tokens.invariant in omega
    (arith, few, c.requires.few)

pub lexeme-requires-clause-text : goal.lexeme-requires-clause-text
lexeme-requires-clause-text c = has_text _ _ c.in-Good.ensures.item

pub tokens-preserved : goal.tokens-preserved
tokens-preserved c =
    let names = c.args.names.now in
    let bytes = c.args.bytes.now in
    let r = c.in-Good.read in
    let on = so_far_on names bytes c.tokens.tokens c.tokens.lexemes c.tokens.known c.lexeme.new.known c.tokens.before c.tokens.rest.now r
    c.in_ok-meant-in-Good.meant c.tokens.invariant c.in-Good.ensures c.in_ok-meant-in-Good.ensures in
    subst (λ (ts : List Token). IsSoFar names bytes ts c.push-in-Good.new.self c.lexeme.new.known r.after r.left.now)
    (sym c.in_ok-push-in-Good.ensures.ok)
    (subst (λ (ls : List Lexeme). IsSoFar names bytes
    (c.tokens.tokens ++ r.token ∷ []) ls c.lexeme.new.known r.after r.left.now)
    (sym c.in_ok-push-in-Good-2.ensures.ok) on)

pub tokens-smaller : goal.tokens-smaller
tokens-smaller c = found_shorter _ _ _ _ c.in-Good.ensures
