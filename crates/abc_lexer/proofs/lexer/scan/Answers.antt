use Rattle.std.proofs.Common.{sym, subst, arith}
use Rattle.abc_text.proofs.Standing.{tokens_stand}
use Rattle.abc_lexer.proofs.Scans.{ReadsOn, reads_end, reads_bad, found_on, found_shorter}
use Rattle.abc_lexer.proofs.lexer.scan.Goals as goal

pub returns-in-End : goal.returns-in-End
returns-in-End c =
    let reads = reads_end c.args.bytes.now c.tokens.tokens c.tokens.before c.tokens.rest.now c.tokens.invariant.reads c.in-End.ensures in
    record { reads = reads; stand = tokens_stand _ _ _ reads }

pub returns-in-Bad : goal.returns-in-Bad
returns-in-Bad c =
    let reads = reads_bad c.args.bytes.now c.tokens.tokens c.tokens.before c.tokens.rest.now c.in-Bad.fault c.tokens.invariant.reads c.in-Bad.ensures.0 c.in-Bad.ensures.1 in
    record { reads = reads; stand = tokens_stand _ _ _ reads }

pub tokens-preserved : goal.tokens-preserved
tokens-preserved c =
    let on = found_on c.args.bytes.now c.tokens.tokens c.tokens.before c.tokens.rest.now c.in-Good.read c.tokens.invariant.reads c.in-Good.ensures in
    record {
      reads = subst (λ found. ReadsOn c.args.bytes.now found c.in-Good.read.after c.in-Good.read.left.now) (sym c.in_ok-push-in-Good.ensures.ok) on;
      shorter = let less = found_shorter _ _ _ _ c.in-Good.ensures in let above = c.tokens.invariant.shorter in omega (arith, less, above);
    }

pub tokens-smaller : goal.tokens-smaller
tokens-smaller c = found_shorter _ _ _ _ c.in-Good.ensures
