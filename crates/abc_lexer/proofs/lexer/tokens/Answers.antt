use Rattle.std.proofs.Common.{◌≡◌, None, Some, sym, ◌∙◌}
use Rattle.abc_lexer.proofs.Scans.{fault_read}
use Rattle.abc_lexer.proofs.lexer.tokens.Goals as goal

pub returns-in-Ok-verdict-clause-exact : goal.returns-in-Ok-verdict-clause-exact
returns-in-Ok-verdict-clause-exact c = λ fault bad.
    let both : None ≡ Some fault = sym c.in-Ok-verdict.ensures.good.0 ∙ fault_read _ _ _ fault c.in-Ok.ensures.reads bad in
    absurd (cc)

pub returns-in-Err-verdict-clause-exact : goal.returns-in-Err-verdict-clause-exact
returns-in-Err-verdict-clause-exact c = λ fault bad.
    let both : Some c.in-Err-verdict.fault ≡ Some fault = sym c.in-Err-verdict.ensures.bad ∙ fault_read _ _ _ fault c.in-Ok.ensures.reads bad in
    (cc)
