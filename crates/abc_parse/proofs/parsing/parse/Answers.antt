use Rattle.abc_grammar.specs.Accepted.{IsNoText}
use Rattle.abc_parse.proofs.WholeTexts.{no_text, refused, answers}
use Rattle.abc_parse.proofs.parsing.parse.Goals as goal

pub returns-in-Ok-Program-clause-exact : goal.returns-in-Ok-Program-clause-exact
returns-in-Ok-Program-clause-exact c =
    answers c.args.bytes.now c.checked.result (λ parsed e. rw e at c.checked.ensures.accepted) (λ r e. rw e at c.checked.ensures.refused)

pub returns-in-Ok-Refused-clause-exact : goal.returns-in-Ok-Refused-clause-exact
returns-in-Ok-Refused-clause-exact c =
    let h : IsNoText c.args.bytes.now c.in-Ok-Refused.place c.in-Ok-Refused.cause = rw c.in-Ok-Refused.field-0-is at c.in-Ok-Refused.ensures in
    refused c.args.bytes.now c.in-Ok-Refused.place c.in-Ok-Refused.cause (no_text c.args.bytes.now c.in-Ok-Refused.place c.in-Ok-Refused.cause h)
