use Rattle.std.proofs.Common.{arith}
use Rattle.abc_lexer.proofs.TextSteps.{text_steps}
use Rattle.abc_lexer.proofs.step.text_step.Goals as goal

pub returns-else-size-gt-LONGEST_TEXT : goal.returns-else-size-gt-LONGEST_TEXT
returns-else-size-gt-LONGEST_TEXT c =
    let lens = c.in-Some.ensures.value in
    text_steps _ _ _ _ c.behind_first-more.ensures c.split_at.ensures.front lens.0 (omega (arith, lens.1))
