use Rattle.abc_value.proofs.number.more.Goals as goal

pub returns-in-None : goal.returns-in-None
returns-in-None c = λ d h. absurd (c.in-None.ensures d h)
