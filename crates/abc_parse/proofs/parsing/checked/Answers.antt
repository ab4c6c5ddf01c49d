use Rattle.std.proofs.Common.{ℕ, sym, subst, arith}
use Rattle.abc_checks.specs.Facts.{IsFirstFact}
use Rattle.abc_grammar.specs.Accepted.{IsUnchecked}
use Rattle.abc_parse.proofs.WholeTexts.{few_definitions, few_components, accepted, unchecked}
use Rattle.abc_parse.proofs.parsing.checked.Goals as goal

pub check-requires-clause-definitions : goal.check-requires-clause-definitions
check-requires-clause-definitions c = omega (arith, few_definitions c.args.bytes.now c.args.parsed c.requires.text, c.requires.few)

pub check-requires-clause-components : goal.check-requires-clause-components
check-requires-clause-components c = omega (arith, few_components c.args.bytes.now c.args.parsed c.requires.text, c.requires.few)

pub returns-in-Ok-clause-accepted : goal.returns-in-Ok-clause-accepted
returns-in-Ok-clause-accepted c = accepted c.args.bytes.now c.args.parsed c.requires.text c.in-Ok.ensures

pub returns-clause-refused : goal.returns-clause-refused
returns-clause-refused c =
    let first : IsFirstFact c.args.parsed.program c.in-Err-Bad.cause c.in-Err-Bad.site = rw c.in-Err-Bad.field-0-is at c.in-Err-Bad.ensures in
    subst (λ (n : ℕ). IsUnchecked c.args.bytes.now n c.in-Err-Bad.cause) (sym c.place_of.ensures)
    (unchecked c.args.bytes.now c.args.parsed c.requires.text c.in-Err-Bad.cause c.in-Err-Bad.site first)
