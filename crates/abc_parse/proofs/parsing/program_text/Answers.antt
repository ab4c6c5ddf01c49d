use Rattle.std.proofs.Common.{[], Option, Some, subst}
use Rattle.abc_text.specs.declared.lexical.Fault.{Fault}
use Rattle.abc_grammar.specs.Scanned.{IsScanned}
use Rattle.abc_parse.specs.Items.{plain_items}
use Rattle.abc_parse.proofs.WholeTexts.{bad_behind}
use Rattle.abc_parse.proofs.parsing.program_text.Goals as goal

pub returns-in-Some : goal.returns-in-Some
returns-in-Some c =
    let l = c.args.lexed.now in
    let scanned : IsScanned [] c.args.bytes.now l.tokens (Some c.in-Some.fault) l.lexemes =
    subst (λ (f : Option Fault). IsScanned [] c.args.bytes.now l.tokens f l.lexemes) c.in-Some.is c.requires.lexed.scanned in
    bad_behind c.args.bytes.now l.tokens c.in-Some.fault l.lexemes (plain_items c.args.items) scanned c.requires.program.0 c.requires.program.1
