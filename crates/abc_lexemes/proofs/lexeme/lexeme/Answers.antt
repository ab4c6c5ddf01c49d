use Rattle.std.proofs.Common.{◌∙◌}
use Rattle.abc_lexemes.proofs.Meant.{meant_by, keyword_stands, name_stands, variable_stands, number_stands, text_stands, mark_stands}
use Rattle.abc_lexemes.proofs.lexeme.lexeme.Goals as goal

pub returns-in-Keyword : goal.returns-in-Keyword
returns-in-Keyword c = meant_by _ _ _ _ _ c.in-Keyword.is (λ bytes t is h. keyword_stands _ bytes t _ is h)

pub returns-in-Number : goal.returns-in-Number
returns-in-Number c = meant_by _ _ _ _ _ c.in-Number.is (λ bytes t is h. number_stands _ bytes t _ is h)

pub returns-in_ok-new-in-Text : goal.returns-in_ok-new-in-Text
returns-in_ok-new-in-Text c = meant_by _ _ _ _ _ c.in-Text.is
    (λ bytes t is h. text_stands _ bytes t _ _ is h.0 (c.in_ok-new-in-Text.ensures ∙ c.unescaped.ensures))

pub returns-in-Mark : goal.returns-in-Mark
returns-in-Mark c = meant_by _ _ _ _ _ c.in-Mark.is (λ bytes t is h. mark_stands _ bytes t _ is h)

pub returns-in_ok-number-in-Name : goal.returns-in_ok-number-in-Name
returns-in_ok-number-in-Name c = meant_by _ _ _ _ _ c.in-Name.is (λ bytes t is h.
    name_stands _ _ bytes t _ _ is h.0 h.1 c.in_ok-number-in-Name.ensures.names c.in_ok-number-in-Name.ensures.number)

pub returns-in_ok-number-in-Variable : goal.returns-in_ok-number-in-Variable
returns-in_ok-number-in-Variable c = meant_by _ _ _ _ _ c.in-Variable.is (λ bytes t is h.
    variable_stands _ _ bytes t _ _ is h c.in_ok-number-in-Variable.ensures.names c.in_ok-number-in-Variable.ensures.number)
