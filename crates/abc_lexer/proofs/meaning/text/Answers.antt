use Rattle.std.proofs.Common.{List, ℕ, ap, sym, ◌∙◌, subst, false, drop}
use Rattle.abc_text.specs.Tokens.{text_value}
use Rattle.abc_text.specs.Spelling.{IsTextValue}
use Rattle.abc_text.proofs.OfKind.{text-stands}
use Rattle.abc_lexer.proofs.meaning.text.Goals as goal

pub unescaped-requires : goal.unescaped-requires
unescaped-requires c =
    subst (λ (bytes : List ℕ). IsTextValue (text_value false bytes)) (sym (c.behind_first.ensures ∙ ap (drop 1) c.spelling.ensures.value))
    (text-stands _ _ c.requires.stands c.requires.kind).1
