-- Whole texts, from their bytes, worked through the definitions.
use Rattle.std.specs.Prelude.{ℕ, List, [], ◌∷◌, codes}
use Rattle.abc_cause.specs.declared.Cause.TheVariants.{Syntax, Check}
use Rattle.abc_cause.specs.declared.CheckCause.TheVariants.{DoubleName, NoComponent}
use Rattle.abc_text.specs.declared.lexical.TokenKind.TheVariants.{Word, Number, Symbol}
use Rattle.abc_text.specs.declared.lexical.Token.{Token}
use Rattle.abc_term.specs.declared.terms.Process as held
use Rattle.abc_term.specs.declared.terms.Definition.{Definition}
use Rattle.abc_term.specs.declared.terms.Component.{Component}
use Rattle.abc_term.specs.declared.terms.Program.{Program}
use Rattle.abc_grammar.specs.Accepted.{IsAccepted, IsRefused}
use Rattle.abc_grammar.specs.Examples.{name, token}

-- one component, which does nothing
abbrev pub idle_text : List ℕ
idle_text = codes "abc 1; comp a { show; run 0; }"

abbrev pub idle_tokens : List Token
idle_tokens =
    token Word 0 3 ∷ token Number 4 1 ∷ token Symbol 5 1 ∷ token Word 7 4 ∷ token Word 12 1 ∷ token Symbol 14 1 ∷ token Word 16 4
    ∷ token Symbol 20 1 ∷ token Word 22 3 ∷ token Number 26 1 ∷ token Symbol 27 1 ∷ token Symbol 29 1 ∷ []

abbrev pub idle_component : Component
idle_component = record { name = name 0; initial = []; show = []; run = held.Nil }

abbrev pub idle : Program
idle = record { names = codes "a" ∷ []; components = idle_component ∷ []; definitions = [] }

-- two definitions of one name, and two components of one name
abbrev pub double_definition : List ℕ
double_definition = codes "abc 1; def A = 0; def A = 0;"

abbrev pub double_definition_tokens : List Token
double_definition_tokens =
    token Word 0 3 ∷ token Number 4 1 ∷ token Symbol 5 1 ∷ token Word 7 3 ∷ token Word 11 1 ∷ token Symbol 13 1 ∷ token Number 15 1
    ∷ token Symbol 16 1 ∷ token Word 18 3 ∷ token Word 22 1 ∷ token Symbol 24 1 ∷ token Number 26 1 ∷ token Symbol 27 1 ∷ []

abbrev pub nil_definition : Definition
nil_definition = record { name = name 0; body = held.Nil }

abbrev pub twice_defined : Program
twice_defined = record { names = codes "A" ∷ []; components = []; definitions = nil_definition ∷ nil_definition ∷ [] }

abbrev pub double_component : List ℕ
double_component = codes "abc 1; comp a { show; run 0; } comp a { show; run 0; }"

abbrev pub double_component_tokens : List Token
double_component_tokens =
    token Word 0 3 ∷ token Number 4 1 ∷ token Symbol 5 1 ∷ token Word 7 4 ∷ token Word 12 1 ∷ token Symbol 14 1 ∷ token Word 16 4
    ∷ token Symbol 20 1 ∷ token Word 22 3 ∷ token Number 26 1 ∷ token Symbol 27 1 ∷ token Symbol 29 1 ∷ token Word 31 4 ∷ token Word 36 1
    ∷ token Symbol 38 1 ∷ token Word 40 4 ∷ token Symbol 44 1 ∷ token Word 46 3 ∷ token Number 50 1 ∷ token Symbol 51 1 ∷ token Symbol 53 1 ∷ []

abbrev pub twice_composed : Program
twice_composed = record { names = codes "a" ∷ []; components = idle_component ∷ idle_component ∷ []; definitions = [] }

pub record WorkedTexts : Type 0 where
  -- accepted
  pub one_component : IsAccepted idle_text idle_tokens idle
  -- refused for another value of the header, at the number
  pub header_of_three : IsRefused (codes "abc 3;") 4 Syntax
  -- a text of the grammar, refused by the checks at its end
  pub no_component : IsRefused (codes "abc 1;") 6 (Check NoComponent)
  -- and at the name of the second definition, and of the second component
  pub second_definition : IsRefused double_definition 22 (Check DoubleName)
  pub second_component : IsRefused double_component 36 (Check DoubleName)
