-- In a text of the grammar each definition and each component has one place, that of its name.
use Rattle.std.specs.Prelude.{◌≡◌, ℕ, suc, Bool, List, length, take, count_by, slice_get, Some, IsSomeAnd}
use Rattle.abc_pred.specs.declared.names.Name.{Name}
use Rattle.abc_text.specs.declared.lexical.Token.{Token}
use Rattle.abc_term.specs.Processes.{Process}
use Rattle.abc_grammar.specs.declared.lexemes.Lexeme.{Lexeme}
use Rattle.abc_grammar.specs.declared.lexemes.Lexeme.TheVariants as l
use Rattle.abc_grammar.specs.Limits.{At}
use Rattle.abc_grammar.specs.Plain.{PlainComponent, PlainProgram}
use Rattle.abc_grammar.specs.Programs.{IsProgram}
use Rattle.abc_grammar.specs.Accepted.{is_def, is_comp, definition_places, component_places}

module _ (is_word : Lexeme → Bool) (ls : List Lexeme) (ts : List Token) where
  -- The place is that of a token that stands for this name, right behind a word before which i words stand.
  pub record IsNamePlace (i : ℕ) (c : Name) (place : ℕ) : Type 0 where
    pub number : ℕ
    pub word : At ls number is_word
    pub earlier : count_by is_word (take number ls) ≡ i
    pub name : slice_get ls (suc number) ≡ Some (l.Name c)
    pub stands : IsSomeAnd (slice_get ts (suc number)) (λ t. t.place ≡ place)

  -- As many words stand there as there are items, and as many places: the i-th is that of the i-th item's name.
  pub record AreNamePlaces {A : Type 0} (name_of : A → Name) (items : List A) (places : List ℕ) : Type 0 where
    pub words : count_by is_word ls ≡ length items
    pub count : length places ≡ length items
    pub each :
        (i : ℕ) (a : A) (place : ℕ) → slice_get items i ≡ Some a → slice_get places i ≡ Some place →
        IsNamePlace i (name_of a) place

pub record HasNamePlaces (ls : List Lexeme) (ts : List Token) (p : PlainProgram) : Type 0 where
  pub definitions :
      AreNamePlaces is_def ls ts (λ (d : Name × Process). d.0) p.definitions (definition_places ls ts)
  pub components :
      AreNamePlaces is_comp ls ts (λ (C : PlainComponent). C.name) p.components (component_places ls ts)

abbrev pub PlacesAreNamed : Type 0
PlacesAreNamed =
    (ls : List Lexeme) (ts : List Token) (p : PlainProgram) → IsProgram ls p → length ts ≡ length ls →
    HasNamePlaces ls ts p
