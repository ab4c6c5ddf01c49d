-- Items in the written order: parted by commas, or one behind another.
use Rattle.std.specs.Prelude.{List, [], ◌∷◌, ◌++◌}
use Rattle.abc_pred.specs.declared.names.Name.{Name}
use Rattle.abc_grammar.specs.declared.lexemes.Lexeme.{Lexeme}
use Rattle.abc_grammar.specs.declared.lexemes.Lexeme.TheVariants as l
use Rattle.abc_text.specs.declared.words.Mark.TheVariants as m

-- item { "," item }
pub data AreListed {A : Type 0} (Item : List Lexeme → A → Type 0) : List Lexeme → List A → Type 0 where
  one : {ts : List Lexeme} {a : A} → Item ts a → AreListed Item ts (a ∷ [])
  more :
      {ts us : List Lexeme} {items : List A} {a : A} →
      AreListed Item ts items → Item us a → AreListed Item (ts ++ l.Mark m.Comma ∷ us) (items ++ a ∷ [])

-- [ item { "," item } ]
pub data MayBeListed {A : Type 0} (Item : List Lexeme → A → Type 0) : List Lexeme → List A → Type 0 where
  none : MayBeListed Item [] []
  some : {ts : List Lexeme} {items : List A} → AreListed Item ts items → MayBeListed Item ts items

-- { item }
pub data AreRepeated {A : Type 0} (Item : List Lexeme → A → Type 0) : List Lexeme → List A → Type 0 where
  none : AreRepeated Item [] []
  more :
      {ts us : List Lexeme} {items : List A} {a : A} →
      AreRepeated Item ts items → Item us a → AreRepeated Item (ts ++ us) (items ++ a ∷ [])

-- NAME
pub data IsName : List Lexeme → Name → Type 0 where
  name : {n : Name} → IsName (l.Name n ∷ []) n

-- VAR
pub data IsVariable : List Lexeme → Name → Type 0 where
  variable : {n : Name} → IsVariable (l.Variable n ∷ []) n
