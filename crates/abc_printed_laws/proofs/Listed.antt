-- What is printed of a list of items is listed, or repeated, where each item's print is of its grammar.
use Rattle.std.specs.Prelude.{All, flat_map}
use Rattle.std.proofs.Common.{List, [], ◌∷◌, ◌++◌, sym, ap, ◌∙◌, subst₂, append_assoc, append-nil}
use Rattle.std.proofs.lemmas.List.Elements.{All-head, All-tail}
use Rattle.abc_text.specs.declared.words.Mark.TheVariants as m
use Rattle.abc_grammar.specs.declared.lexemes.Lexeme.{Lexeme}
use Rattle.abc_grammar.specs.declared.lexemes.Lexeme.TheVariants as l
use Rattle.abc_grammar.specs.Listed.{AreListed, MayBeListed, AreRepeated}
use Rattle.abc_grammar.specs.Listed as g
use Rattle.abc_printed.specs.Parts.{Part, lexemes, behind_comma, listed}
use Rattle.abc_printed_laws.proofs.Parts.{lexemes-append}

module _ {A : Type 0} (Item : List Lexeme → A → Type 0) (Good : A → Type 0) (print : A → List Part)
    (each : (a : A) → Good a → Item (lexemes (print a)) a) where
  -- items behind listed ones, each behind a comma
  more_listed :
      (before : List Lexeme) (done : List A) → AreListed Item before done → (items : List A) → All Good items →
      AreListed Item (before ++ lexemes (flat_map (behind_comma print) items)) (done ++ items)
  more_listed before done h [] good = subst₂ (AreListed Item) (sym (append-nil before)) (sym (append-nil done)) h
  more_listed before done h (a ∷ items) good =
      let one : List Lexeme = l.Mark m.Comma ∷ lexemes (print a) in
      let rest : List Part = flat_map (behind_comma print) items in
      let all = more_listed (before ++ one) (done ++ a ∷ []) (g.more h (each a (All-head Good a items good))) items (All-tail Good a items good) in
      subst₂ (AreListed Item)
      (append_assoc before one (lexemes rest) ∙ ap (λ (ts : List Lexeme). before ++ l.Mark m.Comma ∷ ts) (sym (lexemes-append (print a) rest)))
      (append_assoc done (a ∷ []) items) all

  -- items after the first stand behind commas
  pub are_listed : (a : A) (items : List A) → All Good (a ∷ items) → AreListed Item (lexemes (listed print (a ∷ items))) (a ∷ items)
  are_listed a items good =
      subst₂ (AreListed Item) (sym (lexemes-append (print a) (flat_map (behind_comma print) items))) (λ i. a ∷ items)
      (more_listed (lexemes (print a)) (a ∷ []) (g.one (each a (All-head Good a items good))) items (All-tail Good a items good))

  -- and so of any items, none too
  pub may_be_listed : (items : List A) → All Good items → MayBeListed Item (lexemes (listed print items)) items
  may_be_listed [] good = g.none
  may_be_listed (a ∷ items) good = g.some (are_listed a items good)

  -- items behind repeated ones
  more_repeated :
      (before : List Lexeme) (done : List A) → AreRepeated Item before done → (items : List A) → All Good items →
      AreRepeated Item (before ++ lexemes (flat_map print items)) (done ++ items)
  more_repeated before done h [] good = subst₂ (AreRepeated Item) (sym (append-nil before)) (sym (append-nil done)) h
  more_repeated before done h (a ∷ items) good =
      let one : List Lexeme = lexemes (print a) in
      let rest : List Part = flat_map print items in
      let all = more_repeated (before ++ one) (done ++ a ∷ []) (g.more h (each a (All-head Good a items good))) items (All-tail Good a items good) in
      subst₂ (AreRepeated Item)
      (append_assoc before one (lexemes rest) ∙ ap (λ (ts : List Lexeme). before ++ ts) (sym (lexemes-append (print a) rest)))
      (append_assoc done (a ∷ []) items) all

  -- one behind another
  pub are_repeated : (items : List A) → All Good items → AreRepeated Item (lexemes (flat_map print items)) items
  are_repeated items good = more_repeated [] [] g.none items good
