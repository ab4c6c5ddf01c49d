-- Each definition and each component has one place, that of its name.
use Rattle.std.proofs.Common.{◌≡◌, ℕ, zero, suc, ◌+◌, Bool, true, false, cond, List, [], ◌∷◌, ◌++◌, length, Some, None, refl, sym, ap, ◌∙◌, subst, take, append-nil, arith}
use Rattle.std.specs.Prelude.{count_by, slice_get}
use Rattle.std.specs.List.{list_all}
use Rattle.std.proofs.lemmas.Bool.{and_parts, not-true}
use Rattle.std.proofs.lemmas.List.Sums.{sum_by-cons}
use Rattle.abc_value.specs.declared.value.Value.{Value}
use Rattle.abc_pred.specs.declared.names.Name.{Name}
use Rattle.abc_text.specs.declared.lexical.Token.{Token}
use Rattle.abc_term.specs.Processes.{Process}
use Rattle.abc_grammar.specs.declared.lexemes.Lexeme.{Lexeme}
use Rattle.abc_grammar.specs.declared.lexemes.Lexeme.TheVariants as l
use Rattle.abc_text.specs.declared.words.Mark.TheVariants as m
use Rattle.abc_text.specs.declared.words.Keyword.TheVariants as k
use Rattle.abc_grammar.specs.Listed.{MayBeListed, AreRepeated, IsName}
use Rattle.abc_grammar.specs.Listed as gl
use Rattle.abc_grammar.specs.Limits.{starts_item}
use Rattle.abc_grammar.specs.Plain.{PlainComponent, PlainProgram}
use Rattle.abc_grammar.specs.Processes.{IsProcess}
use Rattle.abc_grammar.specs.Programs.{IsDefinition, IsInitial, IsComponent, IsProgram}
use Rattle.abc_grammar.specs.Programs as g
use Rattle.abc_grammar.specs.Accepted.{is_def, is_comp, places_behind}
use Rattle.abc_grammar_laws.specs.NamePlaces.{IsNamePlace, AreNamePlaces, PlacesAreNamed}
use Rattle.abc_grammar_laws.proofs.NoItems.{is_inside, NoItem, both, optional_no_item, repeated_no_item, name_no_item, process_no_item, initial_no_item}

-- there is nothing past the end, and what stands somewhere is one
none_some : {A : Type 0} (a : A) → None ≡ Some a → ⊥
none_some a e = cc

some_same : {A : Type 0} (a b : A) → Some a ≡ Some b → a ≡ b
some_same a b e = cc

module _ {A : Type 0} (is_word : Lexeme → Bool) (name_of : A → Name) where
  -- Right behind each word stands the name of an item, and these are the items.
  data AreNamed : List Lexeme → List A → Type 0 where
    none : AreNamed [] []
    other :
        {x : Lexeme} {ls : List Lexeme} {items : List A} → is_word x ≡ false → AreNamed ls items →
        AreNamed (x ∷ ls) items
    named :
        {x : Lexeme} {a : A} {ls : List Lexeme} {items : List A} →
        is_word x ≡ true → is_word (l.Name (name_of a)) ≡ false → AreNamed ls items →
        AreNamed (x ∷ l.Name (name_of a) ∷ ls) (a ∷ items)

  -- ---- lists one behind another, and lists without a word
  named_append :
      {ks ls : List Lexeme} {xs ys : List A} → AreNamed ks xs → AreNamed ls ys → AreNamed (ks ++ ls) (xs ++ ys)
  named_append none i = i
  named_append (other e h) i = other e (named_append h i)
  named_append (named e f h) i = named e f (named_append h i)

  -- items, and then none
  named_before :
      {ks ls : List Lexeme} {items : List A} → AreNamed ks items → AreNamed ls [] → AreNamed (ks ++ ls) items
  named_before {ks} {ls} {items} h i = subst (AreNamed (ks ++ ls)) (append-nil items) (named_append h i)

  -- no word stands where no definition or component begins
  unnamed :
      (ls : List Lexeme) → ((x : Lexeme) → starts_item x ≡ false → is_word x ≡ false) → NoItem ls → AreNamed ls []
  unnamed [] only h = none
  unnamed (x ∷ ls) only h =
      let parts = and_parts (is_inside x) (list_all is_inside ls) h in
      other (only x (not-true (starts_item x) parts.0)) (unnamed ls only parts.1)

  -- each part has one item, or none
  repeated_named :
      {Item : List Lexeme → A → Type 0} {ls : List Lexeme} {items : List A} →
      ((ks : List Lexeme) (a : A) → Item ks a → AreNamed ks (a ∷ [])) → AreRepeated Item ls items → AreNamed ls items
  repeated_named each gl.none = none
  repeated_named each (gl.more {us = ks} {a = a} h i) = named_append (repeated_named each h) (each ks a i)

  repeated_unnamed :
      {B : Type 0} {Item : List Lexeme → B → Type 0} {ls : List Lexeme} {items : List B} →
      ((ks : List Lexeme) (b : B) → Item ks b → AreNamed ks []) → AreRepeated Item ls items → AreNamed ls []
  repeated_unnamed each gl.none = none
  repeated_unnamed each (gl.more {us = ks} {a = b} h i) = named_append (repeated_unnamed each h) (each ks b i)

  -- ---- as many words as items
  count_other : (x : Lexeme) (ls : List Lexeme) → is_word x ≡ false → count_by is_word (x ∷ ls) ≡ count_by is_word ls
  count_other x ls e =
      sum_by-cons (λ y. cond (is_word y) 1 0) x ls
      ∙ ap (λ (b : Bool). cond b 1 0 + count_by is_word ls) e ∙ omega arith

  count_word :
      (x : Lexeme) (ls : List Lexeme) → is_word x ≡ true → count_by is_word (x ∷ ls) ≡ suc (count_by is_word ls)
  count_word x ls e =
      sum_by-cons (λ y. cond (is_word y) 1 0) x ls
      ∙ ap (λ (b : Bool). cond b 1 0 + count_by is_word ls) e ∙ omega arith

  -- the law's `words`
  named_words : {ls : List Lexeme} {items : List A} → AreNamed ls items → count_by is_word ls ≡ length items
  named_words none = refl
  named_words (other {x} {ls} e h) = count_other x ls e ∙ named_words h
  named_words (named {x} {a} {ls} e f h) =
      count_word x (l.Name (name_of a) ∷ ls) e ∙ ap suc (count_other (l.Name (name_of a)) ls f ∙ named_words h)

  -- ---- as many places
  -- from where no word stands right before
  abbrev places : List Lexeme → List Token → List ℕ
  places ls ts = places_behind is_word false ls ts

  places_other :
      (x : Lexeme) (ls : List Lexeme) (t : Token) (ts : List Token) → is_word x ≡ false →
      places (x ∷ ls) (t ∷ ts) ≡ places ls ts
  places_other x ls t ts e = ap (λ (b : Bool). places_behind is_word b ls ts) e

  places_word :
      (x y : Lexeme) (ls : List Lexeme) (t u : Token) (ts : List Token) → is_word x ≡ true → is_word y ≡ false →
      places (x ∷ y ∷ ls) (t ∷ u ∷ ts) ≡ u.place ∷ places ls ts
  places_word x y ls t u ts e f =
      ap (λ (b : Bool). places_behind is_word b (y ∷ ls) (u ∷ ts)) e
      ∙ ap (λ (b : Bool). u.place ∷ places_behind is_word b ls ts) f

  -- the law's `count`
  named_count :
      {ls : List Lexeme} {items : List A} (ts : List Token) → AreNamed ls items → length ts ≡ length ls →
      length (places ls ts) ≡ length items
  named_count ts none same = refl
  named_count [] (other e h) same = absurd (omega arith)
  named_count (t ∷ ts) (other {x} {ls} e h) same =
      ap (length {A = ℕ}) (places_other x ls t ts e) ∙ named_count ts h (omega arith)
  named_count [] (named e f h) same = absurd (omega arith)
  named_count (t ∷ []) (named e f h) same = absurd (omega arith)
  named_count (t ∷ u ∷ ts) (named {x} {a} {ls} e f h) same =
      ap (length {A = ℕ}) (places_word x (l.Name (name_of a)) ls t u ts e f) ∙ ap suc (named_count ts h (omega arith))

  -- ---- each that of its name
  -- what follows a token that is no word, and one that is
  behind_other :
      (x : Lexeme) (ls : List Lexeme) (t : Token) (ts : List Token) (i : ℕ) (c : Name) (place : ℕ) →
      is_word x ≡ false → IsNamePlace is_word ls ts i c place → IsNamePlace is_word (x ∷ ls) (t ∷ ts) i c place
  behind_other x ls t ts i c place e h = record {
    number = suc h.number;
    word = h.word;
    earlier = count_other x (take h.number ls) e ∙ h.earlier;
    name = h.name;
    stands = h.stands;
  }

  behind_word :
      (x : Lexeme) (ls : List Lexeme) (t : Token) (ts : List Token) (i : ℕ) (c : Name) (place : ℕ) →
      is_word x ≡ true → IsNamePlace is_word ls ts i c place → IsNamePlace is_word (x ∷ ls) (t ∷ ts) (suc i) c place
  behind_word x ls t ts i c place e h = record {
    number = suc h.number;
    word = h.word;
    earlier = count_word x (take h.number ls) e ∙ ap suc h.earlier;
    name = h.name;
    stands = h.stands;
  }

  -- the law's `each`
  named_each :
      {ls : List Lexeme} {items : List A} (ts : List Token) → AreNamed ls items → length ts ≡ length ls →
      (i : ℕ) (a : A) (place : ℕ) → slice_get items i ≡ Some a → slice_get (places ls ts) i ≡ Some place →
      IsNamePlace is_word ls ts i (name_of a) place
  named_each ts none same i a place item at = absurd (none_some a item)
  named_each [] (other e h) same i a place item at = absurd (omega arith)
  named_each (t ∷ ts) (other {x} {ls} e h) same i a place item at =
      let found = ap (λ (ps : List ℕ). slice_get ps i) (sym (places_other x ls t ts e)) ∙ at in
      behind_other x ls t ts i (name_of a) place e (named_each ts h (omega arith) i a place item found)
  named_each [] (named e f h) same i a place item at = absurd (omega arith)
  named_each (t ∷ []) (named e f h) same i a place item at = absurd (omega arith)
  named_each (t ∷ u ∷ ts) (named {x} {a = b} {ls} e f h) same zero a place item at =
      let found =
      ap (λ (ps : List ℕ). slice_get ps zero) (sym (places_word x (l.Name (name_of b)) ls t u ts e f)) ∙ at in
      record {
        number = zero;
        word = e;
        earlier = refl;
        name = ap (λ (d : A). Some (l.Name (name_of d))) (some_same b a item);
        stands = some_same u.place place found;
      }
  named_each (t ∷ u ∷ ts) (named {x} {a = b} {ls} e f h) same (suc i) a place item at =
      let found =
      ap (λ (ps : List ℕ). slice_get ps (suc i)) (sym (places_word x (l.Name (name_of b)) ls t u ts e f)) ∙ at in
      let later = named_each ts h (omega arith) i a place item found in
      behind_word x (l.Name (name_of b) ∷ ls) t (u ∷ ts) i (name_of a) place e
      (behind_other (l.Name (name_of b)) ls u ts i (name_of a) place f later)

  name_places :
      {ls : List Lexeme} {items : List A} (ts : List Token) → AreNamed ls items → length ts ≡ length ls →
      AreNamePlaces is_word ls ts name_of items (places ls ts)
  name_places ts h same =
      record { words = named_words h; count = named_count ts h same; each = named_each ts h same }

-- ---- the grammar
-- both words begin a definition or a component
no_def : (x : Lexeme) → starts_item x ≡ false → is_def x ≡ false
no_def (l.Keyword k.Def) e = cc
no_def _ e = refl

no_comp : (x : Lexeme) → starts_item x ≡ false → is_comp x ≡ false
no_comp (l.Keyword k.Comp) e = cc
no_comp _ e = refl

-- what stands behind the name of a definition, and of a component
definition_rest :
    {ts : List Lexeme} {A : Process} → IsProcess ts A → NoItem (l.Mark m.Equal ∷ ts ++ l.Mark m.Semicolon ∷ [])
definition_rest {ts} h = both ts (l.Mark m.Semicolon ∷ []) (process_no_item h) refl

component_rest :
    {ts us vs : List Lexeme} {first : List (Name × Value)} {shown : List Name} {A : Process} →
    AreRepeated IsInitial ts first → MayBeListed IsName us shown → IsProcess vs A →
    NoItem
    (l.Mark m.OpenCurly ∷ ts ++ l.Keyword k.Show ∷ us ++ l.Mark m.Semicolon ∷ l.Keyword k.Run ∷ vs
    ++ l.Mark m.Semicolon ∷ l.Mark m.CloseCurly ∷ [])
component_rest {ts} {us} {vs} h i j =
    both (ts ++ l.Keyword k.Show ∷ us ++ l.Mark m.Semicolon ∷ l.Keyword k.Run ∷ vs)
    (l.Mark m.Semicolon ∷ l.Mark m.CloseCurly ∷ [])
    (both (ts ++ l.Keyword k.Show ∷ us) (l.Mark m.Semicolon ∷ l.Keyword k.Run ∷ vs)
    (both ts (l.Keyword k.Show ∷ us) (repeated_no_item initial_no_item h) (optional_no_item name_no_item i))
    (process_no_item j))
    refl

-- ---- `def`
abbrev definition_name : Name × Process → Name
definition_name d = d.0

abbrev AreDefined : List Lexeme → List (Name × Process) → Type 0
AreDefined = AreNamed is_def definition_name

definition_defined : (ts : List Lexeme) (d : Name × Process) → IsDefinition ts d → AreDefined ts (d ∷ [])
definition_defined _ _ (g.definition h) =
    named refl refl (unnamed is_def definition_name _ no_def (definition_rest h))

component_defines_none : (ts : List Lexeme) (C : PlainComponent) → IsComponent ts C → AreDefined ts []
component_defines_none _ _ (g.component h i j) =
    other refl (other refl (unnamed is_def definition_name _ no_def (component_rest h i j)))

program_defined : {ts : List Lexeme} {p : PlainProgram} → IsProgram ts p → AreDefined ts p.definitions
program_defined (g.headed_1 h i) =
    let definitions = repeated_named is_def definition_name definition_defined h in
    let components = repeated_unnamed is_def definition_name component_defines_none i in
    other refl (other refl (other refl (named_before is_def definition_name definitions components)))

-- ---- `comp`
abbrev component_name : PlainComponent → Name
component_name C = C.name

abbrev AreComponents : List Lexeme → List PlainComponent → Type 0
AreComponents = AreNamed is_comp component_name

component_named : (ts : List Lexeme) (C : PlainComponent) → IsComponent ts C → AreComponents ts (C ∷ [])
component_named _ _ (g.component h i j) =
    named refl refl (unnamed is_comp component_name _ no_comp (component_rest h i j))

definition_names_none : (ts : List Lexeme) (d : Name × Process) → IsDefinition ts d → AreComponents ts []
definition_names_none _ _ (g.definition h) =
    other refl (other refl (unnamed is_comp component_name _ no_comp (definition_rest h)))

program_components : {ts : List Lexeme} {p : PlainProgram} → IsProgram ts p → AreComponents ts p.components
program_components (g.headed_1 h i) =
    let definitions = repeated_unnamed is_comp component_name definition_names_none h in
    let components = repeated_named is_comp component_name component_named i in
    other refl (other refl (other refl (named_append is_comp component_name definitions components)))

pub places_are_named : PlacesAreNamed
places_are_named ls ts p h same = record {
  definitions = name_places is_def definition_name ts (program_defined h) same;
  components = name_places is_comp component_name ts (program_components h) same;
}
