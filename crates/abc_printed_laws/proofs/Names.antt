-- The names that lexemes and parts have, piece by piece.
use Rattle.std.specs.Prelude.{flat_map, is_some}
use Rattle.std.proofs.Common.{◌≡◌, ℕ, true, false, List, [], ◌∷◌, ◌++◌, cond, nat_lt, if◌then◌else◌, refl, sym, ap, ◌∙◌, append_assoc, append-nil}
use Rattle.std.proofs.lemmas.Grind.{flat_map-append}
use Rattle.std.proofs.lemmas.List.Elements.{filter-append}
use Rattle.abc_text.specs.declared.words.Mark.{Mark}
use Rattle.abc_text.specs.declared.words.Mark.TheVariants as m
use Rattle.abc_grammar.specs.declared.lexemes.Lexeme.{Lexeme}
use Rattle.abc_grammar.specs.declared.lexemes.Lexeme.TheVariants as l
use Rattle.abc_grammar.specs.Lexemes.{name_of}
use Rattle.abc_grammar.specs.Listed.{AreListed, MayBeListed, AreRepeated}
use Rattle.abc_grammar.specs.Listed as g
use Rattle.abc_printed.specs.Parts.{Part, Token, mark, behind_comma, listed, bracketed, lexemes}
use Rattle.abc_printed.specs.Forms.{spaced}
use Rattle.abc_printed_laws.specs.Kept.{names_in}
use Rattle.abc_printed_laws.proofs.Parts.{lexemes-append}

-- the names of parts
abbrev pub named : List Part → List Lexeme
named parts = names_in (lexemes parts)

-- The names of lexemes behind lexemes are theirs behind those.
pub names-append : (ts us : List Lexeme) → names_in (ts ++ us) ≡ names_in ts ++ names_in us
names-append ts us = filter-append (λ t. is_some (name_of t)) ts us

pub named-append : (xs ys : List Part) → named (xs ++ ys) ≡ named xs ++ named ys
named-append xs ys = ap names_in (lexemes-append xs ys) ∙ names-append (lexemes xs) (lexemes ys)

-- Lists of the same names, one behind another, have the same names.
pub same_lists : (ts us vs ws : List Lexeme) → names_in ts ≡ names_in us → names_in vs ≡ names_in ws → names_in (ts ++ vs) ≡ names_in (us ++ ws)
same_lists ts us vs ws e f = names-append ts vs ∙ (λ i. e i ++ f i) ∙ sym (names-append us ws)

-- So do parts and lexemes in two pieces.
pub same_pieces : (xs ys : List Part) (ts us : List Lexeme) → named xs ≡ names_in ts → named ys ≡ names_in us → named (xs ++ ys) ≡ names_in (ts ++ us)
same_pieces xs ys ts us e f = ap names_in (lexemes-append xs ys) ∙ same_lists (lexemes xs) ts (lexemes ys) us e f

-- And two sides and the lexeme between them.
pub same_sides :
    (xs : List Part) (t : Lexeme) (ys : List Part) (ts us : List Lexeme) → named xs ≡ names_in ts → named ys ≡ names_in us →
    named (xs ++ spaced (Token t) ++ ys) ≡ names_in (ts ++ t ∷ us)
same_sides xs t ys ts us e f =
    ap named (append_assoc xs (spaced (Token t)) ys)
    ∙ same_pieces xs (spaced (Token t) ++ ys) ts (t ∷ us) e (λ i. cond (is_some (name_of t)) (t ∷ f i) (f i))

-- ---- brackets name nothing
pub names_closed : (ts : List Lexeme) (closer : Mark) → names_in (ts ++ l.Mark closer ∷ []) ≡ names_in ts
names_closed ts closer = names-append ts (l.Mark closer ∷ []) ∙ append-nil (names_in ts)

pub named_bracketed : (opener closer : Mark) (asked grade : ℕ) (parts : List Part) → named (bracketed opener closer asked grade parts) ≡ named parts
named_bracketed opener closer asked grade parts =
    elim (nat_lt grade asked) as (λ b. named (if b then mark opener ∷ parts ++ mark closer ∷ [] else parts) ≡ named parts) [
      | true ↦ named-append parts (mark closer ∷ []) ∙ append-nil (named parts)
      | false ↦ refl
    ]

-- ---- lists of items
module _ {A : Type 0} (print : A → List Part) where
  -- the names of the items, one after another
  abbrev pub names_of_all : List A → List Lexeme
  names_of_all items = flat_map (λ a. named (print a)) items

  -- Items one behind another name what each of them does.
  pub repeated_named : (items : List A) → named (flat_map print items) ≡ names_of_all items
  repeated_named [] = refl
  repeated_named (a ∷ items) = named-append (print a) (flat_map print items) ∙ (λ i. named (print a) ++ repeated_named items i)

  -- So do items behind commas.
  commas_named : (items : List A) → named (flat_map (behind_comma print) items) ≡ names_of_all items
  commas_named [] = refl
  commas_named (a ∷ items) = named-append (print a) (flat_map (behind_comma print) items) ∙ (λ i. named (print a) ++ commas_named items i)

  pub listed_named : (items : List A) → named (listed print items) ≡ names_of_all items
  listed_named [] = refl
  listed_named (a ∷ items) = named-append (print a) (flat_map (behind_comma print) items) ∙ (λ i. named (print a) ++ commas_named items i)

  -- one item behind others
  names_of_more : (items : List A) (a : A) (ts us : List Lexeme) → names_of_all items ≡ names_in ts → named (print a) ≡ names_in us →
      names_of_all (items ++ a ∷ []) ≡ names_in ts ++ names_in us
  names_of_more items a ts us e f = flat_map-append (λ b. named (print b)) items (a ∷ []) ∙ (λ i. e i ++ (append-nil (named (print a)) ∙ f) i)

  -- Where each item's print names what its lexemes do, so do lists of them.
  module _ {Item : List Lexeme → A → Type 0} (each : (us : List Lexeme) (a : A) → Item us a → named (print a) ≡ names_in us) where
    all_listed : {ts : List Lexeme} {items : List A} → AreListed Item ts items → names_of_all items ≡ names_in ts
    all_listed (g.one {ts} {a} h) = append-nil (named (print a)) ∙ each ts a h
    all_listed (g.more {ts} {us} {items} {a} h i) =
        names_of_more items a ts us (all_listed h) (each us a i) ∙ sym (names-append ts (l.Mark m.Comma ∷ us))

    pub all_optional : {ts : List Lexeme} {items : List A} → MayBeListed Item ts items → names_of_all items ≡ names_in ts
    all_optional g.none = refl
    all_optional (g.some h) = all_listed h

    all_repeated : {ts : List Lexeme} {items : List A} → AreRepeated Item ts items → names_of_all items ≡ names_in ts
    all_repeated g.none = refl
    all_repeated (g.more {ts} {us} {items} {a} h i) = names_of_more items a ts us (all_repeated h) (each us a i) ∙ sym (names-append ts us)

    pub optional_names : {ts : List Lexeme} {items : List A} → MayBeListed Item ts items → named (listed print items) ≡ names_in ts
    optional_names {items = items} h = listed_named items ∙ all_optional h

    pub repeated_names : {ts : List Lexeme} {items : List A} → AreRepeated Item ts items → named (flat_map print items) ≡ names_in ts
    repeated_names {items = items} h = repeated_named items ∙ all_repeated h
