-- What is printed has no bracket and no token more than a text of it: how this goes on from parts to their whole.
use Rattle.std.proofs.Common.{◌≡◌, ℕ, ◌<◌, ◌≤◌, Bool, true, false, List, [], ◌∷◌, ◌++◌, length, refl, sym, ap, ◌∙◌, subst, append_assoc, append-nil, length-append, arith}
use Rattle.std.specs.Prelude.{if◌then◌else◌, nat_lt, flat_map}
use Rattle.std.proofs.lemmas.Bool.Decides.{nat_tests}
use Rattle.std.proofs.lemmas.Grind.{flat_map-append}
use Rattle.abc_text.specs.declared.words.Mark.{Mark}
use Rattle.abc_text.specs.declared.words.Mark.TheVariants as m
use Rattle.abc_grammar.specs.declared.lexemes.Lexeme.{Lexeme}
use Rattle.abc_grammar.specs.declared.lexemes.Lexeme.TheVariants as l
use Rattle.abc_grammar.specs.Listed.{AreListed, MayBeListed, AreRepeated}
use Rattle.abc_grammar.specs.Listed as gl
use Rattle.abc_printed.specs.Parts.{Part, Token, Space, Line, lexemes, behind_comma, listed, bracketed}
use Rattle.abc_printed.specs.Forms.{spaced}
use Rattle.abc_printed_laws.proofs.Parts.{lexemes-append}
use Rattle.abc_printed_limits.proofs.Depths.{Plain, Pair, Less, less_none, less_cons, less_append, less_then, less_bare}

-- The print of a term whose text is these tokens: it fits where the text does, and has no more tokens.
pub record Prints (ts : List Lexeme) (ps : List Part) : Type 0 where
  pub less : Less 0 ts (lexemes ps)
  pub shorter : length (lexemes ps) ≤ length ts

-- no tokens
pub prints_none : Prints [] []
prints_none = record { less = less_none 0; shorter = omega arith }

-- a space and the end of a line are no tokens
pub prints_space : {ts : List Lexeme} {ps : List Part} → Prints ts ps → Prints ts (Space ∷ ps)
prints_space h = record { less = h.less; shorter = h.shorter }

pub prints_line : {ts : List Lexeme} {ps : List Part} → Prints ts ps → Prints ts (Line ∷ ps)
prints_line h = record { less = h.less; shorter = h.shorter }

-- the same token before text and print
pub prints_cons : (t : Lexeme) {ts : List Lexeme} {ps : List Part} → Plain t → Prints ts ps → Prints (t ∷ ts) (Token t ∷ ps)
prints_cons t {ts} {ps} p h = let short = h.shorter in record { less = less_cons 0 t ts (lexemes ps) p h.less; shorter = omega (arith, short) }

-- one print behind another
pub prints_append : {ts us : List Lexeme} {ps qs : List Part} → Prints ts ps → Prints us qs → Prints (ts ++ us) (ps ++ qs)
prints_append {ts} {us} {ps} {qs} h k = let e = lexemes-append ps qs in let i = h.shorter in let j = k.shorter in record {
  less = subst (Less 0 (ts ++ us)) (sym e) (less_append 0 ts (lexemes ps) us (lexemes qs) h.less k.less);
  shorter = omega (arith, ap (length {A = Lexeme}) e, length-append (lexemes ps) (lexemes qs), length-append ts us, i, j);
}

-- in brackets, and what stands behind them
pub prints_then : (opener closer : Lexeme) {ts us : List Lexeme} {ps qs : List Part} → Pair opener closer → Prints ts ps → Prints us qs →
    Prints (opener ∷ ts ++ closer ∷ us) (Token opener ∷ ps ++ Token closer ∷ qs)
prints_then opener closer {ts} {us} {ps} {qs} p h k =
    let e : lexemes (ps ++ Token closer ∷ qs) ≡ lexemes ps ++ closer ∷ lexemes qs = lexemes-append ps (Token closer ∷ qs) in
    let i = h.shorter in
    let j = k.shorter in
    record {
      less = subst (λ (ws : List Lexeme). Less 0 (opener ∷ ts ++ closer ∷ us) (opener ∷ ws)) (sym e)
          (less_then 0 opener closer ts (lexemes ps) us (lexemes qs) p h.less k.less);
      shorter = omega (arith, ap (length {A = Lexeme}) e, length-append (lexemes ps) (closer ∷ lexemes qs), length-append ts (closer ∷ us), i, j);
    }

-- in brackets of the text that the print lacks
pub prints_bare : (opener closer : Lexeme) {ts : List Lexeme} {ps : List Part} → Pair opener closer → Prints ts ps →
    Prints (opener ∷ ts ++ closer ∷ []) ps
prints_bare opener closer {ts} {ps} p h = let i = h.shorter in record {
  less = less_bare 0 opener closer ts (lexemes ps) p h.less;
  shorter = omega (arith, length-append ts (closer ∷ []), i);
}

-- two sides and what stands between them
pub prints_sides : (t : Lexeme) {ts us : List Lexeme} {ps qs : List Part} → Plain t → Prints ts ps → Prints us qs →
    Prints (ts ++ t ∷ us) (ps ++ spaced (Token t) ++ qs)
prints_sides t {ts} {us} {ps} {qs} p h k =
    subst (Prints (ts ++ t ∷ us)) (sym (append_assoc ps (spaced (Token t)) qs))
    (prints_append h (prints_space (prints_cons t p (prints_space k))))

-- ---- brackets by grades
-- none where the grade is as high as asked
pub bracketed_none : (opener closer : Mark) (asked grade : ℕ) (ps : List Part) → asked ≤ grade → bracketed opener closer asked grade ps ≡ ps
bracketed_none opener closer asked grade ps le =
    let e : nat_lt grade asked ≡ false = grind (arith, nat_tests) in
    ap (λ (b : Bool). if b then Token (l.Mark opener) ∷ ps ++ Token (l.Mark closer) ∷ [] else ps) e

-- a print that needs no brackets
pub prints_plainly : (opener closer : Mark) (asked grade : ℕ) {ts : List Lexeme} {ps : List Part} → asked ≤ grade → Prints ts ps →
    Prints ts (bracketed opener closer asked grade ps)
prints_plainly opener closer asked grade {ts} {ps} le h = subst (Prints ts) (sym (bracketed_none opener closer asked grade ps le)) h

-- and back
pub prints_as_is : (opener closer : Mark) (asked grade : ℕ) {ts : List Lexeme} {ps : List Part} → asked ≤ grade →
    Prints ts (bracketed opener closer asked grade ps) → Prints ts ps
prints_as_is opener closer asked grade {ts} {ps} le h = subst (Prints ts) (bracketed_none opener closer asked grade ps le) h

-- brackets of the text, which are printed or not
pub prints_bracketed : (opener closer : Mark) (asked grade : ℕ) {ts : List Lexeme} {ps : List Part} → Pair (l.Mark opener) (l.Mark closer) →
    Prints ts ps → Prints (l.Mark opener ∷ ts ++ l.Mark closer ∷ []) (bracketed opener closer asked grade ps)
prints_bracketed opener closer asked grade {ts} {ps} p h = by (nat_lt grade asked)
  where
    by : (b : Bool) → Prints (l.Mark opener ∷ ts ++ l.Mark closer ∷ []) (if b then Token (l.Mark opener) ∷ ps ++ Token (l.Mark closer) ∷ [] else ps)
    by true = prints_then (l.Mark opener) (l.Mark closer) p h prints_none
    by false = prints_bare (l.Mark opener) (l.Mark closer) p h

-- ---- lists
-- repeated items, and one more
pub repeated_more : {A : Type 0} (print : A → List Part) (items : List A) (a : A) → flat_map print (items ++ a ∷ []) ≡ flat_map print items ++ print a
repeated_more print items a = flat_map-append print items (a ∷ []) ∙ ap (λ (ps : List Part). flat_map print items ++ ps) (append-nil (print a))

-- listed items, and one more
pub listed_more : {A : Type 0} (print : A → List Part) (items : List A) (a : A) → 0 < length items →
    listed print (items ++ a ∷ []) ≡ listed print items ++ behind_comma print a
listed_more print [] a lt = absurd (omega (arith, lt))
listed_more print (x ∷ items) a lt =
    ap (λ (ps : List Part). print x ++ ps) (repeated_more (behind_comma print) items a)
    ∙ sym (append_assoc (print x) (flat_map (behind_comma print) items) (behind_comma print a))

-- a list that is parted by commas has an item
pub listed_some : {A : Type 0} {Item : List Lexeme → A → Type 0} {ts : List Lexeme} {items : List A} → AreListed Item ts items → 0 < length items
listed_some (gl.one h) = omega arith
listed_some {A} (gl.more {items = items} {a} h i) = omega (arith, length-append {A = A} items (a ∷ []))

-- lists of items of which each has such a print
module _ {A : Type 0} (Item : List Lexeme → A → Type 0) (print : A → List Part)
    (each : (ts : List Lexeme) (a : A) → Item ts a → Prints ts (print a)) where
  -- parted by commas
  pub listed_prints : {ts : List Lexeme} {items : List A} → AreListed Item ts items → Prints ts (listed print items)
  listed_prints (gl.one {ts} {a} h) = subst (Prints ts) (sym (append-nil (print a))) (each ts a h)
  listed_prints (gl.more {ts} {us} {items} {a} h i) =
      subst (Prints (ts ++ l.Mark m.Comma ∷ us)) (sym (listed_more print items a (listed_some h)))
      (prints_append (listed_prints h) (prints_cons (l.Mark m.Comma) (λ n. refl, refl) (prints_space (each us a i))))

  -- the same, or none
  pub optional_prints : {ts : List Lexeme} {items : List A} → MayBeListed Item ts items → Prints ts (listed print items)
  optional_prints gl.none = prints_none
  optional_prints (gl.some h) = listed_prints h

  -- one behind another
  pub repeated_prints : {ts : List Lexeme} {items : List A} → AreRepeated Item ts items → Prints ts (flat_map print items)
  repeated_prints gl.none = prints_none
  repeated_prints (gl.more {ts} {us} {items} {a} h i) =
      subst (Prints (ts ++ us)) (sym (repeated_more print items a)) (prints_append (repeated_prints h) (each us a i))
