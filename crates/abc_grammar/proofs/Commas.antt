-- Commas of lists: a list of n items has at least n - 1.
use Rattle.std.proofs.Common.{◌≡◌, ℕ, zero, suc, ◌+◌, ◌≤◌, Bool, true, false, List, [], ◌∷◌, ◌++◌, length, take, ap, arith, length-append}
use Rattle.std.specs.Prelude.{if◌then◌else◌}
use Rattle.abc_grammar.specs.declared.lexemes.Lexeme.{Lexeme}
use Rattle.abc_grammar.specs.declared.lexemes.Lexeme.TheVariants as l
use Rattle.abc_text.specs.declared.words.Mark.TheVariants as m
use Rattle.abc_grammar.specs.Listed.{AreListed}
use Rattle.abc_grammar.specs.Listed as listed

abbrev pub is_comma : Lexeme → Bool
is_comma (l.Mark m.Comma) = true
is_comma _ = false

abbrev pub commas : List Lexeme → ℕ
commas [] = 0
commas (t ∷ ts) = (if is_comma t then 1 else 0) + commas ts

pub commas-append : (ts us : List Lexeme) → commas (ts ++ us) ≡ commas ts + commas us
commas-append [] us = omega arith
commas-append (t ∷ ts) us = let more = commas-append ts us in omega (arith, more)

pub commas-take : (k : ℕ) (ts : List Lexeme) → commas (take k ts) ≤ commas ts
commas-take zero ts = omega arith
commas-take (suc k) [] = omega arith
commas-take (suc k) (t ∷ ts) = let more = commas-take k ts in omega (arith, more)

listed_commas : {A : Type 0} {Item : List Lexeme → A → Type 0} {ts : List Lexeme} {items : List A} → AreListed Item ts items →
    length items ≤ commas ts + 1
listed_commas (listed.one h) = omega arith
listed_commas {A} (listed.more {ts} {us} {items} {a} first h) =
    let before = listed_commas first in
    omega (arith, before, commas-append ts (l.Mark m.Comma ∷ us), length-append {A = A} items (a ∷ []))

-- so where items and a comma stand before token k, the list has as many commas
pub enough_commas :
    {A : Type 0} {Item : List Lexeme → A → Type 0} {parts : List Lexeme} {items : List A} (k : ℕ) (ts before : List Lexeme) (t : Lexeme) →
    AreListed Item parts items → take k ts ≡ before ++ t ∷ parts ++ l.Mark m.Comma ∷ [] → length items ≤ commas ts
enough_commas {parts = parts} k ts before t h e =
    let whole = ap commas e in
    omega (
      arith,
      whole,
      listed_commas h,
      commas-take k ts,
      commas-append (before ++ t ∷ parts) (l.Mark m.Comma ∷ []),
      commas-append before (t ∷ parts),
    )
