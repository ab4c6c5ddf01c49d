-- Worked examples of what the checks ask of processes, on both sides of the limits.
use Rattle.std.specs.Prelude.{◌≡◌, ◌↔◌, ◌<◌, ℕ, zero, suc, true, false, List, [], ◌∷◌, length}
use Rattle.abc_pred.specs.declared.names.Name.{Name}
use Rattle.abc_pred.specs.Terms.{True}
use Rattle.abc_term.specs.declared.terms.Program.{Program}
use Rattle.abc_term.specs.Processes.{Process, Nil, Output, Input, When, Choice, Par, Call}
use Rattle.abc_checks.specs.Parts.{repeats_variable, holds_par}
use Rattle.abc_checks.specs.Measures.{width_of, breadth_of, has_broad_part, IsTooWide}
use Rattle.abc_checks.specs.Facts.{TooManyComponents}
use Rattle.abc_checks.specs.declared.causes.Site.TheVariants.{Whole}

abbrev pub k : Name
k = record { 0 = 7 }

abbrev pub x : Name
x = record { 0 = 8 }

abbrev pub y : Name
y = record { 0 = 9 }

-- an output before P, and an input of these variables
abbrev pub says : Process → Process
says P = Output [] True [] P

abbrev pub hears : List Name → Process → Process
hears xs P = Input True xs [] P

-- P beside P, and P or P
abbrev pub twice : Process → Process
twice P = Par P P

abbrev pub either : Process → Process
either P = Choice P P

-- as many processes beside one
abbrev pub sides : ℕ → Process
sides zero = Nil
sides (suc n) = Par Nil (sides n)

-- each call has this number
abbrev pub each : ℕ → Name → ℕ
each n c = n

-- `|` counts anywhere: behind actions, under guards and in either side of a choice.
abbrev pub ParsAreFound : Type 0
ParsAreFound =
    (holds_par (says (When True (Choice Nil (hears (x ∷ []) (twice Nil))))) ≡ true)
    × (holds_par (Choice (twice Nil) Nil) ≡ true)
    × (holds_par (says (When True (Choice (Call k) (hears (x ∷ []) Nil)))) ≡ false)

-- An input that lists a variable twice counts anywhere, and one that binds anew what another bound doesn't.
abbrev pub RepeatsAreFound : Type 0
RepeatsAreFound =
    (repeats_variable (says (When True (Choice Nil (twice (hears (x ∷ y ∷ x ∷ []) Nil))))) ≡ true)
    × (repeats_variable (hears (x ∷ y ∷ []) (hears (y ∷ x ∷ []) Nil)) ≡ false)

-- A width is that of what follows, of what is guarded, the greater of two sides of `+`, the sum of those of `|`, and a call's number.
abbrev pub WidthsAreCounted : Type 0
WidthsAreCounted =
    (width_of (each 5) Nil ≡ 1)
    × (width_of (each 5) (says (hears [] (When True (twice Nil)))) ≡ 2)
    × (width_of (each 5) (Choice (Call k) (twice (Call k))) ≡ 10)
    × (width_of (each 5) (Choice (twice (Call k)) Nil) ≡ 10)

-- Numbers above 64 count as 65.
abbrev pub WidthsAreCapped : Type 0
WidthsAreCapped =
    (width_of (each 32) (twice (Call k)) ≡ 64) × (width_of (each 33) (twice (Call k)) ≡ 65)
    × (width_of (each 64) (Call k) ≡ 64) × (width_of (each 66) (Call k) ≡ 65)

-- 64 processes side by side are not too wide, and 65 are.
abbrev pub WidthsHaveALimit : Type 0
WidthsHaveALimit = ¬ IsTooWide [] (sides 63) × IsTooWide [] (sides 64)

-- A breadth is 1 for `0` and an action, and one more than that of what is guarded, of both sides together, of the call's number.
abbrev pub BreadthsAreCounted : Type 0
BreadthsAreCounted =
    (breadth_of (each 5) Nil ≡ 1)
    × (breadth_of (each 5) (says (Call k)) ≡ 1)
    × (breadth_of (each 5) (hears [] (Call k)) ≡ 1)
    × (breadth_of (each 5) (When True (Call k)) ≡ 7)
    × (breadth_of (each 5) (Choice (Call k) Nil) ≡ 8)
    × (breadth_of (each 5) (Par Nil (Call k)) ≡ 8)

-- Numbers above 2,048 count as 2,049.
abbrev pub BreadthsAreCapped : Type 0
BreadthsAreCapped =
    (breadth_of (each 2047) (Call k) ≡ 2048) × (breadth_of (each 2049) (Call k) ≡ 2049)
    × (breadth_of (each 2046) (When True (Call k)) ≡ 2048) × (breadth_of (each 2048) (When True (Call k)) ≡ 2049)
    × (breadth_of (each 1022) (either (Call k)) ≡ 2047) × (breadth_of (each 1024) (either (Call k)) ≡ 2049)

-- A part of breadth 2,048 is not too broad, and one of 2,049 is, wherever it stands.
abbrev pub BreadthsHaveALimit : Type 0
BreadthsHaveALimit =
    (has_broad_part (each 2047) (Call k) ≡ false) × (has_broad_part (each 2048) (Call k) ≡ true)
    × (has_broad_part (each 2046) (When True (Call k)) ≡ false) × (has_broad_part (each 2047) (When True (Call k)) ≡ true)
    × (has_broad_part (each 1022) (twice (Call k)) ≡ false) × (has_broad_part (each 1023) (either (Call k)) ≡ true)
    × (has_broad_part (each 2048) (says (hears [] (Call k))) ≡ true)

-- 256 components are not too many, and 257 are.
abbrev pub ComponentsHaveALimit : Type 0
ComponentsHaveALimit = (p : Program) → TooManyComponents p Whole ↔ (256 < length p.components)
