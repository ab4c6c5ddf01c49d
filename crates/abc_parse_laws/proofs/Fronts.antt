-- Whether tokens are a program, begin one, or go wrong at some token: the plain reader finds it.
use Rattle.std.proofs.Common.{◌≡◌, ℕ, ◌+◌, ◌<◌, [], ◌∷◌, ◌++◌, length, take, refl, sym, ap, ◌∙◌, subst}
use Rattle.std.proofs.Common.{append_assoc, append-nil, length-append, arith}
use Rattle.std.proofs.Math.Seq.{take-append_seam}
use Rattle.abc_cause.specs.declared.Cause.{Cause}
use Rattle.abc_grammar.specs.declared.lexemes.Lexeme.{Lexeme}
use Rattle.abc_grammar.specs.Plain.{PlainProgram}
use Rattle.abc_grammar.specs.Programs.{IsProgram}
use Rattle.abc_grammar.specs.Limits.{Begins}
use Rattle.abc_grammar.specs.Refusals.{IsSomeProgram}
use Rattle.abc_reading.specs.Reading.{Outcome, Read, Cut, Refused}
use Rattle.abc_reading.specs.Exact.{IsLastGood}
use Rattle.abc_reading.specs.Exact as reading
use Rattle.abc_readers.specs.Operands.{Tokens}
use Rattle.abc_readers.specs.Programs.{whole_program}
use Rattle.abc_readers.proofs.ProgramWhole.{programs_are_read}

-- these tokens begin a program
abbrev pub IsBegun : Tokens → Type 0
IsBegun ts = Begins IsSomeProgram ts

-- A program; or tokens that begin one and are none; or the token of this number goes on with none, where those
-- before it begin one.
pub data Front (ts : Tokens) : Type 0 where
  whole : (p : PlainProgram) → IsProgram ts p → Front ts
  begun : IsBegun ts → ¬ IsSomeProgram ts → Front ts
  wrong : (n : ℕ) → n < length ts → IsBegun (take n ts) → ¬ IsBegun (take (n + 1) ts) → Front ts

-- readers and texts speak of beginnings alike
begins : (ts : Tokens) → reading.Begins IsProgram ts → IsBegun ts
begins ts b = (b.0, (b.1, b.2))

begins_back : (ts : Tokens) → IsBegun ts → reading.Begins IsProgram ts
begins_back ts b = (b.0, b.1.0, b.1.1)

-- where reading is refused
refused : (mid left : Tokens) → IsLastGood IsProgram mid left → Front (mid ++ left)
refused mid [] h =
    let none : ¬ IsSomeProgram mid = λ s. h.end s.0 refl s.1 in
    subst (λ (us : Tokens). Front us) (sym (append-nil mid)) (begun (begins mid h.begins) none)
refused mid (t ∷ us) h =
    let next : Tokens = mid ++ t ∷ [] in
    let before : take (length mid) (mid ++ t ∷ us) ≡ mid = take-append_seam mid (t ∷ us) in
    let split : mid ++ t ∷ us ≡ next ++ us = sym (append_assoc mid (t ∷ []) us) in
    let one_more : length next ≡ length mid + 1 = length-append {A = Lexeme} mid (t ∷ []) in
    let with_it : take (length mid + 1) (mid ++ t ∷ us) ≡ next =
    subst (λ (n : ℕ). take n (mid ++ t ∷ us) ≡ next) one_more
    (ap (take (length next)) split ∙ take-append_seam next us) in
    let size = length-append {A = Lexeme} mid (t ∷ us) in
    wrong (length mid) (omega (arith, size))
    (subst (λ (vs : Tokens). IsBegun vs) (sym before) (begins mid h.begins))
    (λ b. h.token t us refl (begins_back next (subst (λ (vs : Tokens). IsBegun vs) with_it b)))

front_by : (ts : Tokens) (o : Outcome Lexeme Cause PlainProgram) → whole_program ts ≡ o → Front ts
front_by ts (Read p us) e = whole p (programs_are_read.found ts us p e).1
front_by ts (Cut p us c vs) e = absurd (programs_are_read.cut ts us vs p c e)
front_by ts (Refused c vs) e =
    let h = programs_are_read.refused ts vs c e in
    subst (λ (us : Tokens). Front us) (sym h.1) (refused h.0 vs h.2)

pub front_of : (ts : Tokens) → Front ts
front_of ts = front_by ts (whole_program ts) refl
