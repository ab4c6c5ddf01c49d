-- What reading a program from a list of lexemes comes to.
use Rattle.std.proofs.Common.{◌≡◌, ℕ, zero, suc, ◌+◌, ◌<◌, ◌≤◌, [], ◌∷◌, ◌++◌, length, take, Option, Some, refl, sym, ap, ◌∙◌, subst, append_assoc, append-nil, length-append, arith}
use Rattle.std.proofs.Math.Seq.{take-append_seam}
use Rattle.abc_cause.specs.declared.Cause.{Cause}
use Rattle.abc_cause.specs.declared.Cause.TheVariants as cause
use Rattle.abc_text.specs.declared.lexical.Fault.{Fault}
use Rattle.abc_text.specs.Tokens.{IsLexical}
use Rattle.abc_grammar.specs.declared.lexemes.Lexeme.{Lexeme}
use Rattle.abc_grammar.specs.Plain.{PlainProgram}
use Rattle.abc_grammar.specs.Programs.{IsProgram}
use Rattle.abc_grammar.specs.Limits.{Begins, IsTooLarge}
use Rattle.abc_grammar.specs.Refusals.{end_cause, HasLexical, IsSomeProgram, IsFirstOfProgram}
use Rattle.abc_reading.specs.Reading.{Read, Cut, Refused}
use Rattle.abc_reading.specs.Exact as Exact
use Rattle.abc_limits.specs.FirstLimit.{IsPassed}
use Rattle.abc_readers.specs.Operands.{Tokens}
use Rattle.abc_readers.specs.Programs.{whole_program}
use Rattle.abc_readers.proofs.ProgramWhole.{programs_are_read}
use Rattle.abc_parse.specs.declared.program.Items.{Items}
use Rattle.abc_parse.specs.declared.reading.Tried.TheVariants as tried
use Rattle.abc_parse.specs.declared.reading.Found.TheVariants as found
use Rattle.abc_parse.specs.Items.{plain_items}
use Rattle.abc_parse.specs.Programs.{IsTriedAs, IsFoundIn}
use Rattle.abc_parse.proofs.Lists.{take_split, take_length, take_short, take_fits, take_all, take_take, one_of}
use Rattle.abc_parse.proofs.Causes.{NoLimits, begins_front, syntax_at, limit_at, end_at, end_fault}

-- ---- what the plain reader says
-- a start of programs, as readers tell it and as refusals do
begun : (ts : Tokens) → Exact.Begins IsProgram ts → Begins IsSomeProgram ts
begun ts b = (b.0, (b.1, b.2))

begun_back : (ts : Tokens) → Begins IsSomeProgram ts → Exact.Begins IsProgram ts
begun_back ts b = (b.0, b.1.0, b.1.1)

pub read_program : (ts us : Tokens) (p : PlainProgram) → whole_program ts ≡ Read p us → IsProgram ts p
read_program ts us p e = (programs_are_read.found ts us p e).1

pub refused_fits : (ts vs : Tokens) (c : Cause) → whole_program ts ≡ Refused c vs → length vs ≤ length ts
refused_fits ts vs c e = let h = programs_are_read.refused ts vs c e in omega (arith, ap (length {A = Lexeme}) h.1, length-append {A = Lexeme} h.0 vs)

pub refused_program : (ts vs : Tokens) (c : Cause) (n : ℕ) → whole_program ts ≡ Refused c vs → n + length vs ≡ length ts → 0 < length vs →
    IsTriedAs ts (tried.Refused n)
refused_program ts vs c n e size some =
    let h = programs_are_read.refused ts vs c e in
    let mid : Tokens = h.0 in
    let o = one_of vs some in
    let n_is : length mid ≡ n = omega (arith, ap (length {A = Lexeme}) h.1, length-append {A = Lexeme} mid vs, size) in
    let stands : take n ts ≡ mid = subst (λ (i : ℕ). take i ts ≡ mid) n_is (ap (take (length mid)) h.1 ∙ take-append_seam mid vs) in
    let whole : ts ≡ (mid ++ o.0 ∷ []) ++ o.1 = h.1 ∙ ap (λ (us : Tokens). mid ++ us) o.2 ∙ sym (append_assoc mid (o.0 ∷ []) o.1) in
    let more_is : length (mid ++ o.0 ∷ []) ≡ n + 1 = length-append {A = Lexeme} mid (o.0 ∷ []) ∙ ap (λ (i : ℕ). i + 1) n_is in
    let stands' : take (n + 1) ts ≡ mid ++ o.0 ∷ [] =
    subst (λ (i : ℕ). take i ts ≡ mid ++ o.0 ∷ []) more_is (ap (take (length (mid ++ o.0 ∷ []))) whole ∙ take-append_seam (mid ++ o.0 ∷ []) o.1) in (
      omega (arith, size, some),
      subst (λ (us : Tokens). Begins IsSomeProgram us) (sym stands) (begun mid h.2.begins),
      λ b. h.2.token o.0 o.1 o.2 (begun_back (mid ++ o.0 ∷ []) (subst (λ (us : Tokens). Begins IsSomeProgram us) stands' b)),
    )

pub ended_program : (ts : Tokens) (c : Cause) → whole_program ts ≡ Refused c [] → IsTriedAs ts tried.Ends
ended_program ts c e =
    let h = programs_are_read.refused ts [] c e in
    let whole : ts ≡ h.0 = h.1 ∙ append-nil h.0 in (
      subst (λ (us : Tokens). Begins IsSomeProgram us) (sym whole) (begun h.0 h.2.begins),
      λ s. h.2.end s.0 refl (subst (λ (us : Tokens). IsProgram us s.0) whole s.1),
    )

pub program_begins : (ts : Tokens) (p : PlainProgram) → IsProgram ts p → Begins IsSomeProgram ts
program_begins ts p h = ([], (p, rw append-nil h))

-- ---- what that is as a text
pub found_refused : (ts : Tokens) (d n : ℕ) → d ≤ length ts → NoLimits IsSomeProgram IsTooLarge ts n → IsTriedAs (take d ts) (tried.Refused n) →
    IsFoundIn ts (found.Refused n cause.Syntax)
found_refused ts d n le none (lt, begins, wrong) =
    let long = take_length d ts le in
    let range : n < length ts = omega (arith, lt, long, le) in
    let here : take n (take d ts) ≡ take n ts = take_take n d ts (omega (arith, lt, long)) in
    let more : take (n + 1) (take d ts) ≡ take (n + 1) ts = take_take (n + 1) d ts (omega (arith, lt, long)) in (
      range,
      λ fault. syntax_at IsSomeProgram IsTooLarge ts fault n range (subst (λ (us : Tokens). Begins IsSomeProgram us) here begins) none
          (λ b. wrong (subst (λ (us : Tokens). Begins IsSomeProgram us) (sym more) b)),
    )

pub found_limit : (ts : Tokens) (k : ℕ) (c : Cause) → IsPassed ts k c → Begins IsSomeProgram (take (k + 1) ts) → IsFoundIn ts (found.Refused k c)
found_limit ts k c h b =
    let r = take_split k (k + 1) ts (omega arith) in
    let before : Begins IsSomeProgram (take k ts) =
    begins_front IsSomeProgram IsTooLarge (take k ts) r.0 (subst (λ (us : Tokens). Begins IsSomeProgram us) r.1 b) in (
      h.exists,
      λ fault. limit_at IsSomeProgram IsTooLarge ts fault k c h.exists b h.within (h.passes before) h.first,
    )

pub found_ends : (ts : Tokens) → NoLimits IsSomeProgram IsTooLarge ts (length ts) → IsTriedAs ts tried.Ends → IsFoundIn ts found.Ends
found_ends ts none (begins, wrong) fault lexical = end_at IsSomeProgram IsTooLarge ts fault lexical begins none wrong

-- a program behind which a bad token stands
pub program_then_fault : (ts : Tokens) (p : PlainProgram) (fault : Fault) → IsLexical fault.cause → IsProgram ts p →
    NoLimits IsSomeProgram IsTooLarge ts (length ts) → IsFirstOfProgram ts (Some fault) fault.cause (length ts)
program_then_fault ts p fault lexical h none = end_fault IsSomeProgram IsTooLarge ts fault lexical (program_begins ts p h) none
