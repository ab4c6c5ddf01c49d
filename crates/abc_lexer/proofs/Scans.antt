-- A step of the reader of tokens.
use Rattle.std.proofs.Common.{◌≡◌, ℕ, ◌+◌, ◌<◌, List, [], ◌∷◌, ◌++◌, length, drop, take, Option, Some, None, sym, ap, subst, append_assoc, append-nil, arith, length-drop}
use Rattle.abc_text.specs.declared.lexical.Before.{Before}
use Rattle.abc_text.specs.declared.lexical.Token.{Token}
use Rattle.abc_text.specs.declared.lexical.Fault.{Fault}
use Rattle.abc_text.specs.declared.lexical.Next.TheVariants.{End, Bad}
use Rattle.abc_text.specs.Tokens.{skip, next, stands_after, IsNext, IsRead, Reads, IsFirstBad}
use Rattle.abc_text.proofs.Forward.{good_within, length-skip-le}
use Rattle.abc_text.proofs.Reading.{one_reading}
use Rattle.abc_lexer.specs.declared.lexer.Read.{Read}
use Rattle.abc_lexer.specs.Items.{IsReadOf}

-- what is left reads on from the tokens that were found
abbrev pub ReadsOn : List ℕ → List Token → Before → List ℕ → Type 0
ReadsOn bytes found before rest = (ts : List Token) (fault : Option Fault) → IsRead (length bytes) before rest ts fault → Reads bytes (found ++ ts) fault

pub reads_on : (bytes : List ℕ) (found : List Token) (before : Before) (rest : List ℕ) (t : Token)
    → ReadsOn bytes found before rest → IsNext (length bytes) before rest t
    → ReadsOn bytes (found ++ t ∷ []) (stands_after before t.kind (take t.len (skip rest))) (drop t.len (skip rest))
reads_on bytes found before rest t on here ts fault h = subst (λ (us : List Token). Reads bytes us fault) (sym (append_assoc found (t ∷ []) ts)) (on (t ∷ ts) fault (here, h))

pub reads_end : (bytes : List ℕ) (found : List Token) (before : Before) (rest : List ℕ) → ReadsOn bytes found before rest → next before (skip rest) ≡ End → Reads bytes found None
reads_end bytes found before rest on e = subst (λ (us : List Token). Reads bytes us None) (append-nil found) (on [] None e)

pub reads_bad : (bytes : List ℕ) (found : List Token) (before : Before) (rest : List ℕ) (fault : Fault) → ReadsOn bytes found before rest
    → next before (skip rest) ≡ Bad fault.cause → fault.place + length (skip rest) ≡ length bytes → Reads bytes found (Some fault)
reads_bad bytes found before rest fault on e p = subst (λ (us : List Token). Reads bytes us (Some fault)) (append-nil found) (on [] (Some fault) (e, p))

-- what was found reads on
pub found_on : (bytes : List ℕ) (found : List Token) (before : Before) (rest : List ℕ) (r : Read) → ReadsOn bytes found before rest →
    IsReadOf (length bytes) before rest r → ReadsOn bytes (found ++ r.token ∷ []) r.after r.left.now
found_on bytes found before rest r on here =
    subst (λ (after : Before). ReadsOn bytes (found ++ r.token ∷ []) after r.left.now) (sym here.after)
    (subst (λ (back : List ℕ). ReadsOn bytes (found ++ r.token ∷ []) (stands_after before r.token.kind (take r.token.len (skip rest))) back)
    (sym here.left) (reads_on bytes found before rest r.token on here.token))

-- and less is left
pub found_shorter : (size : ℕ) (before : Before) (rest : List ℕ) (r : Read) → IsReadOf size before rest r → length r.left.now < length rest
found_shorter size before rest r here =
    let w = good_within before (skip rest) r.token.kind r.token.len here.token.token in
    omega (arith, w.0, w.1, ap (length {A = ℕ}) here.left, length-drop {A = ℕ} r.token.len (skip rest), length-skip-le rest)

-- a text has a bad token exactly where its reading ends with a fault, and then for this one
pub fault_read : (bytes : List ℕ) (ts : List Token) (found : Option Fault) (fault : Fault) → Reads bytes ts found → IsFirstBad bytes fault →
    found ≡ Some fault
fault_read bytes ts found fault h bad = ((one_reading bytes).one ts bad.0 found (Some fault) h bad.1).1
