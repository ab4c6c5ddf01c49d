-- Each token of a text stands in it.
use Rattle.std.proofs.Common.{◌≡◌, ℕ, zero, suc, ◌+◌, ◌≤◌, Bool, true, false, List, [], ◌∷◌, length, take, drop, Option, All, refl, sym, ap, ◌∙◌, arith, length-drop}
use Rattle.std.specs.Prelude.{not, ◌==◌, if◌then◌else◌}
use Rattle.std.proofs.lemmas.List.{drop-drop}
use Rattle.abc_text.specs.declared.lexical.Before.{Before}
use Rattle.abc_text.specs.declared.lexical.Before.TheVariants.{Open}
use Rattle.abc_text.specs.declared.lexical.Token.{Token}
use Rattle.abc_text.specs.declared.lexical.Fault.{Fault}
use Rattle.abc_text.specs.Tokens.{is_blank, skip_from, skip, next, stands_after, IsNext, spelled, left, IsRead}
use Rattle.abc_text.specs.Meanings.{StandsIn}
use Rattle.abc_text.specs.Laws.{TokensStand}
use Rattle.abc_text.proofs.Forward.{good_within}
use Rattle.abc_text.proofs.Alone.{token_alone}

-- what is left is a back part
pub IsBack : List ℕ → List ℕ → Type 0
IsBack back bytes = (n : ℕ) × (back ≡ drop n bytes) × (n ≤ length bytes)

skip_from_back : (inside : Bool) (bytes : List ℕ) → IsBack (skip_from inside bytes) bytes
unfolding IsBack
skip_from_back inside [] = (0, refl, omega arith)
skip_from_back true (b ∷ bs) = let h = skip_from_back (not (b == 10)) bs in (suc h.0, h.1, omega (arith, h.2))
skip_from_back false (b ∷ bs) = by (skip_from_back true bs) (skip_from_back false bs) (b == 35) (is_blank b)
  where
    by : IsBack (skip_from true bs) bs → IsBack (skip_from false bs) bs → (c d : Bool) → IsBack (if c then skip_from true bs else (if d then skip_from false bs else b ∷ bs)) (b ∷ bs)
    by comment blank true d = (suc comment.0, comment.1, omega (arith, comment.2))
    by comment blank false true = (suc blank.0, blank.1, omega (arith, blank.2))
    by comment blank false false = (0, refl, omega arith)

pub skip_back : (bytes : List ℕ) → IsBack (skip bytes) bytes
unfolding skip
skip_back bytes = skip_from_back false bytes

pub back_back : (a b c : List ℕ) → IsBack a b → IsBack b c → IsBack a c
unfolding IsBack
back_back a b c h k = (k.0 + h.0, h.1 ∙ ap (drop h.0) k.1 ∙ drop-drop h.0 k.0 c, omega (arith, h.2, k.2, ap (length {A = ℕ}) k.1, length-drop {A = ℕ} k.0 c))

pub drop_back : (n : ℕ) (bytes : List ℕ) → n ≤ length bytes → IsBack (drop n bytes) bytes
unfolding IsBack
drop_back n bytes h = (n, refl, h)

-- a back part begins where its length says
pub back_at : (place : ℕ) (back bytes : List ℕ) → IsBack back bytes → place + length back ≡ length bytes → drop place bytes ≡ back
unfolding IsBack
back_at place back bytes h e =
    let same : place ≡ h.0 = omega (arith, e, h.2, ap (length {A = ℕ}) h.1, length-drop {A = ℕ} h.0 bytes) in
    ap (λ (n : ℕ). drop n bytes) same ∙ sym h.1

pub next_stands : (bytes : List ℕ) (before : Before) (rest : List ℕ) (t : Token) → IsBack rest bytes → IsNext (length bytes) before rest t →
    StandsIn bytes t
next_stands bytes before rest t back here =
    let w = good_within before (skip rest) t.kind t.len here.token in
    let at = back_at t.place (skip rest) bytes (back_back (skip rest) rest bytes (skip_back rest) back) here.place in
    record {
      within = omega (arith, here.place, w.1);
      before = before;
      alone = ap (λ (front : List ℕ). next before (take t.len front)) at ∙ token_alone before (skip rest) t.kind t.len here.token;
    }

stand : (bytes : List ℕ) (before : Before) (rest : List ℕ) (ts : List Token) (fault : Option Fault) → IsBack rest bytes → IsRead (length bytes) before rest ts fault → All (StandsIn bytes) ts
stand bytes before rest [] fault back h k d l = absurd (omega (arith, l))
stand bytes before rest (t ∷ ts) fault back h zero d l = next_stands bytes before rest t back h.0
stand bytes before rest (t ∷ ts) fault back h (suc k) d l =
    let w = good_within before (skip rest) t.kind t.len h.0.token in
    stand bytes (stands_after before t.kind (spelled rest t)) (left rest t) ts fault
    (back_back (left rest t) (skip rest) bytes (drop_back t.len (skip rest) w.1) (back_back (skip rest) rest bytes (skip_back rest) back)) h.1 k d (omega (arith, l))

pub tokens_stand : TokensStand
tokens_stand bytes ts fault h = stand bytes Open bytes ts fault (drop_back 0 bytes (omega arith)) h
