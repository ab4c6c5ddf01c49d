-- Ways to put parts together so that they stay good, whatever good parts follow.
use Rattle.std.proofs.Common.{ℕ, suc, ◌≤◌, ◌<◌, ◌^◌, Bool, true, false, List, [], ◌∷◌, ◌++◌, All, sym, subst, append_assoc, arith}
use Rattle.std.specs.Prelude.{flat_map, nat_lt, if◌then◌else◌}
use Rattle.abc_pred.specs.declared.names.Name.{Name}
use Rattle.abc_text.specs.declared.lexical.Before.{Before}
use Rattle.abc_text.specs.declared.lexical.Before.TheVariants.{Open, Operand, Sign}
use Rattle.abc_text.specs.declared.words.Keyword.{Keyword}
use Rattle.abc_text.specs.declared.words.Mark.{Mark}
use Rattle.abc_text.specs.declared.words.Mark.TheVariants as m
use Rattle.abc_text.specs.Tokens.{greatest}
use Rattle.abc_text.specs.Spelling.{IsTextValue}
use Rattle.abc_grammar.specs.declared.lexemes.Lexeme.TheVariants as l
use Rattle.abc_printed.specs.Parts.{Part, Space, Line, mark, keyword, name, variable, number, text, behind_comma, listed, bracketed}
use Rattle.abc_printed.specs.Forms.{spaced}
use Rattle.abc_printed_texts.proofs.Good.{after_minus, after, AreApart, AreGood}

-- A `-` is a sign here, or stands before one.
abbrev pub IsFree : Before → Type 0
IsFree Open = Unit {0}
IsFree Operand = ⊥
IsFree Sign = Unit {0}

-- The parts are good whatever stands before them.
abbrev pub Goes : List Part → Type 0
Goes parts = (before : Before) → AreGood before parts

-- any parts
abbrev pub Always : List Part → Type 0
Always parts = Unit {0}

-- Before parts of a kind that are good whatever stands before them these are good: where a `-` is a sign, anywhere, and
-- also behind a byte of a word.
pub record IsTerm (Kind : List Part → Type 0) (parts : List Part) : Type 0 where
  pub good : (before : Before) → IsFree before → (rest : List Part) → Kind rest → Goes rest → AreGood before (parts ++ rest)

pub record IsAny (Kind : List Part → Type 0) (parts : List Part) : Type 0 where
  pub good : (rest : List Part) → Kind rest → Goes rest → Goes (parts ++ rest)

pub record IsTail (Kind : List Part → Type 0) (parts : List Part) : Type 0 where
  pub apart : (rest : List Part) → Kind rest → AreApart (parts ++ rest)
  pub any : IsAny Kind parts

-- the mark or the keyword is followed by a place where a `-` is a sign
abbrev pub FreesMark : Mark → Type 0
FreesMark m = (before : Before) → IsFree (after before (l.Mark m))

abbrev pub FreesKeyword : Keyword → Type 0
FreesKeyword k = (before : Before) → IsFree (after before (l.Keyword k))

-- Behind a `-` that is a sign, or a subtraction, a `-` is a sign.
pub minus_frees : FreesMark m.Minus
minus_frees Open = tt
minus_frees Operand = tt
minus_frees Sign = tt

module _ {Kind : List Part → Type 0} where
  pub any_term : {parts : List Part} → IsAny Kind parts → IsTerm Kind parts
  any_term h = record { good = λ before free rest kind goes. h.good rest kind goes before }

  pub tail_term : {parts : List Part} → IsTail Kind parts → IsTerm Kind parts
  tail_term h = any_term h.any

  -- ---- spaces and ends of lines
  pub space_term : {parts : List Part} → IsTerm Kind parts → IsTerm Kind (Space ∷ parts)
  space_term h = record { good = λ before free rest kind goes. h.good before free rest kind goes }

  pub space_tail : {parts : List Part} → IsAny Kind parts → IsTail Kind (Space ∷ parts)
  space_tail h = record { apart = λ rest kind. tt; any = record { good = λ rest kind goes. h.good rest kind goes } }

  pub line_tail : {parts : List Part} → IsAny Kind parts → IsTail Kind (Line ∷ parts)
  line_tail h = record { apart = λ rest kind. tt; any = record { good = λ rest kind goes. h.good rest kind goes } }

  -- ---- marks
  pub mark_tail : {parts : List Part} (m : Mark) → FreesMark m → IsTerm Kind parts → IsTail Kind (mark m ∷ parts)
  mark_tail m frees h = record {
    apart = λ rest kind. tt;
    any = record { good = λ rest kind goes before. (tt, tt, h.good (after before (l.Mark m)) (frees before) rest kind goes) };
  }

  pub close_tail : {parts : List Part} (m : Mark) → IsAny Kind parts → IsTail Kind (mark m ∷ parts)
  close_tail m h = record {
    apart = λ rest kind. tt;
    any = record { good = λ rest kind goes before. (tt, tt, h.good rest kind goes (after before (l.Mark m))) };
  }

  pub mark_spaced : {parts : List Part} (m : Mark) → FreesMark m → IsTerm Kind parts → IsTail Kind (Space ∷ mark m ∷ Space ∷ parts)
  mark_spaced m frees h = space_tail ((mark_tail m frees (space_term h)).any)

  -- ---- words and numbers
  pub keyword_any : {parts : List Part} (k : Keyword) → IsTail Kind parts → IsAny Kind (keyword k ∷ parts)
  keyword_any k h = record { good = λ rest kind goes before. (tt, h.apart rest kind, h.any.good rest kind goes (after before (l.Keyword k))) }

  pub keyword_free : {parts : List Part} (k : Keyword) → FreesKeyword k → IsTerm Kind parts → IsAny Kind (keyword k ∷ Space ∷ parts)
  keyword_free k frees h = record { good = λ rest kind goes before. (tt, tt, h.good (after before (l.Keyword k)) (frees before) rest kind goes) }

  pub keyword_spaced : {parts : List Part} (k : Keyword) → FreesKeyword k → IsTerm Kind parts → IsTail Kind (Space ∷ keyword k ∷ Space ∷ parts)
  keyword_spaced k frees h = space_tail (keyword_free k frees h)

  pub name_any : {parts : List Part} (n : Name) → IsTail Kind parts → IsAny Kind (name n ∷ parts)
  name_any n h = record { good = λ rest kind goes before. (tt, h.apart rest kind, h.any.good rest kind goes Operand) }

  pub variable_any : {parts : List Part} (n : Name) → IsTail Kind parts → IsAny Kind (variable n ∷ parts)
  variable_any n h = record { good = λ rest kind goes before. (tt, h.apart rest kind, h.any.good rest kind goes Operand) }

  pub number_any : {parts : List Part} (n : ℕ) → n < 2 ^ 63 → IsTail Kind parts → IsAny Kind (number n ∷ parts)
  number_any n small h = record { good = λ rest kind goes before. (fits before, h.apart rest kind, h.any.good rest kind goes Operand) }
    where
      fits : (before : Before) → n ≤ greatest before
      fits Open = omega (arith, small)
      fits Operand = omega (arith, small)
      fits Sign = omega (arith, small)

  -- a `-` and a number behind it
  pub minus_term : {parts : List Part} (n : ℕ) → n ≤ 2 ^ 63 → IsTail Kind parts → IsTerm Kind (mark m.Minus ∷ number n ∷ parts)
  minus_term n small h = record {
    good = λ before free rest kind goes. (tt, tt, (fits before free, h.apart rest kind, h.any.good rest kind goes Operand));
  }
    where
      fits : (before : Before) → IsFree before → n ≤ greatest (after_minus before)
      fits Open free = omega (arith, small)
      fits Operand free = absurd free
      fits Sign free = omega (arith, small)

  pub text_any : {parts : List Part} (bytes : List ℕ) → IsTextValue bytes → IsTail Kind parts → IsAny Kind (text bytes ∷ parts)
  text_any bytes fits h = record { good = λ rest kind goes before. (fits, tt, h.any.good rest kind goes Operand) }

  -- ---- parts behind parts
  pub term_then : {front parts : List Part} → IsTerm AreApart front → IsTail Kind parts → IsTerm Kind (front ++ parts)
  term_then {front} {parts} h k = record {
    good = λ before free rest kind goes. subst (AreGood before) (sym (append_assoc front parts rest))
        (h.good before free (parts ++ rest) (k.apart rest kind) (k.any.good rest kind goes));
  }

  pub any_then : {front parts : List Part} → IsAny AreApart front → IsTail Kind parts → IsAny Kind (front ++ parts)
  any_then {front} {parts} h k = record {
    good = λ rest kind goes before. subst (AreGood before) (sym (append_assoc front parts rest))
        (h.good (parts ++ rest) (k.apart rest kind) (k.any.good rest kind goes) before);
  }

  pub tail_then : {front parts : List Part} → IsTail AreApart front → IsTail Kind parts → IsTail Kind (front ++ parts)
  tail_then {front} {parts} h k = record {
    apart = λ rest kind. subst AreApart (sym (append_assoc front parts rest)) (h.apart (parts ++ rest) (k.apart rest kind));
    any = any_then h.any k;
  }

  pub ended_then : {front parts : List Part} → IsAny Always front → IsAny Kind parts → IsAny Kind (front ++ parts)
  ended_then {front} {parts} h k = record {
    good = λ rest kind goes before. subst (AreGood before) (sym (append_assoc front parts rest))
        (h.good (parts ++ rest) tt (k.good rest kind goes) before);
  }

  -- ---- two sides
  pub mark_between :
      {front parts : List Part} (m : Mark) → FreesMark m → IsTerm AreApart front → IsTerm Kind parts → IsTerm Kind (front ++ spaced (mark m) ++ parts)
  mark_between {front} {parts} m frees h k =
      subst (IsTerm Kind) (sym (append_assoc front (spaced (mark m)) parts)) (term_then h (mark_spaced m frees k))

  pub keyword_between :
      {front parts : List Part} (k : Keyword) → FreesKeyword k → IsTerm AreApart front → IsTerm Kind parts →
      IsTerm Kind (front ++ spaced (keyword k) ++ parts)
  keyword_between {front} {parts} k frees h g =
      subst (IsTerm Kind) (sym (append_assoc front (spaced (keyword k)) parts)) (term_then h (keyword_spaced k frees g))

  pub any_between :
      {front parts : List Part} (m : Mark) → FreesMark m → IsAny AreApart front → IsTerm Kind parts → IsAny Kind (front ++ spaced (mark m) ++ parts)
  any_between {front} {parts} m frees h k =
      subst (IsAny Kind) (sym (append_assoc front (spaced (mark m)) parts)) (any_then h (mark_spaced m frees k))

  -- ---- one of two
  pub if_term : {xs ys : List Part} (b : Bool) → IsTerm Kind xs → IsTerm Kind ys → IsTerm Kind (if b then xs else ys)
  if_term true h k = h
  if_term false h k = k

  pub if_any : {xs ys : List Part} (b : Bool) → IsAny Kind xs → IsAny Kind ys → IsAny Kind (if b then xs else ys)
  if_any true h k = h
  if_any false h k = k

-- ---- no more parts
pub nothing : IsTail AreApart []
nothing = record { apart = λ rest apart. apart; any = record { good = λ rest apart goes. goes } }

-- No parts are good before any.
pub ended : IsAny Always []
ended = record { good = λ rest always goes. goes }

-- What may stand before any parts may stand before those that are apart.
pub ended_apart : {parts : List Part} → IsAny Always parts → IsAny AreApart parts
ended_apart h = record { good = λ rest apart goes. h.good rest tt goes }

-- ---- brackets, where the grade asks for them
module _ (opener closer : Mark) (frees : FreesMark opener) where
  pub closed : {parts : List Part} → IsTerm AreApart parts → IsTail AreApart (mark opener ∷ parts ++ mark closer ∷ [])
  closed h = mark_tail opener frees (term_then h (close_tail closer nothing.any))

  pub bracketed_term : {parts : List Part} (asked grade : ℕ) → IsTerm AreApart parts → IsTerm AreApart (bracketed opener closer asked grade parts)
  bracketed_term asked grade h = if_term (nat_lt grade asked) (tail_term (closed h)) h

  pub bracketed_any : {parts : List Part} (asked grade : ℕ) → IsAny AreApart parts → IsAny AreApart (bracketed opener closer asked grade parts)
  bracketed_any asked grade h = if_any (nat_lt grade asked) (closed (any_term h)).any h

-- ---- lists
module _ {A : Type 0} (print : A → List Part) (P : A → Type 0) where
  pub behind_commas :
      ((a : A) → P a → IsTerm AreApart (print a)) → (items : List A) → All P items → IsTail AreApart (flat_map (behind_comma print) items)
  behind_commas each [] h = nothing
  behind_commas each (a ∷ items) h =
      mark_tail m.Comma (λ before. tt)
      (space_term (term_then (each a (h 0 a (omega arith))) (behind_commas each items (λ k d lt. h (suc k) d (omega (arith, lt))))))

  pub listed_term : ((a : A) → P a → IsTerm AreApart (print a)) → (items : List A) → All P items → IsTerm AreApart (listed print items)
  listed_term each [] h = tail_term nothing
  listed_term each (a ∷ items) h =
      term_then (each a (h 0 a (omega arith))) (behind_commas each items (λ k d lt. h (suc k) d (omega (arith, lt))))

  -- items that end so that anything may follow
  pub repeated_any : ((a : A) → P a → IsAny Always (print a)) → (items : List A) → All P items → IsAny Always (flat_map print items)
  repeated_any each [] h = ended
  repeated_any each (a ∷ items) h =
      ended_then (each a (h 0 a (omega arith))) (repeated_any each items (λ k d lt. h (suc k) d (omega (arith, lt))))
