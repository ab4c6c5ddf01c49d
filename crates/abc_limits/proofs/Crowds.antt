-- How many commas more may stand in the open brackets is what the walk over them counts.
use Rattle.std.proofs.Common.{◌≡◌, ℕ, suc, ◌-◌, ◌<◌, ◌≤◌, ◌⊎◌, inl, inr, Bool, true, false, List, [], ◌∷◌, Option, Some, None, refl, sym, ap, ◌∙◌, arith}
use Rattle.std.specs.Prelude.{◌==◌, ◌&&◌, nat_le}
use Rattle.std.proofs.lemmas.Bool.{cases_lt}
use Rattle.std.proofs.lemmas.Bool.Decides.{nat_tests}
use Rattle.abc_grammar.specs.declared.lexemes.Lexeme.{Lexeme}
use Rattle.abc_grammar.specs.declared.lexemes.Lexeme.TheVariants as l
use Rattle.abc_text.specs.declared.words.Mark.TheVariants as m
use Rattle.abc_text.specs.declared.words.Keyword.TheVariants as k
use Rattle.abc_grammar.specs.declared.limits.TheConstants.{MOST_PARTS}
use Rattle.abc_grammar_laws.specs.Crowding.{Bracket, Standing, is_crowded, moved}
use Rattle.abc_limits.specs.Rooms.{Rooms, rooms_behind, is_free, is_used_up, closes_round, is_set, ends_list}

-- ---- brackets and the commas in them
abbrev pub room_of : List Bracket → Option ℕ
room_of [] = None
room_of ((true, n) ∷ bs) = None
room_of ((false, n) ∷ bs) = Some (MOST_PARTS - n)

abbrev pub around_of : List Bracket → List (Option ℕ)
around_of [] = []
around_of (b ∷ bs) = room_of bs ∷ around_of bs

abbrev pub rooms_of : List Bracket → Rooms
rooms_of bs = record { room = room_of bs; around = around_of bs }

-- a bracket is crowded where no comma more may stand in it
used_up : (n : ℕ) → nat_le MOST_PARTS n ≡ (MOST_PARTS - n == 0)
used_up n = by (cases_lt n 8)
  where
    by : (n < 8) ⊎ (8 ≤ n) → nat_le MOST_PARTS n ≡ (MOST_PARTS - n == 0)
    by (inl lt) =
        let a : nat_le MOST_PARTS n ≡ false = grind (arith, nat_tests) in
        let b : (MOST_PARTS - n == 0) ≡ false = grind (arith, nat_tests) in
        a ∙ sym b
    by (inr le) =
        let a : nat_le MOST_PARTS n ≡ true = grind (arith, nat_tests) in
        let b : (MOST_PARTS - n == 0) ≡ true = grind (arith, nat_tests) in
        a ∙ sym b

pub crowded_is : (bs : List Bracket) → is_crowded bs ≡ is_used_up (room_of bs)
crowded_is [] = refl
crowded_is ((true, n) ∷ bs) = refl
crowded_is ((false, n) ∷ bs) = used_up n

-- ---- one token of the walk
pub record Moved (t : Lexeme) (w c : Bool) (bs : List Bracket) : Type 0 where
  pub next : Standing
  pub is : moved t w c bs ≡ Some next
  pub word : next.0 ≡ is_set t
  pub list : next.1.0 ≡ (closes_round t && is_free (rooms_of bs))
  pub rooms : rooms_of next.1.1 ≡ rooms_behind (rooms_of bs) w t

comma_less : (n : ℕ) → MOST_PARTS - suc n ≡ MOST_PARTS - n - 1
comma_less n = omega arith

pub move : (t : Lexeme) (w c : Bool) (bs : List Bracket) → (c && ends_list t) ≡ false → Moved t w c bs
move (l.Mark m.OpenRound) true c bs e =
    record { next = (false, (false, (true, 0) ∷ bs)); is = refl; word = refl; list = refl; rooms = refl }
move (l.Mark m.OpenRound) false c bs e =
    record { next = (false, (false, (false, 0) ∷ bs)); is = refl; word = refl; list = refl; rooms = refl }
move (l.Mark m.OpenSquare) w c bs e =
    record { next = (false, (false, (true, 0) ∷ bs)); is = refl; word = refl; list = refl; rooms = refl }
move (l.Mark m.OpenCurly) w c bs e =
    record { next = (false, (false, (true, 0) ∷ bs)); is = refl; word = refl; list = refl; rooms = refl }
move (l.Mark m.CloseRound) w c [] e =
    record { next = (false, (false, [])); is = refl; word = refl; list = refl; rooms = refl }
move (l.Mark m.CloseRound) w c ((true, n) ∷ bs) e =
    record { next = (false, (true, bs)); is = refl; word = refl; list = refl; rooms = refl }
move (l.Mark m.CloseRound) w c ((false, n) ∷ bs) e =
    record { next = (false, (false, bs)); is = refl; word = refl; list = refl; rooms = refl }
move (l.Mark m.CloseSquare) w c [] e =
    record { next = (false, (false, [])); is = refl; word = refl; list = refl; rooms = refl }
move (l.Mark m.CloseSquare) w c (b ∷ bs) e =
    record { next = (false, (false, bs)); is = refl; word = refl; list = refl; rooms = refl }
move (l.Mark m.CloseCurly) w c [] e =
    record { next = (false, (false, [])); is = refl; word = refl; list = refl; rooms = refl }
move (l.Mark m.CloseCurly) w c (b ∷ bs) e =
    record { next = (false, (false, bs)); is = refl; word = refl; list = refl; rooms = refl }
move (l.Mark m.Comma) w c [] e =
    record { next = (false, (false, [])); is = refl; word = refl; list = refl; rooms = refl }
move (l.Mark m.Comma) w c ((true, n) ∷ bs) e =
    record { next = (false, (false, (true, suc n) ∷ bs)); is = refl; word = refl; list = refl; rooms = refl }
move (l.Mark m.Comma) w c ((false, n) ∷ bs) e = record {
  next = (false, (false, (false, suc n) ∷ bs));
  is = refl;
  word = refl;
  list = refl;
  rooms = ap (λ (i : ℕ). record { room = Some i; around = room_of bs ∷ around_of bs }) (comma_less n);
}
move (l.Mark m.At) w true bs e = absurd (cc)
move (l.Mark m.At) w false bs e =
    record { next = (false, (false, bs)); is = refl; word = refl; list = refl; rooms = refl }
move (l.Mark m.Dot) w true bs e = absurd (cc)
move (l.Mark m.Dot) w false bs e =
    record { next = (false, (false, bs)); is = refl; word = refl; list = refl; rooms = refl }
move (l.Keyword k.Set) w c bs e =
    record { next = (true, (false, bs)); is = refl; word = refl; list = refl; rooms = refl }
move t w c bs e = record { next = (false, (false, bs)); is = refl; word = refl; list = refl; rooms = refl }

-- behind a `set(..)` there is no walk over an `@` or a `.`
pub stuck : (t : Lexeme) (w : Bool) (bs : List Bracket) → ends_list t ≡ true → moved t w true bs ≡ None
stuck (l.Mark m.At) w bs e = refl
stuck (l.Mark m.Dot) w bs e = refl
stuck t w bs e = absurd (cc)
