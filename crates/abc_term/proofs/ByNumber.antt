-- A multicast by the numbers of its components.
use Rattle.std.proofs.Common.{◌≡◌, ◌≢◌, inl, inr, ℕ, zero, suc, ◌+◌, ◌==◌, Bool, List, [], ◌∷◌, length, Some, MatchBool, refl, sym, ap, subst, arith}
use Rattle.std.specs.List.{slice_get}
use Rattle.std.proofs.lemmas.Bool.{eq-eqb, ne_eqb}
use Rattle.std.proofs.lemmas.Bool.Decides.{eqb_tells}
use Rattle.abc_term.specs.Processes.{Definitions, Component, System}
use Rattle.abc_term.specs.Speaking.{Label, Speaks}
use Rattle.abc_term.specs.Hearing.{Hears}
use Rattle.abc_term.specs.Systems.{place_in, EachMoves}
use Rattle.abc_term.specs.Laws.{EachByNumber, MulticastByNumber}

module _ (defs : Definitions) (sender place : ℕ) (heard : List (ℕ × ℕ)) (l : Label) where
  -- what the component with the number n does
  abbrev Moves : ℕ → Component → Component → Type 0
  Moves n C D = MatchBool (n == sender) (Speaks defs C place l D) (Hears defs C l (place_in heard n) D)

  length-moved : (S T : System) (i : ℕ) → EachMoves defs sender place heard l i S T → length T ≡ length S
  length-moved [] [] i s = refl
  length-moved [] (D ∷ T) i s = elim s [ ]
  length-moved (C ∷ S) [] i s = elim s [ ]
  length-moved (C ∷ S) (D ∷ T) i s = ap suc (length-moved S T (i + 1) s.1)

  move_at : (S T : System) (i j n : ℕ) → i + j ≡ n → EachMoves defs sender place heard l i S T → (C D : Component) → slice_get S j ≡ Some C → slice_get T j ≡ Some D → Moves n C D
  move_at [] T i j n at s C D e f = cc
  move_at (A ∷ S) [] i j n at s C D e f = elim s [ ]
  move_at (A ∷ S) (B ∷ T) i zero n at s C D e f =
      let first : A ≡ C = cc in
      let next : B ≡ D = cc in
      let same : i ≡ n = omega arith in
      subst (λ (m : ℕ). Moves m C D) same (subst (λ (X : Component). Moves i C X) next (subst (λ (X : Component). Moves i X B) first s.0))
  move_at (A ∷ S) (B ∷ T) i (suc j) n at s C D e f = move_at S T (i + 1) j n (omega arith) s.1 C D e f

  moves_from : (S T : System) (i : ℕ) → length T ≡ length S → ((j n : ℕ) → i + j ≡ n → (C D : Component) → slice_get S j ≡ Some C → slice_get T j ≡ Some D → Moves n C D) → EachMoves defs sender place heard l i S T
  moves_from [] [] i same h = tt
  moves_from [] (D ∷ T) i same h = absurd (omega arith)
  moves_from (C ∷ S) [] i same h = absurd (omega arith)
  moves_from (C ∷ S) (D ∷ T) i same h =
      (h 0 i (omega arith) C D refl refl, moves_from S T (i + 1) (omega arith) (λ j n at A B e f. h (suc j) n (omega arith) A B e f))

  speaks_at : (n : ℕ) (C D : Component) → n ≡ sender → Moves n C D → Speaks defs C place l D
  speaks_at n C D e m = subst (λ (b : Bool). MatchBool b (Speaks defs C place l D) (Hears defs C l (place_in heard n) D)) (eq-eqb n sender e) m

  hears_at : (n : ℕ) (C D : Component) → n ≢ sender → Moves n C D → Hears defs C l (place_in heard n) D
  hears_at n C D e m = subst (λ (b : Bool). MatchBool b (Speaks defs C place l D) (Hears defs C l (place_in heard n) D)) (ne_eqb n sender e) m

  one_of : (S T : System) → EachByNumber defs S sender place heard l T → (n : ℕ) (C D : Component) → slice_get S n ≡ Some C → slice_get T n ≡ Some D → Moves n C D
  one_of S T by n C D e f =
      elim (eqb_tells n sender) [
        | inl t ↦
            let own = subst (λ (m : ℕ). slice_get S m ≡ Some C) t.1 e in
            let new = subst (λ (m : ℕ). slice_get T m ≡ Some D) t.1 f in
            subst (λ (b : Bool). MatchBool b (Speaks defs C place l D) (Hears defs C l (place_in heard n) D)) (sym t.0) (by.speaks C D own new)
        | inr t ↦
            subst (λ (b : Bool). MatchBool b (Speaks defs C place l D) (Hears defs C l (place_in heard n) D)) (sym t.0) (by.hears n C D t.1 e f)
      ]

pub multicast_by_number : MulticastByNumber
multicast_by_number defs S sender place heard l T = (
  λ s. record {
    as_many = length-moved defs sender place heard l S T 0 s;
    speaks = λ C D e f. speaks_at defs sender place heard l sender C D refl (move_at defs sender place heard l S T 0 sender sender (omega arith) s C D e f);
    hears = λ i C D ne e f. hears_at defs sender place heard l i C D ne (move_at defs sender place heard l S T 0 i i (omega arith) s C D e f);
  },
  λ by. moves_from defs sender place heard l S T 0 by.as_many
      (λ j n at C D e f. let same : j ≡ n = omega arith in
      one_of defs sender place heard l S T by n C D (subst (λ (m : ℕ). slice_get S m ≡ Some C) same e) (subst (λ (m : ℕ). slice_get T m ≡ Some D) same f)),
)
