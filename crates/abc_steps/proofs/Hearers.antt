-- Who hears a message, and the multicast in which they do.
use Rattle.std.proofs.Common.{◌≡◌, ◌≢◌, ◌∙◌, ◌⊎◌, inl, inr, ℕ, zero, suc, ◌+◌, ◌%◌, ◌==◌, ◌<◌, ◌≤◌, Bool, true, false, List, [], ◌∷◌, length, Option, Some, None, MatchBool, refl, ap, sym, subst, slice_get, if◌then◌else◌, arith}
use Rattle.std.specs.Prelude.{slice_set}
use Rattle.std.proofs.lemmas.Bool.{eq-eqb, ne_eqb}
use Rattle.std.proofs.lemmas.Nat.{mod_below}
use Rattle.std.proofs.lemmas.Bool.Decides.{eqb_tells}
use Rattle.abc_term.specs.Processes.{Definitions, Component, System}
use Rattle.abc_term.specs.Speaking.{Label, Speaks}
use Rattle.abc_term.specs.Hearing.{Hears, ins}
use Rattle.abc_term.specs.Systems.{place_in, AreHearers, EachMoves, Multicasts}
use Rattle.abc_term.proofs.HearingPlaces.{below_ins, hears_at}
use Rattle.abc_steps.specs.Hearers.{CanHear, AllHear, hearers_from}

-- ---- lists of hearers
abbrev pub from_here : (full heard : List (ℕ × ℕ)) → ℕ → Type 0
from_here full heard i = (j : ℕ) → i ≤ j → place_in full j ≡ place_in heard j

place_first : (h : ℕ × ℕ) (heard : List (ℕ × ℕ)) (i : ℕ) → h.0 ≡ i → place_in (h ∷ heard) i ≡ Some h.1
place_first h heard i e = ap (λ (b : Bool). if b then Some h.1 else place_in heard i) (eq-eqb h.0 i e)

place_later : (h : ℕ × ℕ) (heard : List (ℕ × ℕ)) (i : ℕ) → h.0 ≢ i → place_in (h ∷ heard) i ≡ place_in heard i
place_later h heard i ne = ap (λ (b : Bool). if b then Some h.1 else place_in heard i) (ne_eqb h.0 i ne)

pub unlisted : (sender count low i : ℕ) (heard : List (ℕ × ℕ)) → i < low → AreHearers sender count low heard → place_in heard i ≡ None
unlisted sender count low i [] lt a = refl
unlisted sender count low i (h ∷ heard) lt a =
    let le = a.0 in
    place_later h heard i (λ e. omega arith) ∙ unlisted sender count (h.0 + 1) i heard (omega arith) a.3

later : (sender count low high : ℕ) (heard : List (ℕ × ℕ)) → low ≤ high → AreHearers sender count high heard → AreHearers sender count low heard
later sender count low high [] le a = tt
later sender count low high (h ∷ heard) le a = let b = a.0 in let c : low ≤ h.0 = omega arith in (c, a.1, a.2, a.3)

from_next : (full heard more : List (ℕ × ℕ)) (i place : ℕ) → from_here full heard i → heard ≡ (i, place) ∷ more → from_here full more (i + 1)
from_next full heard more i place f e j le =
    f j (omega arith) ∙ ap (λ (xs : List (ℕ × ℕ)). place_in xs j) e ∙ place_later (i, place) more j (λ same. omega arith)

from_more : (full heard : List (ℕ × ℕ)) (i : ℕ) → from_here full heard i → from_here full heard (i + 1)
from_more full heard i f j le = f j (omega arith)

module _ (defs : Definitions) (sender : ℕ) (l : Label) where
  -- ---- those who heard are listed by rising numbers
  abbrev pub Heard : ℕ → Component → Component → System → System → List (ℕ × ℕ) → Type 0
  Heard i C D S T heard =
      ((place : ℕ) × (more : List (ℕ × ℕ)) × (heard ≡ (i, place) ∷ more) × Hears defs C l (Some place) D × AllHear defs sender l (i + 1) S more T)
      ⊎ (Hears defs C l None D × AllHear defs sender l (i + 1) S heard T)

  pub heard_rise : (i count : ℕ) (S T : System) (heard : List (ℕ × ℕ)) → i + length S ≡ count → AllHear defs sender l i S heard T → AreHearers sender count i heard
  heard_rise i count [] [] heard n a = subst (λ (xs : List (ℕ × ℕ)). AreHearers sender count i xs) (sym a) tt
  heard_rise i count [] (D ∷ T) heard n a = elim a [ ]
  heard_rise i count (C ∷ S) [] heard n a = elim a [ ]
  heard_rise i count (C ∷ S) (D ∷ T) heard n a =
      elim (eqb_tells i sender) [
        | inl e ↦
            let s = subst (λ (b : Bool). MatchBool b ((D ≡ C) × AllHear defs sender l (i + 1) S heard T) (Heard i C D S T heard)) e.0 a in
            later sender count i (i + 1) heard (omega arith) (heard_rise (i + 1) count S T heard (omega arith) s.1)
        | inr e ↦
            let s = subst (λ (b : Bool). MatchBool b ((D ≡ C) × AllHear defs sender l (i + 1) S heard T) (Heard i C D S T heard)) e.0 a in
            elim s [
              | inl h ↦
                  let below : i < count = omega arith in let le : i ≤ i = omega arith in
                  subst (λ (xs : List (ℕ × ℕ)). AreHearers sender count i xs) (sym h.2) (le, below, e.1, heard_rise (i + 1) count S T h.1 (omega arith) h.4)
              | inr h ↦ later sender count i (i + 1) heard (omega arith) (heard_rise (i + 1) count S T heard (omega arith) h.1)
            ]
      ]

  abbrev pub Can : ℕ → Component → System → List (ℕ × ℕ) → Type 0
  Can i C S heard =
      ((p : ℕ) × (more : List (ℕ × ℕ)) × (heard ≡ (i, p) ∷ more) × (p < ins defs C l) × CanHear defs sender l (i + 1) S more)
      ⊎ ((ins defs C l ≡ 0) × CanHear defs sender l (i + 1) S heard)

  -- ---- what each does by the whole list of hearers
  module _ (place : ℕ) (full : List (ℕ × ℕ)) where
    abbrev Moves : Bool → ℕ → Component → Component → Type 0
    Moves b i C D = MatchBool b (Speaks defs C place l D) (Hears defs C l (place_in full i) D)

    hears_listed : (i : ℕ) (C D : Component) (S T : System) (heard : List (ℕ × ℕ)) → i ≢ sender → from_here full heard i → Heard i C D S T heard →
        Moves (i == sender) i C D
    hears_listed i C D S T heard ne f h =
        let other : false ≡ (i == sender) = sym (ne_eqb i sender ne) in
        let le : i ≤ i = omega arith in
        subst (λ (b : Bool). Moves b i C D) other (
        elim h [
          | inl r ↦
              let listed : place_in full i ≡ Some r.0 = f i le ∙ ap (λ (xs : List (ℕ × ℕ)). place_in xs i) r.2 ∙ place_first (i, r.0) r.1 i refl in
              subst (λ (at : Option ℕ). Hears defs C l at D) (sym listed) r.3
          | inr r ↦
              let skipped : place_in full i ≡ None =
              f i le ∙ unlisted sender (i + 1 + length S) (i + 1) i heard (omega arith) (heard_rise (i + 1) (i + 1 + length S) S T heard refl r.1) in
              subst (λ (at : Option ℕ). Hears defs C l at D) (sym skipped) r.0
        ])

    -- what is left of the hearers behind this component
    record Rest (i : ℕ) (S T : System) : Type 0 where
      more : List (ℕ × ℕ)
      here : from_here full more (i + 1)
      hear : AllHear defs sender l (i + 1) S more T

    rest_of : (i : ℕ) (C D : Component) (S T : System) (heard : List (ℕ × ℕ)) → from_here full heard i → Heard i C D S T heard → Rest i S T
    rest_of i C D S T heard f h =
        elim h [
          | inl r ↦ record { more = r.1; here = from_next full heard r.1 i r.0 f r.2; hear = r.4 }
          | inr r ↦ record { more = heard; here = from_more full heard i f; hear = r.1 }
        ]

    abbrev heard_if : Bool → ℕ → Component → Component → System → System → List (ℕ × ℕ) → Type 0
    heard_if b i C D S T heard = MatchBool b ((D ≡ C) × AllHear defs sender l (i + 1) S heard T) (Heard i C D S T heard)

    -- those behind the sender
    moves_past : (i : ℕ) (S T : System) (heard : List (ℕ × ℕ)) → sender < i → from_here full heard i → AllHear defs sender l i S heard T →
        EachMoves defs sender place full l i S T
    moves_past i [] [] heard lt f a = tt
    moves_past i [] (D ∷ T) heard lt f a = elim a [ ]
    moves_past i (C ∷ S) [] heard lt f a = elim a [ ]
    moves_past i (C ∷ S) (D ∷ T) heard lt f a =
        let ne : i ≢ sender = λ e. omega arith in
        let h = subst (λ (b : Bool). heard_if b i C D S T heard) (ne_eqb i sender ne) a in
        let r = rest_of i C D S T heard f h in
        (hears_listed i C D S T heard ne f h, moves_past (i + 1) S T r.more (omega arith) r.here r.hear)

    -- the sender, where it speaks, and all others
    moves_with : (i k : ℕ) (S T : System) (heard : List (ℕ × ℕ)) (C D : Component) → i + k ≡ sender → from_here full heard i →
        AllHear defs sender l i S heard T → slice_get S k ≡ Some C → Speaks defs C place l D → EachMoves defs sender place full l i S (slice_set T k D)
    moves_with i k [] T heard C D n f a at says = cc
    moves_with i k (A ∷ S) [] heard C D n f a at says = elim a [ ]
    moves_with i zero (A ∷ S) (B ∷ T) heard C D n f a at says =
        let same : C ≡ A = cc in
        let own : i ≡ sender = omega arith in
        let h = subst (λ (b : Bool). heard_if b i A B S T heard) (eq-eqb i sender own) a in (
          subst (λ (b : Bool). Moves b i A D) (sym (eq-eqb i sender own)) (subst (λ (X : Component). Speaks defs X place l D) same says),
          moves_past (i + 1) S T heard (omega arith) (from_more full heard i f) h.1,
        )
    moves_with i (suc k) (A ∷ S) (B ∷ T) heard C D n f a at says =
        let ne : i ≢ sender = λ e. omega arith in
        let h = subst (λ (b : Bool). heard_if b i A B S T heard) (ne_eqb i sender ne) a in
        let r = rest_of i A B S T heard f h in
        (hears_listed i A B S T heard ne f h, moves_with (i + 1) k S T r.more C D (omega arith) r.here r.hear at says)

    -- ---- whoever moves so could
    deaf : (i : ℕ) (C D : Component) → place_in full i ≡ None → Hears defs C l (place_in full i) D → ins defs C l ≡ 0
    deaf i C D e h = (subst (λ (at : Option ℕ). Hears defs C l at D) e h).0

    -- no hearer is the sender
    behind : (i : ℕ) (S : System) (heard : List (ℕ × ℕ)) → i ≡ sender → AreHearers sender (i + suc (length S)) i heard →
        AreHearers sender (i + 1 + length S) (i + 1) heard
    behind i S [] e r = tt
    behind i S (h ∷ heard) e r =
        let n : i + suc (length S) ≡ i + 1 + length S = omega arith in
        let from = r.0 in let other : h.0 ≢ i = λ same. r.2 (same ∙ e) in
        let above : i + 1 ≤ h.0 = omega arith in
        (above, subst (λ (k : ℕ). h.0 < k) n r.1, r.2, subst (λ (k : ℕ). AreHearers sender k (h.0 + 1) heard) n r.3)

    -- those behind the first one
    next_hearers : (i : ℕ) (S : System) (g : ℕ × ℕ) (heard : List (ℕ × ℕ)) → g.0 ≡ i → AreHearers sender (i + suc (length S)) (g.0 + 1) heard →
        AreHearers sender (i + 1 + length S) (i + 1) heard
    next_hearers i S g heard e r =
        let n : i + suc (length S) ≡ i + 1 + length S = omega arith in
        subst (λ (k : ℕ). AreHearers sender (i + 1 + length S) (k + 1) heard) e (subst (λ (k : ℕ). AreHearers sender k (g.0 + 1) heard) n r)

    can_listed : (i : ℕ) (C D : Component) (S : System) (heard : List (ℕ × ℕ)) → from_here full heard i →
        AreHearers sender (i + suc (length S)) i heard → Hears defs C l (place_in full i) D →
        ((more : List (ℕ × ℕ)) → from_here full more (i + 1) → AreHearers sender (i + 1 + length S) (i + 1) more → CanHear defs sender l (i + 1) S more) →
        Can i C S heard
    can_listed i C D S [] f r h rest_can =
        let le : i ≤ i = omega arith in
        inr (deaf i C D (f i le) h, rest_can [] (from_more full [] i f) tt)
    can_listed i C D S (g ∷ heard) f r h rest_can =
        let le : i ≤ i = omega arith in
        let n : i + suc (length S) ≡ i + 1 + length S = omega arith in
        elim (eqb_tells g.0 i) [
          | inl e ↦
              let is : g ∷ heard ≡ (i, g.1) ∷ heard = λ t. (e.1 t, g.1) ∷ heard in
              let listed : place_in full i ≡ Some g.1 = f i le ∙ place_first g heard i e.1 in
              let below = below_ins defs C l g.1 D (subst (λ (at : Option ℕ). Hears defs C l at D) listed h) in
              inl (g.1, heard, is, below, rest_can heard (from_next full (g ∷ heard) heard i g.1 f is) (next_hearers i S g heard e.1 r.3))
          | inr e ↦
              let from = r.0 in let other = e.1 in
              let above : i + 1 ≤ g.0 = omega arith in
              let rest : AreHearers sender (i + 1 + length S) (i + 1) (g ∷ heard) =
              (above, subst (λ (k : ℕ). g.0 < k) n r.1, r.2, subst (λ (k : ℕ). AreHearers sender k (g.0 + 1) heard) n r.3) in
              let skipped : place_in full i ≡ None =
              f i le ∙ unlisted sender (i + 1 + length S) (i + 1) i (g ∷ heard) (omega arith) rest in
              inr (deaf i C D skipped h, rest_can (g ∷ heard) (from_more full (g ∷ heard) i f) rest)
        ]

    could : (i : ℕ) (S T : System) (heard : List (ℕ × ℕ)) → from_here full heard i → AreHearers sender (i + length S) i heard →
        EachMoves defs sender place full l i S T → CanHear defs sender l i S heard
    could i [] [] [] f r s = refl
    could i [] [] (h ∷ heard) f r s = let a = r.0 in let b = r.1 in absurd (omega arith)
    could i [] (D ∷ T) heard f r s = elim s [ ]
    could i (C ∷ S) [] heard f r s = elim s [ ]
    could i (C ∷ S) (D ∷ T) heard f r s =
        elim (eqb_tells i sender) [
          | inl e ↦
              subst (λ (b : Bool). MatchBool b (CanHear defs sender l (i + 1) S heard) (Can i C S heard)) (sym e.0)
              (could (i + 1) S T heard (from_more full heard i f) (behind i S heard e.1 r) s.1)
          | inr e ↦
              let moved = subst (λ (b : Bool). Moves b i C D) e.0 s.0 in
              subst (λ (b : Bool). MatchBool b (CanHear defs sender l (i + 1) S heard) (Can i C S heard)) (sym e.0)
              (can_listed i C D S heard f r moved (λ more here rise. could (i + 1) S T more here rise s.1))
        ]

pub could_hear : (defs : Definitions) (sender place : ℕ) (heard : List (ℕ × ℕ)) (l : Label) (S T : System) → Multicasts defs S sender place heard l T →
    CanHear defs sender l 0 S heard
could_hear defs sender place heard l S T s =
    let n : length S ≡ 0 + length S = omega arith in
    could defs sender l place heard 0 S T heard (λ j le. refl) (subst (λ (k : ℕ). AreHearers sender k 0 heard) n s.hearers) s.moves

below_length : (S : System) (k : ℕ) (C : Component) → slice_get S k ≡ Some C → k < length S
below_length [] k C e = cc
below_length (A ∷ S) zero C e = omega arith
below_length (A ∷ S) (suc k) C e = let h = below_length S k C e in omega arith

-- where the sender speaks and all others hear so, that is a multicast
pub multicast_of : (defs : Definitions) (sender place : ℕ) (heard : List (ℕ × ℕ)) (l : Label) (S T : System) (C D : Component) →
    slice_get S sender ≡ Some C → Speaks defs C place l D → AllHear defs sender l 0 S heard T →
    Multicasts defs S sender place heard l (slice_set T sender D)
multicast_of defs sender place heard l S T C D at says a = record {
  exists = below_length S sender C at;
  hearers = heard_rise defs sender l 0 (length S) S T heard (omega arith) a;
  moves = moves_with defs sender l place heard 0 sender S T heard C D (omega arith) (λ j le. refl) a at says;
}

-- ---- whoever can hear does
module _ (defs : Definitions) (sender : ℕ) (l : Label) where
  abbrev AllHearSomehow : ℕ → System → List (ℕ × ℕ) → Type 0
  AllHearSomehow i S heard = (T : System) × AllHear defs sender l i S heard T

  pub all_hear : (i : ℕ) (S : System) (heard : List (ℕ × ℕ)) → CanHear defs sender l i S heard → AllHearSomehow i S heard
  all_hear i [] heard c = ([], c)
  all_hear i (C ∷ S) heard c =
      elim (eqb_tells i sender) [
        | inl e ↦
            let r = all_hear (i + 1) S heard (subst (λ (b : Bool). MatchBool b (CanHear defs sender l (i + 1) S heard) (Can defs sender l i C S heard)) e.0 c) in
            (C ∷ r.0, subst (λ (b : Bool). MatchBool b ((C ≡ C) × AllHear defs sender l (i + 1) S heard r.0) (Heard defs sender l i C C S r.0 heard)) (sym e.0) (refl, r.1))
        | inr e ↦
            elim (subst (λ (b : Bool). MatchBool b (CanHear defs sender l (i + 1) S heard) (Can defs sender l i C S heard)) e.0 c) [
              | inl h ↦
                  let d = hears_at defs C l h.0 h.3 in let r = all_hear (i + 1) S h.1 h.4 in (
                    d.0 ∷ r.0,
                    subst (λ (b : Bool). MatchBool b ((d.0 ≡ C) × AllHear defs sender l (i + 1) S heard r.0) (Heard defs sender l i C d.0 S r.0 heard)) (sym e.0)
                        (inl (h.0, h.1, h.2, d.1, r.1)),
                  )
              | inr h ↦
                  let r = all_hear (i + 1) S heard h.1 in (
                    C ∷ r.0,
                    subst (λ (b : Bool). MatchBool b ((C ≡ C) × AllHear defs sender l (i + 1) S heard r.0) (Heard defs sender l i C C S r.0 heard)) (sym e.0)
                        (inr ((h.0, refl), r.1)),
                  )
            ]
      ]

  -- ---- the hearers by the rule of places
  module _ (turn : ℕ) where
    abbrev one_more : ℕ → ℕ → List (ℕ × ℕ) → List (ℕ × ℕ)
    one_more i n rest = if n == 0 then rest else (i, turn % n) ∷ rest

    one_can : (i : ℕ) (C : Component) (S : System) (rest : List (ℕ × ℕ)) → CanHear defs sender l (i + 1) S rest →
        Can defs sender l i C S (one_more i (ins defs C l) rest)
    one_can i C S rest c =
        elim (eqb_tells (ins defs C l) 0) [
          | inl e ↦
              let is : rest ≡ one_more i (ins defs C l) rest = sym (ap (λ (b : Bool). if b then rest else (i, turn % ins defs C l) ∷ rest) e.0) in
              inr (e.1, subst (λ (xs : List (ℕ × ℕ)). CanHear defs sender l (i + 1) S xs) is c)
          | inr e ↦
              let some = e.1 in
              let is : one_more i (ins defs C l) rest ≡ (i, turn % ins defs C l) ∷ rest = ap (λ (b : Bool). if b then rest else (i, turn % ins defs C l) ∷ rest) e.0 in
              inl (turn % ins defs C l, rest, is, mod_below turn (ins defs C l) (omega arith), c)
        ]

    pub rule_can : (i : ℕ) (S : System) → CanHear defs sender l i S (hearers_from defs sender l turn i S)
    rule_can i [] = refl
    rule_can i (C ∷ S) =
        let rest = hearers_from defs sender l turn (i + 1) S in
        let more = one_more i (ins defs C l) rest in
        elim (eqb_tells i sender) [
          | inl e ↦
              subst (λ (b : Bool). MatchBool b (CanHear defs sender l (i + 1) S (if b then rest else more)) (Can defs sender l i C S (if b then rest else more))) (sym e.0)
              (rule_can (i + 1) S)
          | inr e ↦
              subst (λ (b : Bool). MatchBool b (CanHear defs sender l (i + 1) S (if b then rest else more)) (Can defs sender l i C S (if b then rest else more))) (sym e.0)
              (one_can i C S rest (rule_can (i + 1) S))
        ]

    rule_unlisted : (i : ℕ) (S : System) → place_in (hearers_from defs sender l turn (i + 1) S) i ≡ None
    rule_unlisted i S =
        let heard = hearers_from defs sender l turn (i + 1) S in
        let r = all_hear (i + 1) S heard (rule_can (i + 1) S) in
        unlisted sender (i + 1 + length S) (i + 1) i heard (omega arith) (heard_rise defs sender l (i + 1) (i + 1 + length S) S r.0 heard refl r.1)

    -- where the first component stands in the list
    abbrev at_first : Bool → Bool → ℕ → ℕ → List (ℕ × ℕ) → List (ℕ × ℕ)
    at_first own none i n rest = if own then rest else (if none then rest else (i, turn % n) ∷ rest)

    first_place : (own none : Bool) (i n p : ℕ) (rest : List (ℕ × ℕ)) → place_in rest i ≡ None → place_in (at_first own none i n rest) i ≡ Some p → p ≡ turn % n
    first_place true none i n p rest skip e = let no = sym skip ∙ e in cc
    first_place false true i n p rest skip e = let no = sym skip ∙ e in cc
    first_place false false i n p rest skip e = let is = sym (place_first (i, turn % n) rest i refl) ∙ e in cc

    later_place : (own none : Bool) (i n k : ℕ) (rest : List (ℕ × ℕ)) → i ≢ k → place_in (at_first own none i n rest) k ≡ place_in rest k
    later_place true none i n k rest ne = refl
    later_place false true i n k rest ne = refl
    later_place false false i n k rest ne = place_later (i, turn % n) rest k ne

    pub rule_placed : (i j n : ℕ) (S : System) (C : Component) (p : ℕ) → i + j ≡ n → slice_get S j ≡ Some C →
        place_in (hearers_from defs sender l turn i S) n ≡ Some p → p ≡ turn % ins defs C l
    rule_placed i j n [] C p at e f = cc
    rule_placed i zero n (A ∷ S) C p at e f =
        let same : A ≡ C = cc in
        let here : n ≡ i = omega arith in
        let rest = hearers_from defs sender l turn (i + 1) S in
        let g = subst (λ (k : ℕ). place_in (hearers_from defs sender l turn i (A ∷ S)) k ≡ Some p) here f in
        first_place (i == sender) (ins defs A l == 0) i (ins defs A l) p rest (rule_unlisted i S) g
        ∙ ap (λ (X : Component). turn % ins defs X l) same
    rule_placed i (suc j) n (A ∷ S) C p at e f =
        let rest = hearers_from defs sender l turn (i + 1) S in
        rule_placed (i + 1) j n S C p (omega arith) e
        (sym (later_place (i == sender) (ins defs A l == 0) i (ins defs A l) n rest (λ q. omega arith)) ∙ f)

    -- ---- no other list has these places
    abbrev Placed : ℕ → System → List (ℕ × ℕ) → Type 0
    Placed i S heard = (j n : ℕ) (C : Component) (p : ℕ) → i + j ≡ n → slice_get S j ≡ Some C → place_in heard n ≡ Some p → p ≡ turn % ins defs C l

    placed_on : (i : ℕ) (C : Component) (S : System) (heard : List (ℕ × ℕ)) → Placed i (C ∷ S) heard → Placed (i + 1) S heard
    placed_on i C S heard h j n D p at e f = h (suc j) n D p (omega arith) e f

    placed_more : (i q : ℕ) (C : Component) (S : System) (heard more : List (ℕ × ℕ)) → heard ≡ (i, q) ∷ more → Placed i (C ∷ S) heard → Placed (i + 1) S more
    placed_more i q C S heard more is h j n D p at e f =
        h (suc j) n D p (omega arith) e
        (ap (λ (xs : List (ℕ × ℕ)). place_in xs n) is ∙ place_later (i, q) more n (λ same. omega arith) ∙ f)

    rule_of_first : (own none : Bool) (i n : ℕ) (rest : List (ℕ × ℕ)) → own ≡ false → none ≡ false → at_first own none i n rest ≡ (i, turn % n) ∷ rest
    rule_of_first true none i n rest e f = cc
    rule_of_first false true i n rest e f = cc
    rule_of_first false false i n rest e f = refl

    skips_first : (own none : Bool) (i n : ℕ) (rest : List (ℕ × ℕ)) → (own ≡ true) ⊎ (none ≡ true) → at_first own none i n rest ≡ rest
    skips_first true none i n rest h = refl
    skips_first false true i n rest h = refl
    skips_first false false i n rest h = elim h [ inl e ↦ cc | inr e ↦ cc ]

    pub rule_only : (i : ℕ) (S : System) (heard : List (ℕ × ℕ)) → CanHear defs sender l i S heard → Placed i S heard → heard ≡ hearers_from defs sender l turn i S
    rule_only i [] heard c h = c
    rule_only i (C ∷ S) heard c h =
        let rest = hearers_from defs sender l turn (i + 1) S in
        let n = ins defs C l in
        elim (eqb_tells i sender) [
          | inl e ↦
              let on = subst (λ (b : Bool). MatchBool b (CanHear defs sender l (i + 1) S heard) (Can defs sender l i C S heard)) e.0 c in
              rule_only (i + 1) S heard on (placed_on i C S heard h)
              ∙ sym (skips_first (i == sender) (n == 0) i n rest (inl e.0))
          | inr e ↦
              elim (subst (λ (b : Bool). MatchBool b (CanHear defs sender l (i + 1) S heard) (Can defs sender l i C S heard)) e.0 c) [
                | inl r ↦
                    let listed : place_in heard i ≡ Some r.0 = ap (λ (xs : List (ℕ × ℕ)). place_in xs i) r.2 ∙ place_first (i, r.0) r.1 i refl in
                    let q = h 0 i C r.0 (omega arith) refl listed in
                    let lt = r.3 in
                    let some : (n == 0) ≡ false = ne_eqb n 0 (λ z. omega arith) in
                    let more = rule_only (i + 1) S r.1 r.4 (placed_more i r.0 C S heard r.1 r.2 h) in
                    r.2 ∙ (λ t. (i, q t) ∷ more t) ∙ sym (rule_of_first (i == sender) (n == 0) i n rest e.0 some)
                | inr r ↦
                    rule_only (i + 1) S heard r.1 (placed_on i C S heard h)
                    ∙ sym (skips_first (i == sender) (n == 0) i n rest (inr (eq-eqb n 0 r.0)))
              ]
        ]
