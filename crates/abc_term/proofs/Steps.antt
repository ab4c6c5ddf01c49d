-- Steps are determined by their choices, and no output is refused.
use Rattle.std.proofs.Common.{◌≡◌, ◌≢◌, inl, inr, ℕ, suc, ◌+◌, ◌==◌, ◌<◌, ◌≤◌, Bool, true, false, if◌then◌else◌, List, [], ◌∷◌, ◌++◌, length, All, Option, Some, None, MatchBool, refl, sym, ap, subst, ◌∙◌, arith, length-append}
use Rattle.std.proofs.lemmas.Bool.{eq-eqb, ne_eqb}
use Rattle.std.proofs.lemmas.Bool.Decides.{eqb_tells}
use Rattle.abc_term.specs.Processes.{Definitions, Component, System}
use Rattle.abc_term.specs.Speaking.{Label, Speaks}
use Rattle.abc_term.specs.Hearing.{Hears, ins}
use Rattle.abc_term.specs.Systems.{place_in, AreHearers, EachMoves, StepAt, Runs}
use Rattle.abc_term.specs.Laws.{MulticastIsDetermined, StepIsDetermined, RunIsDetermined, OutputIsNeverRefused, OutputNeedsNoReceiver}
use Rattle.abc_term.proofs.SpeakingPlaces.{speaking_is_determined}
use Rattle.abc_term.proofs.HearingPlaces.{hearing_is_determined, hearing_exists}

-- ---- the label is the sender's, and with it each next component is determined
module _ (defs : Definitions) (sender place : ℕ) (heard : List (ℕ × ℕ)) where
  one_label : (l m : Label) (S T U : System) (i : ℕ) → i ≤ sender → sender < i + length S → EachMoves defs sender place heard l i S T → EachMoves defs sender place heard m i S U → l ≡ m
  one_label l m [] T U i low high s t = absurd (omega arith)
  one_label l m (C ∷ S) [] U i low high s t = elim s [ ]
  one_label l m (C ∷ S) (D ∷ T) [] i low high s t = elim t [ ]
  one_label l m (C ∷ S) (D ∷ T) (E ∷ U) i low high s t =
      elim (eqb_tells i sender) [
        | inl e ↦
            let a = subst (λ (b : Bool). MatchBool b (Speaks defs C place l D) (Hears defs C l (place_in heard i) D)) e.0 s.0 in
            let b = subst (λ (b : Bool). MatchBool b (Speaks defs C place m E) (Hears defs C m (place_in heard i) E)) e.0 t.0 in
            (speaking_is_determined defs C place l m D E a b).0
        | inr e ↦ let ne = e.1 in one_label l m S T U (i + 1) (omega arith) (omega arith) s.1 t.1
      ]

  one_next : (l : Label) (b : Bool) (C D E : Component) (at : Option ℕ) → MatchBool b (Speaks defs C place l D) (Hears defs C l at D) → MatchBool b (Speaks defs C place l E) (Hears defs C l at E) → D ≡ E
  one_next l true C D E at s t = (speaking_is_determined defs C place l l D E s t).1
  one_next l false C D E at s t = hearing_is_determined defs C l at D E s t

  one_system : (l : Label) (S T U : System) (i : ℕ) → EachMoves defs sender place heard l i S T → EachMoves defs sender place heard l i S U → T ≡ U
  one_system l [] [] [] i s t = refl
  one_system l [] [] (E ∷ U) i s t = elim t [ ]
  one_system l [] (D ∷ T) U i s t = elim s [ ]
  one_system l (C ∷ S) [] U i s t = elim s [ ]
  one_system l (C ∷ S) (D ∷ T) [] i s t = elim t [ ]
  one_system l (C ∷ S) (D ∷ T) (E ∷ U) i s t =
      let first = one_next l (i == sender) C D E (place_in heard i) s.0 t.0 in
      let rest = one_system l S T U (i + 1) s.1 t.1 in
      λ j. first j ∷ rest j

pub multicast_is_determined : MulticastIsDetermined
multicast_is_determined defs S sender place heard l m T U s t =
    let lt = s.exists in
    let same = one_label defs sender place heard l m S T U 0 (omega arith) (omega arith) s.moves t.moves in
    let there = subst (λ (n : Label). EachMoves defs sender place heard n 0 S U) (sym same) t.moves in
    (same, one_system defs sender place heard l S T U 0 s.moves there)

step_at_is_determined : (defs : Definitions) (S : System) (sender : ℕ) (at : Option ℕ) (heard : List (ℕ × ℕ)) (T U : System) → StepAt defs S sender at heard T → StepAt defs S sender at heard U → T ≡ U
step_at_is_determined defs S sender None heard T U s t = s.2 ∙ sym t.2
step_at_is_determined defs S sender (Some place) heard T U s t = (multicast_is_determined defs S sender place heard s.0 t.0 T U s.1 t.1).1

pub step_is_determined : StepIsDetermined
step_is_determined defs S c T U s t = step_at_is_determined defs S c.sender c.place c.heard T U s t

pub run_is_determined : RunIsDetermined
run_is_determined defs S [] T U s t = s ∙ sym t
run_is_determined defs S (c ∷ cs) T U s t =
    let same : t.0 ≡ s.0 = step_is_determined defs S c t.0 s.0 t.1 s.1 in
    run_is_determined defs s.0 cs T U s.2 (subst (λ (M : System). Runs defs M cs U) same t.2)

-- ---- a component that is listed at the front is not looked for behind it
module _ (defs : Definitions) (sender place : ℕ) (l : Label) (h : ℕ × ℕ) where
  past_first : (heard : List (ℕ × ℕ)) (S T : System) (i : ℕ) → h.0 < i → EachMoves defs sender place heard l i S T → EachMoves defs sender place (h ∷ heard) l i S T
  past_first heard [] [] i lt s = tt
  past_first heard [] (D ∷ T) i lt s = elim s [ ]
  past_first heard (C ∷ S) [] i lt s = elim s [ ]
  past_first heard (C ∷ S) (D ∷ T) i lt s =
      let ne : (h.0 == i) ≡ false = ne_eqb h.0 i (λ e. omega arith) in
      let skip : place_in heard i ≡ place_in (h ∷ heard) i = ap (λ b. if b then Some h.1 else place_in heard i) (sym ne) in
      (subst (λ (at : Option ℕ). MatchBool (i == sender) (Speaks defs C place l D) (Hears defs C l at D)) skip s.0, past_first heard S T (i + 1) (omega arith) s.1)

unlisted : (sender count low i : ℕ) (heard : List (ℕ × ℕ)) → i < low → AreHearers sender count low heard → place_in heard i ≡ None
unlisted sender count low i [] lt a = refl
unlisted sender count low i (h ∷ heard) lt a =
    let le = a.0 in
    let ne : (h.0 == i) ≡ false = ne_eqb h.0 i (λ e. omega arith) in
    ap (λ b. if b then Some h.1 else place_in heard i) ne ∙ unlisted sender count (h.0 + 1) i heard (omega arith) a.3

later : (sender count low high : ℕ) (heard : List (ℕ × ℕ)) → low ≤ high → AreHearers sender count high heard → AreHearers sender count low heard
later sender count low high [] le a = tt
later sender count low high (h ∷ heard) le a = let b = a.0 in let c : low ≤ h.0 = omega arith in (c, a.1, a.2, a.3)

-- ---- every other component hears in some way
module _ (defs : Definitions) (sender place : ℕ) (l : Label) (count : ℕ) where
  abbrev Somehow : ℕ → System → Type 0
  Somehow i S = (heard : List (ℕ × ℕ)) × (T : System) × AreHearers sender count i heard × EachMoves defs sender place heard l i S T

  -- the component in front of those that move hears too
  also_hears : (i : ℕ) (C : Component) (S : System) → i ≢ sender → i < count → (at : Option ℕ) (D : Component) → Hears defs C l at D → Somehow (i + 1) S → Somehow i (C ∷ S)
  also_hears i C S ne lt None D h r =
      let skip : None ≡ place_in r.0 i = sym (unlisted sender count (i + 1) i r.0 (omega arith) r.2) in
      let first : Hears defs C l (place_in r.0 i) D = subst (λ (at : Option ℕ). Hears defs C l at D) skip h in
      let other : false ≡ (i == sender) = sym (ne_eqb i sender ne) in (
        r.0,
        D ∷ r.1,
        later sender count i (i + 1) r.0 (omega arith) r.2,
        (subst (λ (b : Bool). MatchBool b (Speaks defs C place l D) (Hears defs C l (place_in r.0 i) D)) other first, r.3),
      )
  also_hears i C S ne lt (Some k) D h r =
      let listed : ℕ × ℕ = (i, k) in
      let is : true ≡ (i == i) = sym (eq-eqb i i refl) in
      let found : Some k ≡ place_in (listed ∷ r.0) i = ap (λ b. if b then Some k else place_in r.0 i) is in
      let first : Hears defs C l (place_in (listed ∷ r.0) i) D = subst (λ (at : Option ℕ). Hears defs C l at D) found h in
      let other : false ≡ (i == sender) = sym (ne_eqb i sender ne) in
      let le : i ≤ i = omega arith in (
        listed ∷ r.0,
        D ∷ r.1,
        (le, lt, ne, r.2),
        (
          subst (λ (b : Bool). MatchBool b (Speaks defs C place l D) (Hears defs C l (place_in (listed ∷ r.0) i) D)) other first,
          past_first defs sender place l listed r.0 S r.1 (i + 1) (omega arith) r.3,
        ),
      )

  behind : (S : System) (i : ℕ) → sender < i → i + length S ≤ count → Somehow i S
  behind [] i past fits = ([], [], tt, tt)
  behind (C ∷ S) i past fits =
      let h = hearing_exists defs C l in
      let ne : i ≢ sender = λ e. omega arith in
      also_hears i C S ne (omega arith) h.0 h.1 h.2 (behind S (i + 1) (omega arith) (omega arith))

  around : (before : System) (C : Component) (after : System) (C' : Component) (i : ℕ) → i + length before ≡ sender → sender + 1 + length after ≤ count → Speaks defs C place l C' → Somehow i (before ++ C ∷ after)
  around [] C after C' i at fits s =
      let e : i ≡ sender = omega arith in
      let r = behind after (i + 1) (omega arith) (omega arith) in
      let own : true ≡ (i == sender) = sym (eq-eqb i sender e) in (
        r.0,
        C' ∷ r.1,
        later sender count i (i + 1) r.0 (omega arith) r.2,
        (subst (λ (b : Bool). MatchBool b (Speaks defs C place l C') (Hears defs C l (place_in r.0 i) C')) own s, r.3),
      )
  around (B ∷ before) C after C' i at fits s =
      let h = hearing_exists defs B l in
      let ne : i ≢ sender = λ e. omega arith in
      also_hears i B (before ++ C ∷ after) ne (omega arith) h.0 h.1 h.2 (around before C after C' (i + 1) (omega arith) fits s)

pub output_is_never_refused : OutputIsNeverRefused
output_is_never_refused defs before C after place l C' s =
    let n = length-append before (C ∷ after) in
    let r = around defs (length before) place l (length (before ++ C ∷ after)) before C after C' 0 (omega arith) (omega arith) s in
    (r.0, r.1, record { exists = omega arith; hearers = r.2; moves = r.3 })

-- ---- nobody hears
module _ (defs : Definitions) (sender place : ℕ) (l : Label) where
  deaf_first : (C : Component) (S : System) → All (λ D. ins defs D l ≡ 0) (C ∷ S) → ins defs C l ≡ 0
  deaf_first C S deaf = deaf 0 C (omega arith)

  deaf_rest : (C : Component) (S : System) → All (λ D. ins defs D l ≡ 0) (C ∷ S) → All (λ D. ins defs D l ≡ 0) S
  deaf_rest C S deaf = λ k d lt. deaf (suc k) d (omega arith)

  all_stay : (S : System) (i : ℕ) → sender < i → All (λ D. ins defs D l ≡ 0) S → EachMoves defs sender place [] l i S S
  all_stay [] i past deaf = tt
  all_stay (C ∷ S) i past deaf =
      let other : false ≡ (i == sender) = sym (ne_eqb i sender (λ e. omega arith)) in
      (subst (λ (b : Bool). MatchBool b (Speaks defs C place l C) (Hears defs C l None C)) other (deaf_first C S deaf, refl), all_stay S (i + 1) (omega arith) (deaf_rest C S deaf))

  one_moves : (before : System) (C : Component) (after : System) (C' : Component) (i : ℕ) → i + length before ≡ sender → Speaks defs C place l C' → All (λ D. ins defs D l ≡ 0) before → All (λ D. ins defs D l ≡ 0) after → EachMoves defs sender place [] l i (before ++ C ∷ after) (before ++ C' ∷ after)
  one_moves [] C after C' i at s b a =
      let own : true ≡ (i == sender) = sym (eq-eqb i sender (omega arith)) in
      (subst (λ (b : Bool). MatchBool b (Speaks defs C place l C') (Hears defs C l None C')) own s, all_stay after (i + 1) (omega arith) a)
  one_moves (B ∷ before) C after C' i at s b a =
      let other : false ≡ (i == sender) = sym (ne_eqb i sender (λ e. omega arith)) in
      (subst (λ (b : Bool). MatchBool b (Speaks defs B place l B) (Hears defs B l None B)) other (deaf_first B before b, refl), one_moves before C after C' (i + 1) (omega arith) s (deaf_rest B before b) a)

pub output_needs_no_receiver : OutputNeedsNoReceiver
output_needs_no_receiver defs before C after place l C' s b a =
    let n = length-append before (C ∷ after) in
    record { exists = omega arith; hearers = tt; moves = one_moves defs (length before) place l before C after C' 0 (omega arith) s b a }
