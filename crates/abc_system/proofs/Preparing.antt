-- Components are made ready to hear, one after another from the left.
use Rattle.std.proofs.Common.{◌≡◌, ◌⊎◌, ◌∙◌, inl, inr, ℕ, ◌+◌, ◌<◌, Bool, List, [], ◌∷◌, ◌++◌, length, map, take, drop, All, Some, None, MatchBool, get_or, set, append_assoc, ◌≤◌, refl, ap, sym, subst, arith}
use Rattle.std.proofs.Math.Seq.{map-set_same}
use Rattle.std.proofs.lemmas.List.{drop_more, take_more_set, drop-set-lt, take_all, drop_all, map-append, append-nil}
use Rattle.std.proofs.lemmas.List.Elements.{All-append, All-cons, All-nil}
use Rattle.std.proofs.lemmas.Bool.Decides.{eqb_tells}
use Rattle.abc_term.specs.Processes.{Definitions, Component, System}
use Rattle.abc_term.specs.Speaking.{Label}
use Rattle.abc_term.specs.Hearing.{Hears, ins}
use Rattle.abc_steps.specs.Hearers.{CanHear, AllHear}
use Rattle.abc_steps.proofs.Hearers.{Heard}
use Rattle.abc_system.specs.declared.member.Member.{Member}
use Rattle.abc_system.specs.Members.{live_of, now_in, then_in, program_of, IsReady, IsNotListed, CanTakePart, TakesPart}
use Rattle.abc_system.proofs.Changing.{item_stays, rest_stays}
use Rattle.abc_system.proofs.Hearing.{sender_hears, listed_hears, unlisted_hears}

module _ (defs : Definitions) (sender : ℕ) (l : Label) (i : ℕ) where
  abbrev can_take : Bool → Component → List (ℕ × ℕ) → Type 0
  can_take b C heard =
      MatchBool b (Unit {0})
      (((place : ℕ) (rest : List (ℕ × ℕ)) → heard ≡ (i, place) ∷ rest → place < ins defs C l)
      × (IsNotListed i heard → ins defs C l ≡ 0))

  -- where all can hear, the first can take part
  pub can_part : (C : Component) (S : System) (heard : List (ℕ × ℕ)) → CanHear defs sender l i (C ∷ S) heard →
      CanTakePart defs sender l i C heard
  can_part C S heard c =
      elim (eqb_tells i sender) [
        | inl e ↦ subst (λ (b : Bool). can_take b C heard) (sym e.0) tt
        | inr e ↦
            subst (λ (b : Bool). can_take b C heard) (sym e.0) (
              λ place rest is. ((listed_hears defs sender l i place C S heard rest e.1 is).0 c).0,
              λ none. ((unlisted_hears defs sender l i C S heard e.1 none).0 c).0,
            )
      ]

  abbrev takes : Bool → Component → List (ℕ × ℕ) → List (ℕ × ℕ) → Component → Type 0
  takes b C heard rest D =
      MatchBool b ((D ≡ C) × (rest ≡ heard))
      (((place : ℕ) × (heard ≡ (i, place) ∷ rest) × Hears defs C l (Some place) D)
      ⊎ (IsNotListed i heard × (rest ≡ heard) × Hears defs C l None D))

  -- the others can still hear
  pub can_rest : (C D : Component) (S : System) (heard rest : List (ℕ × ℕ)) → CanHear defs sender l i (C ∷ S) heard →
      TakesPart defs sender l i C heard rest D → CanHear defs sender l (i + 1) S rest
  can_rest C D S heard rest c t =
      elim (eqb_tells i sender) [
        | inl e ↦
            let took = subst (λ (b : Bool). takes b C heard rest D) e.0 t in
            subst (λ (xs : List (ℕ × ℕ)). CanHear defs sender l (i + 1) S xs) (sym took.1) ((sender_hears defs sender l i C S heard e.1).0 c)
        | inr e ↦
            elim (subst (λ (b : Bool). takes b C heard rest D) e.0 t) [
              | inl h ↦ ((listed_hears defs sender l i h.0 C S heard rest e.1 h.1).0 c).1
              | inr h ↦
                  subst (λ (xs : List (ℕ × ℕ)). CanHear defs sender l (i + 1) S xs) (sym h.1)
                  ((unlisted_hears defs sender l i C S heard e.1 h.0).0 c).1
            ]
      ]

  abbrev hear_if : Bool → Component → Component → System → System → List (ℕ × ℕ) → Type 0
  hear_if b C D S T heard = MatchBool b ((D ≡ C) × AllHear defs sender l (i + 1) S heard T) (Heard defs sender l i C D S T heard)

  -- and where they do, all hear
  pub hear_part : (C D : Component) (S T : System) (heard rest : List (ℕ × ℕ)) → TakesPart defs sender l i C heard rest D →
      AllHear defs sender l (i + 1) S rest T → AllHear defs sender l i (C ∷ S) heard (D ∷ T)
  hear_part C D S T heard rest t a =
      elim (eqb_tells i sender) [
        | inl e ↦
            let took = subst (λ (b : Bool). takes b C heard rest D) e.0 t in
            subst (λ (b : Bool). hear_if b C D S T heard) (sym e.0)
            (took.0, subst (λ (xs : List (ℕ × ℕ)). AllHear defs sender l (i + 1) S xs T) took.1 a)
        | inr e ↦
            subst (λ (b : Bool). hear_if b C D S T heard) (sym e.0)
            (elim (subst (λ (b : Bool). takes b C heard rest D) e.0 t) [
              | inl h ↦ inl (h.0, rest, h.1, h.2, a)
              | inr h ↦ inr (h.2, subst (λ (xs : List (ℕ × ℕ)). AllHear defs sender l (i + 1) S xs T) h.1 a)
            ])
      ]

module _ (defs : Definitions) (sender : ℕ) (l : Label) (heard : List (ℕ × ℕ)) (before : List Member) where
  -- The first k components have been made ready, and `rest` is left of the hearers.
  pub record PreparedSoFar (k : ℕ) (now : List Member) (rest : List (ℕ × ℕ)) : Type 0 where
    pub lives : map live_of now ≡ map live_of before
    pub seen : map now_in now ≡ map now_in before
    pub program : map program_of now ≡ map program_of before
    pub stays : drop k now ≡ drop k before
    pub can : CanHear defs sender l k (map now_in (drop k before)) rest
    pub hear :
        (T : System) → AllHear defs sender l k (map now_in (drop k before)) rest T →
        AllHear defs sender l 0 (map now_in before) heard (map then_in (take k now) ++ T)
    pub ready : All IsReady (take k now)

  -- none has been yet
  pub none_prepared : CanHear defs sender l 0 (map now_in before) heard → PreparedSoFar 0 before heard
  none_prepared c = record { lives = refl; seen = refl; program = refl; stays = refl; can = c; hear = λ T a. a; ready = λ k d lt. absurd (omega arith) }

  -- the next one and those behind it
  next_of : (k : ℕ) (now : List Member) (rest : List (ℕ × ℕ)) (d : Member) → k < length now → k < length before →
      PreparedSoFar k now rest → map now_in (drop k before) ≡ now_in (get_or now k d) ∷ map now_in (drop (k + 1) before)
  next_of k now rest d here there so =
      ap (map now_in) (drop_more before k d there)
      ∙ ap (λ (m : Member). now_in m ∷ map now_in (drop (k + 1) before)) (sym (item_stays k before now d here there so.stays))

  -- can take part
  pub next_can : (k : ℕ) (now : List Member) (rest : List (ℕ × ℕ)) (d : Member) → k < length now → k < length before →
      PreparedSoFar k now rest → CanTakePart defs sender l k (now_in (get_or now k d)) rest
  next_can k now rest d here there so =
      can_part defs sender l k (now_in (get_or now k d)) (map now_in (drop (k + 1) before)) rest
      (subst (λ (S : System). CanHear defs sender l k S rest) (next_of k now rest d here there so) so.can)

  -- one more
  pub one_more_prepared : (k : ℕ) (now : List Member) (rest more : List (ℕ × ℕ)) (y d : Member) →
      k < length now → k < length before → PreparedSoFar k now rest →
      live_of y ≡ live_of (get_or now k d) → now_in y ≡ now_in (get_or now k d) → program_of y ≡ program_of (get_or now k d) → IsReady y →
      TakesPart defs sender l k (now_in (get_or now k d)) rest more (then_in y) → PreparedSoFar (k + 1) (set now k y) more
  one_more_prepared k now rest more y d here there so live same under is part =
      let split = next_of k now rest d here there so in
      let lt : k < k + 1 = omega arith in
      record {
        lives = map-set_same live_of now k y d live ∙ so.lives;
        seen = map-set_same now_in now k y d same ∙ so.seen;
        program = map-set_same program_of now k y d under ∙ so.program;
        stays = drop-set-lt (k + 1) now k y lt ∙ rest_stays k before now d here there so.stays;
        can =
            can_rest defs sender l k (now_in (get_or now k d)) (then_in y) (map now_in (drop (k + 1) before)) rest more
            (subst (λ (S : System). CanHear defs sender l k S rest) split so.can) part;
        hear = λ T a.
            subst (λ (X : System). AllHear defs sender l 0 (map now_in before) heard X)
            (sym (append_assoc (map then_in (take k now)) (then_in y ∷ []) T)
            ∙ ap (λ (X : System). X ++ T) (sym (map-append then_in (take k now) (y ∷ [])) ∙ ap (map then_in) (sym (take_more_set now k y here))))
            (so.hear (then_in y ∷ T)
            (subst (λ (S : System). AllHear defs sender l k S rest (then_in y ∷ T)) (sym split)
            (hear_part defs sender l k (now_in (get_or now k d)) (then_in y) (map now_in (drop (k + 1) before)) T rest more part a)));
        ready =
            subst (All IsReady) (sym (take_more_set now k y here))
            (All-append IsReady (take k now) (y ∷ []) so.ready (All-cons IsReady y [] is (All-nil IsReady)));
      }

  -- all
  pub all_prepared : (k : ℕ) (now : List Member) (rest : List (ℕ × ℕ)) → length now ≤ k → length before ≤ k → PreparedSoFar k now rest →
      AllHear defs sender l 0 (map now_in before) heard (map then_in now) × All IsReady now
  all_prepared k now rest le most so =
      let none : drop k before ≡ [] = drop_all k before most in
      let all : take k now ≡ now = take_all k now le in
      let left : rest ≡ [] = subst (λ (ms : List Member). CanHear defs sender l k (map now_in ms) rest) none so.can in (
        subst (λ (X : System). AllHear defs sender l 0 (map now_in before) heard X)
            (append-nil (map then_in (take k now)) ∙ ap (map then_in) all)
            (so.hear [] (subst (λ (ms : List Member). AllHear defs sender l k (map now_in ms) rest []) (sym none) left)),
        subst (All IsReady) all so.ready,
      )
