-- Steps and runs of bodies under the same definitions are those of the calculus.
use Rattle.std.proofs.Common.{◌≡◌, ◌∙◌, ℕ, ◌+◌, ◌<◌, ◌==◌, Bool, true, false, List, [], ◌∷◌, length, map, Option, Some, None}
use Rattle.std.proofs.Common.{MatchBool, if◌then◌else◌, refl, ap, sym, subst, slice_get, arith}
use Rattle.std.proofs.lemmas.List.{length-map}
use Rattle.abc_term.specs.Processes.{Definitions, Component, System}
use Rattle.abc_term.specs.Speaking.{Label, Speaks}
use Rattle.abc_term.specs.Hearing.{Hears}
use Rattle.abc_term.specs.Systems as systems
use Rattle.abc_term.proofs.ByNumber.{multicast_by_number}
use Rattle.abc_packet.specs.declared.choice.Choice.{Choice}
use Rattle.abc_moves.specs.declared.label.Label.{Label as HeldLabel}
use Rattle.abc_moves.specs.Labels.{label_of}
use Rattle.abc_body.specs.Multicasts.{place_in, AreHearers, EachMoves, StepAt, Step, AllRest, Runs}
use Rattle.abc_body.proofs.Resting.{AllRest-stays, AllRest-same}
use Rattle.abc_live_body.specs.Running.{RunningComponent}
use Rattle.abc_live_body.specs.AbcMeaning.{abc, AbcSpeaks, AbcHears}
use Rattle.abc_live_body.specs.Systems.{bodies_under, choice_of}
use Rattle.abc_live_body.specs.AbcLaws.{StepsAreTheCalculus, RunsAreTheCalculus}
use Rattle.abc_live_body.proofs.Found.{element_at}
use Rattle.abc_live_body.proofs.HeldLabels.{HeldAs, said_is_held}

-- Who is listed hears at the same place,
same_place : (heard : List (ℕ × ℕ)) (i : ℕ) → place_in heard i ≡ systems.place_in heard i
same_place [] i = refl
same_place (h ∷ heard) i = ap (λ (p : Option ℕ). if h.0 == i then Some h.1 else p) (same_place heard i)

-- and the same lists are lists of hearers.
hearers_there : (sender count least : ℕ) (heard : List (ℕ × ℕ)) →
    AreHearers sender count least heard → systems.AreHearers sender count least heard
hearers_there sender count least [] are = tt
hearers_there sender count least (h ∷ heard) are =
    (are.0, are.1, are.2, hearers_there sender count (h.0 + 1) heard are.3)

hearers_here : (sender count least : ℕ) (heard : List (ℕ × ℕ)) →
    systems.AreHearers sender count least heard → AreHearers sender count least heard
hearers_here sender count least [] are = tt
hearers_here sender count least (h ∷ heard) are =
    (are.0, are.1, are.2, hearers_here sender count (h.0 + 1) heard are.3)

module _ (defs : Definitions) where
  abbrev body : Component → RunningComponent
  body C = record { definitions = defs; component = C }

  -- ---- a multicast, body by body
  module _ (sender place : ℕ) (heard : List (ℕ × ℕ)) (l : HeldLabel) where
    one_there : (speaks : Bool) (i : ℕ) (C : Component) (b : RunningComponent) →
        MatchBool speaks (AbcSpeaks (body C) place l b) (AbcHears (body C) l (place_in heard i) b) →
        (b.definitions ≡ defs)
        × MatchBool speaks (Speaks defs C place (label_of l) b.component)
        (Hears defs C (label_of l) (systems.place_in heard i) b.component)
    one_there true i C b h = (h.1, h.0)
    one_there false i C b h =
        (h.1, subst (λ (p : Option ℕ). Hears defs C (label_of l) p b.component) (same_place heard i) h.0)

    one_here : (speaks : Bool) (i : ℕ) (C C' : Component) →
        MatchBool speaks (Speaks defs C place (label_of l) C') (Hears defs C (label_of l) (systems.place_in heard i) C') →
        MatchBool speaks (AbcSpeaks (body C) place l (body C')) (AbcHears (body C) l (place_in heard i) (body C'))
    one_here true i C C' h = (h, refl)
    one_here false i C C' h =
        (subst (λ (p : Option ℕ). Hears defs C (label_of l) p C') (sym (same_place heard i)) h, refl)

    each_there : (i : ℕ) (S : System) (B : List RunningComponent) →
        EachMoves abc sender place heard l i (bodies_under defs S) B →
        (T : System) × (B ≡ bodies_under defs T) × systems.EachMoves defs sender place heard (label_of l) i S T
    each_there i [] [] h = ([], refl, tt)
    each_there i [] (b ∷ B) h = elim h [ ]
    each_there i (C ∷ S) [] h = elim h [ ]
    each_there i (C ∷ S) (b ∷ B) h =
        let first = one_there (i == sender) i C b h.0 in
        let rest = each_there (i + 1) S B h.1 in (
          b.component ∷ rest.0,
          (λ t. record { definitions = first.0 t; component = b.component } ∷ rest.1 t),
          (first.1, rest.2),
        )

    each_here : (i : ℕ) (S T : System) → systems.EachMoves defs sender place heard (label_of l) i S T →
        EachMoves abc sender place heard l i (bodies_under defs S) (bodies_under defs T)
    each_here i [] [] h = tt
    each_here i [] (D ∷ T) h = elim h [ ]
    each_here i (C ∷ S) [] h = elim h [ ]
    each_here i (C ∷ S) (D ∷ T) h = (one_here (i == sender) i C D h.0, each_here (i + 1) S T h.1)

  as_many : (S : System) → length (bodies_under defs S) ≡ length S
  as_many S = length-map S body

  -- what is said in a multicast is the label of some value
  label_is_held : (S : System) (sender place : ℕ) (heard : List (ℕ × ℕ)) (l : Label) (T : System) →
      systems.Multicasts defs S sender place heard l T → HeldAs l
  label_is_held S sender place heard l T m =
      let by = (multicast_by_number defs S sender place heard l T).0 m.moves in
      let before = element_at S sender m.exists in
      let after = element_at T sender (subst (λ (n : ℕ). sender < n) (sym by.as_many) m.exists) in
      said_is_held defs before.0 place l after.0 (by.speaks before.0 after.0 before.1 after.1)

  -- ---- steps
  step_there : (S : System) (sender : ℕ) (place : Option ℕ) (heard : List (ℕ × ℕ)) (B : List RunningComponent) →
      StepAt abc (bodies_under defs S) sender place heard B →
      (T : System) × (B ≡ bodies_under defs T) × systems.StepAt defs S sender place heard T
  step_there S sender None heard B h = (S, h.2, (subst (λ (n : ℕ). sender < n) (as_many S) h.0, h.1, refl))
  step_there S sender (Some place) heard B h =
      let r = each_there sender place heard h.0 0 S B h.1.moves in (
        r.0,
        r.1,
        (
          label_of h.0,
          record {
            exists = subst (λ (n : ℕ). sender < n) (as_many S) h.1.exists;
            hearers = hearers_there sender (length S) 0 heard (subst (λ (n : ℕ). AreHearers sender n 0 heard) (as_many S) h.1.hearers);
            moves = r.2;
          },
        ),
      )

  step_here : (S : System) (sender : ℕ) (place : Option ℕ) (heard : List (ℕ × ℕ)) (T : System) →
      systems.StepAt defs S sender place heard T →
      StepAt abc (bodies_under defs S) sender place heard (bodies_under defs T)
  step_here S sender None heard T h =
      (subst (λ (n : ℕ). sender < n) (sym (as_many S)) h.0, h.1, ap (bodies_under defs) h.2)
  step_here S sender (Some place) heard T h =
      let held = label_is_held S sender place heard h.0 T h.1 in
      let moves = subst (λ (l : Label). systems.EachMoves defs sender place heard l 0 S T) (sym held.stands) h.1.moves in (
        held.value,
        record {
          exists = subst (λ (n : ℕ). sender < n) (sym (as_many S)) h.1.exists;
          hearers = subst (λ (n : ℕ). AreHearers sender n 0 heard) (sym (as_many S)) (hearers_here sender (length S) 0 heard h.1.hearers);
          moves = each_here sender place heard held.value 0 S T moves;
        },
      )

  -- ---- runs
  runs_there : (S : System) (cs : List Choice) (B : List RunningComponent) → Runs abc (bodies_under defs S) cs B →
      (T : System) × (B ≡ bodies_under defs T) × systems.Runs defs S (map choice_of cs) T
  runs_there S [] B h = (S, AllRest-stays (bodies_under defs S) B h, refl)
  runs_there S (c ∷ cs) B h =
      let stays = AllRest-stays (bodies_under defs S) h.0 h.2 in
      let step = subst (λ (R : List RunningComponent). Step abc R c h.1) stays h.3 in
      let first = step_there S c.sender c.place c.heard h.1 step in
      let rest = runs_there first.0 cs B (subst (λ (R : List RunningComponent). Runs abc R cs B) first.1 h.4) in
      (rest.0, rest.1, (first.0, first.2, rest.2))

  runs_here : (S : System) (cs : List Choice) (T : System) → systems.Runs defs S (map choice_of cs) T →
      Runs abc (bodies_under defs S) cs (bodies_under defs T)
  runs_here S [] T h =
      subst (λ (R : System). AllRest (bodies_under defs S) (bodies_under defs R)) (sym h) (AllRest-same (bodies_under defs S))
  runs_here S (c ∷ cs) T h = (
    bodies_under defs S,
    bodies_under defs h.0,
    AllRest-same (bodies_under defs S),
    step_here S c.sender c.place c.heard h.0 h.1,
    runs_here h.0 cs T h.2,
  )

pub steps_are_the_calculus : StepsAreTheCalculus
steps_are_the_calculus defs S c B = (
  λ h. step_there defs S c.sender c.place c.heard B h,
  λ h. subst (λ (R : List RunningComponent). Step abc (bodies_under defs S) c R) (sym h.1)
      (step_here defs S c.sender c.place c.heard h.0 h.2),
)

pub runs_are_the_calculus : RunsAreTheCalculus
runs_are_the_calculus defs S cs B = (
  λ h. runs_there defs S cs B h,
  λ h. subst (λ (R : List RunningComponent). Runs abc (bodies_under defs S) cs R) (sym h.1) (runs_here defs S cs h.0 h.2),
)
