-- One step by the rule of places: it exists wherever a component can speak, and there is no other.
use Rattle.std.proofs.Common.{◌≡◌, ◌∙◌, ◌⊎◌, inl, inr, ℕ, zero, suc, ◌+◌, ◌%◌, ◌<◌, Bool, List, [], ◌∷◌, length, Option, Some, refl, ap, sym, subst, slice_get, if◌then◌else◌, arith}
use Rattle.std.specs.Prelude.{slice_set}
use Rattle.std.proofs.lemmas.Bool.{eq-eqb}
use Rattle.std.proofs.lemmas.Bool.Decides.{eqb_tells}
use Rattle.std.proofs.lemmas.List.Elements.{All-nil, All-cons, All-head, All-tail}
use Rattle.std.proofs.lemmas.Nat.{mod_below}
use Rattle.abc_term.specs.Processes.{Definitions, Component, System}
use Rattle.abc_term.specs.Speaking.{Label, Speaks, outs}
use Rattle.abc_term.specs.Systems.{Choice, Multicasts, IsSilent}
use Rattle.abc_term.proofs.ByNumber.{multicast_by_number}
use Rattle.abc_term.proofs.SpeakingPlaces.{speaking_has_its_places, speaking_is_determined}
use Rattle.abc_term.proofs.Steps.{multicast_is_determined}
use Rattle.abc_steps.specs.Hearers.{hearers_from}
use Rattle.abc_steps.specs.Turns.{speakers, speakers_from, IsTurn, SaysStep}
use Rattle.abc_steps.proofs.Hearers.{could_hear, multicast_of, all_hear, rule_can, rule_placed, rule_only}

-- ---- lists
pub item_at : {X : Type 0} (xs : List X) (k : ℕ) → k < length xs → (x : X) × (slice_get xs k ≡ Some x)
item_at [] k lt = absurd (omega arith)
item_at (x ∷ xs) zero lt = (x, refl)
item_at (x ∷ xs) (suc k) lt = item_at xs k (omega arith)

pub one_item : {X : Type 0} (o : Option X) (x y : X) → o ≡ Some x → o ≡ Some y → x ≡ y
one_item o x y e f = cc

no_items : {X : Type 0} (xs : List X) → length xs ≡ 0 → xs ≡ []
no_items [] e = refl
no_items (x ∷ xs) e = absurd (omega arith)

zero_add : (j n : ℕ) → 0 + j ≡ n → j ≡ n
zero_add j n e = omega arith

-- ---- who can speak
module _ (defs : Definitions) where
  abbrev first_if : Bool → ℕ → List ℕ → List ℕ
  first_if none i rest = if none then rest else i ∷ rest

  -- one that can speak is a component with an output
  pub record Speaker (i : ℕ) (S : System) (s : ℕ) : Type 0 where
    pub number : ℕ
    pub component : Component
    pub counted : i + number ≡ s
    pub at : slice_get S number ≡ Some component
    pub speaks : 0 < outs defs component

  one_later : (i s : ℕ) (C : Component) (S : System) → Speaker (i + 1) S s → Speaker i (C ∷ S) s
  one_later i s C S r = let c = r.counted in record {
    number = suc r.number;
    component = r.component;
    counted = omega arith;
    at = r.at;
    speaks = r.speaks;
  }

  first_or_later : (i : ℕ) (S : System) (C : Component) (s j : ℕ) → 0 < outs defs C →
      ((k : ℕ) → slice_get (speakers_from (i + 1) defs S) k ≡ Some s → Speaker (i + 1) S s) →
      slice_get (i ∷ speakers_from (i + 1) defs S) j ≡ Some s → Speaker i (C ∷ S) s
  first_or_later i S C s zero some more e =
      let same : i ≡ s = cc in record { number = 0; component = C; counted = omega arith; at = refl; speaks = some }
  first_or_later i S C s (suc j) some more e = one_later i s C S (more j e)

  speaker_in : (i : ℕ) (S : System) (j s : ℕ) → slice_get (speakers_from i defs S) j ≡ Some s → Speaker i S s
  speaker_in i [] j s e = cc
  speaker_in i (C ∷ S) j s e =
      let rest = speakers_from (i + 1) defs S in
      elim (eqb_tells (outs defs C) 0) [
        | inl z ↦ one_later i s C S (speaker_in (i + 1) S j s (subst (λ (b : Bool). slice_get (first_if b i rest) j ≡ Some s) z.0 e))
        | inr z ↦
            let n = outs defs C in let ne = z.1 in
            first_or_later i S C s j (omega arith) (λ k f. speaker_in (i + 1) S k s f)
            (subst (λ (b : Bool). slice_get (first_if b i rest) j ≡ Some s) z.0 e)
      ]

  none_speaks : (i : ℕ) (S : System) → speakers_from i defs S ≡ [] → IsSilent defs S
  none_speaks i [] e = All-nil (λ C. outs defs C ≡ 0)
  none_speaks i (C ∷ S) e =
      let rest = speakers_from (i + 1) defs S in
      elim (eqb_tells (outs defs C) 0) [
        | inl z ↦ All-cons (λ D. outs defs D ≡ 0) C S z.1 (none_speaks (i + 1) S (subst (λ (b : Bool). first_if b i rest ≡ []) z.0 e))
        | inr z ↦ let no = subst (λ (b : Bool). first_if b i rest ≡ []) z.0 e in cc
      ]

  silent_none : (i : ℕ) (S : System) → IsSilent defs S → speakers_from i defs S ≡ []
  silent_none i [] s = refl
  silent_none i (C ∷ S) s =
      let rest = speakers_from (i + 1) defs S in
      subst (λ (b : Bool). first_if b i rest ≡ []) (sym (eq-eqb (outs defs C) 0 (All-head (λ D. outs defs D ≡ 0) C S s)))
      (silent_none (i + 1) S (All-tail (λ D. outs defs D ≡ 0) C S s))

  pub silent_or_not : (S : System) → IsSilent defs S ⊎ (0 < length (speakers defs S))
  silent_or_not S =
      elim (eqb_tells (length (speakers defs S)) 0) [
        | inl e ↦ inl (none_speaks 0 S (no_items (speakers defs S) e.1))
        | inr e ↦ let ne = e.1 in inr (omega arith)
      ]

  pub silent_has_none : (S : System) → IsSilent defs S → length (speakers defs S) ≡ 0
  silent_has_none S s = ap length (silent_none 0 S s)

  pub speaker_of : (S : System) (j s : ℕ) → slice_get (speakers defs S) j ≡ Some s → (C : Component) × (slice_get S s ≡ Some C) × (0 < outs defs C)
  speaker_of S j s e =
      let r = speaker_in 0 S j s e in
      let same : r.number ≡ s = let c = r.counted in omega arith in
      (r.component, subst (λ (k : ℕ). slice_get S k ≡ Some r.component) same r.at, r.speaks)

  -- ---- a step by the rule
  pub record TurnStep (S : System) (turn : ℕ) : Type 0 where
    pub choice : Choice
    pub label : Label
    pub next : System
    pub step : SaysStep defs S choice label next
    pub turns : IsTurn defs S turn choice label

  pub turn_exists : (S : System) (turn : ℕ) → 0 < length (speakers defs S) → TurnStep S turn
  turn_exists S turn some =
      let at = turn % length (speakers defs S) in
      let s = item_at (speakers defs S) at (mod_below turn (length (speakers defs S)) some) in
      let sender = s.0 in
      let spoke = speaker_of S at sender s.1 in
      let C = spoke.0 in let place = turn % outs defs C in
      let says = (speaking_has_its_places defs C place).1 (mod_below turn (outs defs C) spoke.2) in
      let l = says.0 in
      let heard = hearers_from defs sender l turn 0 S in
      let hear = all_hear defs sender l 0 S heard (rule_can defs sender l turn 0 S) in
      let c : Choice = record { sender = sender; place = Some place; heard = heard } in
      record {
        choice = c;
        label = l;
        next = slice_set hear.0 sender says.1;
        step = (place, refl, multicast_of defs sender place heard l S hear.0 C says.1 spoke.1 says.2 hear.1);
        turns = record {
          speaker = s.1;
          output = λ D e. ap (λ (X : Component). Some (turn % outs defs X)) (one_item (slice_get S sender) C D spoke.1 e);
          inputs = λ i D p e f. rule_placed defs sender l turn 0 i i S D p (omega arith) e f;
        };
      }

  -- ---- and no other
  pub record SameStep (c d : Choice) (T U : System) : Type 0 where
    pub choice : c ≡ d
    pub next : T ≡ U

  pub says_at : (S T : System) (sender place : ℕ) (heard : List (ℕ × ℕ)) (l : Label) (C : Component) → slice_get S sender ≡ Some C →
      Multicasts defs S sender place heard l T → (D : Component) × Speaks defs C place l D
  says_at S T sender place heard l C at m =
      let by = (multicast_by_number defs S sender place heard l T).0 m.moves in
      let n = by.as_many in let lt = m.exists in
      let d = item_at T sender (omega arith) in
      (d.0, by.speaks C d.0 at d.1)

  pub turn_once : (S : System) (turn : ℕ) (c d : Choice) (l m : Label) (T U : System) →
      SaysStep defs S c l T → SaysStep defs S d m U → IsTurn defs S turn c l → IsTurn defs S turn d m → SameStep c d T U
  turn_once S turn c d l m T U s t p q =
      let at = turn % length (speakers defs S) in
      let sender : d.sender ≡ c.sender = one_item (slice_get (speakers defs S) at) d.sender c.sender q.speaker p.speaker in
      let C = item_at S c.sender s.2.exists in
      let there : slice_get S d.sender ≡ Some C.0 = ap (λ (k : ℕ). slice_get S k) sender ∙ C.1 in
      let output : c.place ≡ d.place = p.output C.0 C.1 ∙ sym (q.output C.0 there) in
      let place : t.0 ≡ s.0 = one_item d.place t.0 s.0 t.1 (sym output ∙ s.1) in
      let moved = subst (λ (k : ℕ). Multicasts defs S k s.0 d.heard m U) sender (subst (λ (k : ℕ). Multicasts defs S d.sender k d.heard m U) place t.2) in
      let own = says_at S T c.sender s.0 c.heard l C.0 C.1 s.2 in
      let other = says_at S U c.sender s.0 d.heard m C.0 C.1 moved in
      let label : m ≡ l = (speaking_is_determined defs C.0 s.0 m l other.0 own.0 other.1 own.1).0 in
      let heard_own = rule_only defs c.sender l turn 0 S c.heard (could_hear defs c.sender s.0 c.heard l S T s.2)
      (λ j n E k e f g. p.inputs n E k (subst (λ (i : ℕ). slice_get S i ≡ Some E) (zero_add j n e) f) g) in
      let heard_other = rule_only defs c.sender m turn 0 S d.heard (could_hear defs c.sender s.0 d.heard m S U moved)
      (λ j n E k e f g. q.inputs n E k (subst (λ (i : ℕ). slice_get S i ≡ Some E) (zero_add j n e) f) g) in
      let heard : d.heard ≡ c.heard = heard_other ∙ ap (λ (x : Label). hearers_from defs c.sender x turn 0 S) label ∙ sym heard_own in
      let same = subst (λ (xs : List (ℕ × ℕ)). Multicasts defs S c.sender s.0 xs m U) heard moved in
      record {
        choice = λ i. record { sender = sym sender i; place = output i; heard = sym heard i };
        next = (multicast_is_determined defs S c.sender s.0 c.heard l m T U s.2 same).1;
      }
