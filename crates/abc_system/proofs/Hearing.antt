-- Whether components can hear a message so, from the left.
use Rattle.std.proofs.Common.{◌≡◌, ◌≢◌, inl, inr, ℕ, refl, ◌+◌, ◌<◌, ◌==◌, Bool, List, [], ◌∷◌, ◌++◌, ◌∙◌, ◌%◌, true, false, if◌then◌else◌, map, MatchBool, ap, sym, subst, arith}
use Rattle.std.specs.Prelude.{◌↔◌}
use Rattle.std.proofs.lemmas.Bool.{eq-eqb, ne_eqb}
use Rattle.std.proofs.lemmas.Bool.Decides.{eqb_tells}
use Rattle.abc_term.specs.Processes.{Definitions, Component, System}
use Rattle.abc_term.specs.Speaking.{Label}
use Rattle.abc_term.specs.Hearing.{ins}
use Rattle.abc_steps.specs.Hearers.{CanHear, hearers_from}
use Rattle.abc_steps.proofs.Hearers.{Can}
use Rattle.abc_term.specs.declared.terms.Definition.{Definition}
use Rattle.abc_term.specs.Standing.{definitions_of}
use Rattle.abc_moves.specs.Lives.{component_in, definitions_in}
use Rattle.abc_system.specs.declared.member.Member.{Member}
use Rattle.abc_system.specs.Turns.{heard_here}
use Rattle.abc_system.specs.Members.{now_in, program_of, RunUnder}
use Rattle.std.proofs.lemmas.List.Elements.{All-head}

module _ (defs : Definitions) (sender : ℕ) (l : Label) where
  abbrev can_if : Bool → ℕ → Component → System → List (ℕ × ℕ) → Type 0
  can_if b i C S heard = MatchBool b (CanHear defs sender l (i + 1) S heard) (Can defs sender l i C S heard)

  -- no later component is listed with this number
  passed : (j i place : ℕ) (S : System) (rest : List (ℕ × ℕ)) → i < j → ¬ CanHear defs sender l j S ((i, place) ∷ rest)
  passed j i place [] rest lt c = cc
  passed j i place (C ∷ S) rest lt c =
      elim (eqb_tells j sender) [
        | inl e ↦
            let d = subst (λ (b : Bool). can_if b j C S ((i, place) ∷ rest)) e.0 c in
            passed (j + 1) i place S rest (omega arith) d
        | inr e ↦
            let d = subst (λ (b : Bool). can_if b j C S ((i, place) ∷ rest)) e.0 c in
            elim d [
              | inl h ↦
                  let pair : (i, place) ≡ (j, h.0) = cc in
                  let same : i ≡ j =
                  ap (λ (q : ℕ × ℕ). q.0) pair in
                  absurd (omega arith)
              | inr h ↦ passed (j + 1) i place S rest (omega arith) h.1
            ]
      ]

  -- the sender isn't asked
  pub sender_hears : (i : ℕ) (C : Component) (S : System) (heard : List (ℕ × ℕ)) → i ≡ sender →
      CanHear defs sender l i (C ∷ S) heard ↔ CanHear defs sender l (i + 1) S heard
  sender_hears i C S heard own =
      let is = eq-eqb i sender own in
      (λ c. subst (λ (b : Bool). can_if b i C S heard) is c, λ c. subst (λ (b : Bool). can_if b i C S heard) (sym is) c)

  -- one that is listed hears by its input
  pub listed_hears : (i place : ℕ) (C : Component) (S : System) (heard rest : List (ℕ × ℕ)) → i ≢ sender →
      heard ≡ (i, place) ∷ rest →
      CanHear defs sender l i (C ∷ S) heard ↔ ((place < ins defs C l) × CanHear defs sender l (i + 1) S rest)
  listed_hears i place C S heard rest other e =
      let not = ne_eqb i sender other in (
        λ c. elim (subst (λ (b : Bool). can_if b i C S heard) not c) [
          | inl h ↦
              let pair : (i, h.0) ≡ (i, place) = cc in
              let p : h.0 ≡ place = ap (λ (q : ℕ × ℕ). q.1) pair in let r : h.1 ≡ rest = cc in
              (subst (λ (k : ℕ). k < ins defs C l) p h.3, subst (λ (xs : List (ℕ × ℕ)). CanHear defs sender l (i + 1) S xs) r h.4)
          | inr h ↦
              absurd (passed (i + 1) i place S rest (omega arith) (subst (λ (xs : List (ℕ × ℕ)). CanHear defs sender l (i + 1) S xs) e h.1))
        ],
        λ c. subst (λ (b : Bool). can_if b i C S heard) (sym not) (inl (place, rest, e, c.0, c.1)),
      )

  -- one that isn't has no input that takes the message
  pub unlisted_hears : (i : ℕ) (C : Component) (S : System) (heard : List (ℕ × ℕ)) → i ≢ sender →
      ((place : ℕ) (rest : List (ℕ × ℕ)) → heard ≢ (i, place) ∷ rest) →
      CanHear defs sender l i (C ∷ S) heard ↔ ((ins defs C l ≡ 0) × CanHear defs sender l (i + 1) S heard)
  unlisted_hears i C S heard other none =
      let not = ne_eqb i sender other in (
        λ c. elim (subst (λ (b : Bool). can_if b i C S heard) not c) [
          | inl h ↦ absurd (none h.0 h.1 h.2)
          | inr h ↦ h
        ],
        λ c. subst (λ (b : Bool). can_if b i C S heard) (sym not) (inr c),
      )

  -- the first of these members has so many inputs that take the message
  inputs_under : (ds : List Definition) (n : ℕ) (m : Member) (members ms : List Member) → defs ≡ definitions_of ds →
      RunUnder ds members → members ≡ m ∷ ms → n ≡ ins (definitions_in m.live) (component_in m.live) l → n ≡ ins defs (now_in m) l
  inputs_under ds n m members ms is under split count =
      let same : definitions_in m.live ≡ defs =
      ap definitions_of (All-head (λ (x : Member). program_of x ≡ ds) m ms (subst (RunUnder ds) split under)) ∙ sym is in
      count ∙ ap (λ (d : Definitions). ins d (now_in m) l) same

  -- the same of members, the first of whom has n inputs that take the message
  pub listed_member : (ds : List Definition) (i place n : ℕ) (m : Member) (members ms : List Member) (heard rest : List (ℕ × ℕ)) →
      defs ≡ definitions_of ds → RunUnder ds members → members ≡ m ∷ ms → i ≢ sender → heard ≡ (i, place) ∷ rest →
      n ≡ ins (definitions_in m.live) (component_in m.live) l →
      CanHear defs sender l i (map now_in members) heard
      ↔ ((place < n) × CanHear defs sender l (i + 1) (map now_in ms) rest)
  listed_member ds i place n m members ms heard rest is under split other e count =
      let number : n ≡ ins defs (now_in m) l = inputs_under ds n m members ms is under split count in
      let both = listed_hears i place (now_in m) (map now_in ms) heard rest other e in (
        λ c.
            let b = both.0 (subst (λ (xs : List Member). CanHear defs sender l i (map now_in xs) heard) split c) in
            (subst (λ (k : ℕ). place < k) (sym number) b.0, b.1),
        λ c.
            subst (λ (xs : List Member). CanHear defs sender l i (map now_in xs) heard) (sym split)
            (both.1 (subst (λ (k : ℕ). place < k) number c.0, c.1)),
      )

  -- ---- the hearers by the rule of places
  -- the sender is none of them
  pub hearers_with_sender : (turn i : ℕ) (C : Component) (S : System) → i ≡ sender →
      hearers_from defs sender l turn i (C ∷ S) ≡ hearers_from defs sender l turn (i + 1) S
  hearers_with_sender turn i C S own =
      ap (λ (b : Bool). if b then hearers_from defs sender l turn (i + 1) S
      else (if ins defs C l == 0 then hearers_from defs sender l turn (i + 1) S
      else (i, turn % ins defs C l) ∷ hearers_from defs sender l turn (i + 1) S)) (eq-eqb i sender own)

  in_front : (b : Bool) (h : ℕ × ℕ) (rest : List (ℕ × ℕ)) → (if b then rest else h ∷ rest) ≡ (if b then [] else h ∷ []) ++ rest
  in_front true h rest = refl
  in_front false h rest = refl

  -- another one comes before those behind it
  hearers_with : (turn i : ℕ) (C : Component) (S : System) → i ≢ sender →
      hearers_from defs sender l turn i (C ∷ S) ≡ heard_here turn i (ins defs C l) ++ hearers_from defs sender l turn (i + 1) S
  hearers_with turn i C S other =
      ap (λ (b : Bool). if b then hearers_from defs sender l turn (i + 1) S
      else (if ins defs C l == 0 then hearers_from defs sender l turn (i + 1) S
      else (i, turn % ins defs C l) ∷ hearers_from defs sender l turn (i + 1) S)) (ne_eqb i sender other)
      ∙ in_front (ins defs C l == 0) (i, turn % ins defs C l) (hearers_from defs sender l turn (i + 1) S)

  -- the same of members, the first of whom has n inputs that take the message
  pub hearers_with_member : (ds : List Definition) (turn i n : ℕ) (m : Member) (members ms : List Member) →
      defs ≡ definitions_of ds → RunUnder ds members → members ≡ m ∷ ms → i ≢ sender →
      n ≡ ins (definitions_in m.live) (component_in m.live) l →
      hearers_from defs sender l turn i (map now_in members)
      ≡ heard_here turn i n ++ hearers_from defs sender l turn (i + 1) (map now_in ms)
  hearers_with_member ds turn i n m members ms is under split other count =
      ap (λ (xs : List Member). hearers_from defs sender l turn i (map now_in xs)) split
      ∙ hearers_with turn i (now_in m) (map now_in ms) other
      ∙ ap (λ (k : ℕ). heard_here turn i k ++ hearers_from defs sender l turn (i + 1) (map now_in ms))
      (sym (inputs_under ds n m members ms is under split count))
