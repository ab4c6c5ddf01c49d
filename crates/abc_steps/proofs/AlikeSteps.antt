-- Systems that are alike make the same steps, and stay alike.
use Rattle.std.proofs.Common.{◌≡◌, ◌∙◌, inl, inr, ℕ, zero, suc, ◌+◌, ◌==◌, ◌<◌, ◌%◌, Bool, true, false, List, [], ◌∷◌, length, Some, MatchBool, refl, ap, sym, subst, slice_get, if◌then◌else◌}
use Rattle.std.proofs.lemmas.List.Elements.{All-cons, All-head, All-tail}
use Rattle.abc_term.specs.Processes.{Definitions, Component, System}
use Rattle.abc_term.specs.Speaking.{Label, Speaks, outs}
use Rattle.abc_term.specs.Hearing.{Hears}
use Rattle.abc_term.specs.Systems.{Choice, place_in, AreHearers, EachMoves, IsSilent}
use Rattle.abc_steps.specs.Alike.{IsAlike, AreAlike}
use Rattle.abc_steps.specs.Turns.{IsTurn, SaysStep, speakers_from}
use Rattle.abc_steps.specs.TurnLaws.{AlikeMulticasts, AlikeTurns}
use Rattle.abc_steps.proofs.Alike.{outs_alike, ins_alike, after, after_alike, speaks_alike, hears_alike, heard_interface}

pub alike_length : (S S' : System) → AreAlike S S' → length S ≡ length S'
alike_length [] [] a = refl
alike_length [] (D ∷ T) a = elim a [ ]
alike_length (C ∷ S) [] a = elim a [ ]
alike_length (C ∷ S) (D ∷ T) a = ap suc (alike_length S T a.1)

pub record BothAt (S S' : System) (i : ℕ) (D : Component) : Type 0 where
  pub other : Component
  pub at : slice_get S i ≡ Some other
  pub alike : IsAlike other D

-- the component that stands there in the first system
alike_at : (S S' : System) → AreAlike S S' → (i : ℕ) (D : Component) → slice_get S' i ≡ Some D → BothAt S S' i D
alike_at [] [] a i D e = cc
alike_at [] (E ∷ T) a i D e = elim a [ ]
alike_at (C ∷ S) [] a i D e = elim a [ ]
alike_at (C ∷ S) (E ∷ T) a zero D e = let same : E ≡ D = cc in record { other = C; at = refl; alike = subst (λ (X : Component). IsAlike C X) same a.0 }
alike_at (C ∷ S) (E ∷ T) a (suc i) D e = let r = alike_at S T a.1 i D e in record { other = r.other; at = r.at; alike = r.alike }

-- ---- a multicast, component by component
module _ (defs : Definitions) (sender place : ℕ) (heard : List (ℕ × ℕ)) (l : Label) where
  abbrev Moves : Bool → ℕ → Component → Component → Type 0
  Moves b i C D = MatchBool b (Speaks defs C place l D) (Hears defs C l (place_in heard i) D)

  one_alike : (b : Bool) (i : ℕ) (C D C' : Component) → IsAlike C D → Moves b i C C' →
      (D' : Component) × IsAlike C' D' × Moves b i D D'
  one_alike true i C D C' a s = (after defs C D a C', after_alike defs C D a C' s.1, speaks_alike defs C D a place l C' s)
  one_alike false i C D C' a s =
      (after defs C D a C', after_alike defs C D a C' (heard_interface defs C (place_in heard i) l C' s), hears_alike defs C D a (place_in heard i) l C' s)

  each_alike : (i : ℕ) (S S' T : System) → AreAlike S S' → EachMoves defs sender place heard l i S T →
      (T' : System) × AreAlike T T' × EachMoves defs sender place heard l i S' T'
  each_alike i [] [] [] a s = ([], tt, tt)
  each_alike i [] [] (E ∷ T) a s = elim s [ ]
  each_alike i [] (D ∷ S') T a s = elim a [ ]
  each_alike i (C ∷ S) [] T a s = elim a [ ]
  each_alike i (C ∷ S) (D ∷ S') [] a s = elim s [ ]
  each_alike i (C ∷ S) (D ∷ S') (E ∷ T) a s =
      let first = one_alike (i == sender) i C D E a.0 s.0 in
      let rest = each_alike (i + 1) S S' T a.1 s.1 in
      (first.0 ∷ rest.0, (first.1, rest.1), (first.2, rest.2))

pub alike_multicasts : AlikeMulticasts
alike_multicasts defs S S' sender place heard l T a s =
    let n = alike_length S S' a in
    let r = each_alike defs sender place heard l 0 S S' T a s.moves in (
      r.0,
      r.1,
      record {
        exists = subst (λ (k : ℕ). sender < k) n s.exists;
        hearers = subst (λ (k : ℕ). AreHearers sender k 0 heard) n s.hearers;
        moves = r.2;
      },
    )

-- ---- who can speak
speakers_alike : (defs : Definitions) (i : ℕ) (S S' : System) → AreAlike S S' → speakers_from i defs S ≡ speakers_from i defs S'
speakers_alike defs i [] [] a = refl
speakers_alike defs i [] (D ∷ S') a = elim a [ ]
speakers_alike defs i (C ∷ S) [] a = elim a [ ]
speakers_alike defs i (C ∷ S) (D ∷ S') a =
    (λ t. if outs_alike defs C D a.0 t == 0 then speakers_alike defs (i + 1) S S' a.1 t else i ∷ speakers_alike defs (i + 1) S S' a.1 t)

pub alike_silent : (defs : Definitions) (S S' : System) → AreAlike S S' → IsSilent defs S → IsSilent defs S'
alike_silent defs [] [] a s = s
alike_silent defs [] (D ∷ S') a s = elim a [ ]
alike_silent defs (C ∷ S) [] a s = elim a [ ]
alike_silent defs (C ∷ S) (D ∷ S') a s =
    All-cons (λ E. outs defs E ≡ 0) D S' (sym (outs_alike defs C D a.0) ∙ All-head (λ E. outs defs E ≡ 0) C S s)
    (alike_silent defs S S' a.1 (All-tail (λ E. outs defs E ≡ 0) C S s))

-- ---- the rule of places
pub turn_alike : (defs : Definitions) (turn : ℕ) (S S' : System) (c : Choice) (l : Label) → AreAlike S S' → IsTurn defs S turn c l → IsTurn defs S' turn c l
turn_alike defs turn S S' c l a t = record {
  speaker = subst (λ (xs : List ℕ). slice_get xs (turn % length xs) ≡ Some c.sender) (speakers_alike defs 0 S S' a) t.speaker;
  output = λ D at.
      let r = alike_at S S' a c.sender D at in
      t.output r.other r.at ∙ ap (λ (n : ℕ). Some (turn % n)) (outs_alike defs r.other D r.alike);
  inputs = λ i D place at found.
      let r = alike_at S S' a i D at in
      t.inputs i r.other place r.at found ∙ ap (λ (n : ℕ). turn % n) (ins_alike defs r.other D r.alike l);
}

says_alike : (defs : Definitions) (S S' : System) (c : Choice) (l : Label) (T : System) → AreAlike S S' → SaysStep defs S c l T →
    (T' : System) × AreAlike T T' × SaysStep defs S' c l T'
says_alike defs S S' c l T a s =
    let r = alike_multicasts defs S S' c.sender s.0 c.heard l T a s.2 in (r.0, r.1, (s.0, s.1, r.2))

pub alike_turns : AlikeTurns
alike_turns defs limit turn S S' [] T a r =
    (S', subst (λ (X : System). AreAlike X S') (sym r.0) a, (refl, elim r.1 [ inl z ↦ inl z | inr q ↦ inr (alike_silent defs S S' a q) ]))
alike_turns defs zero turn S S' (c ∷ cs) T a r = elim r [ ]
alike_turns defs (suc limit) turn S S' (c ∷ cs) T a r =
    let first = says_alike defs S S' c r.0 r.1 a r.2 in
    let rest = alike_turns defs limit (turn + 1) r.1 first.0 cs T first.1 r.4 in
    (rest.0, rest.1, (r.0, first.0, first.2, turn_alike defs turn S S' c r.0 a r.3, rest.2))
