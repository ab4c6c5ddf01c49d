-- The worked examples, computed.
use Rattle.std.proofs.Common.{◌≡◌, inl, inr, ℕ, true, false, IsTrue, codes, [], ◌∷◌, All, Option, Some, None, refl, sym, ap, subst, ◌∙◌, lit<, lit≤, arith}
use Rattle.std.proofs.lemmas.List.Elements.{All-cons}
use Rattle.abc_term.specs.Processes.{Nil, Par, Component, System}
use Rattle.abc_pred.specs.Maps.{Entries, look_up}
use Rattle.std.specs.Prelude.{pos}
use Rattle.abc_value.specs.declared.value.Value.TheVariants.{Scalar as One}
use Rattle.abc_value.specs.declared.scalar.Scalar.TheVariants.{Number}
use Rattle.abc_term.specs.Speaking.{Label, outs}
use Rattle.abc_term.specs.Hearing.{Hears, ins, takes}
use Rattle.abc_term.specs.Systems.{EachMoves, place_in}
use Rattle.abc_term.specs.Examples.Writing.{number, text, is, component}
use Rattle.abc_term.specs.Examples.Greeting.{role, got, alice, bob, before, Greets, EndsSilent, CannotBeDiscarded}
use Rattle.abc_term.specs.Examples.HiddenAttribute.{HiddenIsDiscarded}
use Rattle.abc_term.specs.Examples.LabelBeforeUpdate.{s, v, before as start, OldIsSeen, NewIsNotShown, NewIsNotSeen}
use Rattle.abc_term.specs.Examples.ThisInPredicate.{ThisIsClosed}
use Rattle.abc_term.specs.Examples.Interleaving.{branch, left, right, LeftHears, RightHears, NotBothHear}
use Rattle.abc_term.specs.Examples.GuardOpened.{OtherBranchOpens, GuardedSpeaks}
use Rattle.abc_term.specs.Examples.Overflow.{OverflowRemoves, NoneIsNotLess}

pub greets : Greets
greets = record { exists = lit< tt; hearers = (lit≤ tt, lit< tt, (λ e. cc), tt); moves = (((refl, refl, refl, refl), refl), (((refl, refl, refl, refl), refl), tt)) }

silent_first : (C : Component) (S : System) → outs [] C ≡ 0 → All (λ D. outs [] D ≡ 0) S → All (λ D. outs [] D ≡ 0) (C ∷ S)
silent_first C S e h = All-cons (λ D. outs [] D ≡ 0) C S e h

abbrev greeted : Component
greeted = component ((role, text (codes "b")) ∷ (got, text (codes "hi")) ∷ []) (role ∷ []) Nil

silent_none : All (λ D. outs [] D ≡ 0) []
silent_none = λ k d lt. absurd (omega arith)

pub ends_silent : EndsSilent
ends_silent = silent_first (alice Nil) (greeted ∷ []) refl (silent_first greeted [] refl silent_none)

-- what alice says is known, and bob's input takes it
module _ (l : Label) where
  not_discarded : (S : System) → EachMoves [] 0 0 [] l 0 before S → ⊥
  not_discarded [] s = elim s [ ]
  not_discarded (A ∷ []) s = elim s.1 [ ]
  not_discarded (A ∷ (B ∷ S)) s =
      let none : ◌≡◌ {A = ℕ} 1 0 = subst (λ (m : Label). ins [] bob m ≡ 0) s.0.0.1 s.1.0.0 in omega arith

pub cannot_be_discarded : CannotBeDiscarded
cannot_be_discarded S s = not_discarded s.0 S s.1.moves

pub is_discarded : HiddenIsDiscarded
is_discarded = record { exists = lit< tt; hearers = tt; moves = (((refl, refl, refl, refl), refl), ((refl, refl), tt)) }

pub old_is_seen : OldIsSeen
old_is_seen = record { exists = lit< tt; hearers = (lit≤ tt, lit< tt, (λ e. cc), tt); moves = (((refl, refl, refl, refl), refl), (((refl, refl, refl, refl), refl), ((refl, refl), tt))) }

pub new_is_not_shown : NewIsNotShown
new_is_not_shown place l a' h e = let shows : l.shown ≡ (s, number 0) ∷ [] = ap (λ (m : Label). m.shown) h.0.1 in
    let same : One (Number (pos 1)) ≡ One (Number (pos 0)) = ap (λ (es : Entries). look_up es s) (sym e ∙ shows) in cc

module _ (l : Label) (place other : ℕ) where
  not_seen : (S : System) → EachMoves [] 0 place ((2, other) ∷ []) l 0 start S → ⊥
  not_seen [] h = elim h [ ]
  not_seen (A ∷ []) h = elim h.1 [ ]
  not_seen (A ∷ (B ∷ [])) h = elim h.1.1 [ ]
  not_seen (A ∷ (B ∷ (C ∷ S))) h =
      let never : false ≡ true = subst (λ (m : Label). IsTrue (takes m [] [] (is s (number 1)) (v ∷ []))) h.0.0.1 h.1.1.0.0.1 in cc

pub new_is_not_seen : NewIsNotSeen
new_is_not_seen place other S h = not_seen h.0 place other S h.1.moves

pub is_closed : ThisIsClosed
is_closed = record {
  exists = lit< tt;
  hearers = (lit≤ tt, lit< tt, (λ e. cc), (lit≤ tt, lit< tt, (λ e. cc), tt));
  moves = (((refl, refl, refl, refl), refl), (((refl, refl, refl, refl), refl), ((refl, refl), (((refl, refl, refl, refl), refl), tt))));
}

pub left_hears : LeftHears
left_hears = record {
  exists = lit< tt;
  hearers = (lit≤ tt, lit< tt, (λ e. cc), tt);
  moves = (((refl, refl, refl, refl), refl), ((inl (Nil, (refl, refl, refl, refl), refl), refl), tt));
}

pub right_hears : RightHears
right_hears = record {
  exists = lit< tt;
  hearers = (lit≤ tt, lit< tt, (λ e. cc), tt);
  moves = (((refl, refl, refl, refl), refl), ((inr (0, Nil, refl, (refl, refl, refl, refl), refl), refl), tt));
}

not_both : (l : Label) (env : Entries) (at : Option ℕ) → Hears [] (component [] [] (Par (branch left) (branch right))) l at (component env [] (Par Nil Nil)) → ⊥
not_both l env None h = let same : Par Nil Nil ≡ Par (branch left) (branch right) = ap (λ (C : Component). C.process) h.1 in cc
not_both l env (Some k) h = elim h.0 [ inl s ↦ let same = s.2 in cc | inr s ↦ let same = s.4 in cc ]

pub not_both_hear : NotBothHear
not_both_hear place heard env s = not_both s.0 env (place_in heard 1) s.1.moves.1.0

pub other_branch_opens : OtherBranchOpens
other_branch_opens = record { exists = lit< tt; hearers = tt; moves = ((inr (0, Nil, refl, (refl, refl, refl, refl), refl), refl), tt) }

pub guarded_speaks : GuardedSpeaks
guarded_speaks = record { exists = lit< tt; hearers = tt; moves = ((inl (Nil, (refl, (refl, refl, refl, refl)), refl), refl), tt) }

pub overflow_removes : OverflowRemoves
overflow_removes = record { exists = lit< tt; hearers = tt; moves = (((refl, refl, refl, refl), refl), tt) }

pub none_is_not_less : NoneIsNotLess
none_is_not_less = record { exists = lit< tt; hearers = tt; moves = ((inr (0, refl, (refl, (refl, refl, refl, refl))), refl), tt) }
