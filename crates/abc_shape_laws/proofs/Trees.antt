-- Nodes of a tree: what is under what, and how deep a node is.
use Rattle.std.proofs.Common.{◌≡◌, ℕ, zero, suc, ◌+◌, ◌*◌, ◌<◌, ◌≤◌, List, length, sym, ap, ◌∙◌, arith, inl, inr}
use Rattle.std.specs.Prelude.{◌⊎◌}
use Rattle.std.proofs.lemmas.Bool.{cases_eq}
use Rattle.std.proofs.lemmas.Nat.{mod_below}
use Rattle.abc_shape.specs.Plans.{home, step_up}
use Rattle.abc_shape.specs.Routes.{steps_up, IsUnder, IsChild}
use Rattle.abc_shape.proofs.Steps.{under-le, under-step, under-parent}
use Rattle.abc_shape_laws.specs.Ways.{IsWayUp, at_root, to_parent}
use Rattle.abc_shape_laws.specs.RouteLaws.{WaysUpExist, WaysUpAreShort}

-- What is under a child is under the node.
pub under-of-child : (k c h : ℕ) → IsChild k c → IsUnder c h → IsUnder k h
under-of-child k c h child u = let v = under-parent c h u in (v.0, v.1 ∙ child.1)

pub child-greater : (k c : ℕ) → IsChild k c → k < c
child-greater k c child = let a = child.0 in let b = child.1 in omega arith

-- Of two nodes above a third one is above the other.
linear : (s u h c d : ℕ) → steps_up s h ≡ c → steps_up u h ≡ d → IsUnder c d ⊎ IsUnder d c
linear zero u h c d e f = inr (u, ap (steps_up u) (sym e) ∙ f)
linear (suc s) zero h c d e f = inl (suc s, ap (steps_up (suc s)) (sym f) ∙ e)
linear (suc s) (suc u) h c d e f = linear s u (step_up h) c d e f

-- One child over another of the same node is that child.
same-child : (k c d : ℕ) → IsChild k c → IsChild k d → IsUnder c d → c ≡ d
same-child k c d a b u = elim (cases_eq d c) [
  | inl e ↦ sym e
  | inr ne ↦ absurd (
      let up = under-step c d u ne in
      let high = under-le c (step_up d) up in
      let a0 = a.0 in let a1 = a.1 in let b1 = b.1 in omega arith)
]

-- A node is under one child at most.
pub one-child : (k h c d : ℕ) → IsChild k c → IsChild k d → IsUnder c h → IsUnder d h → c ≡ d
one-child k h c d a b (s, e) (u, f) = elim (linear s u h c d e f) [ inl x ↦ same-child k c d a b x | inr x ↦ sym (same-child k d c b a x) ]

-- Whether a node is under another can be told.
decided : (fuel k h : ℕ) → h ≤ fuel → IsUnder k h ⊎ (IsUnder k h → ⊥)
decided zero k h low = elim (cases_eq h k) [ inl e ↦ inl (0, e) | inr ne ↦ inr (λ u. let x = under-le k h u in absurd (ne (omega arith))) ]
decided (suc fuel) k h low = elim (cases_eq h k) [
  | inl e ↦ inl (0, e)
  | inr ne ↦ elim (decided fuel k (step_up h) (omega arith)) [
    | inl (s, e) ↦ inl (suc s, e)
    | inr off ↦ inr (λ u. off (under-step k h u ne))
  ]
]

pub under-or-not : (k h : ℕ) → IsUnder k h ⊎ (IsUnder k h → ⊥)
under-or-not k h = decided h k h (omega arith)

-- ---- The way up

way-up : (fuel k : ℕ) → k ≤ fuel → (way : List ℕ) × IsWayUp k way
way-up fuel zero low = (_, at_root)
way-up zero (suc k) low = absurd (omega arith)
way-up (suc fuel) (suc k) low = let more = way-up fuel (step_up (suc k)) (omega arith) in (_, to_parent (suc k) more.0 (omega arith) more.1)

pub ways-up : WaysUpExist
ways-up p i = way-up (home p i) (home p i) (omega arith)

-- How many nodes a tree has whose ways up have so many nodes above their first, at most.
abbrev pub room : ℕ → ℕ
room zero = 1
room (suc d) = 2 * room d + 1

short : (d k : ℕ) (way : List ℕ) → k < room d → IsWayUp k way → length way ≤ d + 1
short d k way low at_root = omega arith
short zero k way low (to_parent n more some w) = absurd (omega arith)
short (suc d) k way low (to_parent n more some w) = let h = short d (step_up n) more (omega arith) w in omega arith

pub ways-short : WaysUpAreShort
ways-short p i way l w = let h = mod_below i p.nodes (omega (arith, l.some_nodes)) in short 6 (home p i) way (omega (arith, l.most_nodes)) w
