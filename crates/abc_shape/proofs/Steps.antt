-- Steps up in a tree.
use Rattle.std.proofs.Common.{◌≡◌, ℕ, zero, suc, ◌-◌, ◌≤◌, refl, ap, ◌∙◌, arith, inl, inr}
use Rattle.std.specs.Prelude.{◌⊎◌}
use Rattle.std.proofs.lemmas.Bool.{cases_eq}
use Rattle.abc_shape.specs.Plans.{step_up}
use Rattle.abc_shape.specs.Routes.{steps_up, IsUnder, IsChild}

-- Each step from a node that is not the root comes to a lower one.
pub steps_up-le : (s k : ℕ) → steps_up s k ≤ k - s
steps_up-le zero k = omega arith
steps_up-le (suc s) k = let h = steps_up-le s (step_up k) in omega arith

-- One step more, after the others.
pub steps_up-more : (s k : ℕ) → steps_up (suc s) k ≡ step_up (steps_up s k)
steps_up-more zero k = refl
steps_up-more (suc s) k = steps_up-more s (step_up k)

pub under-self : (k : ℕ) → IsUnder k k
under-self k = (0, refl)

-- Every node is under the root.
pub under-root : (k : ℕ) → IsUnder 0 k
under-root k = (k, let h = steps_up-le k k in omega arith)

-- What is under a node is not below it in number.
pub under-le : (top k : ℕ) → IsUnder top k → top ≤ k
under-le top k (s, e) = let h = steps_up-le s k in omega arith

-- A step up stays under what a node is under, if the node is another.
pub under-step : (top k : ℕ) → IsUnder top k → (k ≡ top → ⊥) → IsUnder top (step_up k)
under-step top k (zero, e) ne = absurd (ne e)
under-step top k (suc s, e) ne = (s, e)

-- What is over a node that is over another is over that.
pub under-parent : (k h : ℕ) → IsUnder k h → IsUnder (step_up k) h
under-parent k h (s, e) = (suc s, steps_up-more s h ∙ ap step_up e)

-- A node is the top of a subtree, or under a child of the top.
pub under-child : (s k h : ℕ) → steps_up s h ≡ k → (h ≡ k) ⊎ ((c : ℕ) × IsChild k c × IsUnder c h)
under-child zero k h e = inl e
under-child (suc s) k h e = elim (cases_eq h 0) [
  | inl root ↦ inl (let low = steps_up-le s (step_up h) in omega arith)
  | inr some ↦ elim (under-child s k (step_up h) e) [
    | inl here ↦ inr (h, (omega arith, here), under-self h)
    | inr (c, child, (t, under)) ↦ inr (c, child, (suc t, under))
  ]
]

-- So where no child has it in its subtree, and it is another, it is not under the node.
pub not-under : (k h : ℕ) → (h ≡ k → ⊥) → ((c : ℕ) → IsChild k c → IsUnder c h → ⊥) → IsUnder k h → ⊥
not-under k h ne none (s, e) = elim (under-child s k h e) [ inl here ↦ ne here | inr (c, child, under) ↦ none c child under ]

-- Such a node is not the root.
pub away-from_root : (k h : ℕ) → (h ≡ k → ⊥) → ((c : ℕ) → IsChild k c → IsUnder c h → ⊥) → 1 ≤ k
away-from_root zero h ne none = absurd (not-under 0 h ne none (under-root h))
away-from_root (suc k) h ne none = omega arith
