-- What is under a node is the node itself, or under one of its two children.
use Rattle.std.proofs.Common.{◌≡◌, ℕ, zero, suc, ◌+◌, ◌-◌, ◌*◌, ◌/◌, ◌<◌, ◌≤◌, refl, ◌∙◌}
use Rattle.std.proofs.Common.{arith, inl, inr}
use Rattle.std.specs.Prelude.{◌⊎◌, ◌==◌, true, false, if◌then◌else◌}
use Rattle.std.proofs.lemmas.Bool.{eq-eqb, ne_eqb, cases_eq, cases_lt}
use Rattle.abc_network_laws.specs.TreeFlows.{under_by, under}
use Rattle.abc_network_laws.proofs.Places.{bit-yes, bit-no}

-- A node is under itself.
by-same : (f c g : ℕ) → g ≡ c → under_by f c g ≡ 1
by-same zero c g e = let z : (g == c) ≡ true = eq-eqb g c e in rw z refl
by-same (suc f) c g e = let z : (g == c) ≡ true = eq-eqb g c e in rw z refl

-- At the root there is no step more.
by-root : (f c g : ℕ) → (g ≡ c → ⊥) → g ≡ 0 → under_by f c g ≡ 0
by-root zero c g ne e = let z : (g == c) ≡ false = ne_eqb g c ne in rw z refl
by-root (suc f) c g ne e = let z : (g == c) ≡ false = ne_eqb g c ne in
    let y : (g == 0) ≡ true = eq-eqb g 0 e in rw (z, y) refl

-- Elsewhere it is found one step up.
by-up : (f c g : ℕ) → (g ≡ c → ⊥) → (g ≡ 0 → ⊥) → under_by (suc f) c g ≡ under_by f c ((g - 1) / 2)
by-up f c g ne nz = let z : (g == c) ≡ false = ne_eqb g c ne in
    let y : (g == 0) ≡ false = ne_eqb g 0 nz in rw (z, y) refl

-- Nothing is under a greater one.
pub by-less : (f c g : ℕ) → g < c → under_by f c g ≡ 0
by-less zero c g h = let z : (g == c) ≡ false = ne_eqb g c (λ e. absurd (omega arith)) in rw z refl
by-less (suc f) c g h = elim (cases_eq g 0) [
  | inl e ↦ by-root (suc f) c g (λ s. absurd (omega arith)) e
  | inr e ↦ by-up f c g (λ s. absurd (omega arith)) e ∙ by-less f c ((g - 1) / 2) (omega arith)
]

-- One step up the parts are those of the node above.
parts-up : (f k g : ℕ) → (g ≡ k → ⊥) → (g ≡ 0 → ⊥) →
    under_by f k ((g - 1) / 2) ≡ (if (g - 1) / 2 == k then 1 else 0)
    + under_by f (2 * k + 1) ((g - 1) / 2) + under_by f (2 * k + 2) ((g - 1) / 2) →
    (g ≡ 2 * k + 1) ⊎ (g ≡ 2 * k + 1 → ⊥) → (g ≡ 2 * k + 2) ⊎ (g ≡ 2 * k + 2 → ⊥) →
    under_by (suc f) k g ≡ under_by (suc f) (2 * k + 1) g + under_by (suc f) (2 * k + 2) g
parts-up f k g ne nz ih (inl a) b =
    let u = by-up f k g ne nz in
    let v = by-same (suc f) (2 * k + 1) g a in
    let p : (g - 1) / 2 ≡ k = omega arith in
    let w = by-up f (2 * k + 2) g (λ s. absurd (omega arith)) nz in
    let x = by-less f (2 * k + 2) ((g - 1) / 2) (omega arith) in
    let y = by-same f k ((g - 1) / 2) p in omega arith
parts-up f k g ne nz ih (inr a) (inl b) =
    let u = by-up f k g ne nz in
    let v = by-same (suc f) (2 * k + 2) g b in
    let p : (g - 1) / 2 ≡ k = omega arith in
    let w = by-up f (2 * k + 1) g a nz in
    let x = by-less f (2 * k + 1) ((g - 1) / 2) (omega arith) in
    let y = by-same f k ((g - 1) / 2) p in omega arith
parts-up f k g ne nz ih (inr a) (inr b) =
    let u = by-up f k g ne nz in
    let v = by-up f (2 * k + 1) g a nz in
    let w = by-up f (2 * k + 2) g b nz in
    let away : ((g - 1) / 2 ≡ k → ⊥) = (λ p. elim (cases_lt g (2 * k + 2)) [
      | inl q ↦ a (let low : 0 < g = (elim (cases_lt 0 g) [
        | inl t ↦ t
        | inr t ↦ absurd (nz (omega arith))
      ]) in omega arith)
      | inr q ↦ b (omega arith)
    ]) in
    let z = bit-no ((g - 1) / 2) k 1 away in omega arith

-- Under a node are itself and what is under its children, where this is shown of other nodes,
parts-at : (f k g : ℕ) → (g ≡ k) ⊎ (g ≡ k → ⊥) →
    ((g ≡ k → ⊥) → under_by f k g ≡ under_by f (2 * k + 1) g + under_by f (2 * k + 2) g) →
    under_by f k g ≡ (if g == k then 1 else 0) + under_by f (2 * k + 1) g + under_by f (2 * k + 2) g
parts-at f k g (inl e) h =
    let a = by-same f k g e in let b = bit-yes g k 1 e in
    let c = by-less f (2 * k + 1) g (omega arith) in
    let d = by-less f (2 * k + 2) g (omega arith) in omega arith
parts-at f k g (inr e) h = let a = h e in let b = bit-no g k 1 e in omega arith

-- and so for all nodes, with fuel enough.
parts : (f k g : ℕ) → g ≤ f → under_by f k g
    ≡ (if g == k then 1 else 0) + under_by f (2 * k + 1) g + under_by f (2 * k + 2) g
parts zero k g h = parts-at zero k g (cases_eq g k) (λ ne.
    let a = by-root zero k g ne (omega arith) in
    let c = by-less zero (2 * k + 1) g (omega arith) in
    let d = by-less zero (2 * k + 2) g (omega arith) in omega arith)
parts (suc f) k g h = parts-at (suc f) k g (cases_eq g k) (λ ne. elim (cases_eq g 0) [
  | inl e ↦ (let a = by-root (suc f) k g ne e in
      let c = by-less (suc f) (2 * k + 1) g (omega arith) in
      let d = by-less (suc f) (2 * k + 2) g (omega arith) in omega arith)
  | inr e ↦ parts-up f k g ne e (parts f k ((g - 1) / 2) (omega arith)) (cases_eq g (2 * k + 1))
      (cases_eq g (2 * k + 2))
])

-- What is under a node is the node itself, or under one of its children.
pub under-parts : (k g : ℕ) → under k g
    ≡ (if g == k then 1 else 0) + under (2 * k + 1) g + under (2 * k + 2) g
under-parts k g = parts g k g (omega arith)

-- Each node is under the root, with fuel enough,
all-root : (f g : ℕ) → g ≤ f → under_by f 0 g ≡ 1
all-root zero g h = by-same zero 0 g (omega arith)
all-root (suc f) g h = elim (cases_eq g 0) [
  | inl e ↦ by-same (suc f) 0 g e
  | inr e ↦ by-up f 0 g e e ∙ all-root f ((g - 1) / 2) (omega arith)
]

-- and with its own fuel.
pub under-root : (g : ℕ) → under 0 g ≡ 1
under-root g = all-root g g (omega arith)

-- No node is under another more than once.
once-by : (f c g : ℕ) → under_by f c g ≤ 1
once-by zero c g = elim (cases_eq g c) [
  | inl e ↦ (let a = by-same zero c g e in omega arith)
  | inr e ↦ (let z : (g == c) ≡ false = ne_eqb g c e in rw z (omega arith))
]
once-by (suc f) c g = elim (cases_eq g c) [
  | inl e ↦ (let a = by-same (suc f) c g e in omega arith)
  | inr e ↦ elim (cases_eq g 0) [
    | inl z ↦ (let a = by-root (suc f) c g e z in omega arith)
    | inr z ↦ (let a = by-up f c g e z in let b = once-by f c ((g - 1) / 2) in omega arith)
  ]
]

-- Nothing is under a node twice.
pub under-once : (c g : ℕ) → under c g ≤ 1
under-once c g = once-by g c g
