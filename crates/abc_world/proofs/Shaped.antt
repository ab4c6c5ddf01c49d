-- A plan is that of its shape and its numbers.
use Rattle.std.proofs.Common.{◌≡◌, ap}
use Rattle.abc_shape.specs.declared.shape.Shape.{Shape}
use Rattle.abc_shape.specs.declared.layout.Layout.{Layout}
use Rattle.abc_shape.specs.Plans.{layout_of}

pub of-shape : (p : Layout) (s : Shape) → p.shape ≡ s → p ≡ layout_of s p.agents p.nodes
of-shape p s h = ap (λ v. layout_of v p.agents p.nodes) h
