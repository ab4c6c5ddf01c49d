-- Nodes are made one after the other.
use Rattle.std.proofs.Common.{◌≡◌, ℕ, ◌+◌, List, [], ◌∷◌, ◌++◌, length, map, replicate, refl, sym, ap, ◌∙◌, subst, arith}
use Rattle.std.specs.Prelude.{Some, slice_get}
use Rattle.std.proofs.lemmas.List.{replicate_more, length-append}
use Rattle.abc_shape.specs.declared.layout.Layout.{Layout}
use Rattle.abc_network.specs.Networks.{Actor}
use Rattle.abc_history.specs.Nodes.{SeenNode}
use Rattle.abc_world.specs.Crews.{AreNodes}
use Rattle.abc_world.specs.Starting.{AreBlank}
use Rattle.abc_world.specs.Runnings.{node_in}
use Rattle.abc_world.proofs.Seated.{map-more, last-or}

-- A node that has done nothing.
abbrev blank_node : {S : Type 0} → (L : Type 0) → S → Actor S L
blank_node L blank = record { state = blank; clock = 0; log = [] }

-- The first nodes of a plan, so many, are made.
pub record AreMade {S L : Type 0} (blank : S) (p : Layout) (nodes : List (SeenNode S L)) (count : ℕ) : Type 0 where
  pub many : length nodes ≡ count
  pub each : (k : ℕ) (n : SeenNode S L) → slice_get nodes k ≡ Some n → (n.plan ≡ p) × (n.number ≡ k)
  pub blanks : map node_in nodes ≡ replicate count (blank_node L blank)

-- At first none is,
pub made-none : {S L : Type 0} (blank : S) (p : Layout) → AreMade {S = S} {L = L} blank p [] 0
made-none blank p = record { many = refl; each = λ k n stands. absurd (cc); blanks = refl }

-- and one more is made.
pub made-next : {S L : Type 0} (blank : S) (p : Layout) (nodes nodes' : List (SeenNode S L)) (count : ℕ) (n : SeenNode S L) →
    AreMade blank p nodes count → n.plan ≡ p → n.number ≡ count → n.actor ≡ blank_node L blank →
    nodes' ≡ nodes ++ n ∷ [] → AreMade blank p nodes' (count + 1)
made-next {S} {L} blank p nodes nodes' count n made plan number actor grown =
    let all : AreMade blank p (nodes ++ n ∷ []) (count + 1) = record {
      many = (let e = made.many in let l = length-append nodes (n ∷ []) in omega arith);
      each = λ k v stands. last-or nodes n (λ j w. (w.plan ≡ p) × (w.number ≡ j)) made.each
          (plan, number ∙ sym made.many) k v stands;
      blanks = map-more node_in nodes n ∙ (ap (λ v. v ++ n.actor ∷ []) made.blanks
          ∙ (ap (λ v. replicate count (blank_node L blank) ++ v ∷ []) actor ∙ replicate_more count (blank_node L blank)));
    } in
    subst (λ v. AreMade blank p v (count + 1)) (sym grown) all

-- In the end they are the nodes of the plan, all blank.
pub made-nodes : {S L : Type 0} (blank : S) (p : Layout) (nodes : List (SeenNode S L)) (count : ℕ) → count ≡ p.nodes →
    AreMade blank p nodes count → AreNodes p nodes
made-nodes blank p nodes count all made = record { many = made.many ∙ all; each = made.each }

pub made-blank : {S L : Type 0} (blank : S) (p : Layout) (nodes : List (SeenNode S L)) (count : ℕ) → count ≡ p.nodes →
    AreMade blank p nodes count → AreBlank blank p nodes
made-blank {S} {L} blank p nodes count all made = made.blanks ∙ ap (λ v. replicate v (blank_node L blank)) all
