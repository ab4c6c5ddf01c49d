-- What a walk over the whole of a component counts and finds, as the rules have it.
use Rattle.std.proofs.Common.{◌≡◌, ℕ, List, Some, length, ap, subst, ◌∙◌}
use Rattle.abc_pred.specs.declared.names.Name.{Name}
use Rattle.abc_pred.specs.Maps.{Entries}
use Rattle.abc_term.specs.declared.terms.Definition.{Definition}
use Rattle.abc_term.specs.Processes.{Definitions, Component}
use Rattle.abc_term.specs.Standing.{definitions_of}
use Rattle.abc_term.specs.Speaking.{Label, Speaks, outs}
use Rattle.abc_term.specs.Hearing.{Hears, ins}
use Rattle.abc_moves.specs.Walks.{outs_at, ins_at}
use Rattle.abc_moves.specs.declared.around.Around.{Around}
use Rattle.abc_moves.specs.declared.made.Move.{Move}
use Rattle.abc_moves.specs.declared.tree.Tree.{Tree}
use Rattle.abc_moves.specs.Trees.{parts, parts_moved}

module _ (defs ds : Definitions) (d : ℕ) (C : Component) (env : Entries) (e : ds ≡ defs) (n : d ≡ length ds) (f : env ≡ C.env) where
  pub outs_whole : outs_at d ds env C.process ≡ outs defs C
  outs_whole = (λ i. outs_at (n i) ds (f i) C.process) ∙ ap (λ (D : Definitions). outs_at (length D) D C.env C.process) e

  module _ (interface : List Name) (g : interface ≡ C.interface) where
    pub ins_whole : (l : Label) → ins_at d ds l env interface C.process ≡ ins defs C l
    ins_whole l = (λ i. ins_at (n i) ds l (f i) (g i) C.process) ∙ ap (λ (D : Definitions). ins_at (length D) D l C.env C.interface C.process) e

-- ---- what is said of the things around a tree, said of a component with that tree
module _ (at : Around) (t : Tree) (ds : List Definition) (env : Entries) (interface : List Name) (e : at.bodies.definitions.now ≡ ds) (f : at.env.now ≡ env) (g : at.interface.now ≡ interface) where
  abbrev Speaking : List Definition → Entries → List Name → ℕ → Label → Move → Type 0
  Speaking D E I k l m = Speaks (definitions_of D) (parts E I t) k l (parts_moved E I t m)

  pub speaks_around : (k : ℕ) (l : Label) (m : Move) → Speaking at.bodies.definitions.now at.env.now at.interface.now k l m → Speaking ds env interface k l m
  speaks_around k l m s =
      subst (λ (I : List Name). Speaking ds env I k l m) g
      (subst (λ (E : Entries). Speaking ds E at.interface.now k l m) f
      (subst (λ (D : List Definition). Speaking D at.env.now at.interface.now k l m) e s))

  abbrev Hearing : List Definition → Entries → List Name → Label → ℕ → Move → Type 0
  Hearing D E I l k m = Hears (definitions_of D) (parts E I t) l (Some k) (parts_moved E I t m)

  pub hears_around : (l : Label) (k : ℕ) (m : Move) → Hearing at.bodies.definitions.now at.env.now at.interface.now l k m → Hearing ds env interface l k m
  hears_around l k m s =
      subst (λ (I : List Name). Hearing ds env I l k m) g
      (subst (λ (E : Entries). Hearing ds E at.interface.now l k m) f
      (subst (λ (D : List Definition). Hearing D at.env.now at.interface.now l k m) e s))
