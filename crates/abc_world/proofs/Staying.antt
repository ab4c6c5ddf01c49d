-- What stays of a network's agents and nodes as one of them changes.
use Rattle.std.proofs.Common.{ℕ, List, sym, ap, ◌∙◌, inl, inr}
use Rattle.abc_packet.specs.declared.stamped.Stamped.{Stamped}
use Rattle.abc_packet.specs.declared.log.Deed.{Deed}
use Rattle.abc_shape.specs.declared.layout.Layout.{Layout}
use Rattle.abc_number.specs.Counter.{Counter}
use Rattle.abc_body.specs.Meanings.{Meaning}
use Rattle.abc_network.specs.Nodes.{NodeMachine}
use Rattle.abc_network_laws.proofs.Lists.{swap-old, swap-get, swap-length}
use Rattle.abc_history.specs.Nodes.{SeenNode}
use Rattle.abc_agent.specs.Members.{Member}
use Rattle.abc_world.specs.Teams.{AreAgents, AgentMade}
use Rattle.abc_world.specs.Crews.{AreNodes, NodeMade}

-- They are still the agents of the network.
pub agents-stay : {B L : Type 0} (m : Meaning B L) (p : Layout) (pick i : ℕ) (Is : Deed L → Type 0)
    (taken : List (ℕ × Stamped L)) (agents agents' : List (Member B L)) (links links' : List (List (Stamped L))) →
    AreAgents p pick agents → AgentMade m i Is taken agents agents' links links' → AreAgents p pick agents'
agents-stay {B} {L} m p pick i Is taken agents agents' links links' are made =
    let stood = are.each i made.old (swap-old i made.old made.new agents agents' made.at) in
    record {
      many = swap-length i made.old made.new agents agents' made.at ∙ are.many;
      each = λ j a stands.
          elim (swap-get i made.old made.new agents agents' made.at j a stands) [
            | inl e ↦ (
              ap (λ (v : Member B L). v.plan) e.1 ∙ (made.same.plan ∙ stood.0),
              ap (λ (v : Member B L). v.number) e.1 ∙ (made.same.number ∙ (stood.1 ∙ sym e.0)),
              ap (λ (v : Member B L). v.pick) e.1 ∙ (made.same.pick ∙ stood.2),
            )
            | inr q ↦ are.each j a q.1
          ];
    }

-- And so with the nodes.
pub nodes-stay : {S L : Type 0} (machine : Layout → NodeMachine L S) (p : Layout) (k : ℕ) (Is : Deed L → Type 0)
    (taken : List (ℕ × Stamped L)) (nodes nodes' : List (SeenNode S L)) (links links' : List (List (Stamped L)))
    (numbers numbers' : Counter) → AreNodes p nodes →
    NodeMade machine k Is taken nodes nodes' links links' numbers numbers' → AreNodes p nodes'
nodes-stay {S} {L} machine p k Is taken nodes nodes' links links' numbers numbers' are made =
    let stood = are.each k made.old (swap-old k made.old made.new nodes nodes' made.at) in
    record {
      many = swap-length k made.old made.new nodes nodes' made.at ∙ are.many;
      each = λ j n stands.
          elim (swap-get k made.old made.new nodes nodes' made.at j n stands) [
            | inl e ↦ (
              ap (λ (v : SeenNode S L). v.plan) e.1 ∙ (made.same.plan ∙ stood.0),
              ap (λ (v : SeenNode S L). v.number) e.1 ∙ (made.same.number ∙ (stood.1 ∙ sym e.0)),
            )
            | inr q ↦ are.each j n q.1
          ];
    }
