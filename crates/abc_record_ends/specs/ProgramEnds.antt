-- A legal record of a program's components tells a run of the program that ends where it may.
use Rattle.std.specs.Prelude.{◌≡◌, ◌⊎◌, ℕ, List, length, map, take}
use Rattle.abc_packet.specs.declared.choice.Choice.{Choice}
use Rattle.abc_packet.specs.declared.log.Entry.{Entry}
use Rattle.abc_shape.specs.declared.shape.Shape.TheVariants.{Cluster, Ring, Tree}
use Rattle.abc_shape.specs.Plans.{IsLayout, layout_of}
use Rattle.abc_term.specs.declared.terms.Program.{Program}
use Rattle.abc_term.specs.Processes.{System}
use Rattle.abc_term.specs.Standing.{definitions_of, system_of}
use Rattle.abc_term.specs.Systems as systems
use Rattle.abc_moves.specs.declared.label.Label.{Label}
use Rattle.abc_steps.specs.Alike.{AreAlike}
use Rattle.abc_live_body.specs.Running.{RunningComponent}
use Rattle.abc_live_body.specs.AbcMeaning.{abc}
use Rattle.abc_live_body.specs.AbcLaws.{AreStarted}
use Rattle.abc_live_body.specs.Systems.{bodies_under, choice_of}
use Rattle.abc_network.specs.Networks.{Rules}
use Rattle.abc_network.specs.Shapes.{cluster_rules, ring_rules, tree_rules}
use Rattle.abc_network_laws.specs.Simulation.{body_at}
use Rattle.abc_logs.specs.Choices.{AreChoices}
use Rattle.abc_schedule.specs.Legal.{IsLegal}

-- By the rules of one network: the choices lead the program to one system T, whose components are
-- the bodies at the end but for the order in which interfaces list names. They are as many as the
-- limit, or no component of T can speak.
abbrev pub EndsTheProgram : {N : Type 0} → Rules Label N → Type 0
EndsTheProgram r =
    (p : Program) (bodies : List RunningComponent) (logs : List (List (Entry Label)))
    (l : IsLegal abc r bodies logs) (choices : List Choice) → AreStarted p bodies →
    length choices ≡ l.count → AreChoices (take r.plan.agents logs) 1 choices →
    (S : System) × (T : System)
    × (map body_at l.last.agents ≡ bodies_under (definitions_of p.definitions) S) × AreAlike S T
    × systems.Runs (definitions_of p.definitions) (system_of p) (map choice_of choices) T
    × ((U : System) →
    systems.Runs (definitions_of p.definitions) (system_of p) (map choice_of choices) U → U ≡ T)
    × ((length choices ≡ r.limit) ⊎ systems.IsSilent (definitions_of p.definitions) T)

-- By those of each shape.
pub record ProgramRecordsEndRight : Type 0 where
  pub clusters : (agents nodes limit pick : ℕ) → IsLayout (layout_of Cluster agents nodes) →
      EndsTheProgram (cluster_rules agents nodes limit pick)
  pub rings : (agents nodes limit pick : ℕ) → IsLayout (layout_of Ring agents nodes) →
      EndsTheProgram (ring_rules agents nodes limit pick)
  pub trees : (agents nodes limit pick : ℕ) → IsLayout (layout_of Tree agents nodes) →
      EndsTheProgram (tree_rules agents nodes limit pick)
