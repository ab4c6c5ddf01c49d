-- Legal records of a program.
use Rattle.std.specs.Prelude.{ℕ, List}
use Rattle.abc_packet.specs.declared.log.Entry.{Entry}
use Rattle.abc_shape.specs.declared.shape.Shape.{Shape}
use Rattle.abc_shape.specs.declared.shape.Shape.TheVariants.{Cluster, Ring, Tree}
use Rattle.abc_shape.specs.Plans.{IsLayout, layout_of}
use Rattle.abc_term.specs.declared.terms.Program.{Program}
use Rattle.abc_moves.specs.declared.label.Label.{Label}
use Rattle.abc_body.specs.Meanings.{Meaning}
use Rattle.abc_live_body.specs.Running.{RunningComponent}
use Rattle.abc_live_body.specs.AbcMeaning.{abc}
use Rattle.abc_live_body.specs.AbcLaws.{AreStarted}
use Rattle.abc_network.specs.Shapes.{cluster_rules, ring_rules, tree_rules}
use Rattle.abc_net.specs.declared.record.Record.{Record}
use Rattle.abc_net.specs.Records.{logs_of}
use Rattle.abc_schedule.specs.Legal.{IsLegal}

-- The logs are a legal record for these bodies, by the rules of the shape.
abbrev pub IsLegalBy : {B L : Type 0} → Meaning B L → Shape → ℕ → ℕ → ℕ → ℕ → List B →
    List (List (Entry L)) → Type 0
IsLegalBy m Cluster agents nodes limit pick bodies logs =
    IsLegal m (cluster_rules agents nodes limit pick) bodies logs
IsLegalBy m Ring agents nodes limit pick bodies logs =
    IsLegal m (ring_rules agents nodes limit pick) bodies logs
IsLegalBy m Tree agents nodes limit pick bodies logs =
    IsLegal m (tree_rules agents nodes limit pick) bodies logs

-- The record is a legal one of the program: its network is a plan, and its logs are a legal record
-- for the program's components as they begin.
pub record IsLegalFor (p : Program) (ran : Record Label) : Type 0 where
  pub plan : IsLayout (layout_of ran.shape ran.agents ran.nodes)
  pub bodies : List RunningComponent
  pub started : AreStarted p bodies
  pub legal : IsLegalBy abc ran.shape ran.agents ran.nodes ran.limit ran.pick bodies (logs_of ran)
