-- How worked runs of clusters are written, with components as bodies.
use Rattle.std.specs.Prelude.{ℕ, List, [], ◌∷◌, length, Option, map}
use Rattle.abc_value.specs.declared.value.Value.{Value}
use Rattle.abc_pred.specs.declared.syntax.Pred.TheVariants.{True}
use Rattle.abc_pred.specs.Maps.{Entries}
use Rattle.abc_term.specs.Processes.{Definitions, Process, System}
use Rattle.abc_term.specs.Examples.Writing.{component}
use Rattle.abc_moves.specs.declared.label.Label.{Label}
use Rattle.abc_packet.specs.declared.choice.Choice.{Choice}
use Rattle.abc_packet.specs.declared.packets.Content.{Content}
use Rattle.abc_packet.specs.declared.packets.Packet.{Packet}
use Rattle.abc_packet.specs.declared.stamped.Stamped.{Stamped}
use Rattle.abc_packet.specs.declared.log.Deed.{Deed}
use Rattle.abc_packet.specs.declared.log.Entry.{Entry}
use Rattle.abc_live_body.specs.Running.{RunningComponent}
use Rattle.abc_live_body.specs.AbcMeaning.{abc}
use Rattle.abc_network.specs.Agents.{AgentState, Asking}
use Rattle.abc_network.specs.Networks.{Net, Actor, Rules, Event, NetStep}
use Rattle.abc_network.specs.Numbering.{Turn, turns_of, rows_of, choices_of}
use Rattle.abc_network_laws.specs.Simulation.{places_at, front_at}

-- The states of a cluster whose bodies are components.
abbrev pub Components : Type 0
Components = Net RunningComponent Label (Unit {0})

-- A component without visible attributes, as a body.
abbrev pub body : Definitions → Entries → Process → RunningComponent
body defs env P = record { definitions = defs; component = component env [] P }

-- What such a component says to all.
abbrev pub saying : Value → Label
saying v = record { shown = []; pred = True; values = v ∷ []; closed = ∣ tt ∣₁ }

abbrev pub did : ℕ → Deed Label → Entry Label
did clock deed = record { clock = clock; deed = deed }

abbrev pub sent_at : ℕ → Packet Label → Stamped Label
sent_at clock packet = record { clock = clock; packet = packet }

-- An agent, and a node.
abbrev pub agent : RunningComponent → ℕ → Asking → List (ℕ × Content Label) → ℕ → ℕ →
    List (Entry Label) → Actor (AgentState RunningComponent Label) Label
agent body front asking stored packets clock log = record {
  state = record {
    body = body;
    front = front;
    asking = asking;
    stored = stored;
    packets = packets;
  };
  clock = clock;
  log = log;
}

abbrev pub node : ℕ → List (Entry Label) → Actor (Unit {0}) Label
node clock log = record { state = tt; clock = clock; log = log }

abbrev pub turn_by : ℕ → Option ℕ → Content Label → Turn Label
turn_by sender place content = record { sender = sender; place = place; content = content }

abbrev pub chosen : ℕ → Option ℕ → List (ℕ × ℕ) → Choice
chosen sender place heard = record { sender = sender; place = place; heard = heard }

-- The last numbers that the agents took or turned, what they have stored, and their components.
abbrev pub fronts_in : Components → List ℕ
fronts_in w = map front_at w.agents

abbrev pub stored_in : Components → List (List (ℕ × Content Label))
stored_in w = map (λ a. a.state.stored) w.agents

abbrev pub system_in : Components → System
system_in w = map (λ a. a.state.body.component) w.agents

abbrev pub environments_in : Components → List Entries
environments_in w = map (λ C. C.env) (system_in w)

-- What was said and heard at the numbers of a run, out of its events and the logs at its end.
abbrev pub choices_in : List (Event Label) → Components → List Choice
choices_in es w = choices_of (turns_of es) (rows_of (length (turns_of es)) (map places_at w.agents))

-- It is no event in this state.
abbrev pub IsNone : Rules Label (Unit {0}) → Components → Event Label → Type 0
IsNone r w e = (w' : Components) → NetStep abc r w e w' → ⊥
