-- A component with the definitions under which it runs.
use Rattle.std.specs.Prelude.{◌≡◌, List, refl}
use Rattle.std.specs.Coded.{Coded, code_by, coded×, coded_list}
use Rattle.abc_value.specs.contracts.value.Value as value
use Rattle.abc_pred.specs.declared.names.Name.{Name}
use Rattle.abc_pred.specs.contracts.names.Name as name
use Rattle.abc_pred.specs.Maps.{Entries}
use Rattle.abc_term.specs.Processes.{Definitions, Component, Process}
use Rattle.abc_moves.specs.declared.live.Live.{Live}
use Rattle.abc_moves.specs.Lives.{component_in, definitions_in}
use Rattle.abc_live_body.specs.Held.{process_code}

pub record RunningComponent : Type 0 where
  pub definitions : Definitions
  pub component : Component

-- What a live component stands for.
abbrev pub running_in : Live → RunningComponent
running_in l = record { definitions = definitions_in l; component = component_in l }

-- It is stored as its parts.
abbrev pub running_code : Coded RunningComponent
running_code =
    code_by (Definitions × (Entries × (List Name × Process)))
    (coded× (coded_list (coded× name.the_row.coded process_code))
    (coded× (coded_list (coded× name.the_row.coded value.the_row.coded)) (coded× (coded_list name.the_row.coded) process_code)))
    (λ r. (r.definitions, (r.component.env, (r.component.interface, r.component.process))))
    (λ p. record { definitions = p.0; component = record { env = p.1.0; interface = p.1.1.0; process = p.1.1.1 } })
    (λ _. refl)
