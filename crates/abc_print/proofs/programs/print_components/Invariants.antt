use Rattle.std.proofs.Common.{◌≡◌, ◌++◌, take, flat_map}
use Rattle.abc_grammar.specs.Plain.{plain_component}
use Rattle.abc_print.specs.Bytes.{component_bytes}
use Rattle.abc_print.proofs.programs.print_components.Given as goal

abbrev pub invariant-loop-component : goal.invariant-loop-component
invariant-loop-component l =
    l.out ≡ l.initial.out ++ flat_map (λ C. component_bytes l.names (plain_component C)) (take l.component-index l.components)
