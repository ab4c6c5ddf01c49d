use Rattle.std.proofs.Common.{◌≡◌, ◌++◌, take, flat_map}
use Rattle.abc_term.specs.Standing.{process_of}
use Rattle.abc_print.specs.Bytes.{definition_bytes}
use Rattle.abc_print.proofs.programs.print_definitions.Given as goal

abbrev pub invariant-loop-definition : goal.invariant-loop-definition
invariant-loop-definition l =
    l.out ≡ l.initial.out ++ flat_map (λ d. definition_bytes l.names (d.name, process_of d.body)) (take l.definition-index l.definitions)
