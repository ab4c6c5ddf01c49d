use Rattle.std.proofs.Common.{◌∙◌, List, [], ap, subst, sym}
use Rattle.std.specs.Arc.{arc_value}
use Rattle.abc_pred.specs.declared.names.Name.{Name}
use Rattle.abc_pred.specs.Maps.{ListsTheSame}
use Rattle.abc_term.specs.declared.terms.Definition.{Definition}
use Rattle.abc_term.specs.Standing.{process_of, set_all, component_of, definitions_of}
use Rattle.abc_term.specs.Substitution.{put}
use Rattle.abc_term.specs.Speaking.{outs}
use Rattle.abc_term.specs.Processes.{Component}
use Rattle.abc_term.proofs.Bindings.{putting_nothing}
use Rattle.abc_moves.specs.Bodies.{FindsFirst}
use Rattle.abc_moves.proofs.Sounding.{sound-process}
use Rattle.abc_moves.proofs.component.started.Goals as goal

pub returns-clause-component : goal.returns-clause-component
returns-clause-component c =
    let P = process_of c.args.component.now.run in
    record {
      env = c.in_ok-env.ensures ∙ ap (λ es. set_all es []) c.as_slice.ensures;
      interface = subst (λ (names : List Name). ListsTheSame c.in_ok-interface.interface names) c.as_slice-2.ensures c.in_ok-interface.ensures.names;
      process = ap (λ w. put w P) c.empty.ensures ∙ putting_nothing P;
    }

pub counted-outputs-requires : goal.counted-outputs-requires
counted-outputs-requires c =
    let p = c.args.program.now in let P = process_of c.args.component.now.run in
    ∣ (
      p,
      sym (c.bodies_of-bodies.ensures ∙ c.as_slice-definitions.ensures),
      sound-process p (component_of c.args.component.now) (record { env = c.in_ok-env.env; interface = c.in_ok-interface.interface; process = put c.empty.result P })
          (ap (λ w. put w P) c.empty.ensures ∙ putting_nothing P) c.requires.sound,
    ) ∣₁

pub invariant_of-result : goal.invariant_of-result
invariant_of-result c =
    let p = c.args.program.now in let P = process_of c.args.component.now.run in
    let now : Component = record { env = c.in_ok-env.env; interface = c.in_ok-interface.interface; process = put c.empty.result P } in
    record {
      finds = subst (λ (ds : List Definition). FindsFirst (arc_value c.args.first) ds) (sym c.as_slice-definitions.ensures) c.requires.finds;
      counted = c.counted-outputs.ensures ∙ ap (λ (ds : List Definition). outs (definitions_of ds) now) c.bodies_of-bodies.ensures;
      sound = ∣ (
        p,
        sym c.as_slice-definitions.ensures,
        sound-process p (component_of c.args.component.now) now (ap (λ w. put w P) c.empty.ensures ∙ putting_nothing P) c.requires.sound,
      ) ∣₁;
    }
