use Rattle.std.proofs.Common.{◌≡◌, ◌∙◌, length, ap, sym, subst, arith}
use Rattle.std.specs.Prelude.{IfOk}
use denote.Param.Send.{sendable}
use Rattle.std.proofs.Crossing as heap
use Rattle.std.proofs.MapsCrossing as maps
use Rattle.abc_value.proofs.list.List.TheSendSync as list
use Rattle.abc_value.proofs.value.Value.TheSendSync as value
use Rattle.abc_pred.proofs.env.Env.TheSendSync as env
use Rattle.abc_pred.proofs.names.Name.TheSendSync as name
use Rattle.abc_pred.proofs.syntax.Operand.TheLaws.TheKnot as operand
use Rattle.abc_pred.proofs.syntax.Expr.TheLaws.TheKnot as expr
use Rattle.abc_pred.proofs.syntax.Pred.TheLaws.TheKnot as pred
use Rattle.abc_term.proofs.terms.Process.TheLaws.TheKnot as process
use Rattle.abc_moves.proofs.scope.Scope.TheSendSync as scope
use Rattle.abc_moves.proofs.tree.Tree.TheLaws.TheKnot as tree
use Rattle.abc_shape.specs.Plans.{IsLayout, layout_of}
use Rattle.abc_shape.specs.declared.layout.Layout.{Layout}
use Rattle.abc_net.specs.Records.{logs_of}
use Rattle.abc_live_body.specs.AbcMeaning.{abc}
use Rattle.abc_record_text.specs.LegalRecords.{IsLegalBy}
use Rattle.abc_record_run.specs.RunRecords.{IsOfNetwork}
use Rattle.abc_record_run.proofs.Begun.{plan-of}
use Rattle.abc_record_run.proofs.Legally.{for-program, if-ok-both}
use Rattle.abc_record_run.proofs.run.run_in_order.Goals as goal

-- there are at most 256 components
pub overflow_cast-agents : goal.overflow_cast-agents
overflow_cast-agents c =
    let plan = plan-of c.args.program.now c.args.shape c.args.nodes c.requires.checked c.requires.a_node c.requires.nodes in
    let few = plan.most_agents in
    let len = c.len-agents.ensures in
    omega arith

pub new-requires : goal.new-requires
new-requires c =
    subst (λ v. IsLayout (layout_of c.args.shape v c.args.nodes)) (sym c.len-agents.ensures)
    (plan-of c.args.program.now c.args.shape c.args.nodes c.requires.checked c.requires.a_node c.requires.nodes)

-- What the toolchain's search tries too, with more steps than it takes by itself.
pub run_bodies-requires-send-B : goal.run_bodies-requires-send-B
run_bodies-requires-send-B c κs =
    search (
      scope.the_send,
      env.the_send,
      name.the_send,
      name.the_sync,
      name.the_field_sync,
      value.the_field_sync,
      list.the_sync,
      tree.crosses,
      process.crosses,
      pred.crosses,
      expr.crosses,
      operand.crosses,
      heap.crosses,
      maps.crosses,
      sendable,
    ) depth 40 fits 20000

-- a body for each agent
pub run_bodies-requires-clause-many : goal.run_bodies-requires-clause-many
run_bodies-requires-clause-many c κs =
    c.in_ok-bodies.ensures.started.count ∙ (sym c.len-agents.ensures ∙ sym (ap (λ v. v.agents) c.in_ok-plan.ensures))

pub returns-clause-legal : goal.returns-clause-legal
returns-clause-legal c =
    let p = c.args.program.now in
    let shape = c.args.shape in
    let nodes = c.args.nodes in
    let limit = c.args.limit in
    let pick = c.args.pick in
    let bodies = c.in_ok-bodies.bodies.items in
    let layout = layout_of shape (length p.components) nodes in
    let whole : c.in_ok-plan.plan ≡ layout = c.in_ok-plan.ensures ∙ ap (λ v. layout_of shape v nodes) c.len-agents.ensures in
    let Legal : Layout → Type 0 =
    λ v. IfOk c.run_bodies.result (λ ran. IsLegalBy abc v.shape v.agents v.nodes limit pick bodies (logs_of ran)) in
    let Network : Layout → Type 0 =
    λ v. IfOk c.run_bodies.result (λ ran. IsOfNetwork v.shape v.agents v.nodes limit pick ran) in
    if-ok-both c.run_bodies.result _ _ _ (subst Legal whole c.run_bodies.ensures.legal) (subst Network whole c.run_bodies.ensures.network)
    (λ ran legal network. for-program p shape nodes limit pick bodies ran
    (plan-of p shape nodes c.requires.checked c.requires.a_node c.requires.nodes) c.in_ok-bodies.ensures.started (legal, network))

pub returns-clause-network : goal.returns-clause-network
returns-clause-network c =
    let shape = c.args.shape in
    let nodes = c.args.nodes in
    let layout = layout_of shape (length c.args.program.now.components) nodes in
    let whole : c.in_ok-plan.plan ≡ layout = c.in_ok-plan.ensures ∙ ap (λ v. layout_of shape v nodes) c.len-agents.ensures in
    let Network : Layout → Type 0 =
    λ v. IfOk c.run_bodies.result (λ ran. IsOfNetwork v.shape v.agents v.nodes c.args.limit c.args.pick ran) in
    subst Network whole c.run_bodies.ensures.network
