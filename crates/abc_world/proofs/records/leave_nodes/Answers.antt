use Rattle.std.proofs.Common.{◌≡◌, ◌+◌, ◌++◌, ◌∙◌, ap, sym, length, subst, arith, vec_len, List}
use Rattle.std.specs.Prelude.{map}
use Rattle.abc_packet.specs.declared.log.Entry.{Entry}
use Rattle.abc_net.specs.Records.{entries_of}
use Rattle.abc_schedule.specs.Schedules.{log_in}
use Rattle.abc_world.specs.Runnings.{node_in}
use Rattle.abc_world.proofs.Left.{LeftSoFar, left-next, left-all, map-twice}
use Rattle.abc_world.proofs.records.leave_nodes.Goals as goal

-- one log more was left
pub leaving-preserved : goal.leaving-preserved
leaving-preserved g c =
    let log : g.row.M.Denot → List (Entry g.row.L.Denot) = λ n. log_in (node_in (g.M.Node.node n)) in (
      left-next log (entries_of c.args.logs.now.items) (map log c.from-left.result.items)
          (vec_len c.args.logs.now + length c.from-left.result.items) (vec_len c.leaving.logs) (vec_len c.push_reserved.new.self)
          c.leaving.logs.items c.push_reserved.new.self.items c.in-Some.node c.pop_front.new.self.items c.into_log.result
          (subst (λ v. LeftSoFar log (entries_of c.args.logs.now.items) (map log c.from-left.result.items)
          (vec_len c.args.logs.now + length c.from-left.result.items) (vec_len c.leaving.logs) c.leaving.logs.items v)
          c.in-Some.ensures.items c.leaving.invariant.0)
          c.push_reserved.ensures.items c.into_log.ensures c.push_reserved.ensures.len,
      c.push_reserved.ensures.capacity ∙ c.leaving.invariant.1,
    )

-- all were
pub returns-clause-logs : goal.returns-clause-logs
returns-clause-logs g c =
    let log : g.row.M.Denot → List (Entry g.row.L.Denot) = λ n. log_in (node_in (g.M.Node.node n)) in
    let ok = c.leaving.left.ok in
    let none : length c.leaving.left.items ≡ 0 = omega (arith, c.in_default.ensures.cases.0) in
    left-all log (entries_of c.args.logs.now.items) (map log c.from-left.result.items)
    (vec_len c.args.logs.now + length c.from-left.result.items) (vec_len c.leaving.logs) c.leaving.logs.items c.leaving.left.items
    none c.leaving.invariant.0
    ∙ (ap (λ v. entries_of c.args.logs.now.items ++ map log v) c.from-left.ensures.0
    ∙ ap (λ v. entries_of c.args.logs.now.items ++ v)
    (sym (map-twice node_in log_in (map g.M.Node.node c.args.nodes.items)
    ∙ map-twice g.M.Node.node (λ n. log_in (node_in n)) c.args.nodes.items)))
