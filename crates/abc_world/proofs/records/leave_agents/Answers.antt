use Rattle.std.proofs.Common.{◌≡◌, ◌+◌, ◌++◌, ◌∙◌, ap, sym, length, subst, arith, vec_len}
use Rattle.std.specs.Prelude.{map}
use Rattle.abc_net.specs.Records.{entries_of}
use Rattle.abc_schedule.specs.Schedules.{log_in}
use Rattle.abc_world.specs.Teams.{actor_in}
use Rattle.abc_world.proofs.Left.{LeftSoFar, left-next, left-all, map-twice}
use Rattle.abc_world.proofs.records.leave_agents.Goals as goal

-- one log more was left
pub leaving-preserved : goal.leaving-preserved
leaving-preserved g c = (
  left-next (λ a. log_in (actor_in a)) (entries_of c.args.logs.now.items) (map (λ a. log_in (actor_in a)) c.from-left.result.items)
      (vec_len c.args.logs.now + length c.from-left.result.items) (vec_len c.leaving.logs) (vec_len c.push_reserved.new.self)
      c.leaving.logs.items c.push_reserved.new.self.items c.in-Some.agent c.pop_front.new.self.items c.into_log.result
      (subst (λ v. LeftSoFar (λ a. log_in (actor_in a)) (entries_of c.args.logs.now.items)
      (map (λ a. log_in (actor_in a)) c.from-left.result.items) (vec_len c.args.logs.now + length c.from-left.result.items)
      (vec_len c.leaving.logs) c.leaving.logs.items v) c.in-Some.ensures.items c.leaving.invariant.0)
      c.push_reserved.ensures.items c.into_log.ensures c.push_reserved.ensures.len,
  c.push_reserved.ensures.capacity ∙ c.leaving.invariant.1,
)

-- all were
pub returns-clause-logs : goal.returns-clause-logs
returns-clause-logs g c =
    let ok = c.leaving.left.ok in
    let none : length c.leaving.left.items ≡ 0 = omega (arith, c.in_default.ensures.cases.0) in
    left-all (λ a. log_in (actor_in a)) (entries_of c.args.logs.now.items) (map (λ a. log_in (actor_in a)) c.from-left.result.items)
    (vec_len c.args.logs.now + length c.from-left.result.items) (vec_len c.leaving.logs) c.leaving.logs.items c.leaving.left.items
    none c.leaving.invariant.0
    ∙ (ap (λ v. entries_of c.args.logs.now.items ++ map (λ a. log_in (actor_in a)) v) c.from-left.ensures.0
    ∙ ap (λ v. entries_of c.args.logs.now.items ++ v) (sym (map-twice actor_in log_in c.args.agents.items)))
