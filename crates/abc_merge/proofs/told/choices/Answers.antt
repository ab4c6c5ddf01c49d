use Rattle.std.proofs.Common.{ap, ◌∙◌, sym, subst, length, replicate, take}
use Rattle.abc_net.specs.Records.{entries_of, agents_logs}
use Rattle.abc_merge.specs.Telling.{blank, tell_logs, AllWithin, numbers_in}
use Rattle.abc_merge.proofs.Known.{within_all, count_is, told_whole, count-blank}
use Rattle.abc_merge.proofs.Steps.{first_are}
use Rattle.abc_merge.proofs.told.choices.Goals as goal

-- The logs that are walked are those of the agents.
pub tell_agents-requires-clause-within : goal.tell_agents-requires-clause-within
tell_agents-requires-clause-within g c =
    let logs = ap (λ l. entries_of (take c.args.ran.now.agents l)) c.as_slice.ensures
    ∙ first_are c.args.ran.now.agents c.args.ran.now.logs in
    let (count, numbered) = c.requires.numbered in
    let many = ap (λ l. length l) c.in_ok-rows.ensures
    ∙ (count-blank c.numbers_of.result
    ∙ (c.numbers_of.ensures ∙ (ap numbers_in logs ∙ count_is (agents_logs c.args.ran.now) count numbered))) in
    subst (λ n. AllWithin n (entries_of (take c.args.ran.now.agents c.as_slice.result.now))) (sym many)
    (subst (AllWithin count) (sym logs) (within_all count (agents_logs c.args.ran.now) numbered.took))

pub returns-clause-choices : goal.returns-clause-choices
returns-clause-choices g c =
    let logs = ap (λ l. entries_of (take c.args.ran.now.agents l)) c.as_slice.ensures
    ∙ first_are c.args.ran.now.agents c.args.ran.now.logs in
    let (count, numbered) = c.requires.numbered in
    let many = c.numbers_of.ensures ∙ (ap numbers_in logs ∙ count_is (agents_logs c.args.ran.now) count numbered) in
    let is = c.from_vec.ensures ∙ (c.in_ok-tell_agents.ensures
    ∙ (ap (λ l. tell_logs 0 l c.in_ok-rows.rows.items) logs
    ∙ ap (tell_logs 0 (agents_logs c.args.ran.now))
    (c.in_ok-rows.ensures ∙ ap (λ n. replicate n blank) many))) in
    (told_whole (agents_logs c.args.ran.now) count c.from_vec.result numbered is).0

pub returns-clause-count : goal.returns-clause-count
returns-clause-count g c =
    let logs = ap (λ l. entries_of (take c.args.ran.now.agents l)) c.as_slice.ensures
    ∙ first_are c.args.ran.now.agents c.args.ran.now.logs in
    let (count, numbered) = c.requires.numbered in
    let many = c.numbers_of.ensures ∙ (ap numbers_in logs ∙ count_is (agents_logs c.args.ran.now) count numbered) in
    let is = c.from_vec.ensures ∙ (c.in_ok-tell_agents.ensures
    ∙ (ap (λ l. tell_logs 0 l c.in_ok-rows.rows.items) logs
    ∙ ap (tell_logs 0 (agents_logs c.args.ran.now))
    (c.in_ok-rows.ensures ∙ ap (λ n. replicate n blank) many))) in
    (told_whole (agents_logs c.args.ran.now) count c.from_vec.result numbered is).1
