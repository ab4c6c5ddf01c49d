use Rattle.std.proofs.Common.{ap, ◌∙◌, sym, subst, length, take}
use Rattle.abc_net.specs.Records.{entries_of}
use Rattle.abc_merge.specs.Telling.{tell_log, AreWithin}
use Rattle.abc_merge.proofs.Known.{count_logs}
use Rattle.abc_merge.proofs.Steps.{more_logs, within_logs_at}
use Rattle.abc_merge.proofs.told.tell_agents.Goals as goal

pub tell_entries-requires : goal.tell_entries-requires
tell_entries-requires g c =
    let d = c.index-logs-agent.result in
    let same = c.entries.ensures.value ∙ ap (λ l. l.entries) c.index-logs-agent.is in
    let many = ap (λ l. length l) c.loop-agent.invariant
    ∙ count_logs 0 (entries_of (take c.loop-agent.agent c.args.logs.now)) c.args.rows.now.items in
    record {
      within = subst (λ n. AreWithin n c.entries.result.now) (sym many)
          (subst (AreWithin (length c.args.rows.now.items)) (sym same)
          (within_logs_at (length c.args.rows.now.items) c.args.logs.now c.loop-agent.agent d c.loop-agent-test.true
          c.requires.within));
    }

pub loop-agent-preserved : goal.loop-agent-preserved
loop-agent-preserved g c =
    let d = c.index-logs-agent.result in
    let same = c.entries.ensures.value ∙ ap (λ l. l.entries) c.index-logs-agent.is in
    more_logs c.args.logs.now c.loop-agent.agent d c.args.rows.now.items c.loop-agent.rows.items
    c.tell_entries.new.rows.items c.loop-agent-test.true c.loop-agent.invariant
    (c.in_ok-tell_entries.ensures ∙ ap (λ l. tell_log c.loop-agent.agent l c.loop-agent.rows.items) same)
