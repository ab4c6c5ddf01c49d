use Rattle.abc_trace_reader.proofs.Items.{numbered_next, few_more}
use Rattle.abc_trace_reader.proofs.words.number_heard.Goals as goal

pub loop-word-preserved : goal.loop-word-preserved
loop-word-preserved c = record {
  numbered =
      numbered_next c.args.names.now c.args.heard.now c.loop-word.word-index _ c.loop-word.names c.number.new.self c.loop-word.named c.push.new.self
      c.in_ok-number.number c.loop-word-test.true c.loop-word.invariant.numbered c.in_ok-number.ensures.number c.in_ok-number.ensures.names
      c.in_ok-push.ensures.ok;
  few = few_more c.loop-word.names c.number.new.self _ _ _ c.in_ok-number.ensures.names c.loop-word.invariant.few;
}
