use Rattle.std.proofs.Common.{length-append, arith}
use Rattle.abc_trace_reader.proofs.Items.{numbered_item, few_more}
use Rattle.abc_trace_reader.proofs.words.number_entries.Goals as goal

pub loop-word-preserved : goal.loop-word-preserved
loop-word-preserved c = record {
  numbered =
      numbered_item c.args.names.now c.loop-word.yielded (c.in-Some.word, c.in-Some.value) c.loop-word.names c.number.new.self c.loop-word.named
      c.push.new.self c.in_ok-number.number c.loop-word.invariant.numbered c.in_ok-number.ensures.number c.in_ok-number.ensures.names
      c.in_ok-push.ensures.ok;
  few =
      let few = few_more c.loop-word.names c.number.new.self _ _ _ c.in_ok-number.ensures.names c.loop-word.invariant.few in
      omega (arith, few, length-append c.loop-word.yielded);
}
