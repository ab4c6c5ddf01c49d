use Rattle.std.proofs.Common.{◌≡◌, ◌≤◌, ◌<◌, false, length, sym, ap, ◌∙◌, arith}
use Rattle.abc_text.specs.Meanings.{has_word, number_in}
use Rattle.abc_trace_order.specs.Reading.{plain_entries}
use Rattle.abc_trace_order.proofs.Growth.{env_grows}
use Rattle.abc_trace_order.proofs.Refusing.{component_new, component_known}
use Rattle.abc_trace_reader.proofs.Rooms.{env_room}
use Rattle.abc_trace_reader.proofs.Stepping.{env_late, is_none, with_new}
use Rattle.abc_trace_reader.proofs.steps.take_env.Goals as goal

pub returns-then-number-count : goal.returns-then-number-count
returns-then-number-count c =
    let r = c.args.reading.now in
    let low : number_in r.components c.args.component.now < length r.finals =
    omega (arith, c.in_ok-number.ensures.number, c.if-number-count.true, c.len-count.ensures) in
    env_late c.lines_are_one.ensures r c.requires.read c.args.component.now (plain_entries c.args.entries) c.requires.spelled
    (λ comes. component_known r c.requires.read c.args.component.now low comes.new)

pub read_env-requires-clause-few : goal.read_env-requires-clause-few
read_env-requires-clause-few c = env_room c.args.reading.now c.requires.read c.args.component.now c.args.entries c.requires.short

pub returns : goal.returns
returns c =
    let r = c.args.reading.now in
    let high : length r.finals ≤ number_in r.components c.args.component.now =
    omega (arith, c.in_ok-number.ensures.number, c.if-number-count.false, c.len-count.ensures) in
    let new = component_new r c.requires.read c.args.component.now high in
    env_grows c.preds_stay.ensures r c.requires.read c.args.component.now (plain_entries c.args.entries) c.read_env.new.names c.in_ok-last.last
    c.push.new.self c.number.new.self
    (record {
      before = is_none r.handled c.is_empty.result c.is_empty.ensures c.if-not-is_empty.false;
      new = new;
      room = omega (arith, c.if-count-ge-MOST_COMPONENTS.false, c.len-count.ensures);
    })
    c.in_ok-last.ensures c.in_ok-push.ensures.ok (c.in_ok-number.ensures.names ∙ with_new r.components c.args.component.now new)
