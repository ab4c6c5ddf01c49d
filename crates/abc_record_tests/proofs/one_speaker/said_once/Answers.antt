use Rattle.std.proofs.Common.{◌≡◌, length, arith}
use Rattle.abc_record_tests.proofs.one_speaker.said_once.Goals as goal

pub returns : goal.returns
returns c =
    let one : length c.args.program.now.components ≡ 1 = omega (arith, c.len.ensures, c.if-len-ne1.false) in
    record {
      one = one;
      first = c.in_ok-body.body;
      last = c.speak.new.self;
      starts = c.in_ok-body.ensures.component;
      under = c.in_ok-body.ensures.program;
      speaks = c.in_ok-said.ensures.spoke;
      placed = c.in_ok-said.ensures.place;
      silent = c.if-can_speak.ensures;
      same = c.in_ok-said.ensures.same;
    }
