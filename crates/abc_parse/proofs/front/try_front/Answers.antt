use Rattle.std.proofs.Common.{◌≡◌, ◌<◌, length, arith}
use Rattle.abc_reading.specs.Reading.{Refused}
use Rattle.abc_readers.specs.Operands.{Tokens}
use Rattle.abc_readers.specs.Preds.{pred}
use Rattle.abc_parse.proofs.Lists.{some_of}
use Rattle.abc_parse.proofs.Exact.{refused_fits}
use Rattle.abc_parse.proofs.front.try_front.Goals as goal

pub overflow_sub-result-else-len-eq0 : goal.overflow_sub-result-else-len-eq0
overflow_sub-result-else-len-eq0 c =
    let rest : Tokens = c.pred.new.self.rest.lexemes.now in
    let e : pred c.args.lexemes.now ≡ Refused c.in-Err-Refused.field-0-0 rest =
    rw c.of-left.ensures at (rw c.in-Err-Refused.field-0-is at c.in-Err-Refused.ensures.reads) in
    omega (arith, refused_fits c.args.lexemes.now c.in-Err-Refused.field-0-0 rest e, c.len-else-len-eq0.ensures)

pub returns-else-len-eq0 : goal.returns-else-len-eq0
returns-else-len-eq0 c =
    let rest : Tokens = c.pred.new.self.rest.lexemes.now in
    let e : pred c.args.lexemes.now ≡ Refused c.in-Err-Refused.field-0-0 rest =
    rw c.of-left.ensures at (rw c.in-Err-Refused.field-0-is at c.in-Err-Refused.ensures.reads) in
    let fits = refused_fits c.args.lexemes.now c.in-Err-Refused.field-0-0 rest e in
    let some : 0 < length rest = some_of c.len-in-Err-Refused.result (length rest) c.len-in-Err-Refused.ensures c.if-len-eq0.false in
    (c.in-Err-Refused.field-0-0, rest, e, omega (arith, fits, c.len-else-len-eq0.ensures), some)
