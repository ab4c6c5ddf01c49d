use Rattle.std.proofs.Common.{◌≡◌, ◌<◌, ◌-◌, length, subst, arith}
use Rattle.abc_reading.specs.Reading.{Read, Refused}
use Rattle.abc_readers.specs.Operands.{Tokens}
use Rattle.abc_readers.specs.Programs.{whole_program}
use Rattle.abc_parse.specs.Items.{plain_items}
use Rattle.abc_parse.proofs.Lists.{none_of, some_of}
use Rattle.abc_parse.proofs.Programs.{read_program, refused_fits, refused_program, ended_program}
use Rattle.abc_parse.proofs.reading.try_program.Goals as goal

pub overflow_sub-result : goal.overflow_sub-result
overflow_sub-result c =
    let rest : Tokens = c.whole_program.new.parser.rest.lexemes.now in
    let e : whole_program c.args.lexemes.now ≡ Refused c.in-Err-Refused.field-0-0 rest =
    rw c.of-left.ensures at (rw c.in-Err-Refused.field-0-is at c.in-Err-Refused.ensures.reads) in
    omega (arith, refused_fits c.args.lexemes.now rest c.in-Err-Refused.field-0-0 e, c.len-else-len-eq0.ensures)

pub returns-in-Ok : goal.returns-in-Ok
returns-in-Ok c =
    let rest : Tokens = c.whole_program.new.parser.rest.lexemes.now in
    let e : whole_program c.args.lexemes.now ≡ Read (plain_items c.in-Ok.items) rest = rw c.of-left.ensures at c.in-Ok.ensures.reads in
    read_program c.args.lexemes.now rest (plain_items c.in-Ok.items) e

pub returns-then-len-eq0 : goal.returns-then-len-eq0
returns-then-len-eq0 c =
    let rest : Tokens = c.whole_program.new.parser.rest.lexemes.now in
    let e : whole_program c.args.lexemes.now ≡ Refused c.in-Err-Refused.field-0-0 rest =
    rw c.of-left.ensures at (rw c.in-Err-Refused.field-0-is at c.in-Err-Refused.ensures.reads) in
    ended_program c.args.lexemes.now c.in-Err-Refused.field-0-0
    (subst (λ (us : Tokens). whole_program c.args.lexemes.now ≡ Refused c.in-Err-Refused.field-0-0 us) (none_of rest (omega (arith, c.len.ensures, c.if-len-eq0.true))) e)

pub returns-else-len-eq0 : goal.returns-else-len-eq0
returns-else-len-eq0 c =
    let rest : Tokens = c.whole_program.new.parser.rest.lexemes.now in
    let e : whole_program c.args.lexemes.now ≡ Refused c.in-Err-Refused.field-0-0 rest =
    rw c.of-left.ensures at (rw c.in-Err-Refused.field-0-is at c.in-Err-Refused.ensures.reads) in
    let fits = refused_fits c.args.lexemes.now rest c.in-Err-Refused.field-0-0 e in
    let some : 0 < length rest = some_of c.len.result (length rest) c.len.ensures c.if-len-eq0.false in
    refused_program c.args.lexemes.now rest c.in-Err-Refused.field-0-0 (length c.args.lexemes.now - c.len-else-len-eq0.result) e
    (omega (arith, fits, c.len-else-len-eq0.ensures)) some
