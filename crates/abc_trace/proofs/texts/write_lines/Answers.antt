use Rattle.std.proofs.Common.{◌∙◌, ◌++◌, ap}
use Rattle.abc_trace.specs.Texts.{line_text}
use Rattle.abc_trace.proofs.Numbered.{numbered_on}
use Rattle.abc_trace.proofs.texts.write_lines.Goals as goal

pub loop-line-preserved : goal.loop-line-preserved
loop-line-preserved c =
    let print = line_text c.args.names.now in
    numbered_on print 1 c.args.lines.now c.loop-line.line-index c.loop-line.number c.args.out.now c.loop-line.out c.write_line.new.out
    c.line-item.result c.loop-line-test.true c.loop-line.invariant
    (c.in_ok-write_line.ensures ∙ ap (λ line. c.loop-line.out ++ print c.loop-line.number line) c.line-item.is)
