use Rattle.std.proofs.Common.{arith, length-drop}
use Rattle.abc_value.proofs.Texts.{text_more, text_bad, text_long, text_end}
use Rattle.abc_value.proofs.quoted.text.Goals as goal

pub returns-in-Quote : goal.returns-in-Quote
returns-in-Quote c = text_end _ _ _ c.pieces.invariant c.in-Quote.ensures

pub returns-then-len-eq-LONGEST_TEXT : goal.returns-then-len-eq-LONGEST_TEXT
returns-then-len-eq-LONGEST_TEXT c = text_long _ _ _ c.in-Byte.byte _ c.pieces.invariant (let v = c.len.ensures.value in omega arith) c.in-Byte.ensures.1 c.in-Byte.ensures.2

pub pieces-preserved : goal.pieces-preserved
pieces-preserved c =
    rw c.push.ensures (text_more _ _ _ _ _ c.pieces.invariant (let v = c.len.ensures.value in let s = c.pieces.invariant.short in omega arith) c.in-Byte.ensures.0 c.in-Byte.ensures.1 c.in-Byte.ensures.2 (let l = c.in-Byte.ensures.1 in let d = length-drop c.pieces.at c.args.bytes.now in let w = c.pieces.invariant.within in omega arith))

pub returns-in-Bad : goal.returns-in-Bad
returns-in-Bad c = text_bad _ _ _ c.pieces.invariant c.in-Bad.ensures
