use Rattle.std.proofs.Common.{◌≡◌, ◌∙◌, ℕ, ◌++◌, List, length, take, get_or, ap, sym, arith}
use Rattle.std.proofs.Math.Seq.{take-length}
use Rattle.abc_trace.specs.Lines.{node_text}
use Rattle.abc_trace.specs.Texts.{numbered}
use Rattle.abc_trace.proofs.Numbered.{numbered_on}
use Rattle.abc_record_text.specs.RecordTexts.{handled_in}
use Rattle.abc_record_text.proofs.Handled.{get_or-handled_in, length-handled_in}
use Rattle.abc_record_text.proofs.told.write_nodes.Goals as goal

pub loop-node-preserved : goal.loop-node-preserved
loop-node-preserved c =
    let ran = c.args.ran.now in let node = c.loop-node.node in
    let many = length-handled_in ran c.requires in
    let line : c.write_node.new.out ≡ c.loop-node.out ++ node_text node (get_or (handled_in ran) node 0) =
    c.in_ok-write_node.ensures
    ∙ ap (λ (n : ℕ). c.loop-node.out ++ node_text n c.handled.result) c.from.ensures
    ∙ ap (λ (n : ℕ). c.loop-node.out ++ node_text node n) (c.handled.ensures ∙ sym (get_or-handled_in ran node)) in
    numbered_on node_text 0 (handled_in ran) node node c.args.out.now c.loop-node.out c.write_node.new.out 0
    (omega (arith, many, c.loop-node-test.true)) c.loop-node.invariant line

pub returns : goal.returns
returns c =
    let ran = c.args.ran.now in let node = c.loop-node.node in
    let many = length-handled_in ran c.requires in
    let all : node ≡ length (handled_in ran) = omega (arith, many, c.loop-node-test.false, c.loop-node.auto.node-end) in
    c.loop-node.invariant.written
    ∙ ap (λ (xs : List ℕ). c.args.out.now ++ numbered node_text 0 xs)
    (ap (λ (n : ℕ). take n (handled_in ran)) all ∙ take-length (handled_in ran))
