use Rattle.std.proofs.Common.{ℕ, List, length, map, Bor, ap, subst, arith}
use Rattle.abc_trace_lines.specs.Reading.{plain_said}
use Rattle.abc_trace_preds.specs.Reading.{IsReadPred}
use Rattle.abc_trace_order.specs.Reading.{AreNumbered}
use Rattle.abc_trace_order.proofs.Numbering.{said_numbered, said_none}
use Rattle.abc_trace_reader.proofs.Rooms.{heard_room}
use Rattle.abc_trace_reader.proofs.steps.read_said.Goals as goal

pub number_heard-requires : goal.number_heard-requires
number_heard-requires c =
    let read = subst (IsReadPred c.args.names.now c.args.said.pred.now c.read_sent.new.names) c.in-Some.is c.in_ok-read_sent.ensures in
    let room = heard_room c.args.names.now c.args.said c.read_sent.new.names c.in-Some.pred c.requires.few read in
    omega (arith, room, ap (length {A = Bor (List ℕ) × ℕ}) c.as_slice.ensures)

pub returns-in-None : goal.returns-in-None
returns-in-None c =
    said_none c.args.names.now (plain_said c.args.said) c.read_sent.new.names
    (subst (IsReadPred c.args.names.now c.args.said.pred.now c.read_sent.new.names) c.in-None.is c.in_ok-read_sent.ensures)

pub returns-in_ok-heard-in-Some : goal.returns-in_ok-heard-in-Some
returns-in_ok-heard-in-Some c =
    said_numbered c.preds_stay.ensures c.args.names.now (plain_said c.args.said) c.read_sent.new.names c.in-Some.pred c.number_heard.new.names
    c.in_ok-heard-in-Some.heard c.requires.said
    (subst (IsReadPred c.args.names.now c.args.said.pred.now c.read_sent.new.names) c.in-Some.is c.in_ok-read_sent.ensures)
    (subst (λ (hs : List (Bor (List ℕ) × ℕ)). AreNumbered c.read_sent.new.names (map {B = List ℕ × ℕ} (λ e. (e.0.now, e.1)) hs) c.number_heard.new.names
    c.in_ok-heard-in-Some.heard) c.as_slice.ensures c.in_ok-heard-in-Some.ensures)
