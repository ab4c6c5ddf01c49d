use Rattle.std.proofs.Common.{Some}
use Rattle.std.proofs.lemmas.List.Elements.{All-pop}
use Rattle.abc_counter.specs.Counters.{IsSeatOf}
use Rattle.abc_counter.proofs.Gathered.{starts, takes_in}
use Rattle.abc_counter.proofs.counter.SharedCounter.gather.Goals as goal

pub taking-init : goal.taking-init
taking-init c =
    let self = c.args.self.now in
    let last = c.take_last-whole.ensures in
    let rest = c.take_last-whole.new.seats in
    let of = All-pop (IsSeatOf self) c.args.seats rest (Some last.0) last.1 c.requires.of in record {
      taken = rw last.2 (starts self last.0 rest c.args.seats last.1 of.1);
      of = of.0;
    }

pub take_in-requires-clause-seat : goal.take_in-requires-clause-seat
take_in-requires-clause-seat c =
    let self = c.args.self.now in
    (All-pop (IsSeatOf self) c.taking.seats c.pop.new.self (Some c.in-Some.seat) c.in-Some.ensures.last c.taking.invariant.of).1

pub taking-preserved : goal.taking-preserved
taking-preserved c =
    let self = c.args.self.now in
    let seat = c.in-Some.seat in
    let rest = c.pop.new.self in
    let was = c.taking.invariant in
    let last = c.in-Some.ensures.last in record {
      taken = takes_in self c.taking.whole c.take_in.new.whole seat rest c.taking.seats c.args.seats last was.taken
          c.take_in.ensures.table c.take_in.ensures.view;
      of = (All-pop (IsSeatOf self) c.taking.seats rest (Some seat) last was.of).0;
    }
