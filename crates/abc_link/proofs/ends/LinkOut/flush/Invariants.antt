use Rattle.std.proofs.Common.{◌+◌, ◌<◌, ◌≤◌, length}
use Rattle.abc_link.specs.Links.{items_entered, known_room, queue_of, outbox, Moves}
use Rattle.abc_link.proofs.ends.LinkOut.flush.Given as goal

abbrev pub invariant-moving : goal.invariant-moving
invariant-moving g l = record {
  moves : Moves l.initial.self l.initial.pool l.self l.pool;
  exists : queue_of l.self < length l.pool.queues;
  reach : known_room l.initial.self + length (items_entered l.initial.self) ≤ known_room l.self + length (items_entered l.self);
}

abbrev pub decreases-moving : goal.decreases-moving
decreases-moving g l = length (outbox l.self l.pool)
