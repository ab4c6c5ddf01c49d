-- What contracts see of the two ends of a link: what was sent, what was received, and what is under way.
use Rattle.std.specs.Prelude.{◌≡◌, ℕ, ◌+◌, List, ◌++◌, length, drop, slice_set}
use mathlib.Core.List.{IsPrefix}
use Rattle.abc_pool.specs.Queues.{Queues, items_in, cells_of}
use Rattle.rtrb.specs.Ring.{sent, received, known_items, known_free, IsPair, SameProducer, SameConsumer}
use Rattle.abc_link.specs.declared.ends.LinkOut.{LinkOut}
use Rattle.abc_link.specs.declared.ends.LinkIn.{LinkIn}

module _ {T : Type 0} where
  -- the items that went into the ring, oldest first
  abbrev pub items_entered : LinkOut T → List T
  items_entered out = sent out.producer

  -- how many free places of the ring the sender knows of
  abbrev pub known_room : LinkOut T → ℕ
  known_room out = known_free out.producer

  -- the number of the queue that is the outbox
  abbrev pub queue_of : LinkOut T → ℕ
  queue_of out = out.queue

  -- the items that wait for room in the ring
  abbrev pub outbox : LinkOut T → Queues T → List T
  outbox out pool = items_in pool (queue_of out)

  -- the items sent: those that went into the ring, and then those in the outbox
  abbrev pub items_sent : LinkOut T → Queues T → List T
  items_sent out pool = items_entered out ++ outbox out pool

  -- the items received from the ring, oldest first
  abbrev pub items_received : LinkIn T → List T
  items_received into = received into.consumer

  -- the items that the receiver knows to be in the ring
  abbrev pub items_known : LinkIn T → List T
  items_known into = known_items into.consumer

  -- what is under way on a link: what was sent and not yet received
  abbrev pub under_way : LinkOut T → Queues T → LinkIn T → List T
  under_way out pool into = drop (length (items_received into)) (items_sent out pool)

  -- the two ends of one link
  abbrev pub ArePaired : LinkOut T → LinkIn T → Type 0
  ArePaired out into = IsPair out.producer into.consumer

  -- the same end of the same link, with the same outbox
  abbrev pub SameOut : LinkOut T → LinkOut T → Type 0
  SameOut old new = SameProducer old.producer new.producer × (queue_of new ≡ queue_of old)

  -- the same end of the same link
  abbrev pub SameIn : LinkIn T → LinkIn T → Type 0
  SameIn old new = SameConsumer old.consumer new.consumer

  -- items went from the front of the outbox into the ring, in their order; the other queues and the
  -- size of the table are as before
  pub record Moves (old : LinkOut T) (pool : Queues T) (new : LinkOut T) (pool' : Queues T) : Type 0 where
    pub same : SameOut old new
    pub sent : items_sent new pool' ≡ items_sent old pool
    pub grown : IsPrefix (items_entered old) (items_entered new)
    pub queues : pool'.queues ≡ slice_set pool.queues (queue_of old) (outbox new pool')
    pub number : length pool'.queues ≡ length pool.queues
    pub spare : pool'.spare + length (outbox new pool') ≡ pool.spare + length (outbox old pool)
    pub cells : cells_of pool' ≡ cells_of pool
