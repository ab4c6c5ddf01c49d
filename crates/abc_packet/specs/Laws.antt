-- Laws of sendings, and worked logs.
use Rattle.std.specs.Prelude.{◌≡◌, ◌≢◌, ℕ, List, [], ◌∷◌, ◌++◌, None}
use Rattle.abc_packet.specs.declared.packets.Packet.TheVariants.{Request}
use Rattle.abc_packet.specs.declared.stamped.Stamped.{Stamped}
use Rattle.abc_packet.specs.declared.log.Deed.TheVariants.{Asked, Arrived}
use Rattle.abc_packet.specs.declared.log.Entry.{Entry}
use Rattle.abc_packet.specs.Logs.{Rise}
use Rattle.abc_packet.specs.Outlets.{Lists, Sends}

-- One sending appends to its own link's list and leaves the others.
abbrev pub OneSending : Type 0 → Type 0
OneSending L =
    (before after : Lists L) (link : ℕ) (stamped : Stamped L) →
    Sends before ((link, stamped) ∷ []) after →
    (after link ≡ before link ++ stamped ∷ [])
    × ((other : ℕ) → other ≢ link → after other ≡ before other)

-- Some sendings and then others are all of them.
abbrev pub SendingsAddUp : Type 0 → Type 0
SendingsAddUp L =
    (before mid after : Lists L) (sends more : List (ℕ × Stamped L)) →
    Sends before sends mid → Sends mid more after → Sends before (sends ++ more) after

-- An agent asks at clock 1, and then a packet arrives.
abbrev pub asked_then_arrived : ℕ → ℕ → List (Entry ℕ)
asked_then_arrived sent clock =
    record { clock = 1; deed = Asked }
    ∷ record { clock = clock; deed = Arrived 0 (record { clock = sent; packet = Request 0 }) None }
    ∷ []

pub record WorkedLogs : Type 0 where
  -- sent at 3, it arrives at 4, or later
  pub next : Rise 0 (asked_then_arrived 3 4)
  pub later : Rise 0 (asked_then_arrived 3 9)
  -- it can't arrive at the clock of its sending, nor at the clock of the entry before
  pub not_above : ¬ (Rise 0 (asked_then_arrived 3 3))
  pub not_later : ¬ (Rise 0 (asked_then_arrived 0 1))
