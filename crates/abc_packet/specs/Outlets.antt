-- Sendings: what the lists of an outlet gain, link by link.
use Rattle.std.specs.Prelude.{◌≡◌, ℕ, ◌==◌, List, [], ◌∷◌, ◌++◌, if◌then◌else◌}
use Rattle.abc_packet.specs.declared.stamped.Stamped.{Stamped}

-- Of these sendings, each on a link, the packets on one link, in order.
abbrev pub sent_on : {L : Type 0} → ℕ → List (ℕ × Stamped L) → List (Stamped L)
sent_on link [] = []
sent_on link (s ∷ sends) = if s.0 == link then s.1 ∷ sent_on link sends else sent_on link sends

-- For each link a list of packets.
abbrev pub Lists : Type 0 → Type 0
Lists L = ℕ → List (Stamped L)

-- Each link's list has gained at its end what was sent on that link, and nothing else.
abbrev pub Sends : {L : Type 0} → Lists L → List (ℕ × Stamped L) → Lists L → Type 0
Sends before sends after = (link : ℕ) → after link ≡ before link ++ sent_on link sends

-- No link's list has changed.
abbrev pub SameLists : {L : Type 0} → Lists L → Lists L → Type 0
SameLists before after = (link : ℕ) → after link ≡ before link

-- The set of links is the same.
abbrev pub SameLinks : (ℕ → Type 0) → (ℕ → Type 0) → Type 0
SameLinks before after = (link : ℕ) → (before link → after link) × (after link → before link)

-- What an outlet in memory holds: how many links it has, what was sent, and for how many packets
-- more it has room.
pub record Sent (L : Type 0) : Type 0 where
  pub links : ℕ
  pub sends : List (ℕ × Stamped L)
  pub room : ℕ
