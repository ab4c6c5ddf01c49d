-- Which deeds an event of a kind logs.
use Rattle.std.specs.Prelude.{◌≡◌, ℕ}
use Rattle.abc_packet.specs.declared.log.Deed.{Deed}
use Rattle.abc_packet.specs.declared.log.Deed.TheVariants.{Asked, Arrived, Took, Turned, Passed}
use Rattle.abc_packet.specs.declared.log.Deed.TheVariants.{Stray}
use Rattle.abc_agent.specs.Members.{IsAsk, IsTake, IsTurn}
use Rattle.abc_world.specs.declared.event.EventKind.{EventKind}
use Rattle.abc_world.specs.declared.event.EventKind.TheVariants.{Ask, Arrive, Take, Turn, Pass}

-- A packet came on this link, as it was expected or not.
abbrev pub ArrivesOn : {L : Type 0} → ℕ → Deed L → Type 0
ArrivesOn link Asked = ⊥
ArrivesOn link (Arrived l stamped drew) = l ≡ link
ArrivesOn link (Took n place) = ⊥
ArrivesOn link (Turned n place content) = ⊥
ArrivesOn link (Passed n) = ⊥
ArrivesOn link (Stray l stamped) = l ≡ link

-- A message was passed on.
abbrev pub IsPass : {L : Type 0} → Deed L → Type 0
IsPass Asked = ⊥
IsPass (Arrived link stamped drew) = ⊥
IsPass (Took n place) = ⊥
IsPass (Turned n place content) = ⊥
IsPass (Passed n) = Unit {0}
IsPass (Stray link stamped) = ⊥

-- By kind.
abbrev pub IsOfKind : {L : Type 0} → EventKind → Deed L → Type 0
IsOfKind Ask d = IsAsk d
IsOfKind (Arrive link) d = ArrivesOn link d
IsOfKind Take d = IsTake d
IsOfKind Turn d = IsTurn d
IsOfKind Pass d = IsPass d
