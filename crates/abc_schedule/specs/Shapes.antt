-- What a shape owes for one schedule: each packet is sent on a link that starts at its sender.
use Rattle.std.specs.Prelude.{ℕ, ◌<◌, List}
use Rattle.abc_packet.specs.declared.packets.Packet.{Packet}
use Rattle.abc_packet.specs.declared.log.Deed.{Deed}
use Rattle.abc_shape.specs.declared.layout.Layout.{Layout}
use Rattle.abc_shape.specs.Plans.{IsLink, actor_of}
use Rattle.abc_network.specs.Networks.{Rules}
use Rattle.abc_network_laws.specs.Kept.{Each}

-- This link starts at an actor.
abbrev pub StartsAt : Layout → ℕ → ℕ → Type 0
StartsAt p actor link = (to : ℕ) × IsLink p link actor to

pub record OwnLinks {L N : Type 0} (r : Rules L N) : Type 0 where
  pub agents : (i packets : ℕ) → i < r.plan.agents → StartsAt r.plan i (r.way i packets)
  pub nodes : (k : ℕ) (s : N) (d : Deed L) (sends : List (ℕ × Packet L)) (s' : N) →
      k < r.plan.nodes → r.node.does k s d sends s' →
      Each (λ x. StartsAt r.plan (actor_of r.plan k) x.0) sends
