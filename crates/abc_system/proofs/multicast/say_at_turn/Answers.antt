use Rattle.std.proofs.Common.{◌≡◌, ◌∙◌, ◌%◌, ℕ, length, refl, ap, subst}
use Rattle.std.proofs.lemmas.Option.{slice_get_read}
use Rattle.abc_term.specs.Processes.{Definitions}
use Rattle.abc_term.specs.Standing.{definitions_of}
use Rattle.abc_term.specs.Speaking.{Speaks, outs}
use Rattle.abc_moves.specs.Labels.{label_of}
use Rattle.abc_moves.specs.Moves.{moved}
use Rattle.abc_system.specs.Turns.{turn_of}
use Rattle.abc_system.specs.Members.{now_in, program_of}
use Rattle.abc_system.proofs.Casting.{each, below_members}
use Rattle.abc_system.proofs.multicast.say_at_turn.Goals as goal

pub returns : goal.returns
returns c =
    let m = c.index-members-sender.result in let members = c.args.members.now in
    let lt = below_members members c.args.sender c.requires.can.0 c.requires.can.1 in
    let at = slice_get_read members (length members) c.args.sender m refl lt c.index-members-sender.is in
    let defs = ap definitions_of (each (λ x. program_of x ≡ c.args.definitions.now) members c.args.sender m c.requires.under at) in (
      m,
      at,
      c.place_among-place.ensures.value
          ∙ ap (λ (n : ℕ). turn_of c.args.turn % n) (c.outputs.ensures.count ∙ ap (λ (d : Definitions). outs d (now_in m)) defs),
      subst (λ (d : Definitions). Speaks d (now_in m) c.place_among-place.result (label_of c.in_ok-label.label) (moved m.live c.in_ok-label.made))
          defs c.in_ok-label.ensures,
    )
