use Rattle.std.proofs.Common.{◌≡◌, ◌∙◌, ◌≤◌, ℕ, length, refl, ap, subst}
use Rattle.std.proofs.lemmas.Option.{slice_get_read}
use Rattle.abc_term.specs.Processes.{Definitions}
use Rattle.abc_term.specs.Standing.{definitions_of}
use Rattle.abc_term.specs.Speaking.{Speaks, outs}
use Rattle.abc_moves.specs.Labels.{label_of}
use Rattle.abc_moves.specs.Moves.{moved}
use Rattle.abc_steps.proofs.Turns.{one_item}
use Rattle.abc_system.specs.Members.{now_in, program_of}
use Rattle.abc_system.proofs.Casting.{seen_at, each}
use Rattle.abc_system.proofs.multicast.say.Goals as goal

pub returns-then-outputs-place : goal.returns-then-outputs-place
returns-then-outputs-place c C e =
    let m = c.in-Some.member.now in let members = c.args.members.now in
    let at = slice_get_read members (length members) c.args.sender m refl c.in-Some.ensures.lookup.3.0 c.in-Some.ensures.lookup.1 in
    let same : now_in m ≡ C = one_item _ (now_in m) C (seen_at now_in members c.args.sender m at) e in
    let defs = ap definitions_of (each (λ x. program_of x ≡ c.args.definitions.now) members c.args.sender m c.requires.under at) in
    subst (λ (n : ℕ). n ≤ c.args.place)
    (c.outputs.ensures.count ∙ ap (λ (d : Definitions). outs d (now_in m)) defs ∙ ap (outs (definitions_of c.args.definitions.now)) same)
    c.if-outputs-place.true

pub returns : goal.returns
returns c =
    let m = c.in-Some.member.now in let members = c.args.members.now in
    let at = slice_get_read members (length members) c.args.sender m refl c.in-Some.ensures.lookup.3.0 c.in-Some.ensures.lookup.1 in
    let defs = ap definitions_of (each (λ x. program_of x ≡ c.args.definitions.now) members c.args.sender m c.requires.under at) in (
      m,
      at,
      refl,
      subst (λ (d : Definitions). Speaks d (now_in m) c.args.place (label_of c.in_ok-label.label) (moved m.live c.in_ok-label.made))
          defs c.in_ok-label.ensures,
    )
