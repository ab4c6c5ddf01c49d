use Rattle.std.proofs.Common.{◌≡◌, ◌∙◌, inl, inr, length, map, arith}
use Rattle.abc_term.specs.Standing.{definitions_of}
use Rattle.abc_steps.specs.Turns.{speakers}
use Rattle.abc_steps.proofs.Turns.{silent_or_not, silent_has_none}
use Rattle.abc_system.specs.Members.{now_in}
use Rattle.abc_system.specs.Running.{system_in, definitions_in}
use Rattle.abc_system.proofs.system.System.is_silent.Goals as goal

pub returns : goal.returns
returns c =
    let defs = definitions_in c.args.self.now in
    let S = system_in c.args.self.now in
    let count : c.speakers.result ≡ length (speakers defs S) =
    c.speakers.ensures.count 0
    ∙ (λ i. length (speakers (definitions_of (c.as_slice.ensures i)) (map now_in (c.as_slice-2.ensures.value i)))) in (
      λ none. elim (silent_or_not defs S) [ inl silent ↦ silent | inr some ↦ absurd (grind (arith, none, count, some)) ],
      λ silent. let zero = count ∙ silent_has_none defs S silent in grind (arith, zero),
    )
