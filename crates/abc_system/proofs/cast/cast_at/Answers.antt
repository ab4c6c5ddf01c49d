use Rattle.std.proofs.Common.{◌≡◌, ◌∙◌, ◌%◌, inl, inr, ℕ, length, map, ap, sym, subst, arith}
use Rattle.std.specs.Prelude.{slice_get, Some}
use Rattle.abc_term.specs.Standing.{definitions_of}
use Rattle.abc_steps.specs.Turns.{speakers}
use Rattle.abc_steps.proofs.Turns.{silent_or_not, speaker_of}
use Rattle.abc_system.specs.Turns.{turn_of}
use Rattle.abc_system.specs.Members.{now_in}
use Rattle.abc_system.proofs.Choosing.{turn_cast}
use Rattle.abc_system.proofs.cast.cast_at.Goals as goal

pub returns-then-count-eq0 : goal.returns-then-count-eq0
returns-then-count-eq0 c =
    let defs = definitions_of c.args.definitions.now in
    let S = map now_in c.args.members.now in
    let count : length (speakers defs S) ≡ 0 = sym (c.speakers-count.ensures.count 0) ∙ c.if-count-eq0.true in
    elim (silent_or_not defs S) [ inl silent ↦ silent | inr some ↦ absurd (omega arith) ]

pub say_at_turn-requires-clause-can : goal.say_at_turn-requires-clause-can
say_at_turn-requires-clause-can c =
    speaker_of (definitions_of c.args.definitions.now) (map now_in c.args.members.now) c.place_among.result c.speaker_at-sender.result
    c.speaker_at-sender.ensures

pub returns : goal.returns
returns c =
    let defs = definitions_of c.args.definitions.now in
    let S = map now_in c.args.members.now in
    let place : c.place_among.result ≡ turn_of c.args.turn % length (speakers defs S) =
    c.place_among.ensures.value ∙ ap (λ (n : ℕ). turn_of c.args.turn % n) (c.speakers-count.ensures.count 0) in
    turn_cast defs c.args.members.now (turn_of c.args.turn)
    (record { sender = c.speaker_at-sender.result; said = c.in_ok-said.said; heard = c.in_ok-heard.heard })
    (subst (λ (p : ℕ). slice_get (speakers defs S) p ≡ Some c.speaker_at-sender.result) place c.speaker_at-sender.ensures)
    c.in_ok-said.ensures c.in_ok-heard.ensures
