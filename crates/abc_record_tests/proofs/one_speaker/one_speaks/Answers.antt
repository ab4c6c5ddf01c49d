use Rattle.std.proofs.Common.{◌≡◌, ◌∙◌, List, [], ◌∷◌, ◌++◌, ap}
use Rattle.abc_packet.specs.declared.log.Log.{Log}
use Rattle.abc_moves.specs.declared.label.Label.{Label}
use Rattle.abc_net.specs.Records.{entries_of}
use Rattle.abc_record_tests.specs.OneSpeaker.{speaker_log, node_log}
use Rattle.abc_record_tests.proofs.OneSpeaks.{one-speaks}
use Rattle.abc_record_tests.proofs.one_speaker.one_speaks.Goals as goal

pub returns : goal.returns
returns c =
    let place = c.in_ok-place.place in let said = c.in_ok-place.said in let heard = c.in_ok-place.heard in
    let speaker = c.in_ok-speaker_log.field-0 in let node = c.in_ok-node_log.field-0 in
    let are : c.push-2.new.self ≡ speaker ∷ node ∷ [] =
    c.in_ok-push-2.ensures.ok
    ∙ ap (λ (xs : List (Log Label)). xs ++ node ∷ [])
    (c.in_ok-push.ensures.ok ∙ ap (λ (xs : List (Log Label)). xs ++ speaker ∷ []) c.new-logs.ensures) in
    let entries : entries_of c.push-2.new.self ≡ speaker_log place said ∷ node_log heard ∷ [] =
    ap entries_of are ∙ (λ i. c.in_ok-speaker_log.ensures i ∷ c.in_ok-node_log.ensures i ∷ []) in
    one-speaks c.args.program.now place said heard c.push-2.new.self c.in_ok-place.ensures entries
