-- What the run with an early number comes to, and what can't happen on its way.
use Rattle.std.proofs.Common.{◌≡◌, ℕ, ◌+◌, [], ◌∷◌, refl, ap, sym, ◌∙◌, lit<, lit≤, arith}
use Rattle.std.specs.Prelude.{Option, Some, None, map, take}
use Rattle.abc_value.specs.declared.grant.Grant.TheVariants.{Number}
use Rattle.abc_term.specs.Systems as systems
use Rattle.abc_moves.specs.declared.label.Label.{Label}
use Rattle.abc_moves.specs.Labels.{label_of}
use Rattle.abc_packet.specs.declared.packets.Content.{Content}
use Rattle.abc_packet.specs.declared.packets.Content.TheVariants.{Said}
use Rattle.abc_packet.specs.declared.packets.Packet.TheVariants.{Request, Message}
use Rattle.abc_packet.specs.declared.log.Deed.TheVariants.{Arrived, Took, Turned}
use Rattle.abc_live_body.specs.AbcMeaning.{abc}
use Rattle.abc_live_body.specs.Systems.{choice_of}
use Rattle.abc_network.specs.Agents.{Idle, Granted}
use Rattle.abc_network.specs.Networks.{AgentDid, NodeDid, Netrun}
use Rattle.abc_network.specs.Quiets.{AgentRests, IsQuiet}
use Rattle.abc_network_runs.specs.Writing.{did, sent_at, system_in, choices_in, IsNone}
use Rattle.abc_network_runs.specs.EarlyNumber.{b, spoken, c_after_one, c_after_two, said_one}
use Rattle.abc_network_runs.specs.EarlyNumber.{said_two, rules, events, at_first, b_asked, both_have}
use Rattle.abc_network_runs.specs.EarlyNumber.{own_comes, two_stored, at_last}
use Rattle.abc_network_runs.proofs.Concrete.{each-get, each-same, old-is}
use Rattle.abc_network_runs.proofs.EarlyStates.{w1, w2, w3, w5, w7, w8, w9, w10, w11, w12, w14}
use Rattle.abc_network_runs.proofs.EarlyStates.{w15, w16, w17}
use Rattle.abc_network_runs.proofs.EarlySteps.{a-says, b-says, b-discards, a-discards, c-hears-one}
use Rattle.abc_network_runs.proofs.EarlySteps.{c-hears-two, step1, step2, step3, step4, step5, step6}
use Rattle.abc_network_runs.proofs.EarlySteps.{step7, step8, step9, step10, step11, step12, step13}
use Rattle.abc_network_runs.proofs.EarlySteps.{step14, step15, step16, step17, step18}

-- The first thirteen events, one after the other,
pub early-start : Netrun abc rules at_first (take 13 events) two_stored
early-start = (
  w1,
  step1,
  (
    w2,
    step2,
    (
      w3,
      step3,
      (
        b_asked,
        step4,
        (
          w5,
          step5,
          (
            both_have,
            step6,
            (
              w7,
              step7,
              (w8, step8, (w9, step9, (w10, step10, (w11, step11, (w12, step12, (two_stored, step13, refl)))))),
            ),
          ),
        ),
      ),
    ),
  ),
)

-- and all eighteen.
pub early-run : Netrun abc rules at_first events at_last
early-run = (
  w1,
  step1,
  (
    w2,
    step2,
    (
      w3,
      step3,
      (
        b_asked,
        step4,
        (
          w5,
          step5,
          (
            both_have,
            step6,
            (
              w7,
              step7,
              (
                w8,
                step8,
                (
                  w9,
                  step9,
                  (
                    w10,
                    step10,
                    (
                      w11,
                      step11,
                      (
                        w12,
                        step12,
                        (
                          two_stored,
                          step13,
                          (
                            w14,
                            step14,
                            (w15, step15, (w16, step16, (w17, step17, (at_last, step18, refl)))),
                          ),
                        ),
                      ),
                    ),
                  ),
                ),
              ),
            ),
          ),
        ),
      ),
    ),
  ),
)

-- All three rest at the end: they have nothing to say, and nothing is stored.
spoken-rests : AgentRests abc (record { body = spoken; front = 2; asking = Idle; stored = []; packets = 2 })
spoken-rests = record { no_ask = (λ e can. absurd can.3.0.0); no_take = refl; no_turn = (λ e. cc) }

heard-rests : AgentRests abc (record { body = c_after_two; front = 2; asking = Idle; stored = []; packets = 0 })
heard-rests = record { no_ask = (λ e can. absurd can.3.0.0); no_take = refl; no_turn = (λ e. cc) }

pub early-quiet : IsQuiet abc rules at_last
early-quiet = record {
  still = record {
    links = λ l q at. each-get (λ x. x ≡ []) at_last.links l q (each-same (λ x. x ≡ []) 18 [] refl) at;
    agents = λ i x at. each-get (λ y. AgentRests abc y.state) at_last.agents i x
        (spoken-rests, (spoken-rests, (heard-rests, tt))) at;
    nodes = λ k x at can. absurd can;
  };
  agents = λ i x at. each-get (λ y. y.state.stored ≡ []) at_last.agents i x (refl, (refl, (refl, tt))) at;
  nodes = λ k x at n sender content has. absurd has;
}

-- The choices are a run of the calculus: c hears a and then b.
pub early-calculus :
    systems.Runs [] (system_in at_first) (map choice_of (choices_in events at_last)) (system_in at_last)
early-calculus = (
  spoken.component ∷ b.component ∷ c_after_one.component ∷ [],
  (
    label_of said_one,
    record {
      exists = lit< tt;
      hearers = (lit≤ tt, lit< tt, (λ e. cc), tt);
      moves = (a-says.0, (b-discards.0, (c-hears-one.0, tt)));
    },
  ),
  (
    system_in at_last,
    (
      label_of said_two,
      record {
        exists = lit< tt;
        hearers = (lit≤ tt, lit< tt, (λ e. cc), tt);
        moves = (a-discards.0, (b-says.0, (c-hears-two.0, tt)));
      },
    ),
    refl,
  ),
)

-- Number 1 was drawn before.
pub not-twice : (clock : ℕ) →
    IsNone rules b_asked (NodeDid 1 (did clock (Arrived 8 (sent_at 1 (Request 1)) (Some (Number 1)))))
not-twice clock w s = let fresh = s.draws.2 in absurd (cc)

-- The number that b has is not its next.
pub not-yet : (clock n : ℕ) (place : Option ℕ) (content : Content Label) →
    IsNone rules both_have (AgentDid 1 (did clock (Turned n place content)))
not-yet clock n place content w s =
    let e = old-is 1 s.old s.new _ both_have.agents w.agents s.at refl in
    let front : s.old.state.front ≡ 0 = ap (λ v. v.state.front) e in
    let asking : s.old.state.asking ≡ Granted 2 = ap (λ v. v.state.asking) e in
    let has : Granted 2 ≡ Granted n = sym asking ∙ s.row.granted in
    let two : ◌≡◌ {A = ℕ} 2 n = cc in
    let next : n ≡ s.old.state.front + 1 = s.row.next in
    absurd (omega arith)

-- A message with this number has no row for b.
pub not-own : (clock : ℕ) →
    IsNone rules own_comes (AgentDid 1 (did clock (Arrived 9 (sent_at 2 (Message 2 0 (Said said_one))) None)))
not-own clock w s =
    let e = old-is 1 s.old s.new _ own_comes.agents w.agents s.at refl in
    s.row.2.not_own (ap (λ v. v.state.asking) e)

-- Nor is number 2 the next of c.
pub not-as-it-comes : (clock : ℕ) (place : Option ℕ) →
    IsNone rules two_stored (AgentDid 2 (did clock (Took 2 place)))
not-as-it-comes clock place w s =
    let e = old-is 2 s.old s.new _ two_stored.agents w.agents s.at refl in
    let front : s.old.state.front ≡ 0 = ap (λ v. v.state.front) e in
    let next : 2 ≡ s.old.state.front + 1 = s.row.next in
    absurd (omega arith)
