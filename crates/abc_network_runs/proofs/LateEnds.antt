-- What the run with a late output comes to, and what can't happen on its way.
use Rattle.std.proofs.Common.{◌≡◌, ℕ, [], refl, ap, sym, ◌∙◌, subst, lit<, lit≤}
use Rattle.std.specs.Prelude.{Option, Some, None, map}
use Rattle.abc_term.specs.Systems as systems
use Rattle.abc_moves.specs.declared.label.Label.{Label}
use Rattle.abc_moves.specs.Labels.{label_of}
use Rattle.abc_packet.specs.declared.packets.Content.{Content}
use Rattle.abc_packet.specs.declared.packets.Content.TheVariants.{Said, Empty}
use Rattle.abc_packet.specs.declared.log.Deed.TheVariants.{Turned}
use Rattle.abc_live_body.specs.Running.{RunningComponent}
use Rattle.abc_live_body.specs.AbcMeaning.{abc}
use Rattle.abc_live_body.specs.Systems.{choice_of}
use Rattle.abc_network.specs.Agents.{Idle, Granted, Speaking}
use Rattle.abc_network.specs.Networks.{AgentDid, Netrun}
use Rattle.abc_network.specs.Quiets.{AgentRests, IsQuiet}
use Rattle.abc_network_runs.specs.Writing.{did, system_in, choices_in, IsNone}
use Rattle.abc_network_runs.specs.LateOutput.{defs, wanting, ann_after, bob_after, said_take, rules}
use Rattle.abc_network_runs.specs.LateOutput.{events, at_first, anns_turn, bobs_turn, at_last}
use Rattle.abc_network_runs.proofs.Concrete.{each-get, each-same, old-is}
use Rattle.abc_network_runs.proofs.LateStates.{w1, w2, w3, w4, w6, w7, w8, w9, w11, w12, w13}
use Rattle.abc_network_runs.proofs.LateSteps.{wanting-says, wanting-hears, bob-silent, step1, step2}
use Rattle.abc_network_runs.proofs.LateSteps.{step3, step4, step5, step6, step7, step8, step9, step10}
use Rattle.abc_network_runs.proofs.LateSteps.{step11, step12, step13, step14}

-- The fourteen events, one after the other.
pub late-run : Netrun abc rules at_first events at_last
late-run = (
  w1,
  step1,
  (
    w2,
    step2,
    (
      w3,
      step3,
      (
        w4,
        step4,
        (
          anns_turn,
          step5,
          (
            w6,
            step6,
            (
              w7,
              step7,
              (
                w8,
                step8,
                (w9, step9, (bobs_turn, step10, (w11, step11, (w12, step12, (w13, step13, (at_last, step14, refl)))))),
              ),
            ),
          ),
        ),
      ),
    ),
  ),
)

-- Both agents rest at the end: they have nothing to say, and nothing is stored.
late-quiet-agents : (AgentRests abc (record { body = ann_after; front = 2; asking = Idle; stored = []; packets = 2 }))
    × (AgentRests abc (record { body = bob_after; front = 2; asking = Idle; stored = []; packets = 2 }))
late-quiet-agents = (
  record { no_ask = (λ e can. absurd can.3.0.0); no_take = refl; no_turn = (λ e. cc) },
  record { no_ask = (λ e can. bob-silent can); no_take = refl; no_turn = (λ e. cc) },
)

pub late-quiet : IsQuiet abc rules at_last
late-quiet = record {
  still = record {
    links = λ l q at. each-get (λ x. x ≡ []) at_last.links l q (each-same (λ x. x ≡ []) 4 [] refl) at;
    agents = λ i a at. each-get (λ x. AgentRests abc x.state) at_last.agents i a
        (late-quiet-agents.0, (late-quiet-agents.1, tt)) at;
    nodes = λ k a at can. absurd can;
  };
  agents = λ i a at. each-get (λ x. x.state.stored ≡ []) at_last.agents i a (refl, (refl, tt)) at;
  nodes = λ k a at n sender content has. absurd has;
}

-- The choices are a run of the calculus: ann speaks and bob hears her, and then nobody speaks.
pub late-calculus :
    systems.Runs defs (system_in at_first) (map choice_of (choices_in events at_last)) (system_in at_last)
late-calculus = (
  system_in at_last,
  (
    label_of said_take,
    record {
      exists = lit< tt;
      hearers = (lit≤ tt, lit< tt, (λ e. cc), tt);
      moves = (wanting-says.0, (wanting-hears.0, tt));
    },
  ),
  (system_in at_last, (lit< tt, refl, refl), refl),
)

-- Before the first event ann has no number.
pub no-turn-yet : (clock n : ℕ) (place : Option ℕ) (content : Content Label) →
    IsNone rules at_first (AgentDid 0 (did clock (Turned n place content)))
no-turn-yet clock n place content w s =
    let e = old-is 0 s.old s.new _ at_first.agents w.agents s.at refl in
    let idle : s.old.state.asking ≡ Idle = ap (λ v. v.state.asking) e in
    let has : Idle ≡ Granted n = sym idle ∙ s.row.granted in
    absurd (cc)

-- Who can speak is not silent at its turn.
speaks-then : (place : Option ℕ) (b : RunningComponent) → Speaking abc wanting place Empty b → ⊥
speaks-then None b s = s.0 (0, said_take, ann_after, wanting-says)
speaks-then (Some k) b s = absurd s

pub not-silent : (clock n : ℕ) (place : Option ℕ) →
    IsNone rules anns_turn (AgentDid 0 (did clock (Turned n place Empty)))
not-silent clock n place w s =
    let e = old-is 0 s.old s.new _ anns_turn.agents w.agents s.at refl in
    let is : s.old.state.body ≡ wanting = ap (λ v. v.state.body) e in
    speaks-then place s.new.state.body
    (subst (λ (b : RunningComponent). Speaking abc b place Empty s.new.state.body) is s.row.speaks)

-- Who can't speak says nothing at its turn.
says-nothing : (place : Option ℕ) (label : Label) (b : RunningComponent) →
    Speaking abc bob_after place (Said label) b → ⊥
says-nothing None label b s = absurd s
says-nothing (Some k) label b s = absurd s.0.0

pub not-stale : (clock n : ℕ) (place : Option ℕ) (label : Label) →
    IsNone rules bobs_turn (AgentDid 1 (did clock (Turned n place (Said label))))
not-stale clock n place label w s =
    let e = old-is 1 s.old s.new _ bobs_turn.agents w.agents s.at refl in
    let is : s.old.state.body ≡ bob_after = ap (λ v. v.state.body) e in
    says-nothing place label s.new.state.body
    (subst (λ (b : RunningComponent). Speaking abc b place (Said label) s.new.state.body) is s.row.speaks)
