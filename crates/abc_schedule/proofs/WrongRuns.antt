-- The merges that are no runs.
use Rattle.std.proofs.Common.{◌≡◌, ℕ, List, [], ◌∷◌, ◌++◌, get_or, refl, sym, ap, ◌∙◌, arith}
use Rattle.std.proofs.Common.{append-nil}
use Rattle.abc_packet.specs.declared.packets.Content.TheVariants.{Empty}
use Rattle.abc_packet.specs.declared.packets.Packet.TheVariants.{Message}
use Rattle.abc_packet.specs.declared.stamped.Stamped.{Stamped}
use Rattle.abc_packet.specs.declared.log.Entry.{Entry}
use Rattle.abc_packet.specs.declared.log.Deed.TheVariants.{Asked}
use Rattle.abc_packet.specs.Outlets.{sent_on}
use Rattle.abc_body.specs.Tallies.{tally}
use Rattle.abc_network.specs.Networks.{Net, AgentDid, NodeDid, Netrun, times}
use Rattle.abc_network.specs.Worked.{two_and_one, at_first, did, sent_at}
use Rattle.abc_schedule.specs.Machines.{Web, WebRun, WebStep}
use Rattle.abc_schedule.specs.Wrong.{two_talk, silence, says_at, takes_at, IsNoRun, draws}

-- Nothing can be taken first.
nothing-yet : (a k clock n sent : ℕ) (rest : List (ℕ × Entry ℕ)) →
    sent_on k ((k, sent_at sent (Message n k Empty)) ∷ []) ≡ sent_at sent (Message n k Empty) ∷ [] →
    IsNoRun ((a, takes_at clock k n sent) ∷ rest)
nothing-yet a k clock n sent rest one last run =
    let first = run.1.links k in
    let none : [] ≡ sent_at sent (Message n k Empty) ∷ first.0 =
    first.1 ∙ ap (λ v. v ++ first.0) one in
    absurd (cc)

-- What is said first stands on its link.
said-first : (n' : Web (Unit {0}) ℕ) (n clock : ℕ) → WebStep two_talk silence (0, says_at clock n) n' →
    n'.links 0 ≡ sent_at clock (Message n 0 Empty) ∷ []
said-first n' n clock st =
    let at = st.links 0 in
    at.2 ∙ (ap (λ v. v ++ sent_on 0 st.sends) (sym at.1) ∙ ap (sent_on 0) st.step)

-- What is said next stands behind it.
said-next : (m n' : Web (Unit {0}) ℕ) (n clock : ℕ) (q : List (Stamped ℕ)) → m.links 0 ≡ q →
    WebStep two_talk m (0, says_at clock n) n' → n'.links 0 ≡ q ++ sent_at clock (Message n 0 Empty) ∷ []
said-next m n' n clock q is st =
    let at = st.links 0 in
    at.2 ∙ (ap (λ v. v ++ sent_on 0 st.sends) (sym at.1 ∙ is) ∙ ap (λ v. q ++ sent_on 0 v) st.step)

-- Two clocks.
one-or-two : (a b : ℕ) → a ≡ 1 → b ≡ 2 → a ≡ b → ⊥
one-or-two a b is are same = omega arith

-- The second of two packets is not taken first.
second-first : (rest : List (ℕ × Entry ℕ)) →
    IsNoRun ((0, says_at 1 7) ∷ (0, says_at 2 8) ∷ (1, takes_at 3 0 8 2) ∷ rest)
second-first rest last run =
    let one = said-first run.0 7 1 run.1 in
    let first : Stamped ℕ = sent_at 1 (Message 7 0 Empty) in
    let two = said-next run.0 run.2.0 8 2 (first ∷ []) one run.2.1 in
    let third = run.2.2.1.links 0 in
    let taken : Stamped ℕ = sent_at 2 (Message 8 0 Empty) in
    let both : first ∷ (taken ∷ []) ≡ taken ∷ third.0 = sym two ∙ third.1 in
    let same : first ≡ taken = ap (λ l. get_or l 0 first) both in
    absurd (one-or-two first.clock taken.clock refl refl (ap (λ (p : Stamped ℕ). p.clock) same))

-- What is said can be taken next.
pub right-run : (last : Web (Unit {0}) ℕ)
    × WebRun two_talk silence ((1, says_at 1 7) ∷ (0, takes_at 2 1 7 1) ∷ []) last
right-run =
    let said : Web (Unit {0}) ℕ = record {
      states = λ a. tt;
      links = λ l. sent_on l ((1, sent_at 1 (Message 7 1 Empty)) ∷ []);
    } in (
      silence,
      (
        said,
        record {
          sends = (1, sent_at 1 (Message 7 1 Empty)) ∷ [];
          step = refl;
          others = λ b ne. refl;
          links = λ l. ([], refl, refl);
        },
        (
          silence,
          record {
            sends = [];
            step = refl;
            others = λ b ne. refl;
            links = λ l. ([], sym (append-nil (sent_on l ((1, sent_at 1 (Message 7 1 Empty)) ∷ []))), refl);
          },
          refl,
        ),
      ),
    )

-- Taken at the clock of its sending, or before it by the order.
pub equal-clock : IsNoRun ((0, takes_at 1 1 7 1) ∷ (1, says_at 1 7) ∷ [])
equal-clock = nothing-yet 0 1 1 7 1 ((1, says_at 1 7) ∷ []) refl

-- By the order of actors.
pub actor-first : IsNoRun ((0, takes_at 2 1 7 1) ∷ (1, says_at 1 7) ∷ [])
actor-first = nothing-yet 0 1 2 7 1 ((1, says_at 1 7) ∷ []) refl

-- Each took what the other said later.
pub crossed-0 : (rest : List (ℕ × Entry ℕ)) → IsNoRun ((0, takes_at 1 1 7 4) ∷ rest)
crossed-0 rest = nothing-yet 0 1 1 7 4 rest refl

-- The other way round.
pub crossed-1 : (rest : List (ℕ × Entry ℕ)) → IsNoRun ((1, takes_at 1 0 7 4) ∷ rest)
crossed-1 rest = nothing-yet 1 0 1 7 4 rest refl

-- Two packets swapped, and one left behind.
pub swapped : IsNoRun ((0, says_at 1 7) ∷ (0, says_at 2 8) ∷ (1, takes_at 3 0 8 2) ∷ (1, takes_at 4 0 7 1) ∷ [])
swapped = second-first ((1, takes_at 4 0 7 1) ∷ [])

-- With one left behind.
pub skipped : IsNoRun ((0, says_at 1 7) ∷ (0, says_at 2 8) ∷ (1, takes_at 3 0 8 2) ∷ [])
skipped = second-first []

-- A number drawn twice.
pub twice : (last : Net ℕ ℕ (Unit {0})) → Netrun tally two_and_one at_first
    (AgentDid 0 (did 1 Asked) ∷ AgentDid 1 (did 1 Asked) ∷ NodeDid 0 (draws 2 0 1)
    ∷ NodeDid 0 (draws 3 1 1) ∷ []) last → ⊥
twice last run =
    let third = run.2.2.1 in
    let fourth = run.2.2.2.1 in
    let was = ap (times 1) third.draws.3 in
    let none = fourth.draws.2 in
    absurd (omega arith)
