-- Which multicasts there are: those of a choice, and the one at a turn.
use Rattle.std.proofs.Common.{◌≡◌, ◌∙◌, ℕ, ◌%◌, List, map, Option, Some, None, refl, ap, sym, subst, slice_get, arith}
use Rattle.std.specs.Prelude.{length, MatchOption}
use Rattle.abc_term.specs.Processes.{Definitions, Component, System}
use Rattle.abc_term.specs.Speaking.{Label, Speaks, outs}
use Rattle.abc_term.specs.Systems.{Choice, Step, StepAt}
use Rattle.abc_term.proofs.SpeakingPlaces.{speaking_has_its_places, speaking_is_determined}
use Rattle.abc_moves.specs.declared.label.Label as held
use Rattle.abc_moves.specs.Labels.{label_of}
use Rattle.abc_moves.specs.Moves.{moved}
use Rattle.abc_packet.specs.declared.choice.Choice as packet
use Rattle.abc_steps.specs.Hearers.{CanHear, hearers_from}
use Rattle.abc_steps.specs.Turns.{speakers, IsTurn}
use Rattle.abc_steps.specs.Rows.{choice_of_row, place_said, TellsStep, TellsTurn}
use Rattle.abc_steps.proofs.Hearers.{could_hear, rule_can, rule_placed}
use Rattle.abc_steps.proofs.Turns.{item_at, one_item, says_at}
use Rattle.abc_system.specs.declared.member.Member.{Member}
use Rattle.abc_system.specs.declared.multicast.Said.{Said}
use Rattle.abc_system.specs.declared.cast.Cast.{Cast}
use Rattle.abc_system.specs.declared.row.StepRow.{StepRow}
use Rattle.abc_system.specs.Members.{now_in}
use Rattle.abc_system.specs.Saying.{IsSaidBy, IsSaidAtTurn, CannotSay}
use Rattle.abc_system.specs.Casts.{IsNoCast, IsCastAt}
use Rattle.abc_system.specs.Systems.{choice_of, said_of, row_of, IsRowOf}
use Rattle.abc_system.proofs.Casting.{seen_at}

-- where the sender has no such output there is no such step
pub no_output : (defs : Definitions) (S : System) (sender place : ℕ) (heard : List (ℕ × ℕ)) (T : System) →
    CannotSay defs S sender place → ¬ StepAt defs S sender (Some place) heard T
no_output defs S sender place heard T none step =
    let C = item_at S sender step.1.exists in
    let says = says_at defs S T sender place heard step.0 C.0 C.1 step.1 in
    let below = (speaking_has_its_places defs C.0 place).0 (step.0, says.0, says.1) in
    let above = none C.0 C.1 in
    absurd (omega arith)

-- where the others can't hear what it says there is none either
pub unheard : (defs : Definitions) (members : List Member) (sender place : ℕ) (s : Said) (heard : List (ℕ × ℕ)) (T : System) →
    IsSaidBy defs members sender place s → ¬ CanHear defs sender (label_of s.label) 0 (map now_in members) heard →
    ¬ StepAt defs (map now_in members) sender (Some place) heard T
unheard defs members sender place s heard T said none step =
    let S = map now_in members in
    let m = said.0 in
    let at = seen_at now_in members sender m said.1 in
    let says = says_at defs S T sender place heard step.0 (now_in m) at step.1 in
    let same : step.0 ≡ label_of s.label =
    (speaking_is_determined defs (now_in m) place step.0 (label_of s.label) says.0 (moved m.live s.made) says.1 said.3).0 in
    none (subst (λ (l : Label). CanHear defs sender l 0 S heard) same (could_hear defs sender place heard step.0 S T step.1))

-- what is said at its own place
pub said_there : (defs : Definitions) (members : List Member) (sender place : ℕ) (s : Said) → IsSaidBy defs members sender place s →
    IsSaidBy defs members sender s.place s
said_there defs members sender place s said =
    (said.0, said.1, refl, subst (λ (p : ℕ). Speaks defs (now_in said.0) p (label_of s.label) (moved said.0.live s.made)) (sym said.2) said.3)

pub said_in_turn : (defs : Definitions) (members : List Member) (sender turn : ℕ) (s : Said) → IsSaidAtTurn defs members sender turn s →
    IsSaidBy defs members sender s.place s
said_in_turn defs members sender turn s said = (said.0, said.1, refl, said.3)

-- the speaker's output and all hearers at a turn
pub turn_cast : (defs : Definitions) (members : List Member) (turn : ℕ) (c : Cast) →
    slice_get (speakers defs (map now_in members)) (turn % length (speakers defs (map now_in members))) ≡ Some c.sender →
    IsSaidAtTurn defs members c.sender turn c.said →
    c.heard ≡ hearers_from defs c.sender (label_of c.said.label) turn 0 (map now_in members) → IsCastAt defs members turn c
turn_cast defs members turn c speaks said heard =
    let S = map now_in members in
    let l = label_of c.said.label in
    let rule = hearers_from defs c.sender l turn 0 S in
    let at = seen_at now_in members c.sender said.0 said.1 in (
      record {
        said = said_in_turn defs members c.sender turn c.said said;
        can = subst (λ (hs : List (ℕ × ℕ)). CanHear defs c.sender l 0 S hs) (sym heard) (rule_can defs c.sender l turn 0 S);
      },
      subst (λ (hs : List (ℕ × ℕ)). IsTurn defs S turn (record { sender = c.sender; place = Some c.said.place; heard = hs }) l) (sym heard)
          (record {
            speaker = speaks;
            output = λ D e.
                ap (λ (p : ℕ). Some p) said.2
                ∙ ap (λ (X : Component). Some (turn % outs defs X)) (one_item (slice_get S c.sender) (now_in said.0) D at e);
            inputs = λ i D p e f. rule_placed defs c.sender l turn 0 i i S D p (omega arith) e f;
          }),
    )

-- a choice with a place that isn't a multicast is no step
pub no_choice : (defs : Definitions) (S : System) (choice : packet.Choice) (place : ℕ) → choice.place ≡ Some place →
    IsNoCast defs S choice place → (T : System) → ¬ Step defs S (choice_of choice) T
no_choice defs S choice place is none T step =
    none T (subst (λ (p : Option ℕ). StepAt defs S choice.sender p choice.heard T) is step)

-- ---- rows
-- the row of a multicast is its choice
cast_choice : (c : Cast) (r : StepRow) → IsRowOf c r →
    choice_of_row (row_of r) ≡ record { sender = c.sender; place = Some c.said.place; heard = c.heard }
cast_choice c r row =
    λ i. record { sender = row.0 i; place = ap (λ (o : Option (ℕ × held.Label)). place_said (said_of o)) row.1 i; heard = row.2 i }

-- of a choice with a place
pub row_choice : (c : Cast) (r : StepRow) (choice : packet.Choice) (place : ℕ) → IsRowOf c r → c.sender ≡ choice.sender →
    c.said.place ≡ place → c.heard ≡ choice.heard → choice.place ≡ Some place → choice_of_row (row_of r) ≡ choice_of choice
row_choice c r choice place row sender there heard is =
    let place_is : Some c.said.place ≡ choice.place = ap (λ (p : ℕ). Some p) there ∙ sym is in
    cast_choice c r row ∙ (λ i. record { sender = sender i; place = place_is i; heard = heard i })

-- and of a turn
pub turn_told : (defs : Definitions) (members : List Member) (turn : ℕ) (c : Cast) (r : StepRow) (T : System) →
    IsCastAt defs members turn c → IsRowOf c r → TellsStep defs (map now_in members) (row_of r) T →
    TellsTurn defs (map now_in members) turn (row_of r) T
turn_told defs members turn c r T at row step = (
  (c.said.place, label_of c.said.label),
  ap said_of row.1,
  step,
  subst (λ (d : Choice). IsTurn defs (map now_in members) turn d (label_of c.said.label)) (sym (cast_choice c r row)) at.1,
)

-- ---- what is known of an option
pub at_some : {A : Type 0} (N : Type 0) (P : A → Type 0) (o : Option A) (x : A) → o ≡ Some x → MatchOption o N P → P x
at_some {A} N P o x e h = subst (λ (p : Option A). MatchOption p N P) e h

pub at_none : {A : Type 0} (N : Type 0) (P : A → Type 0) (o : Option A) → o ≡ None → MatchOption o N P → N
at_none {A} N P o e h = subst (λ (p : Option A). MatchOption p N P) e h
