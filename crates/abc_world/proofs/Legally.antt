-- A network that was started and is still leaves a legal record.
use Rattle.std.proofs.Common.{◌≡◌, ℕ, zero, suc, ◌+◌, ◌<◌, ◌≤◌, length, sym, ap, ◌∙◌, subst, arith, inl, inr, ne_eqb, if◌then◌else◌}
use Rattle.std.proofs.lemmas.Bool.{cases_eq, cases_lt, eq-eqb}
use Rattle.abc_body.specs.Meanings.{Meaning}
use Rattle.abc_shape.specs.declared.layout.Layout.{Layout}
use Rattle.abc_network.specs.Networks.{times}
use Rattle.abc_network.specs.Nodes.{NodeMachine}
use Rattle.abc_network_laws.specs.Settling.{NoGap}
use Rattle.abc_schedule.specs.Schedules.{logs_of}
use Rattle.abc_world.specs.Runnings.{Running, drawn_down}
use Rattle.abc_world.specs.Starting.{IsStarted, LeavesLegal}
use Rattle.abc_world.proofs.Stepping.{not-drawn}

-- Each number up to a count was drawn once.
drawn-once : (n c : ℕ) → 0 < n → n ≤ c → times n (drawn_down c) ≡ 1
drawn-once n zero some within = absurd (omega arith)
drawn-once n (suc c) some within =
    elim (cases_eq (suc c) n) [
      | inl same ↦ (
          let none = not-drawn n c (omega arith) in
          ap (λ t. (if t then 1 else 0) + times n (drawn_down c)) (eq-eqb (suc c) n same) ∙ ap (λ v. 1 + v) none)
      | inr other ↦ (
          let once = drawn-once n c some (omega arith) in
          ap (λ t. (if t then 1 else 0) + times n (drawn_down c)) (ne_eqb (suc c) n other) ∙ ap (λ v. 0 + v) once)
    ]

-- So there is no gap.
no-gap : (c : ℕ) → NoGap (drawn_down c)
no-gap c n some next =
    elim (cases_lt c (n + 1)) [
      | inl past ↦ (
          let none = not-drawn (n + 1) c past in
          absurd (omega arith))
      | inr within ↦ drawn-once n c some (omega arith)
    ]

pub leaves-legal : {B L N : Type 0} (m : Meaning B L) (machine : Layout → NodeMachine L N) (blank : N) (n : Running B L N) →
    IsStarted m machine blank n → LeavesLegal m machine blank n (logs_of n.net)
leaves-legal m machine blank n h = λ bodies many ran still.
    h.laws.keeps.still bodies ran.0 n.net many ran.1 still (subst NoGap (sym h.in_order) (no-gap (length n.net.drawn)))
    (λ some k first last.
    let full = h.closed some in
    ap (λ v. times k v) h.in_order ∙ drawn-once k (length n.net.drawn) first (omega arith))
