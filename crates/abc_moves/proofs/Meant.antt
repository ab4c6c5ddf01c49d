-- No input takes a message that is not meant for the component.
use Rattle.std.proofs.Common.{◌≡◌, ℕ, zero, suc, ◌+◌, ◌==◌, ◌<◌, ◌&&◌, Bool, true, false, if◌then◌else◌, IsTrue, List, [], length, refl, arith}
use Rattle.abc_pred.specs.declared.names.Name.{Name}
use Rattle.abc_pred.specs.Maps.{Entries}
use Rattle.abc_pred.specs.Meaning.{sat}
use Rattle.abc_term.specs.Processes.{Process, Nil, Output, Input, When, Choice, Par, Call, Definitions, body_of}
use Rattle.abc_term.specs.Speaking.{Label}
use Rattle.abc_term.specs.Hearing.{is_meant, is_wanted, ins_of, call_ins}
use Rattle.abc_moves.specs.Walks.{ins_at}

untaken : (a b c : Bool) (one none : ℕ) → none ≡ 0 → b ≡ false → (if (a && b && c) then one else none) ≡ 0
untaken true true c one none z e = cc
untaken true false c one none z e = z
untaken false b c one none z e = z

guarded : (t : Bool) (n : ℕ) → n ≡ 0 → (if t then n else 0) ≡ 0
guarded true n e = e
guarded false n e = refl

both : (m n : ℕ) → m ≡ 0 → n ≡ 0 → m + n ≡ 0
both m n e f = omega arith

module _ (l : Label) (env : Entries) (interface : List Name) (not_meant : is_meant l env interface ≡ false) where
  module _ (of_call : Name → ℕ) (none : (c : Name) → of_call c ≡ 0) where
    none_take : (P : Process) → ins_of l env interface of_call P ≡ 0
    none_take Nil = refl
    none_take (Output es p us P) = refl
    none_take (Input p xs us P) = untaken (length l.values == length xs) (is_meant l env interface) (is_wanted l env p xs) 1 0 refl not_meant
    none_take (When g P) = guarded (sat g env env []) (ins_of l env interface of_call P) (none_take P)
    none_take (Choice P Q) = both (ins_of l env interface of_call P) (ins_of l env interface of_call Q) (none_take P) (none_take Q)
    none_take (Par P Q) = both (ins_of l env interface of_call P) (ins_of l env interface of_call Q) (none_take P) (none_take Q)
    none_take (Call c) = none c

  module _ (defs : Definitions) where
    call_none : (d : ℕ) (c : Name) → call_ins d defs l env interface c ≡ 0
    call_none zero c = refl
    call_none (suc d) c = none_take (call_ins d defs l env interface) (call_none d) (body_of defs c)

    pub ins-not_meant : (d : ℕ) (P : Process) → ins_at d defs l env interface P ≡ 0
    ins-not_meant d P = none_take (call_ins d defs l env interface) (call_none d) P

-- so a message that some input takes is meant for the component
meant-by : (b : Bool) (n k : ℕ) → (b ≡ false → n ≡ 0) → k < n → b ≡ true
meant-by true n k h less = refl
meant-by false n k h less = let e = h refl in absurd (omega arith)

pub meant-taken : (d : ℕ) (defs : Definitions) (l : Label) (env : Entries) (interface : List Name) (P : Process) (k : ℕ) → k < ins_at d defs l env interface P → IsTrue (is_meant l env interface)
meant-taken d defs l env interface P k less =
    meant-by (is_meant l env interface) (ins_at d defs l env interface P) k (λ e. ins-not_meant l env interface e defs d P) less
