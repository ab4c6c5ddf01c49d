-- What a walk over the unguarded part of a process meets, where calls are unfolded.
use Rattle.std.specs.Prelude.{ℕ, zero, suc, ◌+◌, length}
use Rattle.abc_pred.specs.declared.names.Name.{Name}
use Rattle.abc_term.specs.Processes.{Process, Nil, Output, Input, When, Choice, Par, Call, Definitions, body_of}

-- The parts that it meets. `of_call` has those of each call's body.
module _ (of_call : Name → ℕ) where
  abbrev pub parts_of : Process → ℕ
  parts_of Nil = 1
  parts_of (Output es p us P) = 1
  parts_of (Input p xs us P) = 1
  parts_of (When g P) = parts_of P + 1
  parts_of (Choice P Q) = parts_of P + parts_of Q + 1
  parts_of (Par P Q) = parts_of P + parts_of Q + 1
  parts_of (Call c) = of_call c + 1

  -- The actions among them.
  abbrev pub actions_of : Process → ℕ
  actions_of Nil = 0
  actions_of (Output es p us P) = 1
  actions_of (Input p xs us P) = 1
  actions_of (When g P) = actions_of P
  actions_of (Choice P Q) = actions_of P + actions_of Q
  actions_of (Par P Q) = actions_of P + actions_of Q
  actions_of (Call c) = of_call c

-- A call has those of its definition's body, to a depth.
abbrev pub call_parts : ℕ → Definitions → Name → ℕ
call_parts zero defs c = 0
call_parts (suc depth) defs c = parts_of (call_parts depth defs) (body_of defs c)

abbrev pub call_actions : ℕ → Definitions → Name → ℕ
call_actions zero defs c = 0
call_actions (suc depth) defs c = actions_of (call_actions depth defs) (body_of defs c)

-- Calls unfolded as deep as the rules of the calculus unfold them, the number of definitions.
abbrev pub parts : Definitions → Process → ℕ
parts defs P = parts_of (call_parts (length defs) defs) P

abbrev pub actions : Definitions → Process → ℕ
actions defs P = actions_of (call_actions (length defs) defs) P

-- How many processes stand side by side.
abbrev pub leaves : Process → ℕ
leaves (Par P Q) = leaves P + leaves Q
leaves P = 1
