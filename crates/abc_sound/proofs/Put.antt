-- Values put for variables change no count, and no call.
use Rattle.std.proofs.Common.{◌≡◌, ℕ, ◌+◌, ◌++◌, refl, ap, min, max}
use Rattle.abc_pred.specs.declared.names.Name.{Name}
use Rattle.abc_term.specs.Processes.{Process, Nil, Output, Input, When, Choice, Par, Call}
use Rattle.abc_term.specs.Substitution.{Values, put, outside}
use Rattle.abc_term.specs.Calls.{calls}
use Rattle.abc_checks.specs.Measures.{width_of}
use Rattle.abc_sound.specs.Walks.{parts_of, actions_of}

pub width_of-put : (w : Name → ℕ) (bs : Values) (P : Process) → width_of w (put bs P) ≡ width_of w P
width_of-put w bs Nil = refl
width_of-put w bs (Output es p us P) = width_of-put w bs P
width_of-put w bs (Input p xs us P) = width_of-put w (outside xs bs) P
width_of-put w bs (When g P) = width_of-put w bs P
width_of-put w bs (Choice P Q) = λ i. max (width_of-put w bs P i) (width_of-put w bs Q i)
width_of-put w bs (Par P Q) = λ i. min (width_of-put w bs P i + width_of-put w bs Q i) 65
width_of-put w bs (Call c) = refl

pub parts_of-put : (v : Name → ℕ) (bs : Values) (P : Process) → parts_of v (put bs P) ≡ parts_of v P
parts_of-put v bs Nil = refl
parts_of-put v bs (Output es p us P) = refl
parts_of-put v bs (Input p xs us P) = refl
parts_of-put v bs (When g P) = ap (λ n. n + 1) (parts_of-put v bs P)
parts_of-put v bs (Choice P Q) = λ i. parts_of-put v bs P i + parts_of-put v bs Q i + 1
parts_of-put v bs (Par P Q) = λ i. parts_of-put v bs P i + parts_of-put v bs Q i + 1
parts_of-put v bs (Call c) = refl

pub actions_of-put : (v : Name → ℕ) (bs : Values) (P : Process) → actions_of v (put bs P) ≡ actions_of v P
actions_of-put v bs Nil = refl
actions_of-put v bs (Output es p us P) = refl
actions_of-put v bs (Input p xs us P) = refl
actions_of-put v bs (When g P) = actions_of-put v bs P
actions_of-put v bs (Choice P Q) = λ i. actions_of-put v bs P i + actions_of-put v bs Q i
actions_of-put v bs (Par P Q) = λ i. actions_of-put v bs P i + actions_of-put v bs Q i
actions_of-put v bs (Call c) = refl

pub calls-put : (bs : Values) (P : Process) → calls (put bs P) ≡ calls P
calls-put bs Nil = refl
calls-put bs (Output es p us P) = calls-put bs P
calls-put bs (Input p xs us P) = calls-put (outside xs bs) P
calls-put bs (When g P) = calls-put bs P
calls-put bs (Choice P Q) = λ i. calls-put bs P i ++ calls-put bs Q i
calls-put bs (Par P Q) = λ i. calls-put bs P i ++ calls-put bs Q i
calls-put bs (Call c) = refl
