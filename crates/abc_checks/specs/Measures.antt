-- The width and the breadth of a process, with calls unfolded: the least solutions of their equations.
use Rattle.std.specs.Prelude.{◌≡◌, ◌≤◌, ◌<◌, ℕ, ◌+◌, ◌||◌, Bool, false, IsTrue, min, max, nat_lt}
use Rattle.abc_pred.specs.declared.names.Name.{Name}
use Rattle.abc_term.specs.Processes.{Process, Nil, Output, Input, When, Choice, Par, Call, Definitions, body_of}
use Rattle.abc_checks.specs.declared.limits.TheConstants.{WIDEST, BROADEST}

-- The most parts that the process can have side by side, where `of_call` has that number for each call. Numbers above 64 count as 65.
abbrev pub width_of : (Name → ℕ) → Process → ℕ
width_of of_call Nil = 1
width_of of_call (Output es p us P) = width_of of_call P
width_of of_call (Input p xs us P) = width_of of_call P
width_of of_call (When g P) = width_of of_call P
width_of of_call (Choice P Q) = max (width_of of_call P) (width_of of_call Q)
width_of of_call (Par P Q) = min (width_of of_call P + width_of of_call Q) (WIDEST + 1)
width_of of_call (Call c) = min (of_call c) (WIDEST + 1)

-- The number of parts that a walk over the unguarded part of the process meets. Numbers above 2,048 count as 2,049.
abbrev pub breadth_of : (Name → ℕ) → Process → ℕ
breadth_of of_call Nil = 1
breadth_of of_call (Output es p us P) = 1
breadth_of of_call (Input p xs us P) = 1
breadth_of of_call (When g P) = min (breadth_of of_call P + 1) (BROADEST + 1)
breadth_of of_call (Choice P Q) = min (breadth_of of_call P + breadth_of of_call Q + 1) (BROADEST + 1)
breadth_of of_call (Par P Q) = min (breadth_of of_call P + breadth_of of_call Q + 1) (BROADEST + 1)
breadth_of of_call (Call c) = min (of_call c + 1) (BROADEST + 1)

-- Numbers from 1 for the bodies of definitions that solve the equations, and the least such. A name without definition stands for 0.
module _ (measure : (Name → ℕ) → Process → ℕ) (defs : Definitions) where
  pub record IsSolution (of_call : Name → ℕ) : Type 0 where
    pub from_one : (c : Name) → 1 ≤ of_call c
    pub solves : (c : Name) → of_call c ≡ measure of_call (body_of defs c)

  pub record IsLeastSolution (of_call : Name → ℕ) : Type 0 where
    pub solution : IsSolution of_call
    pub least : (other : Name → ℕ) → IsSolution other → (c : Name) → of_call c ≤ other c

-- The process has a width above 64.
abbrev pub IsTooWide : Definitions → Process → Type 0
IsTooWide defs P = (of_call : Name → ℕ) × IsLeastSolution width_of defs of_call × (WIDEST < width_of of_call P)

-- The process, or a part of it, has a breadth above 2,048.
abbrev pub has_broad_part : (Name → ℕ) → Process → Bool
has_broad_part of_call Nil = false
has_broad_part of_call (Output es p us P) = has_broad_part of_call P
has_broad_part of_call (Input p xs us P) = has_broad_part of_call P
has_broad_part of_call (When g P) = nat_lt BROADEST (breadth_of of_call (When g P)) || has_broad_part of_call P
has_broad_part of_call (Choice P Q) = nat_lt BROADEST (breadth_of of_call (Choice P Q)) || (has_broad_part of_call P || has_broad_part of_call Q)
has_broad_part of_call (Par P Q) = nat_lt BROADEST (breadth_of of_call (Par P Q)) || (has_broad_part of_call P || has_broad_part of_call Q)
has_broad_part of_call (Call c) = nat_lt BROADEST (breadth_of of_call (Call c))

abbrev pub HasTooManyMoves : Definitions → Process → Type 0
HasTooManyMoves defs P = (of_call : Name → ℕ) × IsLeastSolution breadth_of defs of_call × IsTrue (has_broad_part of_call P)
