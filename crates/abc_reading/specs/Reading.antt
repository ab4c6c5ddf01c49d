-- Reading, as plain functions on lists of tokens: T are the tokens, E the causes of refusal.
use Rattle.std.specs.Prelude.{ℕ, zero, suc, List, [], ◌∷◌, length, Option, Some, None}

-- What a reader gives. `Read`: a term, and the tokens left. `Cut`: the term of the tokens before `rest`,
-- after which reading went on and was refused, for the cause, where `ahead` is left. `Refused`: no term;
-- reading was refused, for the cause, where `ahead` is left.
pub data Outcome (T E A : Type 0) : Type 0 where
  Read : (a : A) (rest : List T) → Outcome T E A
  Cut : (a : A) (rest : List T) (cause : E) (ahead : List T) → Outcome T E A
  Refused : (cause : E) (ahead : List T) → Outcome T E A

-- One reader and then another, where a term needs both. What the first couldn't read to its end is refused.
infixl 10 ◌>>=◌
abbrev pub ◌>>=◌ : {T E A B : Type 0} → Outcome T E A → (A → List T → Outcome T E B) → Outcome T E B
(Read a us) >>= f = f a us
(Cut a us c vs) >>= f = Refused c vs
(Refused c vs) >>= f = Refused c vs

-- One reader and then another, where a term may end with the first.
abbrev pub and_then : {T E A : Type 0} → Outcome T E A → (A → List T → Outcome T E A) → Outcome T E A
and_then (Read a us) f = f a us
and_then (Cut a us c vs) f = Cut a us c vs
and_then (Refused c vs) f = Refused c vs

-- what was read, made into another term
abbrev pub mapped : {T E A B : Type 0} → (A → B) → Outcome T E A → Outcome T E B
mapped g (Read a us) = Read (g a) us
mapped g (Cut a us c vs) = Cut (g a) us c vs
mapped g (Refused c vs) = Refused c vs

-- ---- reading again on what is left
-- A reader that may read again on fewer tokens, as what stands in brackets. The number bounds how often.
abbrev pub times : {T E X A : Type 0} → E → ((X → List T → Outcome T E A) → X → List T → Outcome T E A) → ℕ → X → List T → Outcome T E A
times e step zero x ts = Refused e ts
times e step (suc n) x ts = step (times e step n) x ts

-- each time fewer tokens are left, so their number bounds how often
unfoldable pub again : {T E X A : Type 0} → E → ((X → List T → Outcome T E A) → X → List T → Outcome T E A) → X → List T → Outcome T E A
again e step x ts = times e step (suc (length ts)) x ts

-- ---- items joined to the left
-- how a token joins what stands before it and the item after it, if it does
abbrev pub Joins : Type 0 → Type 0 → Type 0
Joins T A = T → Option (A → A → A)

-- the item after a joining token was read; without one, the term ends before that token
abbrev pub joined_by : {T E A : Type 0} → (A → List T → Outcome T E A) → A → List T → (A → A → A) → Outcome T E A → Outcome T E A
joined_by more a ts g (Read b us) = more (g a b) us
joined_by more a ts g (Cut b us c vs) = Cut (g a b) us c vs
joined_by more a ts g (Refused c vs) = Cut a ts c vs

abbrev pub join_by : {T E A : Type 0} → (List T → Outcome T E A) → (A → List T → Outcome T E A) → A → T → List T → Option (A → A → A) → Outcome T E A
join_by item more a t ts None = Read a (t ∷ ts)
join_by item more a t ts (Some g) = joined_by more a (t ∷ ts) g (item ts)

abbrev pub join : {T E A : Type 0} → (List T → Outcome T E A) → Joins T A → (A → List T → Outcome T E A) → A → List T → Outcome T E A
join item joins more a [] = Read a []
join item joins more a (t ∷ ts) = join_by item more a t ts (joins t)

-- what joins the term before these tokens, with the term
abbrev pub joined : {T E A : Type 0} → E → (List T → Outcome T E A) → Joins T A → A → List T → Outcome T E A
joined e item joins = again e (join item joins)

-- item { join item }, joined to the left
abbrev pub chain : {T E A : Type 0} → E → (List T → Outcome T E A) → Joins T A → List T → Outcome T E A
chain e item joins ts = and_then (item ts) (joined e item joins)
