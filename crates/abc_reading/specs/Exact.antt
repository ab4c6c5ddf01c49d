-- What a reader of a grammar's terms is.
use Rattle.std.specs.Prelude.{◌≡◌, ℕ, ◌≤◌, List, [], ◌∷◌, ◌++◌, length, None}
use Rattle.abc_reading.specs.Reading.{Outcome, Read, Cut, Refused, Joins}

-- these tokens begin a term of the grammar
abbrev pub Begins : {T A : Type 0} → (List T → A → Type 0) → List T → Type 0
Begins {T} {A} R pre = (more : List T) × (a : A) × R (pre ++ more) a

-- no token joins here
abbrev pub Ends : {T A : Type 0} → Joins T A → List T → Type 0
Ends joins [] = Unit {0}
Ends joins (t ∷ ts) = joins t ≡ None

-- These tokens begin a term, and none goes on with what is left: with its first token, or where it is the end, none ends.
pub record IsLastGood {T A : Type 0} (R : List T → A → Type 0) (good left : List T) : Type 0 where
  pub begins : Begins R good
  pub token : (t : T) (us : List T) → left ≡ t ∷ us → Begins R (good ++ t ∷ []) → ⊥
  pub end : (a : A) → left ≡ [] → R good a → ⊥

-- a term was read at least as far as that so many tokens are left
abbrev pub Reaches : {T E A : Type 0} → ℕ → Outcome T E A → Type 0
Reaches n (Read a us) = length us ≤ n
Reaches n (Cut a us c vs) = length us ≤ n
Reaches n (Refused c vs) = ⊥

-- A reader of the terms of R. What it reads is a term, up to the tokens left; where it refuses, the tokens before
-- begin a term, and the next goes on with none. What is a term is read, where nothing that may go on with it
-- follows; and whatever follows, no front that is a term is longer than what is read.
pub record IsExact {T E A : Type 0} (R : List T → A → Type 0) (Stops : List T → Type 0) (f : List T → Outcome T E A) : Type 0 where
  pub found : (ts us : List T) (a : A) → f ts ≡ Read a us → (mid : List T) × (ts ≡ mid ++ us) × R mid a
  pub cut : (ts us vs : List T) (a : A) (c : E) → f ts ≡ Cut a us c vs → (mid more : List T) × (ts ≡ mid ++ us) × (us ≡ more ++ vs) × R mid a × IsLastGood R (mid ++ more) vs
  pub refused : (ts vs : List T) (c : E) → f ts ≡ Refused c vs → (mid : List T) × (ts ≡ mid ++ vs) × IsLastGood R mid vs
  pub whole : (ts rest : List T) (a : A) → R ts a → Stops rest → f (ts ++ rest) ≡ Read a rest
  pub fronts : (ts rest : List T) (a : A) → R ts a → Reaches (length rest) (f (ts ++ rest))
