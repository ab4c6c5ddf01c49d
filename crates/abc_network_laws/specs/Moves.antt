-- A component's own moves by number, and the moves of all at one number.
use Rattle.std.specs.Prelude.{◌≡◌, ℕ, ◌+◌, ◌≤◌, ◌==◌, Bool, true, false, List, [], ◌∷◌, length}
use Rattle.std.specs.Prelude.{Option}
use Rattle.abc_body.specs.Meanings.{Meaning}
use Rattle.abc_network.specs.Agents.{Speaking, Hearing}
use Rattle.abc_network.specs.Numbering.{Turn}

-- What one component does at a turn: the sender speaks at the turn's place, and every other hears
-- what was said.
abbrev pub MovesAs : {B L : Type 0} → Meaning B L → Bool → Turn L → Option ℕ → B → B → Type 0
MovesAs m true t place b b' = (place ≡ t.place) × Speaking m b place t.content b'
MovesAs m false t place b b' = Hearing m b place t.content b'

abbrev pub Moves : {B L : Type 0} → Meaning B L → ℕ → Turn L → Option ℕ → B → B → Type 0
Moves m i t place b b' = MovesAs m (i == t.sender) t place b b'

-- Component i's own moves at the first turns, one for each place.
abbrev pub Lives : {B L : Type 0} → Meaning B L → ℕ → B → List (Turn L) → List (Option ℕ) → B →
    Type 0
Lives m i b ts [] b' = b' ≡ b
Lives m i b [] (p ∷ ps) b' = ⊥
Lives {B} m i b (t ∷ ts) (p ∷ ps) b' = (mid : B) × Moves m i t p b mid × Lives m i mid ts ps b'

-- Every component's own moves, from the i-th on.
abbrev pub EachLives : {B L : Type 0} → Meaning B L → ℕ → List (Turn L) → List B →
    List (List (Option ℕ)) → List B → Type 0
EachLives m i ts [] [] [] = Unit {0}
EachLives m i ts (b ∷ bs) (ps ∷ pss) (c ∷ cs) =
    Lives m i b ts ps c × EachLives m (i + 1) ts bs pss cs
EachLives m i ts [] [] (c ∷ cs) = ⊥
EachLives m i ts [] (ps ∷ pss) cs = ⊥
EachLives m i ts (b ∷ bs) [] cs = ⊥
EachLives m i ts (b ∷ bs) (ps ∷ pss) [] = ⊥

-- Each component has moved at the first k numbers.
abbrev pub AtLeast : ℕ → List (List (Option ℕ)) → Type 0
AtLeast k [] = Unit {0}
AtLeast k (ps ∷ pss) = (k ≤ length ps) × AtLeast k pss

-- All components move at once, from the i-th on, each at its place of a row.
abbrev pub RowMoves : {B L : Type 0} → Meaning B L → ℕ → Turn L → List (Option ℕ) → List B →
    List B → Type 0
RowMoves m i t [] [] [] = Unit {0}
RowMoves m i t (p ∷ ps) (b ∷ bs) (c ∷ cs) = Moves m i t p b c × RowMoves m (i + 1) t ps bs cs
RowMoves m i t [] (b ∷ bs) cs = ⊥
RowMoves m i t [] [] (c ∷ cs) = ⊥
RowMoves m i t (p ∷ ps) [] cs = ⊥
RowMoves m i t (p ∷ ps) (b ∷ bs) [] = ⊥

-- One turn after the other, each with its row.
abbrev pub RowRuns : {B L : Type 0} → Meaning B L → List B → List (Turn L) →
    List (List (Option ℕ)) → List B → Type 0
RowRuns m bs [] [] cs = cs ≡ bs
RowRuns {B} m bs (t ∷ ts) (row ∷ rows) cs =
    (mid : List B) × RowMoves m 0 t row bs mid × RowRuns m mid ts rows cs
RowRuns m bs [] (row ∷ rows) cs = ⊥
RowRuns m bs (t ∷ ts) [] cs = ⊥
