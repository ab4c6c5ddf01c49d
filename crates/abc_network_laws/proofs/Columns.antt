-- Own moves of each component, taken by number, are a run of the multicast.
use Rattle.std.proofs.Common.{◌≡◌, ℕ, zero, suc, ◌+◌, ◌≤◌, List, [], ◌∷◌, ◌++◌, length, take, refl}
use Rattle.std.proofs.Common.{subst, arith}
use Rattle.std.specs.Prelude.{Option, Some, slice_get}
use Rattle.abc_network_laws.specs.Moves.{AtLeast, EachLives, Lives, Moves, RowMoves, RowRuns}
use Rattle.abc_body.specs.Meanings.{Meaning}
use Rattle.abc_network.specs.Numbering.{Turn, heads, rows_of, tails}

-- Later turns change nothing of the moves that were made.
pub lives-more : {B L : Type 0} (m : Meaning B L) (i : ℕ) (b b' : B) (ts us : List (Turn L))
    (ps : List (Option ℕ)) → Lives m i b ts ps b' → Lives m i b (ts ++ us) ps b'
lives-more m i b b' [] us [] h = h
lives-more m i b b' (t ∷ ts) us [] h = h
lives-more m i b b' [] us (p ∷ ps) h = absurd h
lives-more m i b b' (t ∷ ts) us (p ∷ ps) h = (h.0, h.1, lives-more m i h.0 b' ts us ps h.2)

-- A component that made its moves and then one more made them all.
pub lives-next : {B L : Type 0} (m : Meaning B L) (i : ℕ) (b b' b'' : B) (ts : List (Turn L))
    (ps : List (Option ℕ)) (t : Turn L) (p : Option ℕ) → Lives m i b ts ps b' →
    slice_get ts (length ps) ≡ Some t → Moves m i t p b' b'' → Lives m i b ts (ps ++ p ∷ []) b''
lives-next m i b b' b'' [] [] t p h at move = absurd (cc)
lives-next m i b b' b'' (u ∷ ts) [] t p h at move =
    let same : t ≡ u = cc in
    (b'', subst (λ v. Moves m i u p v b'') h (subst (λ v. Moves m i v p b' b'') same move), refl)
lives-next m i b b' b'' [] (q ∷ ps) t p h at move = absurd h
lives-next m i b b' b'' (u ∷ ts) (q ∷ ps) t p h at move =
    (h.0, h.1, lives-next m i h.0 b' b'' ts ps t p h.2 at move)

-- Without the first number each has one less.
tails-shorter : (k : ℕ) (pss : List (List (Option ℕ))) → AtLeast (suc k) pss → AtLeast k (tails pss)
tails-shorter k [] h = tt
tails-shorter k ([] ∷ pss) h = (let g : suc k ≤ 0 = h.0 in omega arith, tails-shorter k pss h.1)
tails-shorter k ((p ∷ ps) ∷ pss) h =
    (let g : suc k ≤ suc (length ps) = h.0 in omega arith, tails-shorter k pss h.1)

-- The first move of each, and the rest of each.
first-row : {B L : Type 0} (m : Meaning B L) (i k : ℕ) (t : Turn L) (ts : List (Turn L))
    (bs : List B) (pss : List (List (Option ℕ))) (cs : List B) → EachLives m i (t ∷ ts) bs pss cs →
    AtLeast (suc k) pss → (mid : List B) × RowMoves m i t (heads pss) bs mid
    × EachLives m i ts mid (tails pss) cs
first-row m i k t ts [] [] [] h a = ([], tt, tt)
first-row m i k t ts [] [] (c ∷ cs) h a = absurd h
first-row m i k t ts [] (ps ∷ pss) cs h a = absurd h
first-row m i k t ts (b ∷ bs) [] cs h a = absurd h
first-row m i k t ts (b ∷ bs) (ps ∷ pss) [] h a = absurd h
first-row m i k t ts (b ∷ bs) ([] ∷ pss) (c ∷ cs) h a = let g : suc k ≤ 0 = a.0 in
    absurd (omega arith)
first-row m i k t ts (b ∷ bs) ((p ∷ ps) ∷ pss) (c ∷ cs) h a =
    let r = first-row m (i + 1) k t ts bs pss cs h.1 a.1 in
    (h.0.0 ∷ r.0, (h.0.1, r.1), (h.0.2, r.2))

-- Up to the least front the own moves are a run.
pub run-of-rows : {B L : Type 0} (m : Meaning B L) (k : ℕ) (ts : List (Turn L)) (bs : List B)
    (pss : List (List (Option ℕ))) (cs : List B) → EachLives m 0 ts bs pss cs → AtLeast k pss →
    k ≤ length ts → (mid : List B) × RowRuns m bs (take k ts) (rows_of k pss) mid
run-of-rows m zero ts bs pss cs h a l = (bs, refl)
run-of-rows m (suc k) [] bs pss cs h a l = absurd (omega arith)
run-of-rows m (suc k) (t ∷ ts) bs pss cs h a l =
    let r = first-row m 0 k t ts bs pss cs h a in
    let u = run-of-rows m k ts r.0 (tails pss) cs r.2 (tails-shorter k pss a) (omega arith) in
    (u.0, (r.0, r.1, u.1))
