-- Items joined to the left.
use Rattle.std.proofs.Common.{◌≡◌, ℕ, zero, suc, ◌<◌, ◌≤◌, List, [], ◌∷◌, ◌++◌, length, Option, Some, None, refl, sym, ap, ◌∙◌, subst, append_assoc, append-nil, arith}
pub use Rattle.abc_reading.specs.Exact.{Ends, Reaches}
use Rattle.abc_reading.specs.Reading.{Outcome, Read, Cut, Refused, and_then, times, again, Joins, join, join_by, joined_by, joined, chain}
use Rattle.abc_reading.proofs.Laws.{Begins, first, Owes, Reads, left_of, owes_less, pure_owes, refuse_owes, lead_owes, and_then_owes}
use Rattle.abc_reading.proofs.Again.{Guarded, again_owes, again-step}

some_inj : {A : Type 0} {x y : A} → Some x ≡ Some y → x ≡ y
some_inj e = cc

-- a reader leaves no more than it gets
abbrev pub Leaves : {T E A : Type 0} → (List T → Outcome T E A) → Type 0
Leaves {T} f = (ts : List T) → left_of (f ts) ≤ length ts

pub reads_leaves : {T E A : Type 0} (R : List T → A → Type 0) (f : List T → Outcome T E A) → Reads R f → Leaves f
reads_leaves R f h ts = owes_less R f [] ts (f ts) (h ts)

abbrev pub Always : {T E X A : Type 0} → (X → List T → Outcome T E A) → Type 0
Always f = Unit {0}

module _ {T E A : Type 0} (e : E) (item : List T → Outcome T E A) (joins : Joins T A) where
  module _ (leaves : Leaves item) where
    join-guarded : Guarded Always (join item joins)
    join-guarded f g p q a [] h = refl
    join-guarded f g p q a (t ∷ ts) h = go (joins t)
      where
        by : (k : A → A → A) (y : Outcome T E A) → left_of y ≤ length ts → joined_by f a (t ∷ ts) k y ≡ joined_by g a (t ∷ ts) k y
        by k (Read b us) le = h (k a b) us (omega arith)
        by k (Cut b us c vs) le = refl
        by k (Refused c vs) le = refl

        go : (o : Option (A → A → A)) → join_by item f a t ts o ≡ join_by item g a t ts o
        go None = refl
        go (Some k) = by k (item ts) (leaves ts)

    pub joined-step : (a : A) (ts : List T) → joined e item joins a ts ≡ join item joins (joined e item joins) a ts
    joined-step a ts = again-step e (join item joins) Always join-guarded (λ n. tt) tt a ts

    -- ---- what the term reaches
    times_reach : (n : ℕ) (a : A) (ts : List T) → length ts < n → Reaches (length ts) (times e (join item joins) n a ts)
    times_reach zero a ts h = absurd (omega arith)
    times_reach (suc n) a [] h = omega arith
    times_reach (suc n) a (t ∷ ts) h = go (λ b us lt. times_reach n b us lt) (joins t)
      where
        weaker : (m k : ℕ) (y : Outcome T E A) → m ≤ k → Reaches m y → Reaches k y
        weaker m k (Read b us) le r = omega arith
        weaker m k (Cut b us c vs) le r = omega arith
        weaker m k (Refused c vs) le r = absurd r

        by : ((b : A) (us : List T) → length us < n → Reaches (length us) (times e (join item joins) n b us)) → (k : A → A → A) (y : Outcome T E A) → left_of y ≤ length ts → Reaches (suc (length ts)) (joined_by (times e (join item joins) n) a (t ∷ ts) k y)
        by ih k (Read b us) le = weaker (length us) (suc (length ts)) _ (omega arith) (ih (k a b) us (omega arith))
        by ih k (Cut b us c vs) le = omega arith
        by ih k (Refused c vs) le = omega arith

        go : ((b : A) (us : List T) → length us < n → Reaches (length us) (times e (join item joins) n b us)) → (o : Option (A → A → A)) → Reaches (suc (length ts)) (join_by item (times e (join item joins) n) a t ts o)
        go ih None = omega arith
        go ih (Some k) = by ih k (item ts) (leaves ts)

    joined_reaches : (a : A) (ts : List T) → Reaches (length ts) (joined e item joins a ts)
    unfolding again
    joined_reaches a ts = times_reach (suc (length ts)) a ts (omega arith)

    pub then_reaches : (n : ℕ) (y : Outcome T E A) → Reaches n y → Reaches n (and_then y (joined e item joins))
    then_reaches n (Read a us) r = weaker (length us) n (joined e item joins a us) r (joined_reaches a us)
      where
        weaker : (m k : ℕ) (y : Outcome T E A) → m ≤ k → Reaches m y → Reaches k y
        weaker m k (Read b us) le r = omega arith
        weaker m k (Cut b us c vs) le r = omega arith
        weaker m k (Refused c vs) le r = absurd r
    then_reaches n (Cut a us c vs) r = r
    then_reaches n (Refused c vs) r = absurd r

  -- R is the grammar of items, and S that of chains
  module _ (R S : List T → A → Type 0) (law : Reads R item)
      (alone : (ts : List T) (a : A) → R ts a → S ts a)
      (more : (ts us : List T) (a b : A) (t : T) (g : A → A → A) → joins t ≡ Some g → S ts a → R us b → S (ts ++ t ∷ us) (g a b)) where
    times_owe : (n : ℕ) (a : A) (pre ts : List T) → S pre a → Owes S (times e (join item joins) n a) pre ts (times e (join item joins) n a ts)
    times_owe zero a pre ts h = refuse_owes S (times e (join item joins) zero a) pre ts e ([], a, rw append-nil h) (λ vs k. refl)
    times_owe (suc n) a pre [] h = pure_owes S (times e (join item joins) (suc n) a) pre [] a h same
      where
        same : (vs : List T) → first vs ≡ first [] → times e (join item joins) (suc n) a vs ≡ Read a vs
        same [] k = refl
        same (x ∷ vs) k = absurd (let k' : Some x ≡ None = k in cc)
    times_owe (suc n) a pre (t ∷ ts) h = go (λ b pre' us r. times_owe n b pre' us r) (joins t) refl
      where
        Before : Type 0
        Before = (b : A) (pre' us : List T) → S pre' b → Owes S (times e (join item joins) n b) pre' us (times e (join item joins) n b us)

        at : (xs : List T) (o : Option (A → A → A)) → joins t ≡ o → times e (join item joins) (suc n) a (t ∷ xs) ≡ join_by item (times e (join item joins) n) a t xs o
        at xs o j = ap (join_by item (times e (join item joins) n) a t xs) j

        begun : (g : A → A → A) (xs : List T) → joins t ≡ Some g → Begins R xs → Begins S (pre ++ (t ∷ xs))
        begun g xs j b = (b.0, g a b.1, rw (append_assoc pre (t ∷ xs) b.0) (more pre (xs ++ b.0) a b.1 t g j h b.2))

        by : Before → (g : A → A → A) → joins t ≡ Some g → (y : Outcome T E A) → Owes R item [] ts y → Owes S (times e (join item joins) (suc n) a) pre (t ∷ ts) (joined_by (times e (join item joins) n) a (t ∷ ts) g y)
        by ih g j (Read b us) l = subst (λ (vs : List T). Owes S (times e (join item joins) (suc n) a) pre (t ∷ vs) (times e (join item joins) n (g a b) us)) (sym l.whole)
            (lead_owes S (times e (join item joins) (suc n) a) (times e (join item joins) n (g a b)) pre (t ∷ l.mid) us (times e (join item joins) n (g a b) us)
            (λ ws k. at (l.mid ++ ws) (Some g) j ∙ ap (joined_by (times e (join item joins) n) a (t ∷ (l.mid ++ ws)) g) (l.same ws k))
            (ih (g a b) (pre ++ t ∷ l.mid) us (more pre l.mid a b t g j h l.is)))
        by ih g j (Cut b us c vs) l = record {
          mid = t ∷ l.mid;
          more = l.more;
          some = l.some;
          whole = ap (λ (xs : List T). t ∷ xs) l.whole;
          left = l.left;
          is = more pre l.mid a b t g j h l.is;
          begins = rw (append_assoc pre (t ∷ l.mid) l.more) (begun g (l.mid ++ l.more) j l.begins);
          same = λ ws k. at (l.mid ++ (l.more ++ ws)) (Some g) j ∙ ap (joined_by (times e (join item joins) n) a (t ∷ (l.mid ++ (l.more ++ ws))) g) (l.same ws k);
        }
        by ih g j (Refused c vs) l = record {
          mid = [];
          more = t ∷ l.mid;
          some = omega arith;
          whole = refl;
          left = ap (λ (xs : List T). t ∷ xs) l.whole;
          is = rw append-nil h;
          begins = rw append-nil (begun g l.mid j l.begins);
          same = λ ws k. at (l.mid ++ ws) (Some g) j ∙ ap (joined_by (times e (join item joins) n) a (t ∷ (l.mid ++ ws)) g) (l.same ws k);
        }

        same : joins t ≡ None → (vs : List T) → first vs ≡ first (t ∷ ts) → times e (join item joins) (suc n) a vs ≡ Read a vs
        same j [] k = absurd (let k' : None ≡ Some t = k in cc)
        same j (x ∷ vs) k = let k' : x ≡ t = some_inj k in subst (λ (y : T). times e (join item joins) (suc n) a (y ∷ vs) ≡ Read a (y ∷ vs)) (sym k') (at vs None j)

        go : Before → (o : Option (A → A → A)) → joins t ≡ o → Owes S (times e (join item joins) (suc n) a) pre (t ∷ ts) (join_by item (times e (join item joins) n) a t ts o)
        go ih None j = pure_owes S (times e (join item joins) (suc n) a) pre (t ∷ ts) a h (same j)
        go ih (Some g) j = by ih g j (item ts) (law ts)

    pub joined_owes : (a : A) (pre ts : List T) → S pre a → Owes S (joined e item joins a) pre ts (joined e item joins a ts)
    joined_owes a pre ts h = again_owes e (join item joins) Always (join-guarded (reads_leaves R item law)) (λ n. tt) S pre a ts (λ n. times_owe n a pre ts h)

    pub chain_reads : Reads S (chain e item joins)
    chain_reads ts = and_then_owes R S item (joined e item joins) [] [] ts (item ts) (law ts) (λ a us mid r. joined_owes a mid us (alone mid a r)) alone

  -- ---- what is a chain is read
  module _ (leaves : Leaves item) where
    pub joined_ends : (a : A) (rest : List T) → Ends joins rest → joined e item joins a rest ≡ Read a rest
    joined_ends a [] h = joined-step leaves a []
    joined_ends a (t ∷ ts) h = joined-step leaves a (t ∷ ts) ∙ ap (join_by item (joined e item joins) a t ts) h

    pub chain_first : (ts : List T) (a : A) (rest : List T) → item (ts ++ rest) ≡ Read a rest → chain e item joins (ts ++ rest) ≡ joined e item joins a rest
    chain_first ts a rest h = ap (λ (y : Outcome T E A). and_then y (joined e item joins)) h

    pub chain_more : (ts us : List T) (a b : A) (t : T) (g : A → A → A) (rest : List T) → joins t ≡ Some g
        → chain e item joins (ts ++ t ∷ (us ++ rest)) ≡ joined e item joins a (t ∷ (us ++ rest)) → item (us ++ rest) ≡ Read b rest
        → chain e item joins ((ts ++ t ∷ us) ++ rest) ≡ joined e item joins (g a b) rest
    chain_more ts us a b t g rest j left right =
        rw (append_assoc ts (t ∷ us) rest) (left ∙ joined-step leaves a (t ∷ (us ++ rest)) ∙ ap (join_by item (joined e item joins) a t (us ++ rest)) j ∙ ap (joined_by (joined e item joins) a (t ∷ (us ++ rest)) g) right)

    -- a chain that is read up to here is read whole
    pub chain_whole : (ts : List T) (a : A) (rest : List T) → Ends joins rest → chain e item joins (ts ++ rest) ≡ joined e item joins a rest → chain e item joins (ts ++ rest) ≡ Read a rest
    chain_whole ts a rest ends h = h ∙ joined_ends a rest ends

    -- a longer chain is read at least as far as its last item
    pub chain_reaches : (ts us : List T) (a : A) (t : T) (g : A → A → A) (n : ℕ) → joins t ≡ Some g
        → chain e item joins (ts ++ t ∷ us) ≡ joined e item joins a (t ∷ us) → Reaches n (item us) → Reaches n (chain e item joins (ts ++ t ∷ us))
    chain_reaches ts us a t g n j left r =
        rw (left ∙ joined-step leaves a (t ∷ us) ∙ ap (join_by item (joined e item joins) a t us) j) (by (item us) r)
      where
        by : (y : Outcome T E A) → Reaches n y → Reaches n (joined_by (joined e item joins) a (t ∷ us) g y)
        by (Read b ws) r = then_reaches leaves n (Read (g a b) ws) r
        by (Cut b ws c vs) r = r
        by (Refused c vs) r = absurd r

-- ---- chains of items that read alike
module _ {T E A : Type 0} (e : E) (item item' : List T → Outcome T E A) (joins : Joins T A) (leaves : Leaves item) (n : ℕ) (agree : (us : List T) → length us ≤ n → item us ≡ item' us) where
  times-agree : (m : ℕ) (a : A) (ts : List T) → length ts ≤ n → times e (join item joins) m a ts ≡ times e (join item' joins) m a ts
  times-agree zero a ts h = refl
  times-agree (suc m) a [] h = refl
  times-agree (suc m) a (t ∷ ts) h = go (λ b us le. times-agree m b us le) (joins t)
    where
      by : ((b : A) (us : List T) → length us ≤ n → times e (join item joins) m b us ≡ times e (join item' joins) m b us) → (g : A → A → A) (y : Outcome T E A) → left_of y ≤ length ts
          → joined_by (times e (join item joins) m) a (t ∷ ts) g y ≡ joined_by (times e (join item' joins) m) a (t ∷ ts) g y
      by ih g (Read b us) le = ih (g a b) us (omega arith)
      by ih g (Cut b us c vs) le = refl
      by ih g (Refused c vs) le = refl

      go : ((b : A) (us : List T) → length us ≤ n → times e (join item joins) m b us ≡ times e (join item' joins) m b us) → (o : Option (A → A → A)) → join_by item (times e (join item joins) m) a t ts o ≡ join_by item' (times e (join item' joins) m) a t ts o
      go ih None = refl
      go ih (Some g) = by ih g (item ts) (leaves ts) ∙ ap (joined_by (times e (join item' joins) m) a (t ∷ ts) g) (agree ts (omega arith))

  joined-agree : (a : A) (ts : List T) → length ts ≤ n → joined e item joins a ts ≡ joined e item' joins a ts
  unfolding again
  joined-agree a ts h = times-agree (suc (length ts)) a ts h

  pub chain-agree : (ts : List T) → length ts ≤ n → chain e item joins ts ≡ chain e item' joins ts
  chain-agree ts h = by (item ts) (leaves ts) ∙ ap (λ (y : Outcome T E A). and_then y (joined e item' joins)) (agree ts h)
    where
      by : (y : Outcome T E A) → left_of y ≤ length ts → and_then y (joined e item joins) ≡ and_then y (joined e item' joins)
      by (Read a us) le = joined-agree a us (omega arith)
      by (Cut a us c vs) le = refl
      by (Refused c vs) le = refl
