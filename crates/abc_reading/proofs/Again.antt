-- Readers that read again on fewer tokens.
use Rattle.std.proofs.Common.{◌≡◌, ℕ, zero, suc, ◌<◌, ◌+◌, List, ◌++◌, length, sym, ◌∙◌, subst, arith}
use Rattle.std.proofs.lemmas.List.{append_cancel_right}
use Rattle.abc_reading.specs.Reading.{Outcome, Read, Cut, Refused, times, again}
use Rattle.abc_reading.proofs.Laws.{Owes}

-- readers that give the same on fewer than so many tokens
abbrev pub Agree : {T E X A : Type 0} → ℕ → (f g : X → List T → Outcome T E A) → Type 0
Agree {T} {E} {X} n f g = (x : X) (ts : List T) → length ts < n → f x ts ≡ g x ts

-- A step that reads again on fewer tokens only, for readers that have the property P.
abbrev pub Guarded : {T E X A : Type 0} → ((X → List T → Outcome T E A) → Type 0) → ((X → List T → Outcome T E A) → X → List T → Outcome T E A) → Type 0
Guarded {T} {E} {X} {A} P step = (f g : X → List T → Outcome T E A) → P f → P g → (x : X) (ts : List T) → Agree (length ts) f g → step f x ts ≡ step g x ts

module _ {T E X A : Type 0} (e : E) (step : (X → List T → Outcome T E A) → X → List T → Outcome T E A) (P : (X → List T → Outcome T E A) → Type 0) (guarded : Guarded P step) (keeps : (n : ℕ) → P (times e step n)) where
  pub stable : (n m : ℕ) (x : X) (ts : List T) → length ts < n → length ts < m → times e step n x ts ≡ times e step m x ts
  stable zero m x ts h k = absurd (omega arith)
  stable (suc n) zero x ts h k = absurd (omega arith)
  stable (suc n) (suc m) x ts h k = guarded (times e step n) (times e step m) (keeps n) (keeps m) x ts (λ y us lt. stable n m y us (omega arith) (omega arith))

  pub again-times : (n : ℕ) (x : X) (ts : List T) → length ts < n → again e step x ts ≡ times e step n x ts
  unfolding again
  again-times n x ts h = stable (suc (length ts)) n x ts (omega arith) h

  -- what is owed with any bound is owed without
  pub again_owes : (R : List T → A → Type 0) (pre : List T) (x : X) (ts : List T) → ((n : ℕ) → Owes R (times e step n x) pre ts (times e step n x ts)) → Owes R (again e step x) pre ts (again e step x ts)
  again_owes R pre x ts law =
      let n : ℕ = suc (length ts) in
      subst (λ (y : Outcome T E A). Owes R (again e step x) pre ts y) (sym (again-times n x ts (omega arith)))
      (go (times e step n x ts) (λ m lt. stable m n x ts lt (omega arith)) (law n))
    where
      at_least : (y : Outcome T E A) → ((m : ℕ) → length ts < m → times e step m x ts ≡ y) → (m : ℕ) → length ts < m → Owes R (times e step m x) pre ts y
      at_least y is m lt = subst (λ (z : Outcome T E A). Owes R (times e step m x) pre ts z) (is m lt) (law m)

      go : (y : Outcome T E A) → ((m : ℕ) → length ts < m → times e step m x ts ≡ y) → Owes R (times e step (suc (length ts)) x) pre ts y → Owes R (again e step x) pre ts y
      go (Read a us) is h = record {
        mid = h.mid;
        whole = h.whole;
        is = h.is;
        same = λ vs k.
            let m : ℕ = suc (length ts) + suc (length (h.mid ++ vs)) in
            let l = at_least (Read a us) is m (omega arith) in
            let e' : l.mid ≡ h.mid = append_cancel_right l.mid h.mid us (sym l.whole ∙ h.whole) in
            again-times m x (h.mid ++ vs) (omega arith) ∙ subst (λ (z : List T). times e step m x (z ++ vs) ≡ Read a vs) e' (l.same vs k);
      }
      go (Cut a us c vs) is h = record {
        mid = h.mid;
        more = h.more;
        some = h.some;
        whole = h.whole;
        left = h.left;
        is = h.is;
        begins = h.begins;
        same = λ ws k.
            let m : ℕ = suc (length ts) + suc (length (h.mid ++ (h.more ++ ws))) in
            let l = at_least (Cut a us c vs) is m (omega arith) in
            let e' : l.mid ≡ h.mid = append_cancel_right l.mid h.mid us (sym l.whole ∙ h.whole) in
            let f' : l.more ≡ h.more = append_cancel_right l.more h.more vs (sym l.left ∙ h.left) in
            again-times m x (h.mid ++ (h.more ++ ws)) (omega arith)
            ∙ subst (λ (z : List T). times e step m x (z ++ (h.more ++ ws)) ≡ Cut a (h.more ++ ws) c ws) e' (subst (λ (z : List T). times e step m x (l.mid ++ (z ++ ws)) ≡ Cut a (z ++ ws) c ws) f' (l.same ws k));
      }
      go (Refused c vs) is h = record {
        mid = h.mid;
        whole = h.whole;
        begins = h.begins;
        same = λ ws k.
            let m : ℕ = suc (length ts) + suc (length (h.mid ++ ws)) in
            let l = at_least (Refused c vs) is m (omega arith) in
            let e' : l.mid ≡ h.mid = append_cancel_right l.mid h.mid vs (sym l.whole ∙ h.whole) in
            again-times m x (h.mid ++ ws) (omega arith) ∙ subst (λ (z : List T). times e step m x (z ++ ws) ≡ Refused c ws) e' (l.same ws k);
      }

  -- what it reads is one step, with itself for what is read again
  pub again-step : P (again e step) → (x : X) (ts : List T) → again e step x ts ≡ step (again e step) x ts
  again-step kept x ts =
      again-times (suc (length ts)) x ts (omega arith)
      ∙ guarded (times e step (length ts)) (again e step) (keeps (length ts)) kept x ts (λ y us lt. sym (again-times (length ts) y us lt))
