-- Logs have a merge: all places, sorted by clock, then actor, then place.
use Rattle.std.proofs.Common.{◌≡◌, ℕ, zero, suc, ◌+◌, ◌≤◌, ◌<◌, List, [], ◌∷◌, ◌++◌, length}
use Rattle.std.proofs.Common.{refl, sym, ap, ◌∙◌, subst, arith, inl, inr}
use Rattle.std.specs.Prelude.{◌⊎◌}
use Rattle.std.proofs.lemmas.Bool.{cases_eq, cases_lt}
use Rattle.abc_packet.specs.declared.log.Entry.{Entry}
use Rattle.abc_logs.specs.Merges.{log_of, clock_at, IsBefore, IsBeforeAll, AreInOrder, Has, AreOf, IsMerge}

-- Of two numbers one is less, or they are the same.
three : (a b : ℕ) → (a < b) ⊎ ((a ≡ b) ⊎ (b < a))
three a b =
    elim (cases_eq a b) [
      | inl e ↦ inr (inl e)
      | inr n ↦ elim (cases_lt a b) [ inl l ↦ inl l | inr g ↦ inr (inr (omega (arith, g, n))) ]
    ]

-- The same place.
abbrev SamePlace : ℕ × ℕ → ℕ × ℕ → Type 0
SamePlace x y = (x.0 ≡ y.0) × (x.1 ≡ y.1)

module _ {L : Type 0} (logs : List (List (Entry L))) where
  -- Of two places one stands before the other, or they are the same.
  by-place : (x y : ℕ × ℕ) → clock_at logs x ≡ clock_at logs y → x.0 ≡ y.0 →
      IsBefore logs x y ⊎ (IsBefore logs y x ⊎ SamePlace x y)
  by-place x y e f =
      elim (three x.1 y.1) [
        | inl l ↦ inl (inr (e, inr (f, l)))
        | inr r ↦ elim r [
          | inr g ↦ inr (inl (inr (sym e, inr (sym f, g))))
          | inl h ↦ inr (inr (f, h))
        ]
      ]

  -- By actor, where the clocks are the same,
  by-actor : (x y : ℕ × ℕ) → clock_at logs x ≡ clock_at logs y →
      IsBefore logs x y ⊎ (IsBefore logs y x ⊎ SamePlace x y)
  by-actor x y e =
      elim (three x.0 y.0) [
        | inl l ↦ inl (inr (e, inl l))
        | inr r ↦ elim r [
          | inr g ↦ inr (inl (inr (sym e, inl g)))
          | inl f ↦ by-place x y e f
        ]
      ]

  -- and by clock.
  by-clock : (x y : ℕ × ℕ) → IsBefore logs x y ⊎ (IsBefore logs y x ⊎ SamePlace x y)
  by-clock x y =
      elim (three (clock_at logs x) (clock_at logs y)) [
        | inl l ↦ inl (inl l)
        | inr r ↦ elim r [ inr g ↦ inr (inl (inl g)) | inl e ↦ by-actor x y e ]
      ]

  -- What stands before one stands before what that stands before.
  before-later : (x y z : ℕ × ℕ) → IsBefore logs x y → IsBefore logs y z → IsBefore logs x z
  before-later x y z f g =
      elim f [
        | inl l ↦ elim g [ inl k ↦ inl (omega (arith, l, k)) | inr e ↦ let s = e.0 in inl (omega (arith, l, s)) ]
        | inr d ↦ let r = d.0 in
            elim g [
              | inl k ↦ inl (omega (arith, r, k))
              | inr e ↦
                  inr (
                    d.0 ∙ e.0,
                    elim d.1 [
                      | inl l ↦ elim e.1 [ inl k ↦ inl (omega (arith, l, k)) | inr h ↦ let s = h.0 in inl (omega (arith, l, s)) ]
                      | inr i ↦ let q = i.0 in let u = i.1 in
                          elim e.1 [
                            | inl k ↦ inl (omega (arith, q, k))
                            | inr h ↦ let v = h.1 in inr (i.0 ∙ h.0, omega (arith, u, v))
                          ]
                    ],
                  )
            ]
      ]

  -- It stands before all that they stand before.
  before-all : (x y : ℕ × ℕ) (xs : List (ℕ × ℕ)) → IsBefore logs x y → IsBeforeAll logs y xs → IsBeforeAll logs x xs
  before-all x y [] b h = tt
  before-all x y (z ∷ xs) b h = (before-later x y z b h.0, before-all x y xs b h.1)

  -- One place, put where it belongs.
  record Inserted (p : ℕ × ℕ) (ps : List (ℕ × ℕ)) : Type 0 where
    list : List (ℕ × ℕ)
    ordered : AreInOrder logs list
    here : Has list p.0 p.1
    kept : (a k : ℕ) → Has ps a k → Has list a k
    only : p.1 < length (log_of logs p.0) → AreOf logs ps → AreOf logs list
    after : (x : ℕ × ℕ) → IsBefore logs x p → IsBeforeAll logs x ps → IsBeforeAll logs x list

  -- Each place can be put in.
  inserted : (p : ℕ × ℕ) (ps : List (ℕ × ℕ)) → AreInOrder logs ps → Inserted p ps
  inserted p [] o = record {
    list = p ∷ [];
    ordered = (tt, tt);
    here = inl (refl, refl);
    kept = λ a k h. absurd h;
    only = λ f g. (f, tt);
    after = λ x b h. (b, tt);
  }
  inserted p (q ∷ qs) o =
      elim (by-clock p q) [
        | inl b ↦ record {
          list = p ∷ (q ∷ qs);
          ordered = ((b, before-all p q qs b o.0), o);
          here = inl (refl, refl);
          kept = λ a k h. inr h;
          only = λ f g. (f, g);
          after = λ x c h. (c, h);
        }
        | inr r ↦ elim r [
          | inr s ↦ record {
            list = q ∷ qs;
            ordered = o;
            here = inl (sym s.0, sym s.1);
            kept = λ a k h. h;
            only = λ f g. g;
            after = λ x c h. h;
          }
          | inl b ↦
              let more = inserted p qs o.1 in
              record {
                list = q ∷ more.list;
                ordered = (more.after q b o.0, more.ordered);
                here = inr more.here;
                kept = λ a k h. elim h [ inl e ↦ inl e | inr i ↦ inr (more.kept a k i) ];
                only = λ f g. (g.0, more.only f g.1);
                after = λ x c h. (h.0, more.after x c h.1);
              }
        ]
      ]

  -- All of them, sorted.
  record Sorted (ps : List (ℕ × ℕ)) : Type 0 where
    list : List (ℕ × ℕ)
    ordered : AreInOrder logs list
    kept : (a k : ℕ) → Has ps a k → Has list a k
    only : AreOf logs ps → AreOf logs list

  -- All places can be sorted.
  sorted : (ps : List (ℕ × ℕ)) → Sorted ps
  sorted [] = record { list = []; ordered = tt; kept = λ a k h. h; only = λ h. h }
  sorted (p ∷ ps) =
      let rest = sorted ps in
      let got = inserted p rest.list rest.ordered in
      record {
        list = got.list;
        ordered = got.ordered;
        kept = λ a k h. elim h [
          | inl e ↦ subst (λ j. Has got.list a j) e.1 (subst (λ b. Has got.list b p.1) e.0 got.here)
          | inr i ↦ got.kept a k (rest.kept a k i)
        ];
        only = λ h. got.only h.0 (rest.only h.1);
      }

-- The places of one log, and of all logs from actor a on.
abbrev of_log : ℕ → ℕ → List (ℕ × ℕ)
of_log a zero = []
of_log a (suc k) = (a, k) ∷ of_log a k

-- Those of all logs.
abbrev of_logs : {L : Type 0} → ℕ → List (List (Entry L)) → List (ℕ × ℕ)
of_logs a [] = []
of_logs a (log ∷ logs) = of_log a (length log) ++ of_logs (suc a) logs

-- What the first of two lists has, both have,
has-left : (xs ys : List (ℕ × ℕ)) (a k : ℕ) → Has xs a k → Has (xs ++ ys) a k
has-left [] ys a k h = absurd h
has-left (x ∷ xs) ys a k h = elim h [ inl e ↦ inl e | inr i ↦ inr (has-left xs ys a k i) ]

-- and what the second has.
has-right : (xs ys : List (ℕ × ℕ)) (a k : ℕ) → Has ys a k → Has (xs ++ ys) a k
has-right [] ys a k h = h
has-right (x ∷ xs) ys a k h = inr (has-right xs ys a k h)

-- Each place of a log is among its places,
log-has : (a n k : ℕ) → k < n → Has (of_log a n) a k
log-has a zero k h = absurd (omega arith)
log-has a (suc n) k h =
    elim (cases_eq n k) [
      | inl e ↦ inl (refl, e)
      | inr ne ↦ inr (log-has a n k (let l : k < suc n = h in omega (arith, ne, l)))
    ]

-- and among those of all logs.
logs-have : {L : Type 0} (s : ℕ) (logs : List (List (Entry L))) (a k : ℕ) → k < length (log_of logs a) →
    Has (of_logs s logs) (s + a) k
logs-have s [] a k h = absurd (let l : k < 0 = h in omega arith)
logs-have s (log ∷ logs) zero k h =
    subst (λ v. Has (of_logs s (log ∷ logs)) v k) (let e : s ≡ s + 0 = omega arith in e)
    (has-left (of_log s (length log)) (of_logs (suc s) logs) s k (log-has s (length log) k h))
logs-have s (log ∷ logs) (suc a) k h =
    subst (λ v. Has (of_logs s (log ∷ logs)) v k) (let e : suc s + a ≡ s + suc a = omega arith in e)
    (has-right (of_log s (length log)) (of_logs (suc s) logs) (suc s + a) k (logs-have (suc s) logs a k h))

-- They are places of the logs.
of-append : {L : Type 0} (logs : List (List (Entry L))) (xs ys : List (ℕ × ℕ)) → AreOf logs xs → AreOf logs ys →
    AreOf logs (xs ++ ys)
of-append logs [] ys f g = g
of-append logs (x ∷ xs) ys f g = (f.0, of-append logs xs ys f.1 g)

-- The places of one log are places of the logs,
log-only : {L : Type 0} (logs : List (List (Entry L))) (a n : ℕ) → n ≤ length (log_of logs a) → AreOf logs (of_log a n)
log-only logs a zero h = tt
log-only logs a (suc n) h = (h, log-only logs a n (let l : suc n ≤ length (log_of logs a) = h in omega arith))

-- and so are those of all.
logs-only : {L : Type 0} (all : List (List (Entry L))) (s : ℕ) (logs : List (List (Entry L))) →
    ((a : ℕ) → log_of all (s + a) ≡ log_of logs a) → AreOf all (of_logs s logs)
logs-only all s [] h = tt
logs-only all s (log ∷ logs) h =
    let e : s + 0 ≡ s = omega arith in
    let same : log_of all s ≡ log = subst (λ v. log_of all v ≡ log) e (h 0) in
    let long = ap (λ v. length v) same in
    of-append all (of_log s (length log)) (of_logs (suc s) logs)
    (log-only all s (length log) (omega arith))
    (logs-only all (suc s) logs (λ a.
    let f : s + suc a ≡ suc s + a = omega arith in subst (λ v. log_of all v ≡ log_of logs a) f (h (suc a))))

-- Logs have a merge.
pub merge-exists : {L : Type 0} (logs : List (List (Entry L))) → (merged : List (ℕ × ℕ)) × IsMerge logs merged
merge-exists logs =
    let s = sorted logs (of_logs 0 logs) in (
      s.list,
      record {
        all = λ a k h. s.kept a k
            (subst (λ v. Has (of_logs 0 logs) v k) (let e : 0 + a ≡ a = omega arith in e) (logs-have 0 logs a k h));
        only = s.only (logs-only logs 0 logs (λ a. ap (log_of logs) (let e : 0 + a ≡ a = omega arith in e)));
        ordered = s.ordered;
      },
    )
