-- Who is listed as a hearer hears, at the place that it is listed with.
use Rattle.std.proofs.Common.{◌≡◌, ◌≢◌, ℕ, zero, suc, ◌+◌, ◌==◌, ◌<◌, ◌≤◌, Bool, false, if◌then◌else◌, List, [], ◌∷◌, length, slice_get, Option, Some, None, refl, ap, subst, ◌∙◌, arith}
use Rattle.std.proofs.lemmas.Bool.{eq-eqb, ne_eqb}
use Rattle.abc_term.specs.Processes.{Definitions, System}
use Rattle.abc_term.specs.Hearing.{Hears}
use Rattle.abc_term.specs.Systems.{place_in, AreHearers, StepAt}
use Rattle.abc_term.specs.Laws.{ListedHear, ListedRise, SenderExists}
use Rattle.abc_term.proofs.ByNumber.{multicast_by_number}

-- what is known of one that is listed at a place of the list
record Listed (sender count low : ℕ) (heard : List (ℕ × ℕ)) (h : ℕ × ℕ) : Type 0 where
  from : low ≤ h.0
  below : h.0 < count
  other : h.0 ≢ sender
  found : place_in heard h.0 ≡ Some h.1

first_listed : (sender count low : ℕ) (heard : List (ℕ × ℕ)) (h : ℕ × ℕ) → low ≤ h.0 → h.0 < count → h.0 ≢ sender
    → Listed sender count low (h ∷ heard) h
first_listed sender count low heard h from below other = record {
  from = from;
  below = below;
  other = other;
  found = ap (λ (b : Bool). if b then Some h.1 else place_in heard h.0) (eq-eqb h.0 h.0 refl);
}

later_listed : (sender count low : ℕ) (heard : List (ℕ × ℕ)) (g h : ℕ × ℕ) → low ≤ g.0 → Listed sender count (g.0 + 1) heard h
    → Listed sender count low (g ∷ heard) h
later_listed sender count low heard g h le r =
    let above = r.from in
    let ne : (g.0 == h.0) ≡ false = ne_eqb g.0 h.0 (λ e. omega arith) in
    record {
      from = omega arith;
      below = r.below;
      other = r.other;
      found = ap (λ (b : Bool). if b then Some g.1 else place_in heard h.0) ne ∙ r.found;
    }

listed : (sender count low : ℕ) (heard : List (ℕ × ℕ)) → AreHearers sender count low heard → (k : ℕ) (h : ℕ × ℕ) → slice_get heard k ≡ Some h
    → Listed sender count low heard h
listed sender count low [] a k h e = cc
listed sender count low (g ∷ heard) a zero h e =
    let same : g ≡ h = cc in
    subst (λ (x : ℕ × ℕ). Listed sender count low (g ∷ heard) x) same (first_listed sender count low heard g a.0 a.1 a.2)
listed sender count low (g ∷ heard) a (suc k) h e =
    later_listed sender count low heard g h a.0 (listed sender count (g.0 + 1) heard a.3 k h e)

rising : (sender count low : ℕ) (heard : List (ℕ × ℕ)) → AreHearers sender count low heard → (j k : ℕ) (g h : ℕ × ℕ) → j < k
    → slice_get heard j ≡ Some g → slice_get heard k ≡ Some h → g.0 < h.0
rising sender count low [] a j k g h lt e f = cc
rising sender count low (x ∷ heard) a zero zero g h lt e f = absurd (omega arith)
rising sender count low (x ∷ heard) a (suc j) zero g h lt e f = absurd (omega arith)
rising sender count low (x ∷ heard) a zero (suc k) g h lt e f =
    let same : x ≡ g = cc in
    let at : x.0 ≡ g.0 = ap (λ (y : ℕ × ℕ). y.0) same in
    let above = (listed sender count (x.0 + 1) heard a.3 k h f).from in
    omega arith
rising sender count low (x ∷ heard) a (suc j) (suc k) g h lt e f =
    rising sender count (x.0 + 1) heard a.3 j k g h (omega arith) e f

pub listed_rise : ListedRise
listed_rise defs S sender place heard l T s j k g h lt e f = rising sender (length S) 0 heard s.hearers j k g h lt e f

pub listed_hear : ListedHear
listed_hear defs S sender place heard l T s k h e =
    let r = listed sender (length S) 0 heard s.hearers k h e in
    let by = (multicast_by_number defs S sender place heard l T).0 s.moves in
    (r.below, r.other, λ C D at new. subst (λ (p : Option ℕ). Hears defs C l p D) r.found (by.hears h.0 C D r.other at new))

sender_at : (defs : Definitions) (S : System) (sender : ℕ) (at : Option ℕ) (heard : List (ℕ × ℕ)) (T : System) → StepAt defs S sender at heard T
    → sender < length S
sender_at defs S sender None heard T s = s.0
sender_at defs S sender (Some place) heard T s = s.1.exists

pub sender_exists : SenderExists
sender_exists defs S c T s = sender_at defs S c.sender c.place c.heard T s
