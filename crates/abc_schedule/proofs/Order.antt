-- The list of all entries by clock, actor and place is a merge: its entries come log by log in
-- order, and no clock falls.
use Rattle.std.proofs.Common.{◌≡◌, inl, inr, ℕ, zero, suc, ◌+◌, ◌≤◌, ◌<◌, List, [], ◌∷◌}
use Rattle.std.proofs.Common.{length, get_or, drop, refl, sym, ap, ap₂, ◌∙◌, subst, arith, drop_of_length-le}
use Rattle.std.proofs.lemmas.Bool.{cases_eq, cases_lt}
use Rattle.std.proofs.lemmas.List.{drop_more}
use Rattle.abc_packet.specs.declared.log.Deed.TheVariants.{Asked}
use Rattle.abc_packet.specs.declared.log.Entry.{Entry}
use Rattle.abc_network.specs.Networks.{Event}
use Rattle.abc_network_laws.specs.Kept.{Each}
use Rattle.abc_logs.specs.Merges.{log_of, entries_at, first_clock, clock_at, IsBefore, IsBeforeAll}
use Rattle.abc_logs.specs.Merges.{AreInOrder, Has, AreOf, IsMerge, event_of, events_of, events_at}
use Rattle.abc_schedule.specs.Machines.{put, Merged}
use Rattle.abc_schedule.proofs.Law.{put_eq, put_other}

-- No entry, whose clock is 0.
abbrev pub no_entry : {L : Type 0} → Entry L
no_entry = record { clock = 0; deed = Asked }

-- The entry at a place, beside its actor.
abbrev pub entry_at : {L : Type 0} → (ℕ → List (Entry L)) → ℕ × ℕ → Entry L
entry_at logs x = get_or (logs x.0) x.1 no_entry

-- The entries at places, with their actors.
abbrev pub made_at : {L : Type 0} → (ℕ → List (Entry L)) → List (ℕ × ℕ) → List (ℕ × Entry L)
made_at logs [] = []
made_at logs (x ∷ xs) = (x.0, entry_at logs x) ∷ made_at logs xs

-- Its clock, and that there is one.
clock-of : {L : Type 0} (es : List (Entry L)) (k : ℕ) →
    first_clock (entries_at es k) ≡ (get_or es k no_entry).clock
clock-of [] k = refl
clock-of (e ∷ es) zero = refl
clock-of (e ∷ es) (suc k) = clock-of es k

-- There is just that entry.
entries-are : {L : Type 0} (es : List (Entry L)) (k : ℕ) → k < length es →
    entries_at es k ≡ get_or es k no_entry ∷ []
entries-are [] k h = absurd (omega arith)
entries-are (e ∷ es) zero h = refl
entries-are (e ∷ es) (suc k) h = entries-are es k (let l : suc k < suc (length es) = h in omega arith)

-- Entries with their actors, read as events.
abbrev pub events_in : {L : Type 0} → ℕ → List (ℕ × Entry L) → List (Event L)
events_in agents [] = []
events_in agents (x ∷ xs) = event_of agents x.0 x.1 ∷ events_in agents xs

-- The events of a merge.
pub events-are : {L : Type 0} (agents : ℕ) (logs : List (List (Entry L))) (xs : List (ℕ × ℕ)) →
    AreOf logs xs → events_at agents logs xs ≡ events_in agents (made_at (log_of logs) xs)
events-are agents logs [] h = refl
events-are agents logs (x ∷ xs) h =
    ap (λ es. events_of agents x.0 es (events_at agents logs xs)) (entries-are (log_of logs x.0) x.1 h.0)
    ∙ ap (λ es. event_of agents x.0 (entry_at (log_of logs) x) ∷ es) (events-are agents logs xs h.1)

-- Clocks that rise within a log, above `low`.
abbrev pub Rises : {L : Type 0} → ℕ → List (Entry L) → Type 0
Rises low [] = Unit {0}
Rises low (e ∷ es) = (low < e.clock) × Rises e.clock es

-- Each is above `low`,
above : {L : Type 0} (low : ℕ) (es : List (Entry L)) (k : ℕ) → Rises low es → k < length es →
    low < (get_or es k no_entry).clock
above low [] k r h = absurd (omega arith)
above low (e ∷ es) zero r h = r.0
above low (e ∷ es) (suc k) r h =
    let up = above e.clock es k r.1 (omega arith) in let lo : low < e.clock = r.0 in omega (arith, up, lo)

-- and above those before it.
rising : {L : Type 0} (low : ℕ) (es : List (Entry L)) (j k : ℕ) → Rises low es → j < k → k < length es →
    (get_or es j no_entry).clock < (get_or es k no_entry).clock
rising low [] j k r lt h = absurd (omega arith)
rising low (e ∷ es) j zero r lt h = absurd (omega arith)
rising low (e ∷ es) zero (suc k) r lt h = above e.clock es k r.1 (omega arith)
rising low (e ∷ es) (suc j) (suc k) r lt h = rising e.clock es j k r.1 (omega arith) (omega arith)

module _ {L : Type 0} (logs : List (List (Entry L))) where
  -- What one stands before, it stands before each of.
  pub before-has : (x : ℕ × ℕ) (xs : List (ℕ × ℕ)) (a k : ℕ) → IsBeforeAll logs x xs → Has xs a k →
      IsBefore logs x (a, k)
  before-has x [] a k f h = absurd h
  before-has x (y ∷ ys) a k f h =
      elim h [
        | inl e ↦ subst (λ j. IsBefore logs x (a, j)) e.1 (subst (λ b. IsBefore logs x (b, y.1)) e.0 f.0)
        | inr i ↦ before-has x ys a k f.1 i
      ]

  -- None stands before itself,
  no-self : (a k : ℕ) → IsBefore logs (a, k) (a, k) → ⊥
  no-self a k b =
      elim b [
        | inl l ↦ omega (arith, l)
        | inr e ↦ elim e.1 [ inl l ↦ omega (arith, l) | inr f ↦ let l = f.1 in omega (arith, l) ]
      ]

  -- or before one with a lower clock.
  not-after : (x y : ℕ × ℕ) → IsBefore logs x y → clock_at logs x ≤ clock_at logs y
  not-after x y b = elim b [ inl l ↦ omega (arith, l) | inr e ↦ let s = e.0 in omega (arith, s) ]

  -- What is left of the places, from these on.
  pub record Left (start : ℕ → ℕ) (xs : List (ℕ × ℕ)) : Type 0 where
    pub all : (a k : ℕ) → start a ≤ k → k < length (log_of logs a) → Has xs a k
    pub only : Each (λ p. (start p.0 ≤ p.1) × (p.1 < length (log_of logs p.0))) xs
    pub ordered : AreInOrder logs xs

  -- The first place of the list is the first that is left of its log.
  first-is : (start : ℕ → ℕ) (p : ℕ × ℕ) (xs : List (ℕ × ℕ)) → ((a : ℕ) → Rises 0 (log_of logs a)) →
      Left start (p ∷ xs) → p.1 ≡ start p.0
  first-is start p xs r lf =
      let in_log : p.1 < length (log_of logs p.0) = lf.only.0.1 in
      let from : start p.0 ≤ p.1 = lf.only.0.0 in
      elim (cases_eq p.1 (start p.0)) [
        | inl e ↦ e
        | inr ne ↦
            let lt : start p.0 < p.1 = omega (arith, from, ne) in
            elim (lf.all p.0 (start p.0) (omega arith) (omega arith)) [
              | inl s ↦ s.1
              | inr i ↦
                  let up = rising 0 (log_of logs p.0) (start p.0) p.1 (r p.0) lt in_log in
                  let one = clock-of (log_of logs p.0) (start p.0) in
                  let two = clock-of (log_of logs p.0) p.1 in
                  let le = not-after p (p.0, start p.0) (before-has p xs p.0 (start p.0) lf.ordered.0 i) in
                  absurd (omega arith)
            ]
      ]

  -- What one stands before, and what else holds of each.
  each-before : (p : ℕ × ℕ) (Q R : ℕ × ℕ → Type 0) (xs : List (ℕ × ℕ)) →
      ((x : ℕ × ℕ) → IsBefore logs p x → Q x → R x) → IsBeforeAll logs p xs → Each Q xs → Each R xs
  each-before p Q R [] f g h = tt
  each-before p Q R (x ∷ xs) f g h = (f x g.0 h.0, each-before p Q R xs f g.1 h.1)

  -- With the first place gone the rest is left.
  left-more : (start : ℕ → ℕ) (p : ℕ × ℕ) (xs : List (ℕ × ℕ)) → p.1 ≡ start p.0 →
      Left start (p ∷ xs) → Left (put start p.0 (suc p.1)) xs
  left-more start p xs is lf = record {
    all = λ a k le lt.
        elim (cases_eq a p.0) [
          | inl h ↦
              let low : suc p.1 ≤ k = subst (λ n. n ≤ k) (put_eq start p.0 (suc p.1) a h) le in
              let at : start a ≡ p.1 = ap start h ∙ sym is in
              elim (lf.all a k (omega (arith, low, at)) lt) [
                | inl s ↦ let e = s.1 in absurd (omega (arith, low, e))
                | inr i ↦ i
              ]
          | inr h ↦
              elim (lf.all a k (subst (λ n. n ≤ k) (put_other start p.0 (suc p.1) a h) le) lt) [
                | inl s ↦ absurd (h (sym s.0))
                | inr i ↦ i
              ]
        ];
    only =
        each-before p (λ q. (start q.0 ≤ q.1) × (q.1 < length (log_of logs q.0)))
        (λ q. (put start p.0 (suc p.1) q.0 ≤ q.1) × (q.1 < length (log_of logs q.0))) xs
        (λ q b o.
        elim (cases_eq q.0 p.0) [
          | inl h ↦
              let from : start q.0 ≤ q.1 = o.0 in
              let at : start q.0 ≡ p.1 = ap start h ∙ sym is in
              elim (cases_eq q.1 p.1) [
                | inl e ↦ absurd (no-self p.0 p.1
                    (subst (λ k. IsBefore logs p (p.0, k)) e (subst (λ c. IsBefore logs p (c, q.1)) h b)))
                | inr ne ↦
                    (subst (λ n. n ≤ q.1) (sym (put_eq start p.0 (suc p.1) q.0 h)) (omega (arith, from, at, ne)), o.1)
              ]
          | inr h ↦ (subst (λ n. n ≤ q.1) (sym (put_other start p.0 (suc p.1) q.0 h)) o.0, o.1)
        ])
        lf.ordered.0 lf.only.1;
    ordered = lf.ordered.1;
  }

-- The head of what is left of a log.
head-is : {L : Type 0} (es : List (Entry L)) (k : ℕ) (f : Entry L) (fs : List (Entry L)) →
    drop k es ≡ f ∷ fs → (k < length es) × (get_or es k no_entry ≡ f)
head-is [] zero f fs e = absurd (cc)
head-is [] (suc k) f fs e = absurd (cc)
head-is (x ∷ es) zero f fs e = (omega arith, ap (λ l. get_or l 0 no_entry) e)
head-is (x ∷ es) (suc k) f fs e = let h = head-is es k f fs e in let lt = h.0 in (omega (arith, lt), h.1)

module _ {L : Type 0} (logs : List (List (Entry L))) (r : (a : ℕ) → Rises 0 (log_of logs a)) where
  -- The head of no log has a lower clock than the first.
  least-clock : (p : ℕ × ℕ) (xs : List (ℕ × ℕ)) (start : ℕ → ℕ) → Left logs start (p ∷ xs) →
      (b : ℕ) (f : Entry L) (fs : List (Entry L)) → drop (start b) (log_of logs b) ≡ f ∷ fs →
      (entry_at (log_of logs) p).clock ≤ f.clock
  least-clock p xs start lf b f fs e =
      let h = head-is (log_of logs b) (start b) f fs e in
      let one = clock-of (log_of logs p.0) p.1 in
      let two = clock-of (log_of logs b) (start b) in
      let same = ap (λ (g : Entry L). g.clock) h.1 in
      elim (lf.all b (start b) (omega arith) h.0) [
        | inl s ↦
            let at : clock_at logs p ≡ clock_at logs (b, start b) =
            ap₂ (λ c k. clock_at logs (c, k)) s.0 s.1 in
            omega arith
        | inr i ↦
            let le = not-after logs p (b, start b) (before-has logs p xs b (start b) lf.ordered.0 i) in
            omega arith
      ]

  -- What is left is merged.
  merge-left : (xs : List (ℕ × ℕ)) (start : ℕ → ℕ) (rest : ℕ → List (Entry L)) →
      ((a : ℕ) → rest a ≡ drop (start a) (log_of logs a)) → Left logs start xs →
      Merged rest (made_at (log_of logs) xs)
  merge-left [] start rest is lf = λ a.
      elim (cases_lt (start a) (length (log_of logs a))) [
        | inl h ↦ absurd (lf.all a (start a) (omega arith) h)
        | inr h ↦ is a ∙ drop_of_length-le (log_of logs a) h
      ]
  merge-left (p ∷ xs) start rest is lf =
      let at : p.1 ≡ start p.0 = first-is logs start p xs r lf in
      let lt : p.1 < length (log_of logs p.0) = lf.only.0.1 in
      let one : p.1 + 1 ≡ suc p.1 = omega arith in
      let log = log_of logs p.0 in
      let es = drop (suc p.1) log in
      let first = get_or log p.1 no_entry in (
        es,
        is p.0 ∙ (ap (λ k. drop k log) (sym at)
            ∙ (drop_more log p.1 no_entry lt ∙ ap (λ k. first ∷ drop k log) one)),
        (λ b f fs e. least-clock p xs start lf b f fs (sym (is b) ∙ e)),
        merge-left xs (put start p.0 (suc p.1)) (put rest p.0 es)
            (λ a.
            elim (cases_eq a p.0) [
              | inl h ↦ put_eq rest p.0 es a h
                  ∙ ap₂ (λ k b. drop k (log_of logs b)) (sym (put_eq start p.0 (suc p.1) a h)) (sym h)
              | inr h ↦ put_other rest p.0 es a h
                  ∙ (is a ∙ ap (λ k. drop k (log_of logs a)) (sym (put_other start p.0 (suc p.1) a h)))
            ])
            (left-more logs start p xs at lf),
      )

  -- The places of the logs.
  all-only : (xs : List (ℕ × ℕ)) → AreOf logs xs →
      Each (λ p. (0 ≤ p.1) × (p.1 < length (log_of logs p.0))) xs
  all-only [] h = tt
  all-only (x ∷ xs) h = ((omega arith, h.0), all-only xs h.1)

  -- A merge, as the law has it.
  pub merge-is : (xs : List (ℕ × ℕ)) → IsMerge logs xs → Merged (log_of logs) (made_at (log_of logs) xs)
  merge-is xs mg =
      merge-left xs (λ a. 0) (log_of logs) (λ a. refl)
      (record { all = λ a k le lt. mg.all a k lt; only = all-only xs mg.only; ordered = mg.ordered })
