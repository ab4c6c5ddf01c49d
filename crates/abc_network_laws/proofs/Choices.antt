-- Turns with their rows of places, as choices, are a run of the multicast.
use Rattle.std.proofs.Common.{◌≡◌, ℕ, zero, suc, ◌+◌, ◌<◌, ◌≤◌, List, [], ◌∷◌, length, take, refl}
use Rattle.std.proofs.Common.{sym, ap, ◌∙◌, subst, arith, inl, inr}
use Rattle.std.specs.Prelude.{Option, Some, None, slice_get, MatchBool}
use Rattle.std.proofs.lemmas.Bool.{eq-eqb, ne_eqb, cases_eq, cases_lt}
use Rattle.abc_packet.specs.declared.packets.Content.{Content}
use Rattle.abc_packet.specs.declared.packets.Content.TheVariants.{Said, Empty}
use Rattle.abc_body.specs.Meanings.{Meaning}
use Rattle.abc_body.specs.Multicasts.{place_in, AreHearers, EachMoves, StepAt, Runs, AllRest}
use Rattle.abc_body.proofs.Resting.{AllRest-same}
use Rattle.abc_network.specs.Agents.{Speaking, Hearing}
use Rattle.abc_network.specs.Numbering.{Turn, heard_from, choices_of}
use Rattle.abc_network_laws.specs.Moves.{MovesAs, Moves, RowMoves, RowRuns}
use Rattle.abc_network_laws.specs.Kept.{Each}

-- Those that heard stand in rising order, and the sender is none of them.
hearers-of : (sender count least i : ℕ) (row : List (Option ℕ)) → least ≤ i →
    i + length row ≤ count → AreHearers sender count least (heard_from i sender row)
hearers-of sender count least i [] low high = tt
hearers-of sender count least i (None ∷ row) low high =
    hearers-of sender count least (i + 1) row (omega arith) (let h : i + suc (length row) ≤ count =
    high in omega arith)
hearers-of sender count least i (Some p ∷ row) low high =
    let h : i + suc (length row) ≤ count = high in
    elim (cases_eq i sender) [
      | inl e ↦ rw (eq-eqb i sender e)
          (hearers-of sender count least (i + 1) row (omega arith) (omega arith))
      | inr e ↦ rw (ne_eqb i sender e) (
        low,
        omega arith,
        e,
        hearers-of sender count (i + 1) (i + 1) row (omega arith)
            (omega arith),
      )
    ]

-- None is found before the first,
place-before : (sender k i : ℕ) (row : List (Option ℕ)) → k < i →
    place_in (heard_from i sender row) k ≡ None
place-before sender k i [] low = refl
place-before sender k i (None ∷ row) low = place-before sender k (i + 1) row (omega arith)
place-before sender k i (Some p ∷ row) low = elim (cases_eq i sender) [
  | inl e ↦ rw (eq-eqb i sender e) (place-before sender k (i + 1) row (omega arith))
  | inr e ↦ rw (ne_eqb i sender e, ne_eqb i k (λ s. absurd (omega arith)))
      (place-before sender k (i + 1) row (omega arith))
]

-- and each that heard is found with its place.
place-found : (sender i j : ℕ) (row : List (Option ℕ)) (q : Option ℕ) → slice_get row j ≡ Some q →
    (i + j ≡ sender → ⊥) → place_in (heard_from i sender row) (i + j) ≡ q
place-found sender i j [] q at other = absurd (cc)
place-found sender i zero (None ∷ row) q at other =
    let e : None ≡ q = cc in place-before sender (i + zero) (i + 1) row (omega arith) ∙ e
place-found sender i zero (Some p ∷ row) q at other =
    let e : Some p ≡ q = cc in
    let here : i ≡ i + zero = omega arith in
    let ne : (i ≡ sender → ⊥) = (λ s. other (sym here ∙ s)) in
    rw (ne_eqb i sender ne, eq-eqb i (i + zero) here) e
place-found sender i (suc j) (None ∷ row) q at other =
    let shift : i + suc j ≡ i + 1 + j = omega arith in
    subst (λ v. place_in (heard_from (i + 1) sender row) v ≡ q) (sym shift)
    (place-found sender (i + 1) j row q at (λ s. other (shift ∙ s)))
place-found sender i (suc j) (Some p ∷ row) q at other =
    let shift : i + suc j ≡ i + 1 + j = omega arith in
    let rest : place_in (heard_from (i + 1) sender row) (i + suc j) ≡ q =
    subst (λ v. place_in (heard_from (i + 1) sender row) v ≡ q) (sym shift)
    (place-found sender (i + 1) j row q at (λ s. other (shift ∙ s))) in
    elim (cases_eq i sender) [
      | inl e ↦ rw (eq-eqb i sender e) rest
      | inr e ↦ rw (ne_eqb i sender e, ne_eqb i (i + suc j) (λ s. absurd (omega arith))) rest
    ]

module _ {B L : Type 0} (m : Meaning B L) where
  -- What the sender does at a row, and what another does.
  as-sender : (t : Turn L) (i : ℕ) (p : Option ℕ) (b c : B) → i ≡ t.sender → Moves m i t p b c →
      (p ≡ t.place) × Speaking m b p t.content c
  as-sender t i p b c e h = subst (λ v. MovesAs m v t p b c) (eq-eqb i t.sender e) h

  -- What another does is to hear.
  as-other : (t : Turn L) (i : ℕ) (p : Option ℕ) (b c : B) → (i ≡ t.sender → ⊥) →
      Moves m i t p b c → Hearing m b p t.content c
  as-other t i p b c e h = subst (λ v. MovesAs m v t p b c) (ne_eqb i t.sender e) h

  -- The row has as many places as there are components.
  row-length : (t : Turn L) (i : ℕ) (row : List (Option ℕ)) (bs cs : List B) →
      RowMoves m i t row bs cs → (length row ≡ length bs) × (length cs ≡ length bs)
  row-length t i [] [] [] h = (refl, refl)
  row-length t i [] (b ∷ bs) cs h = absurd h
  row-length t i [] [] (c ∷ cs) h = absurd h
  row-length t i (p ∷ ps) [] cs h = absurd h
  row-length t i (p ∷ ps) (b ∷ bs) [] h = absurd h
  row-length t i (p ∷ ps) (b ∷ bs) (c ∷ cs) h = let r = row-length t (i + 1) ps bs cs h.1 in
      (ap suc r.0, ap suc r.1)

  -- The sender speaks, where it is one of them.
  sender-speaks : (t : Turn L) (i : ℕ) (row : List (Option ℕ)) (bs cs : List B) →
      RowMoves m i t row bs cs → i ≤ t.sender → t.sender < i + length bs →
      (b : B) × (c : B) × Speaking m b t.place t.content c
  sender-speaks t i [] [] [] h low high = absurd (let g : t.sender < i + 0 = high in omega arith)
  sender-speaks t i [] (b ∷ bs) cs h low high = absurd h
  sender-speaks t i [] [] (c ∷ cs) h low high = absurd h
  sender-speaks t i (p ∷ ps) [] cs h low high = absurd h
  sender-speaks t i (p ∷ ps) (b ∷ bs) [] h low high = absurd h
  sender-speaks t i (p ∷ ps) (b ∷ bs) (c ∷ cs) h low high =
      let g : t.sender < i + suc (length bs) = high in
      elim (cases_eq i t.sender) [
        | inl e ↦ (let s = as-sender t i p b c e h.0 in
            (b, c, subst (λ v. Speaking m b v t.content c) s.0 s.1))
        | inr e ↦ sender-speaks t (i + 1) ps bs cs h.1
            (elim (cases_lt i t.sender) [ inl q ↦ omega arith | inr q ↦ absurd (e (omega arith)) ])
            (omega arith)
      ]

  -- Where nothing is said nobody hears, and all stay.
  silent-row : (sender i : ℕ) (row : List (Option ℕ)) (bs cs : List B) →
      RowMoves {L = L} m i (record { sender = sender; place = None; content = Empty }) row bs cs →
      (heard_from i sender row ≡ []) × (cs ≡ bs)
  silent-row sender i [] [] [] h = (refl, refl)
  silent-row sender i [] (b ∷ bs) cs h = absurd h
  silent-row sender i [] [] (c ∷ cs) h = absurd h
  silent-row sender i (p ∷ ps) [] cs h = absurd h
  silent-row sender i (p ∷ ps) (b ∷ bs) [] h = absurd h
  silent-row sender i (None ∷ ps) (b ∷ bs) (c ∷ cs) h =
      let t : Turn L = record { sender = sender; place = None; content = Empty } in
      let r = silent-row sender (i + 1) ps bs cs h.1 in
      let same : c ≡ b = elim (cases_eq i sender) [
        | inl e ↦ (as-sender t i None b c e h.0).1.1
        | inr e ↦ as-other t i None b c e h.0
      ] in
      (r.0, (let r1 = r.1 in cc))
  silent-row sender i (Some p ∷ ps) (b ∷ bs) (c ∷ cs) h =
      let t : Turn L = record { sender = sender; place = None; content = Empty } in
      absurd (elim (cases_eq i sender) [
        | inl e ↦
            (let s = (as-sender t i (Some p) b c e h.0).0 in cc)
        | inr e ↦ as-other t i (Some p) b c e h.0
      ])

  -- Where a label is said, the sender speaks it and each other hears it at its place of the row.
  said-row : (sender place : ℕ) (label : L) (heard : List (ℕ × ℕ)) (i : ℕ) (row : List (Option ℕ))
      (bs cs : List B) → RowMoves m i (record {
        sender = sender;
        place = Some place;
        content = Said label;
      }) row bs cs →
      ((j : ℕ) (q : Option ℕ) → slice_get row j ≡ Some q → (i + j ≡ sender → ⊥) →
      place_in heard (i + j) ≡ q) → EachMoves m sender place heard label i bs cs
  said-row sender place label heard i [] [] [] h found = tt
  said-row sender place label heard i [] (b ∷ bs) cs h found = absurd h
  said-row sender place label heard i [] [] (c ∷ cs) h found = absurd h
  said-row sender place label heard i (p ∷ ps) [] cs h found = absurd h
  said-row sender place label heard i (p ∷ ps) (b ∷ bs) [] h found = absurd h
  said-row sender place label heard i (p ∷ ps) (b ∷ bs) (c ∷ cs) h found =
      let t : Turn L = record { sender = sender; place = Some place; content = Said label } in
      let here : i + zero ≡ i = omega arith in
      let rest = said-row sender place label heard (i + 1) ps bs cs h.1
      (λ j q at other. let shift : i + suc j ≡ i + 1 + j = omega arith in
      subst (λ v. place_in heard v ≡ q) shift (found (suc j) q at (λ s. other (sym shift ∙ s)))) in (
        elim (cases_eq i sender) [
          | inl e ↦ (let s = as-sender t i p b c e h.0 in
              subst (λ v. MatchBool v (m.speaks b place label c)
              (m.hears b label (place_in heard i) c)) (sym (eq-eqb i sender e))
              (subst (λ v. Speaking m b v (Said label) c) s.0 s.1))
          | inr e ↦ (let s = as-other t i p b c e h.0 in
              let at : place_in heard i ≡ p =
              subst (λ v. place_in heard v ≡ p) here
              (found zero p refl (λ z. e (sym here ∙ z))) in
              subst (λ v. MatchBool v (m.speaks b place label c)
              (m.hears b label (place_in heard i) c)) (sym (ne_eqb i sender e))
              (subst (λ v. m.hears b label v c) (sym at) s))
        ],
        rest,
      )

  -- One turn with its row is a step.
  row-step : (sender : ℕ) (place : Option ℕ) (content : Content L) (row : List (Option ℕ))
      (bs cs : List B) → RowMoves m 0 (record {
        sender = sender;
        place = place;
        content = content;
      }) row bs cs → sender < length bs →
      StepAt m bs sender place (heard_from 0 sender row) cs
  row-step sender (Some place) (Said label) row bs cs h low =
      let t : Turn L = record { sender = sender; place = Some place; content = Said label } in
      let len = (row-length t 0 row bs cs h).0 in (
        label,
        record {
          exists = low;
          hearers = hearers-of sender (length bs) 0 0 row (omega arith) (omega arith);
          moves = said-row sender place label (heard_from 0 sender row) 0 row bs cs h
              (λ j q at other. place-found sender 0 j row q at other);
        },
      )
  row-step sender None Empty row bs cs h low = let s = silent-row sender 0 row bs cs h in
      (low, s.0, s.1)
  row-step sender (Some place) Empty row bs cs h low =
      let t : Turn L = record { sender = sender; place = Some place; content = Empty } in
      absurd ((sender-speaks t 0 row bs cs h (omega arith) (let z : sender < 0 + length bs =
      omega arith in z)).2)
  row-step sender None (Said label) row bs cs h low =
      let t : Turn L = record { sender = sender; place = None; content = Said label } in
      absurd ((sender-speaks t 0 row bs cs h (omega arith) (let z : sender < 0 + length bs =
      omega arith in z)).2)

  -- Turns with their rows are a run.
  pub rows-run : (ts : List (Turn L)) (rows : List (List (Option ℕ))) (bs cs : List B) →
      Each (λ t. t.sender < length bs) ts → RowRuns m bs ts rows cs →
      Runs m bs (choices_of ts rows) cs
  rows-run [] [] bs cs low h = subst (λ v. AllRest bs v) (sym h) (AllRest-same bs)
  rows-run [] (row ∷ rows) bs cs low h = absurd h
  rows-run (t ∷ ts) [] bs cs low h = absurd h
  rows-run (t ∷ ts) (row ∷ rows) bs cs low h =
      let same = (row-length t 0 row bs h.0 h.1).1 in (
        bs,
        h.0,
        AllRest-same bs,
        row-step t.sender t.place t.content row bs h.0 h.1 low.0,
        rows-run ts rows h.0 cs (subst (λ v. Each (λ u. u.sender < v) ts) (sym same) low.1) h.2,
      )

-- The first elements have what all have.
pub each-take : {X : Type 0} (P : X → Type 0) (k : ℕ) (xs : List X) → Each P xs → Each P (take k xs)
each-take P zero xs h = tt
each-take P (suc k) [] h = tt
each-take P (suc k) (x ∷ xs) h = (h.0, each-take P k xs h.1)
