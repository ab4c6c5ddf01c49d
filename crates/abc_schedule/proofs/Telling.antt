-- The choices that the logs of agents tell are those of the turns, taken by number.
use Rattle.std.proofs.Common.{◌≡◌, ◌≢◌, ℕ, zero, suc, ◌+◌, ◌<◌, ◌≤◌, ◌==◌, List, [], ◌∷◌, ◌++◌, length}
use Rattle.std.proofs.Common.{get_or, map, drop, refl, sym, ap, ap₂, ◌∙◌, subst, arith, inl, inr, if◌then◌else◌}
use Rattle.std.specs.Prelude.{Option, Some, None, slice_get}
use Rattle.std.proofs.Common.{append-nil}
use Rattle.std.proofs.lemmas.Bool.{cases_eq, eq-eqb, ne_eqb}
use Rattle.abc_packet.specs.declared.choice.Choice.{Choice}
use Rattle.abc_packet.specs.declared.packets.Content.{Content}
use Rattle.abc_packet.specs.declared.log.Deed.{Deed}
use Rattle.abc_packet.specs.declared.log.Deed.TheVariants.{Asked, Arrived, Took, Turned, Passed}
use Rattle.abc_packet.specs.declared.log.Deed.TheVariants.{Stray}
use Rattle.abc_packet.specs.declared.log.Entry.{Entry}
use Rattle.abc_network.specs.Numbering.{Turn, place_of, places_of, taken_number, taken_numbers, heard_from}
use Rattle.abc_network.specs.Numbering.{choice_at, heads, tails, rows_of, choices_of}
use Rattle.abc_network_laws.specs.Kept.{Each}
use Rattle.abc_network_laws.specs.Simulation.{Counts}
use Rattle.abc_logs.specs.Choices.{turned_by, heard_by, turned_in, heard_in, some_place, beside, senders_from}
use Rattle.abc_logs.specs.Choices.{hearers_from, IsChoice, AreChoices}
use Rattle.abc_schedule.proofs.Goings.{chosen-yes, chosen-no}
use Rattle.abc_schedule.proofs.Spoken.{Says}

-- What a log tells of a number: nothing,
abbrev Nothing : List (Option ℕ) → List ℕ → Type 0
Nothing turned heard = (turned ≡ []) × (heard ≡ [])

-- or, where this turn was made at it and q is the log's place, that its agent turned it, or heard
-- it there.
abbrev Tells : {L : Type 0} → ℕ → Turn L → Option ℕ → List (Option ℕ) → List ℕ → Type 0
Tells i t q turned heard =
    (i ≡ t.sender → (turned ≡ t.place ∷ []) × (heard ≡ []))
    × ((i ≢ t.sender) → (turned ≡ []) × (heard ≡ some_place q))

-- A deed that takes another number tells nothing of this one.
other-turned : (n k : ℕ) (place : Option ℕ) → k ≢ n →
    (if k == n then place ∷ [] else []) ≡ []
other-turned n k place ne = chosen-no (k == n) (place ∷ []) [] (ne_eqb k n ne)

-- So does what is heard.
other-heard : (n k : ℕ) (place : Option ℕ) → k ≢ n → (if k == n then some_place place else []) ≡ []
other-heard n k place ne = chosen-no (k == n) (some_place place) [] (ne_eqb k n ne)

-- Past a number nothing is told of it: by deed,
none-deed : {L : Type 0} (n k : ℕ) (d : Deed L) (ns : List ℕ) (turned : List (Option ℕ)) (heard : List ℕ) →
    Counts k (taken_number d ++ ns) → n ≤ k →
    ((j : ℕ) → k ≤ j → Counts j ns → Nothing turned heard) →
    Nothing (turned_by n d ++ turned) (heard_by n d ++ heard)
none-deed n k Asked ns turned heard c low rest = rest k (omega arith) c
none-deed n k (Arrived l x drew) ns turned heard c low rest = rest k (omega arith) c
none-deed n k (Passed j) ns turned heard c low rest = rest k (omega arith) c
none-deed n k (Stray l x) ns turned heard c low rest = rest k (omega arith) c
none-deed n k (Turned j place content) ns turned heard c low rest =
    let next : j ≡ k + 1 = c.0 in
    let go = rest (k + 1) (omega arith) c.1 in
    (ap (λ v. v ++ turned) (other-turned n j place (λ e. absurd (omega arith))) ∙ go.0, go.1)
none-deed n k (Took j place) ns turned heard c low rest =
    let next : j ≡ k + 1 = c.0 in
    let go = rest (k + 1) (omega arith) c.1 in
    (go.0, ap (λ v. v ++ heard) (other-heard n j place (λ e. absurd (omega arith))) ∙ go.1)

-- and by log.
none-told : {L : Type 0} (n k : ℕ) (es : List (Entry L)) → Counts k (taken_numbers es) → n ≤ k →
    Nothing (turned_in n es) (heard_in n es)
none-told n k [] c low = (refl, refl)
none-told n k (e ∷ es) c low =
    none-deed n k e.deed (taken_numbers es) (turned_in n es) (heard_in n es) c low
    (λ j le c'. none-told n j es c' (omega arith))

module _ {L : Type 0} (ts : List (Turn L)) (i : ℕ) where
  -- The first number of a log: the agent turned it,
  turned-first : (n p : ℕ) (t : Turn L) (place q : Option ℕ) (content : Content L) (turned : List (Option ℕ)) (heard : List ℕ) →
      Says ts i (Turned n place content) → n ≡ p + 1 → slice_get ts p ≡ Some t → Nothing turned heard →
      Tells i t q (turned_by n (Turned n place content) ++ turned) (heard_by n (Turned n place content) ++ heard)
  turned-first n p t place q content turned heard says is at none =
      let made = says.1 in
      let same : says.0 ≡ p = omega arith in
      let got : slice_get ts p ≡ Some (record { sender = i; place = place; content = content }) =
      subst (λ v. slice_get ts v ≡ Some (record { sender = i; place = place; content = content })) same says.2 in
      let turn : Turn L = record { sender = i; place = place; content = content } in
      let both : t ≡ turn = cc in
      let own : t.sender ≡ i = ap (λ (v : Turn L). v.sender) both in
      let its : t.place ≡ place = ap (λ (v : Turn L). v.place) both in
      let one : turned_by n (Turned n place content) ≡ place ∷ [] =
      chosen-yes (n == n) (place ∷ []) [] (eq-eqb n n refl) in (
        (λ e. (ap₂ (λ u v. u ++ v) one none.0 ∙ ap (λ v. v ∷ []) (sym its), none.1)),
        (λ ne. absurd (ne (sym own))),
      )

  -- or took it.
  took-first : (n p : ℕ) (t : Turn L) (place q : Option ℕ) (turned : List (Option ℕ)) (heard : List ℕ) →
      Says ts i (Took n place) → n ≡ p + 1 → slice_get ts p ≡ Some t → place ≡ q → Nothing turned heard →
      Tells i t q (turned_by {L = L} n (Took n place) ++ turned) (heard_by {L = L} n (Took n place) ++ heard)
  took-first n p t place q turned heard says is at here none =
      let made = says.2 in
      let same : says.0 ≡ p = omega arith in
      let got : slice_get ts p ≡ Some says.1 = subst (λ v. slice_get ts v ≡ Some says.1) same says.3 in
      let both : t ≡ says.1 = cc in
      let other : t.sender ≢ i = (λ e. says.4 (ap (λ (v : Turn L). v.sender) (sym both) ∙ e)) in
      let one : heard_by {L = L} n (Took n place) ≡ some_place place =
      chosen-yes (n == n) (some_place place) [] (eq-eqb n n refl) in (
        (λ e. absurd (other (sym e))),
        (λ ne. (none.0, ap₂ (λ u v. u ++ v) one none.1 ∙ (append-nil (some_place place) ∙ ap some_place here))),
      )

  -- What a log tells of number n, by its first deed: it is that of place j, where k numbers were
  -- before.
  told-deed : (d : Deed L) (n p k j : ℕ) (t : Turn L) (q : Option ℕ) (es : List (Entry L)) →
      n ≡ p + 1 → n ≡ k + 1 + j → slice_get ts p ≡ Some t →
      Counts k (taken_number d ++ taken_numbers es) → Says ts i d →
      slice_get (place_of d ++ places_of es) j ≡ Some q →
      ((k' j' : ℕ) → n ≡ k' + 1 + j' → Counts k' (taken_numbers es) → slice_get (places_of es) j' ≡ Some q →
      Tells i t q (turned_in n es) (heard_in n es)) →
      Tells i t q (turned_by n d ++ turned_in n es) (heard_by n d ++ heard_in n es)
  told-deed Asked n p k j t q es is num at c says got rest = rest k j num c got
  told-deed (Arrived l x drew) n p k j t q es is num at c says got rest = rest k j num c got
  told-deed (Passed h) n p k j t q es is num at c says got rest = rest k j num c got
  told-deed (Stray l x) n p k j t q es is num at c says got rest = rest k j num c got
  told-deed (Turned h place content) n p k zero t q es is num at c says got rest =
      let next : h ≡ k + 1 = c.0 in
      let same : h ≡ n = omega arith in
      let none = none-told n (k + 1) es c.1 (omega arith) in
      subst (λ v. Tells i t q (turned_by n (Turned v place content) ++ turned_in n es)
      (heard_by n (Turned v place content) ++ heard_in n es)) (sym same)
      (turned-first n p t place q content (turned_in n es) (heard_in n es)
      (subst (λ v. Says ts i (Turned v place content)) same says) is at none)
  told-deed (Turned h place content) n p k (suc j) t q es is num at c says got rest =
      let next : h ≡ k + 1 = c.0 in
      let go = rest (k + 1) j (let e : n ≡ k + 1 + suc j = num in omega arith) c.1 got in
      let none = other-turned n h place
      (λ e. let f : n ≡ k + 1 + suc j = num in absurd (omega arith)) in (
        (λ e. let g = go.0 e in (ap (λ v. v ++ turned_in n es) none ∙ g.0, g.1)),
        (λ ne. let g = go.1 ne in (ap (λ v. v ++ turned_in n es) none ∙ g.0, g.1)),
      )
  told-deed (Took h place) n p k zero t q es is num at c says got rest =
      let next : h ≡ k + 1 = c.0 in
      let same : h ≡ n = omega arith in
      let here : place ≡ q = cc in
      let none = none-told n (k + 1) es c.1 (omega arith) in
      subst (λ v. Tells i t q (turned_by {L = L} n (Took v place) ++ turned_in n es)
      (heard_by {L = L} n (Took v place) ++ heard_in n es)) (sym same)
      (took-first n p t place q (turned_in n es) (heard_in n es)
      (subst (λ v. Says ts i (Took v place)) same says) is at here none)
  told-deed (Took h place) n p k (suc j) t q es is num at c says got rest =
      let next : h ≡ k + 1 = c.0 in
      let go = rest (k + 1) j (let e : n ≡ k + 1 + suc j = num in omega arith) c.1 got in
      let none = other-heard n h place
      (λ e. let f : n ≡ k + 1 + suc j = num in absurd (omega arith)) in (
        (λ e. let g = go.0 e in (g.0, ap (λ v. v ++ heard_in n es) none ∙ g.1)),
        (λ ne. let g = go.1 ne in (g.0, ap (λ v. v ++ heard_in n es) none ∙ g.1)),
      )

  -- What a log tells of a number.
  pub told : (es : List (Entry L)) (n p k j : ℕ) (t : Turn L) (q : Option ℕ) → n ≡ p + 1 → n ≡ k + 1 + j →
      slice_get ts p ≡ Some t → Counts k (taken_numbers es) → Each (λ e. Says ts i e.deed) es →
      slice_get (places_of es) j ≡ Some q → Tells i t q (turned_in n es) (heard_in n es)
  told [] n p k j t q is num at c says got = absurd (cc)
  told (e ∷ es) n p k j t q is num at c says got =
      told-deed e.deed n p k j t q es is num at c says.0 got
      (λ k' j' num' c' got'. told es n p k' j' t q is num' at c' says.1 got')

-- The places of agents at one number.
abbrev pub row_at : {L : Type 0} → ℕ → List (List (Entry L)) → List (Option ℕ)
row_at j logs = map (λ log. get_or (places_of log) j None) logs

-- The sender hears nothing,
heard-sender : (i sender : ℕ) (q : Option ℕ) (row : List (Option ℕ)) → i ≡ sender →
    heard_from i sender (q ∷ row) ≡ heard_from (i + 1) sender row
heard-sender i sender None row e = refl
heard-sender i sender (Some p) row e =
    chosen-yes (i == sender) (heard_from (i + 1) sender row) ((i, p) ∷ heard_from (i + 1) sender row)
    (eq-eqb i sender e)

-- and every other what its place says.
heard-other : (i sender : ℕ) (q : Option ℕ) (row : List (Option ℕ)) → i ≢ sender →
    heard_from i sender (q ∷ row) ≡ beside i (some_place q) ++ heard_from (i + 1) sender row
heard-other i sender None row ne = refl
heard-other i sender (Some p) row ne =
    chosen-no (i == sender) (heard_from (i + 1) sender row) ((i, p) ∷ heard_from (i + 1) sender row)
    (ne_eqb i sender ne)

module _ {L : Type 0} (n j : ℕ) (t : Turn L) where
  -- What all logs tell of a number, from agent i on.
  abbrev pub AllTell : ℕ → List (List (Entry L)) → Type 0
  AllTell i [] = Unit {0}
  AllTell i (log ∷ logs) =
      Tells i t (get_or (places_of log) j None) (turned_in n log) (heard_in n log) × AllTell (i + 1) logs

  -- Those that heard are those of the row,
  all-hearers : (i : ℕ) (logs : List (List (Entry L))) → AllTell i logs →
      hearers_from n i logs ≡ heard_from i t.sender (row_at j logs)
  all-hearers i [] h = refl
  all-hearers i (log ∷ logs) h =
      let q = get_or (places_of log) j None in
      let rest = all-hearers (i + 1) logs h.1 in
      elim (cases_eq i t.sender) [
        | inl e ↦ ap (λ v. beside i v ++ hearers_from n (i + 1) logs) (h.0.0 e).1
            ∙ (rest ∙ sym (heard-sender i t.sender q (row_at j logs) e))
        | inr ne ↦ ap (λ v. beside i v ++ hearers_from n (i + 1) logs) (h.0.1 ne).1
            ∙ (ap (λ v. beside i (some_place q) ++ v) rest ∙ sym (heard-other i t.sender q (row_at j logs) ne))
      ]

  -- and one turned it.
  no-sender : (i : ℕ) (logs : List (List (Entry L))) → t.sender < i → AllTell i logs → senders_from n i logs ≡ []
  no-sender i [] low h = refl
  no-sender i (log ∷ logs) low h =
      ap (λ v. beside i v ++ senders_from n (i + 1) logs) (h.0.1 (λ e. absurd (omega arith))).0
      ∙ no-sender (i + 1) logs (omega arith) h.1

  -- The one that did is the turn's sender.
  all-senders : (i : ℕ) (logs : List (List (Entry L))) → i ≤ t.sender → t.sender < i + length logs →
      AllTell i logs → senders_from n i logs ≡ (t.sender, t.place) ∷ []
  all-senders i [] low high h = absurd (let l : t.sender < i + 0 = high in omega arith)
  all-senders i (log ∷ logs) low high h =
      let l : t.sender < i + suc (length logs) = high in
      elim (cases_eq i t.sender) [
        | inl e ↦ ap (λ v. beside i v ++ senders_from n (i + 1) logs) (h.0.0 e).0
            ∙ (ap (λ v. (i, t.place) ∷ v) (no-sender (i + 1) logs (omega arith) h.1)
            ∙ ap (λ v. (v, t.place) ∷ []) e)
        | inr ne ↦ ap (λ v. beside i v ++ senders_from n (i + 1) logs) (h.0.1 ne).0
            ∙ all-senders (i + 1) logs (omega arith) (omega arith) h.1
      ]

  -- So the choice of the number is that of its turn and row.
  pub is-choice : (logs : List (List (Entry L))) → t.sender < length logs → AllTell 0 logs →
      IsChoice logs n (choice_at t (row_at j logs))
  is-choice logs low h = record {
    sender = all-senders 0 logs (omega arith) (omega arith) h;
    heard = all-hearers 0 logs h;
  }

-- A number has one choice.
choice-one : {L : Type 0} (logs : List (List (Entry L))) (n : ℕ) (c d : Choice) → IsChoice logs n c →
    IsChoice logs n d → c ≡ d
choice-one logs n c d f g =
    let first : ℕ × Option ℕ = (c.sender, c.place) in
    let other : ℕ × Option ℕ = (d.sender, d.place) in
    let one : first ∷ [] ≡ other ∷ [] = sym f.sender ∙ g.sender in
    let sender : c.sender ≡ d.sender = ap (λ (l : List (ℕ × Option ℕ)). (get_or l 0 first).0) one in
    let place : c.place ≡ d.place = ap (λ (l : List (ℕ × Option ℕ)). (get_or l 0 first).1) one in
    let heard : c.heard ≡ d.heard = sym f.heard ∙ g.heard in
    let make : ℕ → Option ℕ → List (ℕ × ℕ) → Choice = (λ s p h. record { sender = s; place = p; heard = h }) in
    ap (λ s. make s c.place c.heard) sender
    ∙ (ap (λ p. make d.sender p c.heard) place ∙ ap (λ h. make d.sender d.place h) heard)

-- The places from one number on.
abbrev pub columns_from : {L : Type 0} → ℕ → List (List (Entry L)) → List (List (Option ℕ))
columns_from j logs = map (λ log. drop j (places_of log)) logs

-- The first of each list, and the rest of each.
heads-one : (xs : List (Option ℕ)) (rest : List (List (Option ℕ))) →
    heads (xs ∷ rest) ≡ get_or xs 0 None ∷ heads rest
heads-one [] rest = refl
heads-one (x ∷ xs) rest = refl

-- So are the rests.
tails-one : (xs : List (Option ℕ)) (rest : List (List (Option ℕ))) → tails (xs ∷ rest) ≡ drop 1 xs ∷ tails rest
tails-one [] rest = refl
tails-one (x ∷ xs) rest = refl

-- What stands first behind some.
get-drop : {X : Type 0} (d : X) (j : ℕ) (xs : List X) → get_or (drop j xs) 0 d ≡ get_or xs j d
get-drop d zero xs = refl
get-drop d (suc j) [] = refl
get-drop d (suc j) (x ∷ xs) = get-drop d j xs

-- One more is left out.
drop-one : {X : Type 0} (j : ℕ) (xs : List X) → drop 1 (drop j xs) ≡ drop (suc j) xs
drop-one zero xs = refl
drop-one (suc j) [] = refl
drop-one (suc j) (x ∷ xs) = drop-one j xs

-- The first places of all are the row,
heads-are : {L : Type 0} (j : ℕ) (logs : List (List (Entry L))) → heads (columns_from j logs) ≡ row_at j logs
heads-are j [] = refl
heads-are j (log ∷ logs) =
    heads-one (drop j (places_of log)) (columns_from j logs)
    ∙ ap₂ (λ x xs. x ∷ xs) (get-drop None j (places_of log)) (heads-are j logs)

-- and the rest are those of the numbers after it.
tails-are : {L : Type 0} (j : ℕ) (logs : List (List (Entry L))) →
    tails (columns_from j logs) ≡ columns_from (suc j) logs
tails-are j [] = refl
tails-are j (log ∷ logs) =
    tails-one (drop j (places_of log)) (columns_from j logs)
    ∙ ap₂ (λ x xs. x ∷ xs) (drop-one j (places_of log)) (tails-are j logs)

-- The choices of the numbers from n on are those of the turns with their rows.
pub choices-are : {L : Type 0} (logs : List (List (Entry L))) (cs : List Choice) (us : List (Turn L)) (j n : ℕ) →
    n ≡ j + 1 → length cs ≡ length us →
    ((q : ℕ) (t : Turn L) → slice_get us q ≡ Some t → IsChoice logs (n + q) (choice_at t (row_at (j + q) logs))) →
    AreChoices logs n cs → cs ≡ choices_of us (rows_of (length us) (columns_from j logs))
choices-are logs [] [] j n is same each h = refl
choices-are logs [] (u ∷ us) j n is same each h = absurd (let l : 0 ≡ suc (length us) = same in omega arith)
choices-are logs (c ∷ cs) [] j n is same each h = absurd (let l : suc (length cs) ≡ 0 = same in omega arith)
choices-are {L} logs (c ∷ cs) (u ∷ us) j n is same each h =
    let l : suc (length cs) ≡ suc (length us) = same in
    let now : IsChoice logs n (choice_at u (row_at j logs)) =
    subst (λ v. IsChoice logs v (choice_at u (row_at j logs))) (let e : n + 0 ≡ n = omega arith in e)
    (subst (λ v. IsChoice logs (n + 0) (choice_at u (row_at v logs))) (let e : j + 0 ≡ j = omega arith in e)
    (each 0 u refl)) in
    let first : c ≡ choice_at u (heads (columns_from j logs)) =
    choice-one logs n c (choice_at u (row_at j logs)) h.0 now
    ∙ ap (λ v. choice_at u v) (sym (heads-are j logs)) in
    let rest : cs ≡ choices_of us (rows_of (length us) (columns_from (suc j) logs)) =
    choices-are logs cs us (suc j) (n + 1) (omega arith) (omega arith)
    (λ q t at.
    subst (λ v. IsChoice logs v (choice_at t (row_at (suc j + q) logs)))
    (let e : n + suc q ≡ n + 1 + q = omega arith in e)
    (subst (λ v. IsChoice logs (n + suc q) (choice_at t (row_at v logs)))
    (let e : j + suc q ≡ suc j + q = omega arith in e) (each (suc q) t at)))
    h.1 in
    ap₂ (λ x xs. x ∷ xs) first
    (rest ∙ ap (λ v. choices_of us (rows_of (length us) v)) (sym (tails-are j logs)))
