-- Maps are finite maps, interfaces are sets of names.
use Rattle.std.proofs.Common.{◌≡◌, ℕ, ◌+◌, ◌≢◌, true, List, [], ◌∷◌, refl, ap, sym, subst, inl, inr, arith, ◌∙◌, if◌then◌else◌}
use Rattle.std.proofs.lemmas.Bool.{true≢false, lt-ltb, le-ltb, eq-eqb, ne_eqb, cases_order}
use Rattle.std.proofs.lemmas.List.Elements.{filter_agree}
use Rattle.abc_value.specs.declared.value.Value.{Value}
use Rattle.abc_value.specs.declared.value.Value.TheVariants.{Nothing, Scalar, Set}
use Rattle.abc_pred.specs.declared.names.Name.{Name}
use Rattle.abc_pred.specs.Maps.{Entries, RisesFrom, IsKept, look_up, same_name, without, with_entry, lists, ShowsTheSame, NamesRiseFrom, ListsTheSame}
use Rattle.abc_pred.specs.Laws.{MapsAreWhatTheyShow, SettingSets, SettingKeepsTheOthers, SettingGivesAMap, ShownIsTheCut, ShownIsAMap, InterfacesAreTheirNames, ShownByNamesAlone}
use Rattle.abc_pred.proofs.Shown.{look_up-shown}
use Rattle.abc_pred.proofs.Entry.{rises-with, rises-without, rises-shown, rises-lower, look_up-absent}
use Rattle.abc_pred.proofs.NameSets.{lists-absent, names-lower}

-- ---- the name that is set
look_up-without : (low : ℕ) (n : Name) (es : Entries) → RisesFrom low es → look_up (without n es) n ≡ Nothing
look_up-without low n [] s = refl
look_up-without low n (e ∷ es) s =
    elim (cases_order n.0 e.0.0) [
      | inl same ↦ rw (eq-eqb e.0.0 n.0 (omega arith)) (look_up-absent (e.0.0 + 1) n es s.2 (omega arith))
      | inr (inl less) ↦ rw (ne_eqb e.0.0 n.0 (omega arith), lt-ltb n.0 e.0.0 less) (rw (ne_eqb e.0.0 n.0 (omega arith)) (look_up-absent (e.0.0 + 1) n es s.2 (omega arith)))
      | inr (inr more) ↦ rw (ne_eqb e.0.0 n.0 (omega arith), le-ltb n.0 e.0.0 (omega arith)) (rw (ne_eqb e.0.0 n.0 (omega arith)) (look_up-without (e.0.0 + 1) n es s.2))
    ]

look_up-with_entry : (n : Name) (v : Value) (es : Entries) → look_up (with_entry n v es) n ≡ v
look_up-with_entry n v [] = rw (eq-eqb n.0 n.0 refl) refl
look_up-with_entry n v (e ∷ es) =
    elim (cases_order n.0 e.0.0) [
      | inl same ↦ rw (eq-eqb e.0.0 n.0 (omega arith)) (rw (eq-eqb n.0 n.0 refl) refl)
      | inr (inl less) ↦ rw (ne_eqb e.0.0 n.0 (omega arith), lt-ltb n.0 e.0.0 less) (rw (eq-eqb n.0 n.0 refl) refl)
      | inr (inr more) ↦ rw (ne_eqb e.0.0 n.0 (omega arith), le-ltb n.0 e.0.0 (omega arith)) (rw (ne_eqb e.0.0 n.0 (omega arith)) (look_up-with_entry n v es))
    ]

pub setting_sets : SettingSets
setting_sets es n Nothing s = look_up-without 0 n es s
setting_sets es n (Scalar x) s = look_up-with_entry n (Scalar x) es
setting_sets es n (Set x) s = look_up-with_entry n (Set x) es

-- ---- the others
number-differs : (m n : Name) → m ≢ n → n.0 ≢ m.0
number-differs m n h e = h (λ i. record { 0 = sym e i })

others-without : (n m : Name) (es : Entries) → n.0 ≢ m.0 → look_up (without n es) m ≡ look_up es m
others-without n m [] h = refl
others-without n m (e ∷ es) h =
    elim (cases_order n.0 e.0.0) [
      | inl same ↦ let d : e.0.0 ≢ m.0 = λ q. h (same ∙ q) in rw (eq-eqb e.0.0 n.0 (omega arith)) (rw (ne_eqb e.0.0 m.0 d) refl)
      | inr (inl less) ↦ rw (ne_eqb e.0.0 n.0 (omega arith), lt-ltb n.0 e.0.0 less) refl
      | inr (inr more) ↦ rw (ne_eqb e.0.0 n.0 (omega arith), le-ltb n.0 e.0.0 (omega arith)) (ap (λ v. if same_name e.0 m then e.1 else v) (others-without n m es h))
    ]

others-with_entry : (n m : Name) (v : Value) (es : Entries) → n.0 ≢ m.0 → look_up (with_entry n v es) m ≡ look_up es m
others-with_entry n m v [] h = rw (ne_eqb n.0 m.0 h) refl
others-with_entry n m v (e ∷ es) h =
    elim (cases_order n.0 e.0.0) [
      | inl same ↦ let d : e.0.0 ≢ m.0 = λ q. h (same ∙ q) in rw (eq-eqb e.0.0 n.0 (omega arith)) (rw (ne_eqb e.0.0 m.0 d, ne_eqb n.0 m.0 h) refl)
      | inr (inl less) ↦ rw (ne_eqb e.0.0 n.0 (omega arith), lt-ltb n.0 e.0.0 less) (rw (ne_eqb n.0 m.0 h) refl)
      | inr (inr more) ↦ rw (ne_eqb e.0.0 n.0 (omega arith), le-ltb n.0 e.0.0 (omega arith)) (ap (λ w. if same_name e.0 m then e.1 else w) (others-with_entry n m v es h))
    ]

pub setting_keeps_the_others : SettingKeepsTheOthers
setting_keeps_the_others es n m Nothing s h = others-without n m es (number-differs m n h)
setting_keeps_the_others es n m (Scalar x) s h = others-with_entry n m (Scalar x) es (number-differs m n h)
setting_keeps_the_others es n m (Set x) s h = others-with_entry n m (Set x) es (number-differs m n h)

pub setting_gives_a_map : SettingGivesAMap
setting_gives_a_map es n Nothing s = rises-without 0 n es s
setting_gives_a_map es n (Scalar x) s = rises-with 0 n (Scalar x) es tt (omega arith) s
setting_gives_a_map es n (Set x) s = rises-with 0 n (Set x) es tt (omega arith) s

-- ---- a map is what it shows
look_up-first : (e : Name × Value) (es : Entries) (n : Name) → e.0.0 ≡ n.0 → look_up (e ∷ es) n ≡ e.1
look_up-first e es n h = rw (eq-eqb e.0.0 n.0 h) refl

look_up-rest : (e : Name × Value) (es : Entries) (n : Name) → e.0.0 ≢ n.0 → look_up (e ∷ es) n ≡ look_up es n
look_up-rest e es n h = rw (ne_eqb e.0.0 n.0 h) refl

-- an entry is kept, so a map that lacks its name shows something else
not_none : (v : Value) → IsKept v → v ≡ Nothing → ⊥
not_none v k h = subst IsKept h k

map_is_shown : (low : ℕ) (a b : Entries) → RisesFrom low a → RisesFrom low b → ShowsTheSame a b → a ≡ b
map_is_shown low [] [] s t h = refl
map_is_shown low [] (f ∷ fs) s t h = absurd (not_none f.1 t.1 (sym (look_up-first f fs f.0 refl) ∙ sym (h f.0)))
map_is_shown low (e ∷ es) [] s t h = absurd (not_none e.1 s.1 (sym (look_up-first e es e.0 refl) ∙ h e.0))
map_is_shown low (e ∷ es) (f ∷ fs) s t h =
    elim (cases_order e.0.0 f.0.0) [
      | inl same ↦
          let name : e.0 ≡ f.0 = λ i. record { 0 = same i } in
          let value : e.1 ≡ f.1 = sym (look_up-first e es e.0 refl) ∙ h e.0 ∙ look_up-first f fs e.0 (sym same) in
          let rest : es ≡ fs = map_is_shown (e.0.0 + 1) es fs s.2 (rises-lower (e.0.0 + 1) (f.0.0 + 1) fs (omega arith) t.2)
          (λ n. elim (cases_order e.0.0 n.0) [
            | inl this ↦ look_up-absent (e.0.0 + 1) n es s.2 (omega arith) ∙ sym (look_up-absent (f.0.0 + 1) n fs t.2 (omega arith))
            | inr (inl less) ↦ sym (look_up-rest e es n (omega arith)) ∙ h n ∙ look_up-rest f fs n (omega arith)
            | inr (inr more) ↦ sym (look_up-rest e es n (omega arith)) ∙ h n ∙ look_up-rest f fs n (omega arith)
          ]) in
          λ i. (name i, value i) ∷ rest i
      | inr (inl less) ↦ absurd (not_none e.1 s.1 (sym (look_up-first e es e.0 refl) ∙ h e.0 ∙ look_up-absent f.0.0 e.0 (f ∷ fs) (omega arith, t.1, t.2) less))
      | inr (inr more) ↦ absurd (not_none f.1 t.1 (sym (look_up-first f fs f.0 refl) ∙ sym (h f.0) ∙ look_up-absent e.0.0 f.0 (e ∷ es) (omega arith, s.1, s.2) more))
    ]

pub maps_are_what_they_show : MapsAreWhatTheyShow
maps_are_what_they_show a b s t h = map_is_shown 0 a b s t h

-- ---- interfaces
pub shown_is_the_cut : ShownIsTheCut
shown_is_the_cut es i n = look_up-shown es i n

pub shown_is_a_map : ShownIsAMap
shown_is_a_map es i s = rises-shown 0 i es s

pub shown_by_names_alone : ShownByNamesAlone
shown_by_names_alone es i j h = filter_agree (λ e. lists i e.0) (λ e. lists j e.0) (λ e. h e.0) es

lists-first : (m : Name) (ms : List Name) (n : Name) → m.0 ≡ n.0 → lists (m ∷ ms) n ≡ true
lists-first m ms n h = rw (eq-eqb m.0 n.0 h) refl

lists-rest : (m : Name) (ms : List Name) (n : Name) → m.0 ≢ n.0 → lists (m ∷ ms) n ≡ lists ms n
lists-rest m ms n h = rw (ne_eqb m.0 n.0 h) refl

set_is_names : (low : ℕ) (a b : List Name) → NamesRiseFrom low a → NamesRiseFrom low b → ListsTheSame a b → a ≡ b
set_is_names low [] [] s t h = refl
set_is_names low [] (f ∷ fs) s t h = absurd (true≢false (sym (lists-first f fs f refl) ∙ sym (h f)))
set_is_names low (e ∷ es) [] s t h = absurd (true≢false (sym (lists-first e es e refl) ∙ h e))
set_is_names low (e ∷ es) (f ∷ fs) s t h =
    elim (cases_order e.0 f.0) [
      | inl same ↦
          let name : e ≡ f = λ i. record { 0 = same i } in
          let rest : es ≡ fs = set_is_names (e.0 + 1) es fs s.1 (names-lower (e.0 + 1) (f.0 + 1) fs (omega arith) t.1)
          (λ n. elim (cases_order e.0 n.0) [
            | inl this ↦ lists-absent (e.0 + 1) n es s.1 (omega arith) ∙ sym (lists-absent (f.0 + 1) n fs t.1 (omega arith))
            | inr (inl less) ↦ sym (lists-rest e es n (omega arith)) ∙ h n ∙ lists-rest f fs n (omega arith)
            | inr (inr more) ↦ sym (lists-rest e es n (omega arith)) ∙ h n ∙ lists-rest f fs n (omega arith)
          ]) in
          λ i. name i ∷ rest i
      | inr (inl less) ↦ absurd (true≢false (sym (lists-first e es e refl) ∙ h e ∙ lists-absent f.0 e (f ∷ fs) (omega arith, t.1) less))
      | inr (inr more) ↦ absurd (true≢false (sym (lists-first f fs f refl) ∙ sym (h f) ∙ lists-absent e.0 f (e ∷ es) (omega arith, s.1) more))
    ]

pub interfaces_are_their_names : InterfacesAreTheirNames
interfaces_are_their_names i j s t h = set_is_names 0 i j s t h
