-- A trace that is made of a run of a traceable program is well formed.
use Rattle.std.proofs.Common.{◌≡◌, ◌≢◌, ◌⊎◌, ◌≤◌, ◌<◌, ◌^◌, ◌∙◌, inl, inr, ℕ, zero, suc, ◌+◌, refl, ap, sym}
use Rattle.std.proofs.Common.{List, [], ◌∷◌, length, map, slice_get, All, subst, arith}
use Rattle.std.specs.Prelude.{Option, Some, None}
use Rattle.std.specs.Option.{option_map, option_map_or}
use Rattle.std.proofs.lemmas.Bool.{cases_lt}
use Rattle.std.proofs.lemmas.Option.{slice_get-map}
use Rattle.std.proofs.lemmas.Simd.{map-map}
use Rattle.std.proofs.lemmas.List.{length-map}
use Rattle.std.proofs.lemmas.List.Elements.{All-nil, All-cons, All-head, All-tail, All-map, All-weaker}
use Rattle.abc_cause.specs.declared.CheckCause.TheVariants as cause
use Rattle.abc_pred.specs.declared.names.Name.{Name}
use Rattle.abc_pred.specs.Terms.{Pred}
use Rattle.abc_pred.specs.Maps.{Entries, IsMap}
use Rattle.abc_value.specs.Literals.{IsValue}
use Rattle.abc_text.specs.Meanings.{AreDifferent}
use Rattle.abc_term.specs.Processes as term
use Rattle.abc_term.specs.Speaking.{Label}
use Rattle.abc_term.specs.Systems.{AreHearers}
use Rattle.abc_term.specs.declared.terms.Component.{Component}
use Rattle.abc_term.specs.declared.terms.Program.{Program}
use Rattle.abc_checks.specs.declared.limits.TheConstants.{MOST_COMPONENTS}
use Rattle.abc_checks.specs.declared.causes.Site.TheVariants as site
use Rattle.abc_checks.specs.Facts.{IsChecked}
use Rattle.abc_printed.specs.Parts.{word_at}
use Rattle.abc_steps.specs.Rows.{Row}
use Rattle.abc_system.specs.declared.row.StepRow.{StepRow}
use Rattle.abc_system.specs.declared.run.Run.{Run}
use Rattle.abc_system.specs.Systems.{row_of}
use Rattle.abc_system.specs.Runs.{IsRunOf, rows_of}
use Rattle.abc_trace.specs.declared.limits.TheConstants.{MOST_PLACE}
use Rattle.abc_trace.specs.declared.trace.Head.{Head}
use Rattle.abc_trace.specs.declared.trace.Said.{Said}
use Rattle.abc_trace.specs.declared.trace.Line.{Line}
use Rattle.abc_trace.specs.declared.trace.EnvLine.{EnvLine}
use Rattle.abc_trace.specs.declared.trace.Trace.{Trace}
use Rattle.abc_trace.specs.Texts.{limit_of}
use Rattle.abc_trace.specs.WellFormed.{IsNamed, words_of, HeadIsWellFormed, nodes_of, IsSent}
use Rattle.abc_trace.specs.WellFormed.{IsHearer, SaidIsWellFormed, TailIsWellFormed, LineIsWellFormed}
use Rattle.abc_trace.specs.WellFormed.{IsEntry, FinalIsWellFormed, IsWellFormed}
use Rattle.abc_traceable.specs.Traceable.{IsTraceable}
use Rattle.abc_traceable.specs.Told.{IsToldAt, SaidIsTold, RowIsTold, EndIsTold}
use Rattle.abc_traceable.proofs.Running.{some_at, all_at}
use Rattle.abc_traceable.proofs.Different.{AreApart, apart_words, map_apart}
use Rattle.abc_traceable.proofs.Components.{components_apart}
use Rattle.abc_traceable.proofs.Naming.{names_are_told}
use Rattle.abc_traceable.proofs.Starting.{runs_are_told}
use Rattle.abc_run_text.specs.TextOf.{name_at, hearers}
use Rattle.abc_run_trace.specs.TraceOf.{FitsHead, AllFitHead}
use Rattle.abc_run_trace.specs.Telling.{TellsSaid, TellsTail, TellsRow, TellEach, finals_of}
use Rattle.abc_run_trace.proofs.Made.{tell_many, IsMadeOf}

-- ---- names
-- Names that are apart differ at two places.
apart_at : (ns : List Name) → AreApart ns → (i j : ℕ) (m n : Name) → i < j →
    slice_get ns i ≡ Some m → slice_get ns j ≡ Some n → n.0 ≢ m.0
apart_at [] apart i j m n lt at at' = cc
apart_at (x ∷ ns) apart i zero m n lt at at' = absurd (omega (arith, lt))
apart_at (x ∷ ns) apart zero (suc j) m n lt at at' =
    let same : x ≡ m = cc in
    subst (λ (k : Name). n.0 ≢ k.0) same (all_at (λ k. k.0 ≢ x.0) ns j n apart.0 at')
apart_at (x ∷ ns) apart (suc i) (suc j) m n lt at at' =
    apart_at ns apart.1 i j m n (omega (arith, lt)) at at'

-- The component of a number that there is, with its name.
record StandsAt (p : Program) (i : ℕ) : Type 0 where
  pub component : Component
  pub at : slice_get p.components i ≡ Some component
  pub called : name_at p i ≡ component.name
  pub name : slice_get (map (λ C. C.name) p.components) i ≡ Some (name_at p i)

stands_at : (p : Program) (i : ℕ) → i < length p.components → StandsAt p i
stands_at p i below =
    let there = some_at p.components i below in
    let called : name_at p i ≡ there.0.name =
    ap (λ (o : Option Component). option_map_or (λ C. C.name) o (record { 0 = 0 })) there.1 in
    record {
      component = there.0;
      at = there.1;
      called = called;
      name =
          slice_get-map (λ C. C.name) p.components i
          ∙ ap (λ (o : Option Component). option_map (λ C. C.name) o) there.1
          ∙ ap (λ (n : Name). Some n) (sym called);
    }

module _ (p : Program) (able : IsTraceable p) where
  -- Items whose names have words and are apart have different words.
  once : {A : Type 0} (name : A → Name) (items : List A) →
      All (λ a. IsNamed p.names (name a)) items → AreApart (map name items) →
      AreDifferent (words_of p.names name items)
  once name items named apart =
      subst AreDifferent (map-map (word_at p.names) name items)
      (apart_words p.names able.different (map name items)
      (All-map (λ n. n.0 < length p.names) name items
      (All-weaker (λ a. IsNamed p.names (name a)) (λ a. (name a).0 < length p.names) (λ a h. h.0)
      items named))
      apart)

  component_named : (i : ℕ) → i < length p.components → IsNamed p.names (name_at p i)
  component_named i below =
      let there = stands_at p i below in
      subst (IsNamed p.names) (sym there.called)
      (all_at (λ C. IsNamed p.names C.name) p.components i there.component
      (names_are_told p able).named there.at)

  components_differ : (i j : ℕ) → i < j → j < length p.components →
      (name_at p j).0 ≢ (name_at p i).0
  components_differ i j lt below =
      apart_at (map (λ C. C.name) p.components) (components_apart p able.checked) i j
      (name_at p i) (name_at p j) lt
      (stands_at p i (omega (arith, lt, below))).name (stands_at p j below).name

  -- ---- those that heard
  hearers_named : (sender least : ℕ) (heard : List (ℕ × ℕ)) →
      AreHearers sender (length p.components) least heard →
      All (λ h. h.1 ≤ MOST_PLACE) heard → All (IsHearer p.names) (hearers p heard)
  hearers_named sender least [] are small = All-nil (IsHearer p.names)
  hearers_named sender least (h ∷ heard) are small =
      All-cons (IsHearer p.names) (name_at p h.0, h.1) (hearers p heard)
      (component_named h.0 are.1, All-head (λ x. x.1 ≤ MOST_PLACE) h heard small)
      (hearers_named sender (h.0 + 1) heard are.3 (All-tail (λ x. x.1 ≤ MOST_PLACE) h heard small))

  -- Those behind a component have other names.
  others_behind : (sender i least : ℕ) (heard : List (ℕ × ℕ)) → i < least →
      AreHearers sender (length p.components) least heard →
      All (λ m. m.0 ≢ (name_at p i).0) (map (λ h. h.0) (hearers p heard))
  others_behind sender i least [] lt are = All-nil (λ m. m.0 ≢ (name_at p i).0)
  others_behind sender i least (h ∷ heard) lt are =
      let from = are.0 in
      let before : i < h.0 = omega (arith, lt, from) in
      All-cons (λ m. m.0 ≢ (name_at p i).0) (name_at p h.0) (map (λ x. x.0) (hearers p heard))
      (components_differ i h.0 before are.1)
      (others_behind sender i (h.0 + 1) heard (omega (arith, before)) are.3)

  hearers_apart : (sender least : ℕ) (heard : List (ℕ × ℕ)) →
      AreHearers sender (length p.components) least heard →
      AreApart (map (λ h. h.0) (hearers p heard))
  hearers_apart sender least [] are = tt
  hearers_apart sender least (h ∷ heard) are = (
    others_behind sender h.0 (h.0 + 1) heard (omega arith) are.3,
    hearers_apart sender (h.0 + 1) heard are.3,
  )

  -- ---- lines
  said_formed : (sender place : ℕ) (l : Label) (heard : List (ℕ × ℕ)) (s : Said) →
      TellsSaid p place l heard s → IsToldAt p place l →
      AreHearers sender (length p.components) 0 heard → All (λ h. h.1 ≤ MOST_PLACE) heard →
      SaidIsWellFormed p.names s
  said_formed sender place l heard s tells told are small =
      let place_of = tells.place in
      let place_small = told.small in
      let count = ap length tells.values in
      let few = told.few in
      let names = hearers_named sender 0 heard are small in
      record {
        place = omega (arith, place_of, place_small);
        few = omega (arith, count, few);
        values = subst (All IsValue) (sym tells.values) told.values;
        pred = subst (IsSent p.names) (sym tells.pred) told.pred;
        heard = subst (All (IsHearer p.names)) (sym tells.heard) names;
        once =
            subst (λ (hs : List (Name × ℕ)). AreDifferent (words_of p.names (λ h. h.0) hs))
            (sym tells.heard)
            (once (λ h. h.0) (hearers p heard)
            (All-weaker (IsHearer p.names) (λ h. IsNamed p.names h.0) (λ h k. k.0) (hearers p heard)
            names)
            (hearers_apart sender 0 heard are));
      }

  tail_formed : (head : Head) (sender : ℕ) (spoke : Option (ℕ × Label)) (heard : List (ℕ × ℕ))
      (tail : Option Said) →
      TellsTail p spoke heard tail → SaidIsTold p spoke → FitsHead head spoke →
      AreHearers sender (length p.components) 0 heard → All (λ h. h.1 ≤ MOST_PLACE) heard →
      TailIsWellFormed head p.names tail
  tail_formed head sender None heard None tells told fits are small = fits
  tail_formed head sender None heard (Some x) tells told fits are small = absurd tells
  tail_formed head sender (Some s) heard None tells told fits are small = absurd tells
  tail_formed head sender (Some s) heard (Some x) tells told fits are small =
      said_formed sender s.0 s.1 heard x tells told are small

  line_formed : (head : Head) (r : Row) (l : Line) → TellsRow p r l → RowIsTold p r →
      FitsHead head r.spoke → LineIsWellFormed head p.names l
  line_formed head r l tells told fits = record {
    sender = subst (IsNamed p.names) (sym tells.sender) (component_named r.sender told.sender);
    said =
        tail_formed head r.sender r.spoke r.heard l.said tells.said told.said fits told.hearers
        told.places;
  }

  lines_formed : (head : Head) (rows : List StepRow) (lines : List Line) → TellEach p rows lines →
      All (RowIsTold p) (map row_of rows) → AllFitHead head (map row_of rows) →
      All (LineIsWellFormed head p.names) lines
  lines_formed head [] [] h told fit = All-nil (LineIsWellFormed head p.names)
  lines_formed head [] (l ∷ lines) h told fit = absurd h
  lines_formed head (r ∷ rows) [] h told fit = absurd h
  lines_formed head (r ∷ rows) (l ∷ lines) h told fit =
      All-cons (LineIsWellFormed head p.names) l lines
      (line_formed head (row_of r) l h.0 (All-head (RowIsTold p) (row_of r) (map row_of rows) told)
      (All-head (λ x. FitsHead head x.spoke) (row_of r) (map row_of rows) fit))
      (lines_formed head rows lines h.1 (All-tail (RowIsTold p) (row_of r) (map row_of rows) told)
      (All-tail (λ x. FitsHead head x.spoke) (row_of r) (map row_of rows) fit))

  -- ---- the lines of environments
  -- an environment whose attributes have words and values
  abbrev IsShown : Entries → Type 0
  IsShown env = All (IsEntry p.names) env × IsMap env

  finals_formed : (Cs : List Component) (envs : List Entries) →
      All (λ C. IsNamed p.names C.name) Cs → All IsShown envs →
      All (FinalIsWellFormed p.names) (finals_of Cs envs)
  finals_formed [] envs named shown = All-nil (FinalIsWellFormed p.names)
  finals_formed (C ∷ Cs) [] named shown = All-nil (FinalIsWellFormed p.names)
  finals_formed (C ∷ Cs) (env ∷ envs) named shown =
      let here = All-head IsShown env envs shown in
      let final : EnvLine = record { component = C.name; entries = env } in
      All-cons (FinalIsWellFormed p.names) final (finals_of Cs envs)
      (record {
        component = All-head (λ D. IsNamed p.names D.name) C Cs named;
        entries = here.0;
        once =
            once (λ e. e.0) env
            (All-weaker (IsEntry p.names) (λ e. IsNamed p.names e.0) (λ e k. k.0) env here.0)
            (map_apart 0 env here.1);
      })
      (finals_formed Cs envs (All-tail (λ D. IsNamed p.names D.name) C Cs named)
      (All-tail IsShown env envs shown))

-- There are as many as components, and they have the components' names.
finals_many : (Cs : List Component) (envs : List Entries) → length envs ≡ length Cs →
    length (finals_of Cs envs) ≡ length Cs
finals_many [] envs e = refl
finals_many (C ∷ Cs) [] e = absurd (omega (arith, e))
finals_many (C ∷ Cs) (env ∷ envs) e =
    let more = finals_many Cs envs (omega (arith, e)) in
    omega (arith, more)

finals_called : (words : List (List ℕ)) (Cs : List Component) (envs : List Entries) →
    length envs ≡ length Cs →
    words_of words (λ f. f.component) (finals_of Cs envs) ≡ words_of words (λ C. C.name) Cs
finals_called words [] envs e = refl
finals_called words (C ∷ Cs) [] e = absurd (omega (arith, e))
finals_called words (C ∷ Cs) (env ∷ envs) e =
    ap (λ (ws : List (List ℕ)). word_at words C.name ∷ ws)
    (finals_called words Cs envs (omega (arith, e)))

-- ---- counts
some_component : (p : Program) → IsChecked p → 1 ≤ length p.components
some_component p checked =
    elim (cases_lt 0 (length p.components)) [
      | inl lt ↦ omega (arith, lt)
      | inr none ↦ absurd (checked cause.NoComponent site.Whole (omega (arith, none)))
    ]

few_components : (p : Program) → IsChecked p → length p.components ≤ MOST_COMPONENTS
few_components p checked =
    elim (cases_lt MOST_COMPONENTS (length p.components)) [
      | inl lt ↦ absurd (checked cause.TooManyComponents site.Whole lt)
      | inr few ↦ few
    ]

-- ---- the trace
-- What is asked of a head, a run and the nodes' counts.
pub record Conditions (p : Program) (h : Head) (r : Run) (ks : List ℕ) : Type 0 where
  pub able : IsTraceable p
  pub run : IsRunOf p r
  pub head : HeadIsWellFormed h
  pub count : length r.steps ≤ limit_of h
  pub said : AllFitHead h (rows_of r)
  pub nodes : length ks ≡ nodes_of h
  pub handled : All (λ n. n < 2 ^ 64) ks

pub is_formed : (p : Program) (head : Head) (r : Run) (handled : List ℕ) (t : Trace) →
    Conditions p head r handled →
    IsMadeOf p head r.steps r.finals handled t → IsWellFormed t
is_formed p head r handled t c m =
    let told = runs_are_told p (rows_of r) c.run.last c.able c.run.told in
    let named = names_are_told p c.able in
    let as_many = tell_many p r.steps t.lines m.lines in
    let count = c.count in
    let envs : length r.finals ≡ length p.components =
    ap length c.run.ends.finals ∙ length-map c.run.last (λ C. C.env) ∙ told.count in
    let many : length t.finals ≡ length p.components =
    ap length m.finals ∙ finals_many p.components r.finals envs in
    let shown : All (IsShown p c.able) r.finals =
    subst (All (IsShown p c.able)) (sym c.run.ends.finals)
    (All-map (IsShown p c.able) (λ (C : term.Component). C.env) c.run.last
    (All-weaker (EndIsTold p) (λ C. IsShown p c.able C.env) (λ C e. (e.entries, e.map)) c.run.last
    told.ends)) in
    let some = some_component p c.able.checked in
    let few = few_components p c.able.checked in
    record {
      names = subst AreDifferent (sym m.names) c.able.different;
      head = subst HeadIsWellFormed (sym m.head) c.head;
      lines =
          subst (λ (h : Head). All (LineIsWellFormed h t.names) t.lines) (sym m.head)
          (subst (λ (ws : List (List ℕ)). All (LineIsWellFormed head ws) t.lines) (sym m.names)
          (lines_formed p c.able head r.steps t.lines m.lines told.each c.said));
      count =
          subst (λ (h : Head). length t.lines ≤ limit_of h) (sym m.head)
          (omega (arith, as_many, count));
      finals =
          subst (λ (ws : List (List ℕ)). All (FinalIsWellFormed ws) t.finals) (sym m.names)
          (subst (All (FinalIsWellFormed p.names)) (sym m.finals)
          (finals_formed p c.able p.components r.finals named.named shown));
      some = omega (arith, many, some);
      few = omega (arith, many, few);
      once =
          subst (λ (ws : List (List ℕ)). AreDifferent (words_of ws (λ f. f.component) t.finals))
          (sym m.names)
          (subst AreDifferent
          (sym (ap (λ (fs : List EnvLine). words_of p.names (λ f. f.component) fs) m.finals
          ∙ finals_called p.names p.components r.finals envs))
          named.once);
      nodes = ap length m.handled ∙ c.nodes ∙ ap nodes_of (sym m.head);
      handled = subst (All (λ n. n < 2 ^ 64)) (sym m.handled) c.handled;
    }
