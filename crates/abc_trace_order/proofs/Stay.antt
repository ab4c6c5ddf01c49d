-- What is well formed stays so, and says the same, as more words have numbers.
use Rattle.std.proofs.Common.{◌≡◌, ℕ, ◌+◌, ◌<◌, ◌≤◌, List, [], ◌∷◌, ◌++◌, length, map, Option, Some, None, All, refl, sym, ap, ◌∙◌, subst, length-append, arith}
use Rattle.std.specs.Prelude.{flat_map}
use Rattle.std.proofs.lemmas.List.Elements.{All-nil, All-cons, All-tail, All-append, All-map}
use Rattle.abc_value.specs.declared.value.Value.{Value}
use Rattle.abc_pred.specs.declared.names.Name.{Name}
use Rattle.abc_pred.specs.Standing.{pred_of}
use Rattle.abc_text.specs.Meanings.{AreDifferent}
use Rattle.abc_printed.specs.Parts.{word_at}
use Rattle.abc_printed.specs.Printed.{pred_text}
use Rattle.abc_trace.specs.declared.trace.Head.{Head}
use Rattle.abc_trace.specs.declared.trace.Said.{Said}
use Rattle.abc_trace.specs.declared.trace.Line.{Line}
use Rattle.abc_trace.specs.declared.trace.EnvLine.{EnvLine}
use Rattle.abc_trace.specs.declared.trace.Trace.{Trace}
use Rattle.abc_trace.specs.WellFormed.{IsName, IsNamed, IsHearer, IsEntry, TailIsWellFormed, LineIsWellFormed, FinalIsWellFormed, SaidIsWellFormed, words_of}
use Rattle.abc_trace.specs.Met.{pred_words, said_words, line_words, final_words, trace_words}
use Rattle.abc_trace_lines.specs.Plain as plain
use Rattle.abc_trace_preds.specs.Reading.{PredsStay}
use Rattle.abc_trace_order.specs.Lines.{worded, said_of, tail_of, number_line, number_lines, env_line, node_lines, front_lines}
use Rattle.abc_trace_order.specs.Reading.{IsBegun}
use Rattle.abc_trace_order.proofs.InOrder.{worded_words, each_is}
use Rattle.abc_trace_order.proofs.WordLists.{word_stays, worded_stays}

module _ (stay : PredsStay) (words more : List (List ℕ)) where
  named_stays : (n : Name) → IsNamed words n → IsNamed (words ++ more) n
  named_stays n h = (
    omega (arith, h.0, length-append {A = List ℕ} words more),
    subst IsName (sym (word_stays words more n h.0)) h.1,
  )

  -- the words of items
  items_stay :
      {B : Type 0} (items : List (Name × B)) → All (λ e. e.0.0 < length words) items →
      words_of (words ++ more) (λ e. e.0) items ≡ words_of words (λ e. e.0) items
  items_stay items h =
      sym (worded_words (words ++ more) items) ∙ ap (map (λ e. e.0)) (worded_stays words more items h) ∙ worded_words words items

  hearers_below : (heard : List (Name × ℕ)) → All (IsHearer words) heard → All (λ e. e.0.0 < length words) heard
  hearers_below heard h = each_is (IsHearer words) (λ e. e.0.0 < length words) (λ e g. g.0.0) heard h

  entries_below : (es : List (Name × Value)) → All (IsEntry words) es → All (λ e. e.0.0 < length words) es
  entries_below es h = each_is (IsEntry words) (λ e. e.0.0 < length words) (λ e g. g.0.0) es h

  -- ---- what is said
  said_formed : (s : Said) → SaidIsWellFormed words s → SaidIsWellFormed (words ++ more) s
  said_formed s h = record {
    place = h.place;
    few = h.few;
    values = h.values;
    pred = (stay words more (pred_of s.pred) h.pred).0;
    heard = each_is (IsHearer words) (IsHearer (words ++ more)) (λ e g. (named_stays e.0 g.0, g.1)) s.heard h.heard;
    once = subst AreDifferent (sym (items_stay s.heard (hearers_below s.heard h.heard))) h.once;
  }

  said_same : (s : Said) → SaidIsWellFormed words s → said_of (words ++ more) s ≡ said_of words s
  said_same s h =
      let text = (stay words more (pred_of s.pred) h.pred).1 in
      let heard = worded_stays words more s.heard (hearers_below s.heard h.heard) in
      λ i. record { place = s.place; values = s.values; pred = text i; heard = heard i }

  tail_formed : (head : Head) (o : Option Said) → TailIsWellFormed head words o → TailIsWellFormed head (words ++ more) o
  tail_formed head None h = h
  tail_formed head (Some s) h = said_formed s h

  tail_same : (head : Head) (o : Option Said) → TailIsWellFormed head words o → tail_of (words ++ more) o ≡ tail_of words o
  tail_same head None h = refl
  tail_same head (Some s) h = ap Some (said_same s h)

  tail_met : (head : Head) (o : Option Said) → TailIsWellFormed head words o → said_words (words ++ more) o ≡ said_words words o
  tail_met head None h = refl
  tail_met head (Some s) h =
      let pred = (stay words more (pred_of s.pred) h.pred).2 in
      let heard = items_stay s.heard (hearers_below s.heard h.heard) in
      λ i. pred i ++ heard i

  -- ---- the line of a number
  pub line_formed : (head : Head) (l : Line) → LineIsWellFormed head words l → LineIsWellFormed head (words ++ more) l
  line_formed head l h = record { sender = named_stays l.sender h.sender; said = tail_formed head l.said h.said }

  pub line_same : (head : Head) (n : ℕ) (l : Line) → LineIsWellFormed head words l → number_line (words ++ more) n l ≡ number_line words n l
  line_same head n l h = λ i. plain.Number n (word_stays words more l.sender h.sender.0 i) (tail_same head l.said h.said i)

  pub line_met : (head : Head) (l : Line) → LineIsWellFormed head words l → line_words (words ++ more) l ≡ line_words words l
  line_met head l h = λ i. word_stays words more l.sender h.sender.0 i ∷ tail_met head l.said h.said i

  numbers_same :
      (head : Head) (n : ℕ) (ls : List Line) → All (LineIsWellFormed head words) ls → number_lines (words ++ more) n ls ≡ number_lines words n ls
  numbers_same head n [] h = refl
  numbers_same head n (l ∷ ls) h =
      let here = line_same head n l (h 0 l (omega arith)) in
      let rest = numbers_same head (n + 1) ls (All-tail (LineIsWellFormed head words) l ls h) in
      λ i. here i ∷ rest i

  numbers_met :
      (head : Head) (ls : List Line) → All (LineIsWellFormed head words) ls → flat_map (line_words (words ++ more)) ls ≡ flat_map (line_words words) ls
  numbers_met head [] h = refl
  numbers_met head (l ∷ ls) h =
      let here = line_met head l (h 0 l (omega arith)) in
      let rest = numbers_met head ls (All-tail (LineIsWellFormed head words) l ls h) in
      λ i. here i ++ rest i

  -- ---- the line of an environment
  pub env_formed : (f : EnvLine) → FinalIsWellFormed words f → FinalIsWellFormed (words ++ more) f
  env_formed f h = record {
    component = named_stays f.component h.component;
    entries = each_is (IsEntry words) (IsEntry (words ++ more)) (λ e g. (named_stays e.0 g.0, g.1, g.2)) f.entries h.entries;
    once = subst AreDifferent (sym (items_stay f.entries (entries_below f.entries h.entries))) h.once;
  }

  pub env_same : (f : EnvLine) → FinalIsWellFormed words f → env_line (words ++ more) f ≡ env_line words f
  env_same f h =
      λ i. plain.Env (word_stays words more f.component h.component.0 i) (worded_stays words more f.entries (entries_below f.entries h.entries) i)

  pub env_met : (f : EnvLine) → FinalIsWellFormed words f → final_words (words ++ more) f ≡ final_words words f
  env_met f h = λ i. word_stays words more f.component h.component.0 i ∷ items_stay f.entries (entries_below f.entries h.entries) i

  envs_same : (fs : List EnvLine) → All (FinalIsWellFormed words) fs → map (env_line (words ++ more)) fs ≡ map (env_line words) fs
  envs_same [] h = refl
  envs_same (f ∷ fs) h =
      let here = env_same f (h 0 f (omega arith)) in
      let rest = envs_same fs (All-tail (FinalIsWellFormed words) f fs h) in
      λ i. here i ∷ rest i

  envs_met : (fs : List EnvLine) → All (FinalIsWellFormed words) fs → flat_map (final_words (words ++ more)) fs ≡ flat_map (final_words words) fs
  envs_met [] h = refl
  envs_met (f ∷ fs) h =
      let here = env_met f (h 0 f (omega arith)) in
      let rest = envs_met fs (All-tail (FinalIsWellFormed words) f fs h) in
      λ i. here i ++ rest i

  pub components_same :
      (fs : List EnvLine) → All (FinalIsWellFormed words) fs →
      words_of (words ++ more) (λ f. f.component) fs ≡ words_of words (λ f. f.component) fs
  components_same [] h = refl
  components_same (f ∷ fs) h =
      let here = word_stays words more f.component (h 0 f (omega arith)).component.0 in
      let rest = components_same fs (All-tail (FinalIsWellFormed words) f fs h) in
      λ i. here i ∷ rest i

-- ---- a trace with more words
abbrev pub with_names : Trace → List (List ℕ) → Trace
with_names t names = record { names = names; head = t.head; lines = t.lines; finals = t.finals; handled = t.handled }

-- It is begun, and has the same lines and words.
pub record Stays (t : Trace) (names : List (List ℕ)) : Type 0 where
  pub begun : IsBegun (with_names t names)
  pub lines : front_lines (with_names t names) ≡ front_lines t
  pub met : trace_words (with_names t names) ≡ trace_words t
  pub components : words_of names (λ f. f.component) t.finals ≡ words_of t.names (λ f. f.component) t.finals

pub begun_stays :
    PredsStay → (t : Trace) (names more : List (List ℕ)) → IsBegun t → names ≡ t.names ++ more → AreDifferent names → Stays t names
begun_stays stay t names more b grown different = subst (Stays t) (sym grown) whole
  where
    whole : Stays t (t.names ++ more)
    whole =
        let components = components_same stay t.names more t.finals b.finals in
        let numbers = numbers_same stay t.names more t.head 1 t.lines b.lines in
        let envs = envs_same stay t.names more t.finals b.finals in
        let numbers_met' = numbers_met stay t.names more t.head t.lines b.lines in
        let envs_met' = envs_met stay t.names more t.finals b.finals in
        record {
          begun = record {
            names = subst AreDifferent grown different;
            head = b.head;
            lines = each_is (LineIsWellFormed t.head t.names) (LineIsWellFormed t.head (t.names ++ more)) (λ l h. line_formed stay t.names more t.head l h)
                t.lines b.lines;
            count = b.count;
            finals = each_is (FinalIsWellFormed t.names) (FinalIsWellFormed (t.names ++ more)) (λ f h. env_formed stay t.names more f h)
                t.finals b.finals;
            few = b.few;
            once = subst AreDifferent (sym components) b.once;
            order = b.order;
            nodes = b.nodes;
            handled = b.handled;
          };
          lines = λ i. plain.First t.head ∷ numbers i ++ envs i ++ node_lines 0 t.handled;
          met = λ i. numbers_met' i ++ envs_met' i;
          components = components;
        }
