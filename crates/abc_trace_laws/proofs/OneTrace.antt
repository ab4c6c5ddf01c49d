-- A text fixes its trace, where names are numbered as their words are met.
use Rattle.std.proofs.Common.{◌≡◌, ℕ, List, [], ◌∷◌, ◌++◌, map, Option, Some, None, All, refl, sym, ap, ◌∙◌, subst, arith}
use Rattle.std.specs.Prelude.{flat_map}
use Rattle.std.specs.Option.{option_map}
use Rattle.std.proofs.lemmas.List.Elements.{All-nil, All-cons, All-head, All-tail}
use Rattle.abc_value.specs.declared.value.Value.{Value}
use Rattle.abc_pred.specs.declared.names.Name.{Name}
use Rattle.abc_pred.specs.Standing.{pred_of}
use Rattle.abc_text.specs.Meanings.{number_in, AreDifferent}
use Rattle.abc_grammar.specs.declared.lexemes.Lexeme.TheVariants as l
use Rattle.abc_printed.specs.Parts.{word_at}
use Rattle.abc_printed.specs.Printable.{HasWord}
use Rattle.abc_trace.specs.declared.trace.Head.{Head}
use Rattle.abc_trace.specs.declared.trace.Said.{Said}
use Rattle.abc_trace.specs.declared.trace.Line.{Line}
use Rattle.abc_trace.specs.declared.trace.EnvLine.{EnvLine}
use Rattle.abc_trace.specs.declared.trace.Trace.{Trace}
use Rattle.abc_trace.specs.Texts.{trace_text}
use Rattle.abc_trace.specs.WellFormed.{IsNamed, IsHearer, IsEntry, TailIsWellFormed, LineIsWellFormed, FinalIsWellFormed, IsWellFormed, words_of}
use Rattle.abc_trace.specs.Met.{AreNumberedAsMet, with_words, pred_words, said_words, line_words, final_words, trace_words}
use Rattle.abc_trace_lines.specs.Plain as plain
use Rattle.abc_trace_lines.proofs.OneReading.{lines_one}
use Rattle.abc_trace_preds.proofs.Sents.{have_named, preds_are_one}
use Rattle.abc_trace_order.specs.Lines.{worded, said_of, tail_of, trace_lines}
use Rattle.abc_trace_order.specs.Order.{IsGoodLine}
use Rattle.abc_trace_order.proofs.Splits.{are_same}
use Rattle.abc_trace_order.proofs.OneLine.{good_one}
use Rattle.abc_trace_order.proofs.TextIs.{text_is}
use Rattle.abc_trace_order.proofs.InOrder.{worded_words, whole_leads, each_is}
use Rattle.abc_trace_laws.specs.Plain.{plain_said, plain_line, plain_trace}
use Rattle.abc_trace_laws.specs.Laws.{TracesAreOne}
use Rattle.abc_trace_laws.proofs.PlainTexts.{plain_fixes_text}
use Rattle.abc_trace_laws.proofs.Parts.{parts, parts_of, parts_are, worded_line, worded_final}

-- ---- the same items
-- lists of which the first and the rest are the same
first_one : {A : Type 0} (a b : A) (xs ys : List A) → a ∷ xs ≡ b ∷ ys → a ≡ b
first_one a b xs ys e = cc

rest_one : {A : Type 0} (a b : A) (xs ys : List A) → a ∷ xs ≡ b ∷ ys → xs ≡ ys
rest_one a b xs ys e = cc

never_one : {A : Type 0} (a : A) (xs : List A) → [] ≡ a ∷ xs → ⊥
never_one a xs e = cc

some_one : (x y : plain.Said) → Some x ≡ Some y → x ≡ y
some_one x y e = cc

-- ---- the words of a trace, by what it says in words
-- what is said under a number has the same words
said_met :
    (known known' : List (List ℕ)) (head head' : Head) (o o' : Option Said) → TailIsWellFormed head known o → TailIsWellFormed head' known' o' →
    tail_of known o ≡ tail_of known' o' → said_words known o ≡ said_words known' o'
said_met known known' head head' None None h g e = refl
said_met known known' head head' None (Some s) h g e = absurd (let e' : None ≡ Some (said_of known' s) = e in cc)
said_met known known' head head' (Some s) None h g e = absurd (let e' : Some (said_of known s) ≡ None = e in cc)
said_met known known' head head' (Some s) (Some s') h g e =
    let same = some_one (said_of known s) (said_of known' s') e in
    let pred : pred_words known (pred_of s.pred) ≡ pred_words known' (pred_of s'.pred) =
    preds_are_one.words known known' (pred_of s.pred) (pred_of s'.pred) h.pred g.pred (λ i. (same i).pred) in
    let heard : words_of known (λ h. h.0) s.heard ≡ words_of known' (λ h. h.0) s'.heard =
    sym (worded_words known s.heard) ∙ (λ i. map (λ h. h.0) (same i).heard) ∙ worded_words known' s'.heard in
    λ i. pred i ++ heard i

-- so have lines of numbers
lines_met :
    (known known' : List (List ℕ)) (head head' : Head) (ls us : List Line) → All (LineIsWellFormed head known) ls →
    All (LineIsWellFormed head' known') us → map (worded_line known) ls ≡ map (worded_line known') us →
    flat_map (line_words known) ls ≡ flat_map (line_words known') us
lines_met known known' head head' [] [] h g e = refl
lines_met known known' head head' [] (u ∷ us) h g e = absurd (never_one _ _ e)
lines_met known known' head head' (l ∷ ls) [] h g e = absurd (never_one _ _ (sym e))
lines_met known known' head head' (l ∷ ls) (u ∷ us) h g e =
    let first = first_one _ _ _ _ e in
    let said = said_met known known' head head' l.said u.said (All-head (LineIsWellFormed head known) l ls h).said
    (All-head (LineIsWellFormed head' known') u us g).said (λ i. (first i).1) in
    let rest = lines_met known known' head head' ls us (All-tail (LineIsWellFormed head known) l ls h)
    (All-tail (LineIsWellFormed head' known') u us g) (rest_one _ _ _ _ e) in
    λ i. ((first i).0 ∷ said i) ++ rest i

-- and those of environments
finals_met :
    (known known' : List (List ℕ)) (fs gs : List EnvLine) → map (worded_final known) fs ≡ map (worded_final known') gs →
    flat_map (final_words known) fs ≡ flat_map (final_words known') gs
finals_met known known' [] [] e = refl
finals_met known known' [] (g ∷ gs) e = absurd (never_one _ _ e)
finals_met known known' (f ∷ fs) [] e = absurd (never_one _ _ (sym e))
finals_met known known' (f ∷ fs) (g ∷ gs) e =
    let first = first_one _ _ _ _ e in
    let entries : words_of known (λ x. x.0) f.entries ≡ words_of known' (λ x. x.0) g.entries =
    sym (worded_words known f.entries) ∙ (λ i. map (λ x. x.0) (first i).1) ∙ worded_words known' g.entries in
    let rest = finals_met known known' fs gs (rest_one _ _ _ _ e) in
    λ i. ((first i).0 ∷ entries i) ++ rest i

-- ---- what a trace says, by what it says in words
module _ (known : List (List ℕ)) (different : AreDifferent known) where
  -- A name is fixed by its word,
  name_one : (m n : Name) → IsNamed known m → IsNamed known n → word_at known m ≡ word_at known n → m ≡ n
  name_one m n h g e =
      let same : m.0 ≡ n.0 = sym (placed m h) ∙ ap (number_in known) e ∙ placed n g in
      λ i. record { 0 = same i }
    where
      placed : (x : Name) → IsNamed known x → number_in known (word_at known x) ≡ x.0
      placed x k =
          let word : HasWord known (l.Name x) = (k.0, k.1.0, k.1.1) in
          (have_named known (l.Name x ∷ []) different (All-cons (HasWord known) (l.Name x) [] word (All-nil (HasWord known))) 0 (l.Name x)
          (omega arith)).numbered.1

  -- and so are names with what stands at them.
  worded_one :
      {B : Type 0} (xs ys : List (Name × B)) → All (λ e. IsNamed known e.0) xs → All (λ e. IsNamed known e.0) ys →
      worded known xs ≡ worded known ys → xs ≡ ys
  worded_one [] [] h g e = refl
  worded_one [] (y ∷ ys) h g e = absurd (never_one _ _ e)
  worded_one (x ∷ xs) [] h g e = absurd (never_one _ _ (sym e))
  worded_one {B} (x ∷ xs) (y ∷ ys) h g e =
      let P : Name × B → Type 0 = λ e. IsNamed known e.0 in
      let first = first_one _ _ _ _ e in
      let name = name_one x.0 y.0 (All-head P x xs h) (All-head P y ys g) (λ i. (first i).0) in
      let rest = worded_one xs ys (All-tail P x xs h) (All-tail P y ys g) (rest_one _ _ _ _ e) in
      λ i. (name i, (first i).1) ∷ rest i

  -- What is said under a number,
  said_one :
      (head head' : Head) (o o' : Option Said) → TailIsWellFormed head known o → TailIsWellFormed head' known o' →
      tail_of known o ≡ tail_of known o' → option_map plain_said o ≡ option_map plain_said o'
  said_one head head' None None h g e = refl
  said_one head head' None (Some s) h g e = absurd (let e' : None ≡ Some (said_of known s) = e in cc)
  said_one head head' (Some s) None h g e = absurd (let e' : Some (said_of known s) ≡ None = e in cc)
  said_one head head' (Some s) (Some s') h g e =
      let same = some_one (said_of known s) (said_of known s') e in
      let pred = preds_are_one.preds known (pred_of s.pred) (pred_of s'.pred) different h.pred g.pred (λ i. (same i).pred) in
      let named : (heard : List (Name × ℕ)) → All (IsHearer known) heard → All (λ e. IsNamed known e.0) heard =
      λ heard k. each_is (IsHearer known) (λ e. IsNamed known e.0) (λ e n. n.0) heard k in
      let heard = worded_one s.heard s'.heard (named s.heard h.heard) (named s'.heard g.heard) (λ i. (same i).heard) in
      λ i. Some (record { place = (same i).place; values = (same i).values; pred = pred i; heard = heard i })

  -- the lines of numbers,
  all_lines_one :
      (head head' : Head) (ls us : List Line) → All (LineIsWellFormed head known) ls → All (LineIsWellFormed head' known) us →
      map (worded_line known) ls ≡ map (worded_line known) us → map plain_line ls ≡ map plain_line us
  all_lines_one head head' [] [] h g e = refl
  all_lines_one head head' [] (u ∷ us) h g e = absurd (never_one _ _ e)
  all_lines_one head head' (l ∷ ls) [] h g e = absurd (never_one _ _ (sym e))
  all_lines_one head head' (l ∷ ls) (u ∷ us) h g e =
      let first = first_one _ _ _ _ e in
      let here = All-head (LineIsWellFormed head known) l ls h in
      let there = All-head (LineIsWellFormed head' known) u us g in
      let sender = name_one l.sender u.sender here.sender there.sender (λ i. (first i).0) in
      let said = said_one head head' l.said u.said here.said there.said (λ i. (first i).1) in
      let rest = all_lines_one head head' ls us (All-tail (LineIsWellFormed head known) l ls h)
      (All-tail (LineIsWellFormed head' known) u us g) (rest_one _ _ _ _ e) in
      λ i. record { sender = sender i; said = said i } ∷ rest i

  -- and those of environments.
  all_finals_one :
      (fs gs : List EnvLine) → All (FinalIsWellFormed known) fs → All (FinalIsWellFormed known) gs →
      map (worded_final known) fs ≡ map (worded_final known) gs → fs ≡ gs
  all_finals_one [] [] h g e = refl
  all_finals_one [] (k ∷ gs) h g e = absurd (never_one _ _ e)
  all_finals_one (f ∷ fs) [] h g e = absurd (never_one _ _ (sym e))
  all_finals_one (f ∷ fs) (k ∷ gs) h g e =
      let first = first_one _ _ _ _ e in
      let here = All-head (FinalIsWellFormed known) f fs h in
      let there = All-head (FinalIsWellFormed known) k gs g in
      let component = name_one f.component k.component here.component there.component (λ i. (first i).0) in
      let named : (entries : List (Name × Value)) → All (IsEntry known) entries → All (λ e. IsNamed known e.0) entries =
      λ entries is. each_is (IsEntry known) (λ e. IsNamed known e.0) (λ e n. n.0) entries is in
      let entries = worded_one f.entries k.entries (named f.entries here.entries) (named k.entries there.entries) (λ i. (first i).1) in
      let rest = all_finals_one fs gs (All-tail (FinalIsWellFormed known) f fs h) (All-tail (FinalIsWellFormed known) k gs g)
      (rest_one _ _ _ _ e) in
      λ i. record { component = component i; entries = entries i } ∷ rest i

-- ---- the law
-- Traces with one text have the same lines in words,
same_parts : (t u : Trace) → IsWellFormed t → IsWellFormed u → trace_text t ≡ trace_text u → parts_of t ≡ parts_of u
same_parts t u h g e =
    let same : trace_lines t ≡ trace_lines u =
    are_same plain.line_text IsGoodLine good_one (λ x y a b is. lines_one x y a.spelled b.spelled is) (trace_lines u) (trace_lines t)
    (whole_leads u g).good (whole_leads t h).good (sym (text_is t) ∙ e ∙ text_is u) in
    sym (parts_are t) ∙ ap parts same ∙ parts_are u

-- and so the same words, in the order in which they are met.
same_words : (t u : Trace) → IsWellFormed t → IsWellFormed u → parts_of t ≡ parts_of u → trace_words t ≡ trace_words u
same_words t u h g e =
    let lines = lines_met t.names u.names t.head u.head t.lines u.lines h.lines g.lines (λ i. (e i).lines) in
    let finals = finals_met t.names u.names t.finals u.finals (λ i. (e i).finals) in
    λ i. lines i ++ finals i

one_trace :
    (t u : Trace) → IsWellFormed t → IsWellFormed u → AreNumberedAsMet t → AreNumberedAsMet u → trace_text t ≡ trace_text u →
    plain_trace t ≡ plain_trace u
one_trace t u h g met met' e =
    let same = same_parts t u h g e in
    let names : t.names ≡ u.names = met ∙ ap (with_words []) (same_words t u h g same) ∙ sym met' in
    let lines = all_lines_one t.names h.names t.head u.head t.lines u.lines h.lines
    (subst (λ (ws : List (List ℕ)). All (LineIsWellFormed u.head ws) u.lines) (sym names) g.lines)
    ((λ i. (same i).lines) ∙ ap (λ (ws : List (List ℕ)). map (worded_line ws) u.lines) (sym names)) in
    let finals = all_finals_one t.names h.names t.finals u.finals h.finals
    (subst (λ (ws : List (List ℕ)). All (FinalIsWellFormed ws) u.finals) (sym names) g.finals)
    ((λ i. (same i).finals) ∙ ap (λ (ws : List (List ℕ)). map (worded_final ws) u.finals) (sym names)) in
    let head : t.head ≡ u.head = first_one t.head u.head [] [] (λ i. (same i).heads) in
    λ i. record { names = names i; head = head i; lines = lines i; finals = finals i; handled = (same i).handled }

pub traces_are_one : TracesAreOne
traces_are_one = record { one = one_trace; text = plain_fixes_text }
