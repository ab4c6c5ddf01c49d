-- What is well formed stays so, and says the same, as names are numbered by their words in another list that has them.
use Rattle.std.proofs.Common.{◌≡◌, ℕ, ◌+◌, true, List, [], ◌∷◌, ◌++◌, map, Option, Some, None, All, refl, sym, ap, ◌∙◌, subst}
use Rattle.std.specs.Prelude.{flat_map, filter_map}
use Rattle.std.specs.Option.{option_map}
use Rattle.std.proofs.lemmas.List.Elements.{All-nil, All-cons, All-head, All-tail}
use Rattle.abc_pred.specs.declared.names.Name.{Name}
use Rattle.abc_pred.specs.Terms.{Pred}
use Rattle.abc_pred.specs.Standing.{pred_of}
use Rattle.abc_text.specs.Meanings.{has_word, AreDifferent}
use Rattle.abc_text.proofs.Growing.{number_below}
use Rattle.abc_grammar.specs.declared.lexemes.Lexeme.{Lexeme}
use Rattle.abc_grammar.specs.declared.lexemes.Lexeme.TheVariants as l
use Rattle.abc_grammar.specs.Lexemes.{name_in}
use Rattle.abc_printed.specs.Parts.{word_at, lexemes}
use Rattle.abc_printed.specs.Forms.{pred_parts}
use Rattle.abc_printed.specs.Printed.{pred_text}
use Rattle.abc_printed_texts.proofs.TextNames.{word_back}
use Rattle.abc_trace.specs.declared.trace.Head.{Head}
use Rattle.abc_trace.specs.declared.trace.Said.{Said}
use Rattle.abc_trace.specs.declared.trace.Line.{Line}
use Rattle.abc_trace.specs.declared.trace.EnvLine.{EnvLine}
use Rattle.abc_trace.specs.WellFormed.{IsName, IsNamed, IsSent, IsHearer, IsEntry, TailIsWellFormed, LineIsWellFormed, FinalIsWellFormed, words_of}
use Rattle.abc_trace.specs.Met.{lexeme_word, pred_words, said_words, line_words, final_words}
use Rattle.abc_trace_lines.specs.Plain as plain
use Rattle.abc_trace_preds.proofs.Words.{HasSame, StaysSent, HasIn, numbers_keep, sent_anew}
use Rattle.abc_trace_order.specs.Lines.{worded, tail_of, number_line, number_lines, env_line}
use Rattle.abc_trace_order.proofs.InOrder.{worded_words}
use Rattle.abc_trace_laws.specs.Plain.{plain_said, plain_line}
use Rattle.abc_trace_laws.specs.Renumbered.{renamed_items, renamed_said, renamed_line, renamed_final}
use Rattle.abc_trace_laws.proofs.Held.{hold_pred, pred_held}

-- ---- lists one behind the other
-- What holds of both holds of the first,
pub all_left : {A : Type 0} (P : A → Type 0) (xs ys : List A) → All P (xs ++ ys) → All P xs
all_left P [] ys h = All-nil P
all_left P (x ∷ xs) ys h = All-cons P x xs (All-head P x (xs ++ ys) h) (all_left P xs ys (All-tail P x (xs ++ ys) h))

-- and of the second.
pub all_right : {A : Type 0} (P : A → Type 0) (xs ys : List A) → All P (xs ++ ys) → All P ys
all_right P [] ys h = h
all_right P (x ∷ xs) ys h = all_right P xs ys (All-tail P x (xs ++ ys) h)

module _ (words known : List (List ℕ)) where
  -- the new number of a name
  abbrev pub new : Name → Name
  new n = name_in known (word_at words n)

  -- a word that has one
  abbrev pub Has : List ℕ → Type 0
  Has word = has_word known word ≡ true

  -- ---- names
  name_keeps : (n : Name) → Has (word_at words n) → HasSame words known new n
  name_keeps n h = (word_back known (word_at words n) h, number_below known (word_at words n) h)

  named_anew : (n : Name) → IsNamed words n → Has (word_at words n) → IsNamed known (new n)
  named_anew n is h = let keeps = name_keeps n h in (keeps.1, subst IsName (sym keeps.0) is.1)

  -- items in words stay,
  items_same :
      {B : Type 0} (items : List (Name × B)) → All Has (words_of words (λ e. e.0) items) →
      worded known (renamed_items new items) ≡ worded words items
  items_same [] h = refl
  items_same (e ∷ items) h =
      let here = (name_keeps e.0 (All-head Has (word_at words e.0) (words_of words (λ e. e.0) items) h)).0 in
      let rest = items_same items (All-tail Has (word_at words e.0) (words_of words (λ e. e.0) items) h) in
      λ i. (here i, e.1) ∷ rest i

  -- so do their words,
  items_met :
      {B : Type 0} (items : List (Name × B)) → All Has (words_of words (λ e. e.0) items) →
      words_of known (λ e. e.0) (renamed_items new items) ≡ words_of words (λ e. e.0) items
  items_met items h =
      sym (worded_words known (renamed_items new items)) ∙ ap (map (λ e. e.0)) (items_same items h) ∙ worded_words words items

  -- and what is asked of them.
  items_formed :
      {B : Type 0} (P Q : Name × B → Type 0) → ((e : Name × B) → P e → Has (word_at words e.0) → Q (new e.0, e.1)) →
      (items : List (Name × B)) → All P items → All Has (words_of words (λ e. e.0) items) → All Q (renamed_items new items)
  items_formed P Q one [] is h = All-nil Q
  items_formed P Q one (e ∷ items) is h =
      let others = words_of words (λ e. e.0) items in
      All-cons Q (new e.0, e.1) (renamed_items new items)
      (one e (All-head P e items is) (All-head Has (word_at words e.0) others h))
      (items_formed P Q one items (All-tail P e items is) (All-tail Has (word_at words e.0) others h))

  -- ---- predicates
  lexemes_have : (ls : List Lexeme) → All Has (filter_map (lexeme_word words) ls) → All (HasIn words known) ls
  lexemes_have [] h = All-nil (HasIn words known)
  lexemes_have (l.Name n ∷ ls) h =
      let others = filter_map (lexeme_word words) ls in
      All-cons (HasIn words known) (l.Name n) ls (All-head Has (word_at words n) others h)
      (lexemes_have ls (All-tail Has (word_at words n) others h))
  lexemes_have (l.Variable n ∷ ls) h =
      let others = filter_map (lexeme_word words) ls in
      All-cons (HasIn words known) (l.Variable n) ls (All-head Has (word_at words n) others h)
      (lexemes_have ls (All-tail Has (word_at words n) others h))
  lexemes_have (l.Keyword k ∷ ls) h = All-cons (HasIn words known) (l.Keyword k) ls tt (lexemes_have ls h)
  lexemes_have (l.Mark m ∷ ls) h = All-cons (HasIn words known) (l.Mark m) ls tt (lexemes_have ls h)
  lexemes_have (l.Number n ∷ ls) h = All-cons (HasIn words known) (l.Number n) ls tt (lexemes_have ls h)
  lexemes_have (l.Text bytes ∷ ls) h = All-cons (HasIn words known) (l.Text bytes) ls tt (lexemes_have ls h)

  pred_stays : (p : Pred) → IsSent words p → All Has (pred_words words p) → StaysSent words known new p
  pred_stays p is h =
      sent_anew words known new p is (numbers_keep words known (lexemes (pred_parts p)) (lexemes_have (lexemes (pred_parts p)) h))

  -- ---- what is said
  abbrev pub said_anew : Said → Said
  said_anew s = record {
    place = s.place;
    values = s.values;
    pred = hold_pred new s.pred;
    heard = renamed_items new s.heard;
  }

  -- A line's part behind its sender stays.
  record TailStays (head : Head) (o : Option Said) : Type 0 where
    formed : TailIsWellFormed head known (option_map said_anew o)
    same : tail_of known (option_map said_anew o) ≡ tail_of words o
    met : said_words known (option_map said_anew o) ≡ said_words words o
    plain : option_map plain_said (option_map said_anew o) ≡ option_map (renamed_said new) (option_map plain_said o)

  tail_stays : (head : Head) (o : Option Said) → TailIsWellFormed head words o → All Has (said_words words o) → TailStays head o
  tail_stays head None is h = record { formed = is; same = refl; met = refl; plain = refl }
  tail_stays head (Some s) is h =
      let p = pred_of s.pred in
      let hearers = words_of words (λ e. e.0) s.heard in
      let in_pred = all_left Has (pred_words words p) hearers h in
      let in_heard = all_right Has (pred_words words p) hearers h in
      let stays = pred_stays p is.pred in_pred in
      let anew = pred_held new s.pred in
      let text : pred_text known (pred_of (hold_pred new s.pred)) ≡ pred_text words p = ap (pred_text known) anew ∙ stays.text in
      let met : pred_words known (pred_of (hold_pred new s.pred)) ≡ pred_words words p = ap (pred_words known) anew ∙ stays.met in
      let heard = items_same s.heard in_heard in
      let heard_met = items_met s.heard in_heard in
      record {
        formed = record {
          place = is.place;
          few = is.few;
          values = is.values;
          pred = subst (IsSent known) (sym anew) stays.sent;
          heard = items_formed (IsHearer words) (IsHearer known) (λ e g k. (named_anew e.0 g.0 k, g.1)) s.heard is.heard in_heard;
          once = subst AreDifferent (sym heard_met) is.once;
        };
        same = λ i. Some (record { place = s.place; values = s.values; pred = text i; heard = heard i });
        met = λ i. met i ++ heard_met i;
        plain = λ i. Some (record { place = s.place; values = s.values; pred = anew i; heard = renamed_items new s.heard });
      }

  -- ---- the line of a number
  abbrev pub line_anew : Line → Line
  line_anew x = record { sender = new x.sender; said = option_map said_anew x.said }

  pub record LineStays (head : Head) (x : Line) : Type 0 where
    pub formed : LineIsWellFormed head known (line_anew x)
    pub same : (n : ℕ) → number_line known n (line_anew x) ≡ number_line words n x
    pub met : line_words known (line_anew x) ≡ line_words words x
    pub plain : plain_line (line_anew x) ≡ renamed_line new (plain_line x)

  line_stays : (head : Head) (x : Line) → LineIsWellFormed head words x → All Has (line_words words x) → LineStays head x
  line_stays head x is h =
      let here = All-head Has (word_at words x.sender) (said_words words x.said) h in
      let sender = (name_keeps x.sender here).0 in
      let tail = tail_stays head x.said is.said (All-tail Has (word_at words x.sender) (said_words words x.said) h) in
      record {
        formed = record { sender = named_anew x.sender is.sender here; said = tail.formed };
        same = λ n i. plain.Number n (sender i) (tail.same i);
        met = λ i. sender i ∷ tail.met i;
        plain = λ i. record { sender = new x.sender; said = tail.plain i };
      }

  -- those of all numbers
  pub record LinesStay (head : Head) (ls : List Line) : Type 0 where
    pub formed : All (LineIsWellFormed head known) (map line_anew ls)
    pub same : (n : ℕ) → number_lines known n (map line_anew ls) ≡ number_lines words n ls
    pub met : flat_map (line_words known) (map line_anew ls) ≡ flat_map (line_words words) ls
    pub plain : map plain_line (map line_anew ls) ≡ map (renamed_line new) (map plain_line ls)

  pub lines_stay :
      (head : Head) (ls : List Line) → All (LineIsWellFormed head words) ls → All Has (flat_map (line_words words) ls) → LinesStay head ls
  lines_stay head [] is h = record { formed = All-nil (LineIsWellFormed head known); same = λ n. refl; met = refl; plain = refl }
  lines_stay head (x ∷ ls) is h =
      let others = flat_map (line_words words) ls in
      let here = line_stays head x (All-head (LineIsWellFormed head words) x ls is) (all_left Has (line_words words x) others h) in
      let rest = lines_stay head ls (All-tail (LineIsWellFormed head words) x ls is) (all_right Has (line_words words x) others h) in
      record {
        formed = All-cons (LineIsWellFormed head known) (line_anew x) (map line_anew ls) here.formed rest.formed;
        same = λ n i. here.same n i ∷ rest.same (n + 1) i;
        met = λ i. here.met i ++ rest.met i;
        plain = λ i. here.plain i ∷ rest.plain i;
      }

  -- ---- the line of an environment
  pub record FinalStays (f : EnvLine) : Type 0 where
    pub formed : FinalIsWellFormed known (renamed_final new f)
    pub same : env_line known (renamed_final new f) ≡ env_line words f
    pub met : final_words known (renamed_final new f) ≡ final_words words f
    pub component : word_at known (new f.component) ≡ word_at words f.component

  final_stays : (f : EnvLine) → FinalIsWellFormed words f → All Has (final_words words f) → FinalStays f
  final_stays f is h =
      let here = All-head Has (word_at words f.component) (words_of words (λ e. e.0) f.entries) h in
      let others = All-tail Has (word_at words f.component) (words_of words (λ e. e.0) f.entries) h in
      let component = (name_keeps f.component here).0 in
      let entries = items_same f.entries others in
      let entries_met = items_met f.entries others in
      record {
        formed = record {
          component = named_anew f.component is.component here;
          entries = items_formed (IsEntry words) (IsEntry known) (λ e g k. (named_anew e.0 g.0 k, g.1, g.2)) f.entries is.entries others;
          once = subst AreDifferent (sym entries_met) is.once;
        };
        same = λ i. plain.Env (component i) (entries i);
        met = λ i. component i ∷ entries_met i;
        component = component;
      }

  -- those of all components
  pub record FinalsStay (fs : List EnvLine) : Type 0 where
    pub formed : All (FinalIsWellFormed known) (map (renamed_final new) fs)
    pub same : map (env_line known) (map (renamed_final new) fs) ≡ map (env_line words) fs
    pub met : flat_map (final_words known) (map (renamed_final new) fs) ≡ flat_map (final_words words) fs
    pub components : words_of known (λ f. f.component) (map (renamed_final new) fs) ≡ words_of words (λ f. f.component) fs

  pub finals_stay : (fs : List EnvLine) → All (FinalIsWellFormed words) fs → All Has (flat_map (final_words words) fs) → FinalsStay fs
  finals_stay [] is h = record { formed = All-nil (FinalIsWellFormed known); same = refl; met = refl; components = refl }
  finals_stay (f ∷ fs) is h =
      let others = flat_map (final_words words) fs in
      let here = final_stays f (All-head (FinalIsWellFormed words) f fs is) (all_left Has (final_words words f) others h) in
      let rest = finals_stay fs (All-tail (FinalIsWellFormed words) f fs is) (all_right Has (final_words words f) others h) in
      record {
        formed = All-cons (FinalIsWellFormed known) (renamed_final new f) (map (renamed_final new) fs) here.formed rest.formed;
        same = λ i. here.same i ∷ rest.same i;
        met = λ i. here.met i ++ rest.met i;
        components = λ i. here.component i ∷ rest.components i;
      }
