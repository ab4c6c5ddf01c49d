-- The words of a predicate: they stay as its names are numbered anew, and as more words come.
use Rattle.std.proofs.Common.{◌≡◌, ℕ, zero, suc, ◌+◌, ◌≤◌, ◌<◌, Bool, true, false, List, [], ◌∷◌, ◌++◌, map, length, get_or, Option, Some, None, All, refl, sym, ap, ◌∙◌, subst, append_assoc, append-nil, length-append, arith}
use Rattle.std.specs.Option.{option_map_or}
use Rattle.std.specs.Prelude.{slice_get, fold, filter_map, flat_map, ◌||◌, if◌then◌else◌}
use Rattle.std.specs.Str.{bytes_eq}
use Rattle.std.proofs.lemmas.List.Elements.{All-nil, All-cons, All-tail, filter_map-append}
use Rattle.std.proofs.lemmas.List.Folds.{list_any-append}
use Rattle.std.proofs.lemmas.List.Sums.{fold-append}
use Rattle.std.proofs.lemmas.Slice.Eq.{bytes_eq-Decides}
use Rattle.abc_pred.specs.declared.names.Name.{Name}
use Rattle.abc_pred.specs.Terms.{Pred}
use Rattle.abc_text.specs.Words.{keyword_at}
use Rattle.abc_text.specs.Spelling.{IsWordSpelling}
use Rattle.abc_text.specs.Meanings.{has_word, with_word, number_in}
use Rattle.abc_text.proofs.Growing.{number_below, with_word_has}
use Rattle.abc_grammar.specs.declared.lexemes.Lexeme.{Lexeme}
use Rattle.abc_grammar.specs.declared.lexemes.Lexeme.TheVariants as l
use Rattle.abc_grammar.specs.Lexemes.{name_in}
use Rattle.abc_grammar.specs.Limits.{BeginsExtraToken}
use Rattle.abc_grammar.specs.Refusals.{IsSomePred, IsWithin}
use Rattle.abc_printed.specs.Parts.{Part, Token, Space, Line, word_at, spelled, part_bytes, bytes_of, lexemes}
use Rattle.abc_printed.specs.Forms.{pred_parts}
use Rattle.abc_printed.specs.Printed.{pred_text}
use Rattle.abc_printed.specs.Printable.{HasWord}
use Rattle.abc_printed_texts.proofs.NamesMet.{met, IsNamed}
use Rattle.abc_printed_texts.proofs.TextNames.{word_back}
use Rattle.abc_trace.specs.WellFormed.{IsSent}
use Rattle.abc_trace.specs.Met.{with_words, lexeme_word, pred_words}
use Rattle.abc_trace_preds.specs.Renaming.{renamed}
use Rattle.abc_trace_preds.proofs.Renamed.{new_lexeme, new_part, pred_anew, new_lexemes, lexemes_anew, keeps_values, keeps_closed}
use Rattle.abc_trace_preds.proofs.Bounds.{within_anew}

-- ---- numbered anew
module _ (words words' : List (List ℕ)) (r : Name → Name) where
  -- a name has the same word by its new number
  abbrev pub HasSame : Name → Type 0
  HasSame n = (word_at words' (r n) ≡ word_at words n) × ((r n).0 < length words')

  abbrev pub KeepsWord : Lexeme → Type 0
  KeepsWord (l.Name n) = HasSame n
  KeepsWord (l.Variable n) = HasSame n
  KeepsWord (l.Keyword k) = Unit {0}
  KeepsWord (l.Mark m) = Unit {0}
  KeepsWord (l.Number n) = Unit {0}
  KeepsWord (l.Text bytes) = Unit {0}

  -- The lexeme is spelled as it was,
  spelled_anew : (t : Lexeme) → KeepsWord t → spelled words' (new_lexeme r t) ≡ spelled words t
  spelled_anew (l.Name n) h = h.0
  spelled_anew (l.Variable n) h = ap (λ (w : List ℕ). 36 ∷ w) h.0
  spelled_anew (l.Keyword k) h = refl
  spelled_anew (l.Mark m) h = refl
  spelled_anew (l.Number n) h = refl
  spelled_anew (l.Text bytes) h = refl

  -- so the bytes of parts stay,
  bytes_anew : (parts : List Part) → All KeepsWord (lexemes parts) →
      bytes_of words' (map (new_part r) parts) ≡ bytes_of words parts
  bytes_anew [] h = refl
  bytes_anew (Token t ∷ parts) h =
      let here = spelled_anew t (h 0 t (omega arith)) in
      let more = bytes_anew parts (All-tail KeepsWord t (lexemes parts) h) in
      λ i. here i ++ more i
  bytes_anew (Space ∷ parts) h = ap (λ (bs : List ℕ). 32 ∷ bs) (bytes_anew parts h)
  bytes_anew (Line ∷ parts) h = ap (λ (bs : List ℕ). 10 ∷ bs) (bytes_anew parts h)

  -- and the words that lexemes name.
  words_anew : (ls : List Lexeme) → All KeepsWord ls →
      filter_map (lexeme_word words') (map (new_lexeme r) ls) ≡ filter_map (lexeme_word words) ls
  words_anew [] h = refl
  words_anew (l.Name n ∷ ls) h =
      let here = (h 0 (l.Name n) (omega arith)).0 in
      let more = words_anew ls (All-tail KeepsWord (l.Name n) ls h) in
      λ i. here i ∷ more i
  words_anew (l.Variable n ∷ ls) h =
      let here = (h 0 (l.Variable n) (omega arith)).0 in
      let more = words_anew ls (All-tail KeepsWord (l.Variable n) ls h) in
      λ i. here i ∷ more i
  words_anew (l.Keyword k ∷ ls) h = words_anew ls (All-tail KeepsWord (l.Keyword k) ls h)
  words_anew (l.Mark m ∷ ls) h = words_anew ls (All-tail KeepsWord (l.Mark m) ls h)
  words_anew (l.Number n ∷ ls) h = words_anew ls (All-tail KeepsWord (l.Number n) ls h)
  words_anew (l.Text bytes ∷ ls) h = words_anew ls (All-tail KeepsWord (l.Text bytes) ls h)

  -- A lexeme that had a word has it by its new number.
  has_anew : (t : Lexeme) → HasWord words t → KeepsWord t → HasWord words' (new_lexeme r t)
  has_anew (l.Name n) h k =
      (k.1, subst IsWordSpelling (sym k.0) h.1, ap keyword_at k.0 ∙ h.2)
  has_anew (l.Variable n) h k = (k.1, subst IsWordSpelling (sym k.0) h.1)
  has_anew (l.Keyword x) h k = tt
  has_anew (l.Mark x) h k = tt
  has_anew (l.Number x) h k = tt
  has_anew (l.Text x) h k = tt

  -- And so all of them.
  all_have : (ls : List Lexeme) → All (HasWord words) ls → All KeepsWord ls →
      All (HasWord words') (map (new_lexeme r) ls)
  all_have [] h k = All-nil (HasWord words')
  all_have (t ∷ ls) h k =
      All-cons (HasWord words') (new_lexeme r t) (map (new_lexeme r) ls)
      (has_anew t (h 0 t (omega arith)) (k 0 t (omega arith)))
      (all_have ls (All-tail (HasWord words) t ls h) (All-tail KeepsWord t ls k))

  -- What is told of the predicate stays.
  pub record StaysSent (p : Pred) : Type 0 where
    pub sent : IsSent words' (renamed r p)
    pub text : pred_text words' (renamed r p) ≡ pred_text words p
    pub met : pred_words words' (renamed r p) ≡ pred_words words p

  -- The text of a predicate that is numbered anew is its text,
  pub text_anew : (p : Pred) → All KeepsWord (lexemes (pred_parts p)) → pred_text words' (renamed r p) ≡ pred_text words p
  text_anew p k = ap (bytes_of words') (pred_anew r p) ∙ bytes_anew (pred_parts p) k

  -- it names the same words,
  pub met_anew : (p : Pred) → All KeepsWord (lexemes (pred_parts p)) → pred_words words' (renamed r p) ≡ pred_words words p
  met_anew p k = ap (filter_map (lexeme_word words')) (lexemes_anew r p) ∙ words_anew (lexemes (pred_parts p)) k

  -- and where it is one that is sent, it stays one.
  pub sent_anew : (p : Pred) → IsSent words p → All KeepsWord (lexemes (pred_parts p)) → StaysSent p
  sent_anew p h k =
      let ls = lexemes (pred_parts p) in
      let anew = lexemes_anew r p in
      record {
        sent = record {
          closed = keeps_closed r p h.closed;
          values = keeps_values r p h.values;
          named = subst (All (HasWord words')) (sym anew) (all_have ls h.named k);
          within = subst (λ (us : List Lexeme). IsWithin IsSomePred BeginsExtraToken us (length us)) (sym anew)
              (within_anew r ls h.within);
        };
        text = text_anew p k;
        met = met_anew p k;
      }

-- ---- words at their numbers
-- the word of a name is that at its number
pub word_there : (words : List (List ℕ)) (k : ℕ) → k < length words →
    option_map_or (λ (word : List ℕ). word) (slice_get words k) [] ≡ get_or words k []
word_there [] k lt = absurd (omega (arith, lt))
word_there (w ∷ words) zero lt = refl
word_there (w ∷ words) (suc k) lt = word_there words k (omega (arith, lt))

-- ---- words that have numbers
-- A word that has a number has it when more words come,
has_more : (words more : List (List ℕ)) (word : List ℕ) → has_word words word ≡ true → has_word (words ++ more) word ≡ true
has_more words more word h =
    list_any-append (bytes_eq word) words more ∙ ap (λ (b : Bool). b || has_word more word) h

-- one more,
pub has_with : (known : List (List ℕ)) (w word : List ℕ) → has_word known word ≡ true → has_word (with_word known w) word ≡ true
has_with known w word h = by (has_word known w)
  where
    by : (b : Bool) → has_word (if b then known else known ++ w ∷ []) word ≡ true
    by true = h
    by false = has_more known (w ∷ []) word h

-- or many.
pub has_stays : (known ws : List (List ℕ)) (word : List ℕ) → has_word known word ≡ true →
    has_word (with_words known ws) word ≡ true
has_stays known [] word h = h
has_stays known (w ∷ ws) word h = has_stays (with_word known w) ws word (has_with known w word h)

-- Each word that comes makes the list longer by one at most.
with_length : (known : List (List ℕ)) (w : List ℕ) → length (with_word known w) ≤ length known + 1
with_length known w = by (has_word known w)
  where
    by : (b : Bool) → length (if b then known else known ++ w ∷ []) ≤ length known + 1
    by true = omega arith
    by false = omega (arith, length-append {A = List ℕ} known (w ∷ []))

-- So many words are as many more at most.
pub words_length : (known ws : List (List ℕ)) → length (with_words known ws) ≤ length known + length ws
words_length known [] = omega arith
words_length known (w ∷ ws) = omega (arith, with_length known w, words_length (with_word known w) ws)

-- A word that is known changes nothing.
with_known : (known : List (List ℕ)) (w : List ℕ) → has_word known w ≡ true → with_word known w ≡ known
with_known known w h = ap (λ (b : Bool). if b then known else known ++ w ∷ []) h

-- Words that come have numbers.
has_known : (known acc : List (List ℕ)) (w : List ℕ) → has_word acc w ≡ true → has_word (with_words known acc) w ≡ true
has_known known [] w h = absurd (let h' : false ≡ true = h in cc)
has_known known (x ∷ acc) w h = by (bytes_eq w x) refl h (has_known (with_word known x) acc w)
  where
    by : (b : Bool) → bytes_eq w x ≡ b → (b || has_word acc w) ≡ true →
        (has_word acc w ≡ true → has_word (with_words (with_word known x) acc) w ≡ true) →
        has_word (with_words (with_word known x) acc) w ≡ true
    by true e g more = has_stays (with_word known x) acc w
        (subst (λ (y : List ℕ). has_word (with_word known x) y ≡ true) (sym ((bytes_eq-Decides w x).0 e))
        (with_word_has known x))
    by false e g more = more g

-- Words and then one more come as they do with it.
words_last : (known acc : List (List ℕ)) (w : List ℕ) →
    with_words known (with_word acc w) ≡ with_word (with_words known acc) w
words_last known acc w = by (has_word acc w) refl
  where
    by : (b : Bool) → has_word acc w ≡ b →
        with_words known (if b then acc else acc ++ w ∷ []) ≡ with_word (with_words known acc) w
    by true h = sym (with_known (with_words known acc) w (has_known known acc w h))
    by false h = fold-append with_word known acc (w ∷ [])

-- Words that come in the order in which they were first met come as they did.
pub words_again : (known acc ws : List (List ℕ)) →
    with_words known (with_words acc ws) ≡ with_words (with_words known acc) ws
words_again known acc [] = refl
words_again known acc (w ∷ ws) =
    words_again known (with_word acc w) ws ∙ ap (λ (ks : List (List ℕ)). with_words ks ws) (words_last known acc w)

-- ---- the words of lexemes
-- The words that lexemes name come one by one, as `met` says.
pub met_words : (words known : List (List ℕ)) (ls : List Lexeme) →
    met words known ls ≡ with_words known (filter_map (lexeme_word words) ls)
met_words words known [] = refl
met_words words known (l.Name n ∷ ls) = met_words words (with_word known (word_at words n)) ls
met_words words known (l.Variable n ∷ ls) = met_words words (with_word known (word_at words n)) ls
met_words words known (l.Keyword k ∷ ls) = met_words words known ls
met_words words known (l.Mark m ∷ ls) = met_words words known ls
met_words words known (l.Number n ∷ ls) = met_words words known ls
met_words words known (l.Text bytes ∷ ls) = met_words words known ls

-- the word of the lexeme's name has a number
abbrev pub HasIn : List (List ℕ) → List (List ℕ) → Lexeme → Type 0
HasIn words known (l.Name n) = has_word known (word_at words n) ≡ true
HasIn words known (l.Variable n) = has_word known (word_at words n) ≡ true
HasIn words known (l.Keyword k) = Unit {0}
HasIn words known (l.Mark m) = Unit {0}
HasIn words known (l.Number n) = Unit {0}
HasIn words known (l.Text bytes) = Unit {0}

-- So the words of all lexemes have numbers once they have been met.
pub met_have : (words known : List (List ℕ)) (ls : List Lexeme) →
    All (HasIn words (with_words known (filter_map (lexeme_word words) ls))) ls
met_have words known [] = All-nil (HasIn words known)
met_have words known (l.Name n ∷ ls) =
    let first = with_word known (word_at words n) in
    let rest = filter_map (lexeme_word words) ls in
    All-cons (HasIn words (with_words first rest)) (l.Name n) ls
    (has_stays first rest (word_at words n) (with_word_has known (word_at words n))) (met_have words first ls)
met_have words known (l.Variable n ∷ ls) =
    let first = with_word known (word_at words n) in
    let rest = filter_map (lexeme_word words) ls in
    All-cons (HasIn words (with_words first rest)) (l.Variable n) ls
    (has_stays first rest (word_at words n) (with_word_has known (word_at words n))) (met_have words first ls)
met_have words known (l.Keyword k ∷ ls) =
    All-cons (HasIn words (with_words known (filter_map (lexeme_word words) ls))) (l.Keyword k) ls tt (met_have words known ls)
met_have words known (l.Mark m ∷ ls) =
    All-cons (HasIn words (with_words known (filter_map (lexeme_word words) ls))) (l.Mark m) ls tt (met_have words known ls)
met_have words known (l.Number n ∷ ls) =
    All-cons (HasIn words (with_words known (filter_map (lexeme_word words) ls))) (l.Number n) ls tt (met_have words known ls)
met_have words known (l.Text bytes ∷ ls) =
    All-cons (HasIn words (with_words known (filter_map (lexeme_word words) ls))) (l.Text bytes) ls tt (met_have words known ls)

-- The spelling of a lexeme has at least as many bytes as it names words.
one_few : (words : List (List ℕ)) (t : Lexeme) (bytes : List ℕ) → HasWord words t → bytes ≡ spelled words t →
    length (filter_map (lexeme_word words) (t ∷ [])) ≤ length bytes
one_few words (l.Name n) bytes h e =
    let some = spelled_some (word_at words n) h.1 in omega (arith, some, ap (length {A = ℕ}) e)
  where
    spelled_some : (word : List ℕ) → IsWordSpelling word → 1 ≤ length word
    spelled_some [] h = absurd h
    spelled_some (b ∷ bs) h = omega arith
one_few words (l.Variable n) bytes h e = omega (arith, ap (length {A = ℕ}) e)
one_few words (l.Keyword k) bytes h _ = omega arith
one_few words (l.Mark m) bytes h _ = omega arith
one_few words (l.Number n) bytes h _ = omega arith
one_few words (l.Text text) bytes h _ = omega arith

-- So has a print.
pub words_few : (words : List (List ℕ)) (parts : List Part) → All (HasWord words) (lexemes parts) →
    length (filter_map (lexeme_word words) (lexemes parts)) ≤ length (bytes_of words parts)
words_few words [] h = omega arith
words_few words (Token t ∷ parts) h =
    let word = spelled words t in
    let here = one_few words t word (h 0 t (omega arith)) refl in
    let more = words_few words parts (All-tail (HasWord words) t (lexemes parts) h) in
    let first = filter_map (lexeme_word words) (t ∷ []) in
    let others = filter_map (lexeme_word words) (lexemes parts) in
    omega (
      arith,
      here,
      more,
      ap (length {A = List ℕ}) (filter_map-append (lexeme_word words) (t ∷ []) (lexemes parts)),
      length-append {A = List ℕ} first others,
      length-append {A = ℕ} word (bytes_of words parts),
    )
words_few words (Space ∷ parts) h = let more = words_few words parts h in omega (arith, more)
words_few words (Line ∷ parts) h = let more = words_few words parts h in omega (arith, more)

-- ---- numbered as met
-- Names by the numbers of their words in a list that has them keep their words,
pub numbers_keep : (words known : List (List ℕ)) (ls : List Lexeme) → All (HasIn words known) ls →
    All (KeepsWord words known (λ n. name_in known (word_at words n))) ls
numbers_keep words known ls h k d lt = keep (get_or ls k d) (h k d lt)
  where
    keep : (t : Lexeme) → HasIn words known t → KeepsWord words known (λ n. name_in known (word_at words n)) t
    keep (l.Name n) g = (word_back known (word_at words n) g, number_below known (word_at words n) g)
    keep (l.Variable n) g = (word_back known (word_at words n) g, number_below known (word_at words n) g)
    keep (l.Keyword k) g = tt
    keep (l.Mark m) g = tt
    keep (l.Number n) g = tt
    keep (l.Text bytes) g = tt

-- A word that has a number is a name with a word at it,
name_at : (words : List (List ℕ)) (word : List ℕ) → has_word words word ≡ true → IsWordSpelling word → keyword_at word ≡ None →
    IsNamed words (l.Name (name_in words word))
name_at words word known spells none =
    let back = sym (word_back words word known) in
    record {
      has = (number_below words word known, subst IsWordSpelling back spells, ap keyword_at (sym back) ∙ none);
      numbered = (subst (λ (w : List ℕ). has_word words w ≡ true) back known, ap (number_in words) (sym back));
    }

-- and so is the word of a variable,
variable_at : (words : List (List ℕ)) (word : List ℕ) → has_word words word ≡ true → IsWordSpelling word →
    IsNamed words (l.Variable (name_in words word))
variable_at words word known spells =
    let back = sym (word_back words word known) in
    record {
      has = (number_below words word known, subst IsWordSpelling back spells);
      numbered = (subst (λ (w : List ℕ). has_word words w ≡ true) back known, ap (number_in words) (sym back));
    }

-- so lexemes by the numbers of their words have their own numbers there.
pub numbers_named : (words known : List (List ℕ)) (ls : List Lexeme) → All (HasWord words) ls → All (HasIn words known) ls →
    All (IsNamed known) (map (new_lexeme (λ n. name_in known (word_at words n))) ls)
numbers_named words known [] h k = All-nil (IsNamed known)
numbers_named words known (t ∷ ls) h k =
    All-cons (IsNamed known) (new_lexeme (λ n. name_in known (word_at words n)) t)
    (map (new_lexeme (λ n. name_in known (word_at words n))) ls)
    (named t (h 0 t (omega arith)) (k 0 t (omega arith)))
    (numbers_named words known ls (All-tail (HasWord words) t ls h) (All-tail (HasIn words known) t ls k))
  where
    named : (t : Lexeme) → HasWord words t → HasIn words known t →
        IsNamed known (new_lexeme (λ n. name_in known (word_at words n)) t)
    named (l.Name n) g i = name_at known (word_at words n) i g.1 g.2
    named (l.Variable n) g i = variable_at known (word_at words n) i g.1
    named (l.Keyword k) g i = record { has = tt; numbered = tt }
    named (l.Mark m) g i = record { has = tt; numbered = tt }
    named (l.Number n) g i = record { has = tt; numbered = tt }
    named (l.Text bytes) g i = record { has = tt; numbered = tt }
