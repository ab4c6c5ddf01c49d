-- The numbers of words, as they are found one by one, and what they make of a predicate's names.
use Rattle.std.proofs.Common.{◌≡◌, ℕ, zero, suc, ◌+◌, ◌≤◌, ◌<◌, Bool, true, false, Bor, List, [], ◌∷◌, ◌++◌, map, take, length, get_or, Option, Some, None, All, refl, sym, ap, ◌∙◌, subst, length-append, arith}
use Rattle.std.specs.Prelude.{slice_get, if◌then◌else◌}
use Rattle.std.specs.Option.{option_map, option_map_or}
use Rattle.std.proofs.lemmas.List.{map-append, map_more}
use Rattle.std.proofs.lemmas.List.Sums.{fold-append}
use Rattle.std.proofs.lemmas.List.Elements.{All-nil, All-push}
use Rattle.std.proofs.lemmas.Option.{slice_get-map, slice_get-get_or}
use Rattle.abc_pred.specs.declared.names.Name.{Name}
use Rattle.abc_text.specs.Meanings.{has_word, with_word, number_in}
use Rattle.abc_text.proofs.Growing.{with_word_has, number_kept, number_given, number_below}
use Rattle.abc_pred.specs.Terms.{Pred}
use Rattle.abc_grammar.specs.declared.lexemes.Lexeme.{Lexeme}
use Rattle.abc_grammar.specs.declared.lexemes.Lexeme.TheVariants as l
use Rattle.abc_grammar.specs.Lexemes.{name_in}
use Rattle.abc_printed.specs.Parts.{word_at, lexemes}
use Rattle.abc_printed.specs.Forms.{pred_parts}
use Rattle.abc_printed.specs.Printed.{pred_text}
use Rattle.abc_printed.specs.Printable.{HasWord}
use Rattle.abc_printed_texts.proofs.TextNames.{word_back}
use Rattle.abc_trace.specs.WellFormed.{IsSent}
use Rattle.abc_trace.specs.Met.{with_words, pred_words}
use Rattle.abc_trace_preds.specs.Renaming.{renamed, numbered}
use Rattle.abc_trace_preds.proofs.Words.{HasSame, KeepsWord, sent_anew, has_with, has_stays, words_length, words_again, words_few, word_there}

-- Words that came, and the numbers that they have.
pub record Numbered (known now words : List (List ℕ)) (numbers : List ℕ) : Type 0 where
  pub all : now ≡ with_words known words
  pub found : numbers ≡ map (number_in now) words
  pub have : All (λ w. has_word now w ≡ true) words

-- At first there are none.
pub numbered_none : (known : List (List ℕ)) → Numbered known known [] []
numbered_none known = record { all = refl; found = refl; have = All-nil (λ w. has_word known w ≡ true) }

-- The number of a word that has one stays as one more comes,
number_stays : (known : List (List ℕ)) (w word : List ℕ) → has_word known word ≡ true →
    number_in (with_word known w) word ≡ number_in known word
number_stays known w word h = by (has_word known w)
  where
    by : (b : Bool) → number_in (if b then known else known ++ w ∷ []) word ≡ number_in known word
    by true = refl
    by false = number_kept known (w ∷ []) word h

-- and so do those of several.
numbers_stay : (known : List (List ℕ)) (w : List ℕ) (words : List (List ℕ)) → All (λ v. has_word known v ≡ true) words →
    map (number_in (with_word known w)) words ≡ map (number_in known) words
numbers_stay known w [] h = refl
numbers_stay known w (v ∷ words) h =
    let here = number_stays known w v (h 0 v (omega arith)) in
    let more = numbers_stay known w words (λ k d lt. h (suc k) d (omega (arith, lt))) in
    λ i. here i ∷ more i

-- One more word comes, and its number.
pub numbered_more : (known now words : List (List ℕ)) (numbers : List ℕ) (w : List ℕ) → Numbered known now words numbers →
    Numbered known (with_word now w) (words ++ w ∷ []) (numbers ++ number_in now w ∷ [])
numbered_more known now words numbers w h =
    let stay : numbers ≡ map (number_in (with_word now w)) words = h.found ∙ sym (numbers_stay now w words h.have) in
    let last : number_in now w ≡ number_in (with_word now w) w = sym (number_given now w) in
    record {
      all = ap (λ (ws : List (List ℕ)). with_word ws w) h.all ∙ sym (fold-append with_word known words (w ∷ []));
      found = (λ i. stay i ++ last i ∷ []) ∙ sym (map-append (number_in (with_word now w)) words (w ∷ []));
      have = All-push (λ v. has_word (with_word now w) v ≡ true) words w
          (λ k d lt. has_with now w (get_or words k d) (h.have k d lt)) (with_word_has now w);
    }

-- So few words are known after so few more.
pub numbered_few : (known now words : List (List ℕ)) (numbers : List ℕ) → Numbered known now words numbers →
    length now ≤ length known + length words
numbered_few known now words numbers h = omega (arith, ap (length {A = List ℕ}) h.all, words_length known words)

-- ---- a predicate by new numbers
-- The words that came have numbers.
words_have : (known ws : List (List ℕ)) (k : ℕ) → k < length ws → has_word (with_words known ws) (get_or ws k []) ≡ true
words_have known [] k lt = absurd (omega (arith, lt))
words_have known (w ∷ ws) zero lt = has_stays (with_word known w) ws w (with_word_has known w)
words_have known (w ∷ ws) (suc k) lt = words_have (with_word known w) ws k (omega (arith, lt))

-- A name's new number is that of its word.
number_there : (words now : List (List ℕ)) (numbers : List ℕ) (n : Name) → numbers ≡ map (number_in now) words →
    n.0 < length words → numbered numbers n ≡ name_in now (get_or words n.0 [])
number_there words now numbers n e lt =
    let found : slice_get numbers n.0 ≡ Some (number_in now (get_or words n.0 [])) =
    ap (λ (ns : List ℕ). slice_get ns n.0) e ∙ slice_get-map (number_in now) words n.0
    ∙ ap (option_map (number_in now)) (slice_get-get_or words n.0 [] lt) in
    ap (λ (o : Option ℕ). option_map_or (λ (k : ℕ). record { 0 = k }) o n) found

-- So a name that has a word has it by its new number.
name_keeps : (known now words : List (List ℕ)) (numbers : List ℕ) (n : Name) → now ≡ with_words known words →
    numbers ≡ map (number_in now) words → n.0 < length words → HasSame words now (numbered numbers) n
name_keeps known now words numbers n e f lt =
    let word = get_or words n.0 [] in
    let has : has_word now word ≡ true =
    ap (λ (ws : List (List ℕ)). has_word ws word) e ∙ words_have known words n.0 lt in
    let to : numbered numbers n ≡ name_in now word = number_there words now numbers n f lt in
    let P : Name → Type 0 = λ x. (word_at now x ≡ word_at words n) × (x.0 < length now) in
    subst P (sym to) (word_back now word has ∙ sym (word_there words n.0 lt), number_below now word has)

-- and so do all lexemes.
all_keep : (known now words : List (List ℕ)) (numbers : List ℕ) (ls : List Lexeme) → now ≡ with_words known words →
    numbers ≡ map (number_in now) words → All (HasWord words) ls → All (KeepsWord words now (numbered numbers)) ls
all_keep known now words numbers ls e f h k d lt = keep (get_or ls k d) (h k d lt)
  where
    keep : (t : Lexeme) → HasWord words t → KeepsWord words now (numbered numbers) t
    keep (l.Name n) g = name_keeps known now words numbers n e f g.0
    keep (l.Variable n) g = name_keeps known now words numbers n e f g.0
    keep (l.Keyword k) g = tt
    keep (l.Mark m) g = tt
    keep (l.Number n) g = tt
    keep (l.Text bytes) g = tt

-- What is told of a predicate whose words were numbered as met is told of it by its new numbers.
pub renumbered : (known now own : List (List ℕ)) (numbers bytes : List ℕ) (p : Pred) →
    IsSent own p → pred_text own p ≡ bytes → own ≡ with_words [] (pred_words own p) →
    now ≡ with_words known own → numbers ≡ map (number_in now) own →
    IsSent now (renamed (numbered numbers) p) × (pred_text now (renamed (numbered numbers) p) ≡ bytes)
    × (now ≡ with_words known (pred_words now (renamed (numbered numbers) p)))
renumbered known now own numbers bytes p sent e all f g =
    let stays = sent_anew own now (numbered numbers) p sent
    (all_keep known now own numbers (lexemes (pred_parts p)) f g sent.named) in (
      stays.sent,
      stays.text ∙ e,
      f ∙ ap (with_words known) all ∙ words_again known [] (pred_words own p)
          ∙ ap (with_words known) (sym stays.met),
    )

-- A predicate's text has at least as many bytes as it has different words.
pub few_words : (own : List (List ℕ)) (bytes : List ℕ) (p : Pred) → IsSent own p → pred_text own p ≡ bytes →
    own ≡ with_words [] (pred_words own p) → length own ≤ length bytes
few_words own bytes p sent e all =
    omega (
      arith,
      ap (length {A = List ℕ}) all,
      words_length [] (pred_words own p),
      words_few own (pred_parts p) sent.named,
      ap (length {A = ℕ}) e,
    )

-- ---- the loop over the words
-- One more word of the list comes, and its number.
pub numbered_next :
    (known now later : List (List ℕ)) (words : List (Bor (List ℕ))) (i : ℕ) (d : Bor (List ℕ)) (numbers all : List ℕ) (n : ℕ) →
    i < length words → Numbered known now (map (λ w. w.now) (take i words)) numbers →
    later ≡ with_word now (get_or words i d).now → n ≡ number_in now (get_or words i d).now → all ≡ numbers ++ n ∷ [] →
    Numbered known later (map (λ w. w.now) (take (i + 1) words)) all
numbered_next known now later words i d numbers all n lt h e f g =
    let word = (get_or words i d).now in
    let more : map (λ (w : Bor (List ℕ)). w.now) (take (i + 1) words) ≡ map (λ (w : Bor (List ℕ)). w.now) (take i words) ++ word ∷ [] =
    map_more (λ (w : Bor (List ℕ)). w.now) words i d lt in
    let listed : all ≡ numbers ++ number_in now word ∷ [] = g ∙ ap (λ (k : ℕ). numbers ++ k ∷ []) f in
    let step = numbered_more known now (map (λ (w : Bor (List ℕ)). w.now) (take i words)) numbers word h in
    subst (λ (ws : List (List ℕ)). Numbered known later ws all) (sym more)
    (subst (λ (ns : List ℕ). Numbered known later (map (λ (w : Bor (List ℕ)). w.now) (take i words) ++ word ∷ []) ns) (sym listed)
    (subst (λ (x : List (List ℕ)). Numbered known x (map (λ (w : Bor (List ℕ)). w.now) (take i words) ++ word ∷ [])
    (numbers ++ number_in now word ∷ [])) (sym e) step))
