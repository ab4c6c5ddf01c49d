-- Lines with their words numbered.
use Rattle.std.proofs.Common.{◌≡◌, ℕ, ◌+◌, ◌<◌, List, [], ◌∷◌, ◌++◌, length, map, Option, Some, None, All, refl, sym, ap, ◌∙◌, subst, length-append, arith}
use Rattle.std.proofs.lemmas.List.Elements.{All-nil, All-cons, All-tail}
use Rattle.abc_value.specs.declared.value.Value.{Value}
use Rattle.abc_pred.specs.declared.names.Name.{Name}
use Rattle.abc_pred.specs.declared.syntax.Pred.{Pred as Held}
use Rattle.abc_pred.specs.Terms.{Pred}
use Rattle.abc_pred.specs.Standing.{pred_of}
use Rattle.abc_text.specs.Meanings.{with_word, number_in, AreDifferent}
use Rattle.abc_printed.specs.Parts.{word_at}
use Rattle.abc_printed.specs.Printed.{pred_text}
use Rattle.abc_trace.specs.declared.trace.Head.{Head}
use Rattle.abc_trace.specs.declared.trace.Said.{Said}
use Rattle.abc_trace.specs.declared.trace.Line.{Line}
use Rattle.abc_trace.specs.declared.trace.EnvLine.{EnvLine}
use Rattle.abc_trace.specs.WellFormed.{IsName, IsNamed, IsHearer, IsEntry, IsSent, TailIsWellFormed, LineIsWellFormed, words_of}
use Rattle.abc_trace.specs.Met.{with_words, pred_words, said_words, line_words, final_words}
use Rattle.abc_trace_lines.specs.Plain as plain
use Rattle.abc_trace_lines.specs.Spelled as spelled
use Rattle.abc_trace_lines.specs.Spelled.{IsSpelled, SaidIsSpelled}
use Rattle.abc_trace_preds.specs.Reading.{PredsStay, IsReadPred}
use Rattle.abc_trace_order.specs.Lines.{worded, said_of, tail_of, number_line, env_line}
use Rattle.abc_trace_order.specs.Order.{IsPredText, SaysPred, MayBeSaid}
use Rattle.abc_trace_order.specs.Reading.{AreNumbered, IsNumberedSaid, IsReadSaid, IsNumberedLine, IsNumberedEnv}
use Rattle.abc_trace_order.proofs.InOrder.{worded_words}
use Rattle.abc_trace_order.proofs.WordLists.{words_grow, words_append, word_stays, word_given, below_given}

-- ---- what is said
-- those that heard, by what they are in words
hearers_back :
    (known : List (List ℕ)) (heard : List (Name × ℕ)) → All (λ e. e.0.0 < length known) heard → All spelled.IsHearer (worded known heard) →
    All (IsHearer known) heard
hearers_back known [] h g = All-nil (IsHearer known)
hearers_back known (e ∷ heard) h g =
    let here = g 0 (word_at known e.0, e.1) (omega arith) in
    All-cons (IsHearer known) e heard ((h 0 e (omega arith), here.0), here.1)
    (hearers_back known heard (All-tail (λ e. e.0.0 < length known) e heard h)
    (All-tail spelled.IsHearer (word_at known e.0, e.1) (worded known heard) g))

entries_back :
    (known : List (List ℕ)) (es : List (Name × Value)) → All (λ e. e.0.0 < length known) es → All spelled.IsEntry (worded known es) →
    All (IsEntry known) es
entries_back known [] h g = All-nil (IsEntry known)
entries_back known (e ∷ es) h g =
    let here = g 0 (word_at known e.0, e.1) (omega arith) in
    All-cons (IsEntry known) e es ((h 0 e (omega arith), here.0), here.1, here.2)
    (entries_back known es (All-tail (λ e. e.0.0 < length known) e es h)
    (All-tail spelled.IsEntry (word_at known e.0, e.1) (worded known es) g))

-- More words change nothing of a predicate that has its words.
record PredStays (known known' : List (List ℕ)) (p : Pred) : Type 0 where
  sent : IsSent known' p
  text : pred_text known' p ≡ pred_text known p
  words : pred_words known' p ≡ pred_words known p

pred_stays : PredsStay → (known known' more : List (List ℕ)) (p : Pred) → known' ≡ known ++ more → IsSent known p → PredStays known known' p
pred_stays stay known known' more p grown sent =
    let all = stay known more p sent in
    subst (λ (ws : List (List ℕ)). PredStays known ws p) (sym grown) (record { sent = all.0; text = all.1; words = all.2 })

-- the words of items that were numbered
numbered_words :
    {B : Type 0} (known : List (List ℕ)) (items : List (List ℕ × B)) (known' : List (List ℕ)) (named : List (Name × B)) →
    AreNumbered known items known' named → words_of known' (λ e. e.0) named ≡ map (λ e. e.0) items
numbered_words known items known' named h = sym (worded_words known' named) ∙ ap (map (λ e. e.0)) h.words

-- A predicate was read, and those that heard were numbered.
pub said_numbered :
    PredsStay → (known : List (List ℕ)) (said : plain.Said) (known₁ : List (List ℕ)) (pred : Held) (known₂ : List (List ℕ)) (heard : List (Name × ℕ)) →
    SaidIsSpelled said → IsReadPred known said.pred known₁ (Some pred) → AreNumbered known₁ said.heard known₂ heard →
    IsNumberedSaid known said known₂ (record { place = said.place; values = said.values; pred = pred; heard = heard })
said_numbered stay known said known₁ pred known₂ heard is read numbered =
    let p = pred_of pred in
    let grow = words_grow known₁ (map (λ e. e.0) said.heard) in
    let stays = pred_stays stay known₁ known₂ grow.0 p (numbered.met ∙ grow.1) read.0 in
    let words = numbered_words known₁ said.heard known₂ heard numbered in
    let text : pred_text known₂ p ≡ said.pred = stays.text ∙ read.1 in
    record {
      formed = record {
        place = is.place;
        few = is.few;
        values = is.values;
        pred = stays.sent;
        heard = hearers_back known₂ heard numbered.below (subst (All spelled.IsHearer) (sym numbered.words) is.heard);
        once = subst AreDifferent (sym words) is.once;
      };
      same = λ i. record { place = said.place; values = said.values; pred = text i; heard = numbered.words i };
      met = numbered.met ∙ ap (with_words known₁) (sym words)
          ∙ ap (λ (ks : List (List ℕ)). with_words ks (words_of known₂ (λ h. h.0) heard)) read.2
          ∙ sym (words_append known (pred_words known₁ p) (words_of known₂ (λ h. h.0) heard))
          ∙ ap (λ (ps : List (List ℕ)). with_words known (ps ++ words_of known₂ (λ h. h.0) heard)) (sym stays.words);
    }

-- No predicate was read.
pub said_none :
    (known : List (List ℕ)) (said : plain.Said) (known' : List (List ℕ)) → IsReadPred known said.pred known' None → IsReadSaid known said known' None
said_none known said known' read h = read h.0 h.1 h.2 h.3

-- ---- the line of a number
-- Nothing is said.
pub line_silent :
    (known : List (List ℕ)) (sender : List ℕ) (n : ℕ) (known' : List (List ℕ)) → IsName sender → n ≡ number_in known sender →
    known' ≡ with_word known sender → IsNumberedLine known sender None known' (record { sender = record { 0 = n }; said = None })
line_silent known sender n known' is number grown =
    let word = word_given known sender n known' number grown in
    record {
      formed = λ head may. record { sender = (below_given known sender n known' number grown, subst IsName (sym word) is); said = may };
      same = λ m. ap (λ (w : List ℕ). plain.Number m w None) word;
      met = grown ∙ ap (with_word known) (sym word);
    }

-- Something is.
pub line_said :
    (known : List (List ℕ)) (sender : List ℕ) (n : ℕ) (known₁ : List (List ℕ)) (said : plain.Said) (known₂ : List (List ℕ)) (s : Said) →
    IsName sender → n ≡ number_in known sender → known₁ ≡ with_word known sender → IsNumberedSaid known₁ said known₂ s →
    IsNumberedLine known sender (Some said) known₂ (record { sender = record { 0 = n }; said = Some s })
line_said known sender n known₁ said known₂ s is number grown numbered =
    let name : Name = record { 0 = n } in
    let grow = words_grow known₁ (said_words known₂ (Some s)) in
    let longer : known₂ ≡ known₁ ++ grow.0 = numbered.met ∙ grow.1 in
    let low = below_given known sender n known₁ number grown in
    let word : word_at known₂ name ≡ sender =
    ap (λ (ws : List (List ℕ)). word_at ws name) longer ∙ word_stays known₁ grow.0 name low ∙ word_given known sender n known₁ number grown in
    record {
      formed = λ head may. record {
        sender = (
          omega (arith, low, ap (length {A = List ℕ}) longer, length-append {A = List ℕ} known₁ grow.0),
          subst IsName (sym word) is,
        );
        said = numbered.formed;
      };
      same = λ m i. plain.Number m (word i) (Some (numbered.same i));
      met = numbered.met ∙ ap (λ (ks : List (List ℕ)). with_words ks (said_words known₂ (Some s))) (grown ∙ ap (with_word known) (sym word));
    }

-- ---- the line of an environment
pub env_numbered :
    (known : List (List ℕ)) (component : List ℕ) (entries : List (List ℕ × Value)) (n : ℕ) (known₁ known₂ : List (List ℕ))
    (named : List (Name × Value)) → IsSpelled (plain.Env component entries) → n ≡ number_in known component → known₁ ≡ with_word known component →
    AreNumbered known₁ entries known₂ named →
    IsNumberedEnv known component entries known₂ (record { component = record { 0 = n }; entries = named })
env_numbered known component entries n known₁ known₂ named is number grown numbered =
    let name : Name = record { 0 = n } in
    let grow = words_grow known₁ (map (λ e. e.0) entries) in
    let longer : known₂ ≡ known₁ ++ grow.0 = numbered.met ∙ grow.1 in
    let low = below_given known component n known₁ number grown in
    let word : word_at known₂ name ≡ component =
    ap (λ (ws : List (List ℕ)). word_at ws name) longer ∙ word_stays known₁ grow.0 name low ∙ word_given known component n known₁ number grown in
    let words = numbered_words known₁ entries known₂ named numbered in
    record {
      formed = record {
        component = (
          omega (arith, low, ap (length {A = List ℕ}) longer, length-append {A = List ℕ} known₁ grow.0),
          subst IsName (sym word) is.0,
        );
        entries = entries_back known₂ named numbered.below (subst (All spelled.IsEntry) (sym numbered.words) is.1);
        once = subst AreDifferent (sym words) is.2;
      };
      same = λ i. plain.Env (word i) (numbered.words i);
      met = numbered.met ∙ ap (with_words known₁) (sym words)
          ∙ ap (λ (ks : List (List ℕ)). with_words ks (words_of known₂ (λ e. e.0) named)) (grown ∙ ap (with_word known) (sym word));
    }
