-- A text is accepted or refused, in one way.
use Rattle.std.proofs.Common.{◌≡◌, ℕ, ◌+◌, ◌<◌, ◌≤◌, ◌⊎◌, inl, inr, List, [], length, take, drop, Option, Some, None, refl, sym, ap, ◌∙◌, subst, arith}
use Rattle.std.specs.Prelude.{IsSomeAnd, IsTrue, Bool}
use Rattle.std.proofs.lemmas.List.{take-append-drop}
use Rattle.std.proofs.lemmas.Option.{slice_get_past}
use Rattle.std.proofs.lemmas.Bool.{cases_lt}
use Rattle.abc_pred.specs.Terms.{Pred}
use Rattle.abc_cause.specs.declared.Cause.{Cause}
use Rattle.abc_cause.specs.declared.Cause.TheVariants as cause
use Rattle.abc_cause.specs.declared.CheckCause.{CheckCause}
use Rattle.abc_text.specs.declared.lexical.Token.{Token}
use Rattle.abc_text.specs.declared.lexical.Fault.{Fault}
use Rattle.abc_text.proofs.Reading.{one_reading}
use Rattle.abc_term.specs.declared.terms.Program.{Program}
use Rattle.abc_grammar.specs.declared.lexemes.Lexeme.{Lexeme}
use Rattle.abc_grammar.specs.Lexemes.{lexemes_of}
use Rattle.abc_grammar.specs.Preds.{IsPred}
use Rattle.abc_grammar.specs.Plain.{PlainProgram, plain_program}
use Rattle.abc_grammar.specs.Programs.{IsProgram}
use Rattle.abc_grammar.specs.Limits.{At, IsTooLarge}
use Rattle.abc_grammar.specs.Limits.{BeginsExtraToken}
use Rattle.abc_grammar.specs.Refusals.{IsSomePred, IsSomeProgram, PassesLimit, IsWithin, GoesOn, Applies, IsFirstOfProgram, IsFirstOfPred, place_at}
use Rattle.abc_text.specs.Meanings.{names_behind}
use Rattle.abc_grammar.specs.Scanned.{IsScanned}
use Rattle.abc_grammar.specs.Fronts.{front_end, IsFront, IsLongest, BeginsWithPred, BeginsWithNoPred}
use Rattle.abc_grammar.specs.Accepted.{IsTextOf, IsAccepted, IsNoText, IsUnchecked, IsRefused, site_place}
use Rattle.abc_grammar.specs.TextLaws.{FrontsAreOne, AreAlike, TextsAreOne}
use Rattle.abc_grammar.proofs.PredRuns.{one_pred}
use Rattle.abc_grammar.proofs.ProgramRuns.{one_program}
use Rattle.abc_grammar.proofs.OneRefusal.{one_refusal}
use Rattle.abc_grammar.proofs.FactsAlike.{fact_alike, first_one}

-- ---- one scan
pub record SameScan (ts us : List Token) (f g : Option Fault) (ls ms : List Lexeme) : Type 0 where
  pub tokens : ts ≡ us
  pub fault : f ≡ g
  pub lexemes : ls ≡ ms

one_scan :
    (words : List (List ℕ)) (bytes : List ℕ) (ts us : List Token) (f g : Option Fault) (ls ms : List Lexeme) →
    IsScanned words bytes ts f ls → IsScanned words bytes us g ms → SameScan ts us f g ls ms
one_scan words bytes ts us f g ls ms h k =
    let same : (ts ≡ us) × (f ≡ g) = (one_reading bytes).one ts us f g h.read k.read in
    record {
      tokens = same.0;
      fault = same.1;
      lexemes = h.meant ∙ ap (λ (vs : List Token). lexemes_of (names_behind words bytes vs) bytes vs) same.0 ∙ sym k.meant;
    }

-- ---- fronts
longest_one : (ts : List Lexeme) (m n : ℕ) (p q : Pred) → IsLongest ts m p → IsLongest ts n q → (m ≡ n) × (p ≡ q)
longest_one ts m n p q h k =
    let below = h.longest n q k.front in
    let above = k.longest m p h.front in
    let same : m ≡ n = omega (arith, below, above) in
    (same, one_pred (subst (λ (i : ℕ). IsPred (take i ts) p) same h.front.pred) k.front.pred)

found_one :
    (words : List (List ℕ)) (bytes : List ℕ) (p q : Pred) (m n : ℕ) (us vs : List (List ℕ)) →
    BeginsWithPred words bytes p m us → BeginsWithPred words bytes q n vs → (p ≡ q) × (m ≡ n) × (us ≡ vs)
found_one words bytes p q m n us vs h k =
    let same : SameScan h.tokens k.tokens h.fault k.fault h.lexemes k.lexemes = one_scan words bytes h.tokens k.tokens h.fault k.fault h.lexemes k.lexemes h.scanned k.scanned in
    let one : (h.count ≡ k.count) × (p ≡ q) = longest_one k.lexemes h.count k.count p q (subst (λ (ls : List Lexeme). IsLongest ls h.count p) same.lexemes h.longest) k.longest in
    let ends : front_end h.tokens h.count ≡ front_end k.tokens k.count = λ i. front_end (same.tokens i) (one.0 i) in
    let names : names_behind words bytes (take h.count h.tokens) ≡ names_behind words bytes (take k.count k.tokens) = λ i. names_behind words bytes (take (one.0 i) (same.tokens i)) in
    (one.1, h.ends ∙ ends ∙ sym k.ends, h.names ∙ names ∙ sym k.names)

no_pred_one :
    (words : List (List ℕ)) (bytes : List ℕ) (i j : ℕ) (c d : Cause) →
    BeginsWithNoPred words bytes i c → BeginsWithNoPred words bytes j d → (i ≡ j) × (c ≡ d)
no_pred_one words bytes i j c d h k =
    let same : SameScan h.tokens k.tokens h.fault k.fault h.lexemes k.lexemes = one_scan words bytes h.tokens k.tokens h.fault k.fault h.lexemes k.lexemes h.scanned k.scanned in
    let moved : IsFirstOfPred k.lexemes k.fault c h.number =
    subst (λ (f : Option Fault). IsFirstOfPred k.lexemes f c h.number) same.fault (subst (λ (ls : List Lexeme). IsFirstOfPred ls h.fault c h.number) same.lexemes h.first) in
    let one : (c ≡ d) × (h.number ≡ k.number) = one_refusal IsSomePred BeginsExtraToken k.lexemes k.fault c d h.number k.number moved k.first in
    let places : place_at h.tokens h.fault (length bytes) h.number ≡ place_at k.tokens k.fault (length bytes) k.number = λ x. place_at (same.tokens x) (same.fault x) (length bytes) (one.1 x) in
    (h.stands ∙ places ∙ sym k.stands, one.0)

pred_apart :
    (words : List (List ℕ)) (bytes : List ℕ) (p : Pred) (n : ℕ) (us : List (List ℕ)) (i : ℕ) (c : Cause) →
    BeginsWithPred words bytes p n us → ¬ BeginsWithNoPred words bytes i c
pred_apart words bytes p n us i c h k =
    let same : SameScan h.tokens k.tokens h.fault k.fault h.lexemes k.lexemes = one_scan words bytes h.tokens k.tokens h.fault k.fault h.lexemes k.lexemes h.scanned k.scanned in
    k.none h.count p (subst (λ (ls : List Lexeme). IsFront ls h.count p) same.lexemes h.longest.front)

pub fronts_are_one : FrontsAreOne
fronts_are_one = record { longest = longest_one; found = found_one; refused = no_pred_one; apart = pred_apart }

-- ---- no cause against a program within its limits
at_below : (ts : List Lexeme) (k : ℕ) (is : Lexeme → Bool) → At ts k is → k < length ts
at_below ts k is h = by (cases_lt k (length ts))
  where
    by : (k < length ts) ⊎ (length ts ≤ k) → k < length ts
    by (inl lt) = lt
    by (inr past) = absurd (subst (λ (o : Option Lexeme). IsSomeAnd o (λ t. IsTrue (is t))) (slice_get_past ts k past) h)

limit_below : (c : Cause) (ts : List Lexeme) (k : ℕ) → PassesLimit IsSomeProgram IsTooLarge c ts k → k < length ts
limit_below cause.TooDeep ts k h = at_below ts k _ h.opener
limit_below cause.TooLarge ts k h = h.exists
limit_below cause.LongTuple ts k h = elim h [ inl x ↦ x.exists | inr x ↦ x.exists ]
limit_below cause.LongSet ts k h = h.exists
limit_below cause.BadByte ts k h = absurd h
limit_below cause.BadText ts k h = absurd h
limit_below cause.LongText ts k h = absurd h
limit_below cause.LongName ts k h = absurd h
limit_below cause.WideNumber ts k h = absurd h
limit_below cause.Syntax ts k h = absurd h
limit_below (cause.Check c) ts k h = absurd h

goes_on : (ts : List Lexeme) (p : PlainProgram) (k : ℕ) → IsProgram ts p → GoesOn IsSomeProgram IsTooLarge ts None k
goes_on ts p k h = ((λ lt. (drop (k + 1) ts, (p, subst (λ (us : List Lexeme). IsProgram us p) (sym (take-append-drop (k + 1) ts)) h))), (λ e. (p, h)))

no_cause :
    (c : Cause) (ts : List Lexeme) (p : PlainProgram) (k : ℕ) → IsProgram ts p → IsWithin IsSomeProgram IsTooLarge ts (length ts) →
    ¬ Applies IsSomeProgram IsTooLarge c ts None k
no_cause cause.BadByte ts p k h within a = a.1
no_cause cause.BadText ts p k h within a = a.1
no_cause cause.LongText ts p k h within a = a.1
no_cause cause.LongName ts p k h within a = a.1
no_cause cause.WideNumber ts p k h within a = a.1
no_cause cause.Syntax ts p k h within a = a.1 (goes_on ts p k h)
no_cause cause.TooDeep ts p k h within a = within k (limit_below cause.TooDeep ts k a) cause.TooDeep a
no_cause cause.TooLarge ts p k h within a = within k (limit_below cause.TooLarge ts k a) cause.TooLarge a
no_cause cause.LongTuple ts p k h within a = within k (limit_below cause.LongTuple ts k a) cause.LongTuple a
no_cause cause.LongSet ts p k h within a = within k (limit_below cause.LongSet ts k a) cause.LongSet a
no_cause (cause.Check c) ts p k h within a = a

-- ---- texts
text_one : (bytes : List ℕ) (ts us : List Token) (p q : Program) → IsTextOf bytes ts p → IsTextOf bytes us q → (ts ≡ us) × AreAlike p q
text_one bytes ts us p q h k =
    let same : SameScan ts us None None h.lexemes k.lexemes = one_scan [] bytes ts us None None h.lexemes k.lexemes h.scanned k.scanned in (
      same.tokens,
      record {
        terms = one_program (subst (λ (ls : List Lexeme). IsProgram ls (plain_program p)) same.lexemes h.grammar) k.grammar;
        names = h.names ∙ ap (names_behind [] bytes) same.tokens ∙ sym k.names;
      },
    )

text_or_none : (bytes : List ℕ) (ts : List Token) (p : Program) (i : ℕ) (c : Cause) → IsTextOf bytes ts p → ¬ IsNoText bytes i c
text_or_none bytes ts p i c h k =
    let same : SameScan k.tokens ts k.fault None k.lexemes h.lexemes = one_scan [] bytes k.tokens ts k.fault None k.lexemes h.lexemes k.scanned h.scanned in
    let moved : IsFirstOfProgram h.lexemes None c k.number =
    subst (λ (f : Option Fault). IsFirstOfProgram h.lexemes f c k.number) same.fault (subst (λ (ls : List Lexeme). IsFirstOfProgram ls k.fault c k.number) same.lexemes k.first) in
    no_cause c h.lexemes (plain_program p) k.number h.grammar h.within moved.applies

no_text_one : (bytes : List ℕ) (i j : ℕ) (c d : Cause) → IsNoText bytes i c → IsNoText bytes j d → (i ≡ j) × (c ≡ d)
no_text_one bytes i j c d h k =
    let same : SameScan h.tokens k.tokens h.fault k.fault h.lexemes k.lexemes = one_scan [] bytes h.tokens k.tokens h.fault k.fault h.lexemes k.lexemes h.scanned k.scanned in
    let moved : IsFirstOfProgram k.lexemes k.fault c h.number =
    subst (λ (f : Option Fault). IsFirstOfProgram k.lexemes f c h.number) same.fault (subst (λ (ls : List Lexeme). IsFirstOfProgram ls h.fault c h.number) same.lexemes h.first) in
    let one : (c ≡ d) × (h.number ≡ k.number) = one_refusal IsSomeProgram IsTooLarge k.lexemes k.fault c d h.number k.number moved k.first in
    let places : place_at h.tokens h.fault (length bytes) h.number ≡ place_at k.tokens k.fault (length bytes) k.number = λ x. place_at (same.tokens x) (same.fault x) (length bytes) (one.1 x) in
    (h.stands ∙ places ∙ sym k.stands, one.0)

unchecked_one : (bytes : List ℕ) (i j : ℕ) (c d : CheckCause) → IsUnchecked bytes i c → IsUnchecked bytes j d → (i ≡ j) × (c ≡ d)
unchecked_one bytes i j c d h k =
    let alike : (h.tokens ≡ k.tokens) × AreAlike h.program k.program = text_one bytes h.tokens k.tokens h.program k.program h.text k.text in
    let same : SameScan h.tokens k.tokens None None h.text.lexemes k.text.lexemes =
    one_scan [] bytes h.tokens k.tokens None None h.text.lexemes k.text.lexemes h.text.scanned k.text.scanned in
    let one : (c ≡ d) × (h.site ≡ k.site) = first_one h.program k.program alike.1.terms c d h.site k.site h.first k.first in
    let places : site_place h.text.lexemes h.tokens (length bytes) h.site ≡ site_place k.text.lexemes k.tokens (length bytes) k.site =
    λ x. site_place (same.lexemes x) (same.tokens x) (length bytes) (one.1 x) in
    let stands : Some i ≡ Some j = sym h.stands ∙ places ∙ k.stands in
    (some_one stands, one.0)
  where
    some_one : Some i ≡ Some j → i ≡ j
    some_one e = cc

-- which of the two refusals it is
pub data Refused (bytes : List ℕ) (i : ℕ) (c : Cause) : Type 0 where
  NoText : IsNoText bytes i c → Refused bytes i c
  Unchecked : (d : CheckCause) → c ≡ cause.Check d → IsUnchecked bytes i d → Refused bytes i c

refused_by : (bytes : List ℕ) (i : ℕ) (c : Cause) → IsRefused bytes i c → Refused bytes i c
refused_by bytes i (cause.Check d) h = Unchecked d refl h
refused_by bytes i cause.BadByte h = NoText h
refused_by bytes i cause.BadText h = NoText h
refused_by bytes i cause.LongText h = NoText h
refused_by bytes i cause.LongName h = NoText h
refused_by bytes i cause.WideNumber h = NoText h
refused_by bytes i cause.Syntax h = NoText h
refused_by bytes i cause.TooDeep h = NoText h
refused_by bytes i cause.TooLarge h = NoText h
refused_by bytes i cause.LongTuple h = NoText h
refused_by bytes i cause.LongSet h = NoText h

both_refused : (bytes : List ℕ) (i j : ℕ) (c d : Cause) → Refused bytes i c → Refused bytes j d → (i ≡ j) × (c ≡ d)
both_refused bytes i j c d (NoText h) (NoText k) = no_text_one bytes i j c d h k
both_refused bytes i j c d (NoText h) (Unchecked y f k) = absurd (text_or_none bytes k.tokens k.program i c k.text h)
both_refused bytes i j c d (Unchecked x e h) (NoText k) = absurd (text_or_none bytes h.tokens h.program j d h.text k)
both_refused bytes i j c d (Unchecked x e h) (Unchecked y f k) =
    let one : (i ≡ j) × (x ≡ y) = unchecked_one bytes i j x y h k in
    (one.0, e ∙ ap cause.Check one.1 ∙ sym f)

accepted_apart : (bytes : List ℕ) (ts : List Token) (p : Program) (i : ℕ) (c : Cause) → IsAccepted bytes ts p → Refused bytes i c → ⊥
accepted_apart bytes ts p i c h (NoText k) = text_or_none bytes ts p i c h.text k
accepted_apart bytes ts p i c h (Unchecked d e k) =
    let alike : (k.tokens ≡ ts) × AreAlike k.program p = text_one bytes k.tokens ts k.program p k.text h.text in
    h.checked d k.site (fact_alike k.program p alike.1.terms d k.site k.first.holds)

pub texts_are_one : TextsAreOne
texts_are_one = record {
  accepted = λ bytes ts us p q h k. text_one bytes ts us p q h.text k.text;
  refused = λ bytes i j c d h k. both_refused bytes i j c d (refused_by bytes i c h) (refused_by bytes j d k);
  apart = λ bytes ts p i c h k. accepted_apart bytes ts p i c h (refused_by bytes i c k);
}
