-- Want of memory aside there is one answer to a command and a text, and one to words and a source that doesn't fail.
use Rattle.std.proofs.Common.{◌≡◌, ◌≢◌, ◌∙◌, ℕ, ◌+◌, ◌*◌, ◌<◌, ◌≤◌, List, ◌++◌, length, Option, Some, None, refl, sym, ap, subst, arith, length-append}
use Rattle.std.proofs.lemmas.List.{append-nil}
use Rattle.std.specs.Io.KnownBytes.{Consumes, IsAtEnd}
use Rattle.abc_cause.specs.declared.Cause.{Cause}
use Rattle.abc_io.specs.Devices.{Rose}
use Rattle.abc_text.specs.declared.lexical.Token.{Token}
use Rattle.abc_term.specs.declared.terms.Program.{Program}
use Rattle.abc_grammar.specs.Accepted.{IsAccepted, IsRefused}
use Rattle.abc_grammar.specs.TextLaws.{AreAlike}
use Rattle.abc_grammar.proofs.OneText.{texts_are_one}
use Rattle.abc_moves.specs.declared.label.Label.{Label}
use Rattle.abc_net.specs.declared.record.Record.{Record}
use Rattle.abc_runner.specs.declared.command.Command.{Command}
use Rattle.abc_runner.specs.declared.command.Command.TheVariants.{Solo, Net, Print, Other}
use Rattle.abc_runner.specs.declared.status.Status.{Status}
use Rattle.abc_runner.specs.declared.status.Status.TheVariants.{Done, BadWords, Unbuilt, TooMuch, TooLong, Refused, ReadFault, WriteFault, NoMemory}
use Rattle.abc_runner.specs.declared.answer.Answer.{Answer}
use Rattle.abc_runner.specs.declared.answer.Answer.TheVariants.{Text, Trace, Refusal, Line}
use Rattle.abc_runner.specs.declared.limits.TheConstants.{MOST_SOURCE, MOST_PRODUCT}
use Rattle.abc_runner.specs.Statuses.{line_of}
use Rattle.abc_runner.specs.Answers.{IsTooMuch, Prints, IsTraceOf, IsOfText, IsAfter, IsReadAnswer}
use Rattle.abc_runner.specs.Laws.{AreOne, OneOfText, OneAnswer}
use Rattle.abc_runner.proofs.AlikePrograms.{same_count, same_print, one_solo, one_record}

-- ---- of a text
-- What an answer to a text can be, with what each gives.
data Said (c : Command) (bytes : List ℕ) : Answer → Type 0 where
  text : {t : List ℕ} (ts : List Token) (p : Program) → IsAccepted bytes ts p → Prints c p t → Said c bytes (Text t)
  trace : {t : List ℕ} {r : Record Label} (ts : List Token) (p : Program) → IsAccepted bytes ts p → IsTraceOf c p t r → Said c bytes (Trace t r)
  refused :
      {place : ℕ} {cause : Cause} {line : List ℕ} → IsRefused bytes place cause → line ≡ line_of (Refused place cause) →
      Said c bytes (Line (Refused place cause) line)
  too_much :
      {limit components : ℕ} {line : List ℕ} (ts : List Token) (p : Program) → IsAccepted bytes ts p → IsTooMuch c p limit components →
      line ≡ line_of (TooMuch limit components) → Said c bytes (Line (TooMuch limit components) line)
  memory : Said c bytes (Refusal NoMemory)

said_of : (c : Command) (bytes : List ℕ) (a : Answer) → IsOfText c bytes a → Said c bytes a
said_of c bytes (Text t) h = text h.0 h.1 h.2 h.3
said_of c bytes (Trace t r) h = trace h.0 h.1 h.2 h.3
said_of c bytes (Refusal Done) h = absurd h
said_of c bytes (Refusal BadWords) h = absurd h
said_of c bytes (Refusal Unbuilt) h = absurd h
said_of c bytes (Refusal (TooMuch limit components)) h = absurd h
said_of c bytes (Refusal TooLong) h = absurd h
said_of c bytes (Refusal (Refused place cause)) h = absurd h
said_of c bytes (Refusal ReadFault) h = absurd h
said_of c bytes (Refusal (WriteFault written)) h = absurd h
said_of c bytes (Refusal NoMemory) h = memory
said_of c bytes (Line Done line) h = absurd h.0
said_of c bytes (Line BadWords line) h = absurd h.0
said_of c bytes (Line Unbuilt line) h = absurd h.0
said_of c bytes (Line (TooMuch limit components) line) h = too_much h.0.0 h.0.1 h.0.2 h.0.3 h.1
said_of c bytes (Line TooLong line) h = absurd h.0
said_of c bytes (Line (Refused place cause) line) h = refused h.0 h.1
said_of c bytes (Line ReadFault line) h = absurd h.0
said_of c bytes (Line (WriteFault written) line) h = absurd h.0
said_of c bytes (Line NoMemory line) h = absurd h.0

-- alike programs print the same for a command
one_print : (c : Command) (p q : Program) (t u : List ℕ) → AreAlike p q → Prints c p t → Prints c q u → t ≡ u
one_print (Solo limit pick) p q t u a h k = one_solo p q a limit pick t u h.1 k.1
one_print (Net shape limit nodes workers pick) p q t u a h k = absurd h
one_print Print p q t u a h k = h ∙ same_print p q a ∙ sym k
one_print Other p q t u a h k = absurd h

-- a record of alike programs has one trace for a command
one_trace : (c : Command) (p q : Program) (t u : List ℕ) (r s : Record Label) → AreAlike p q → IsTraceOf c p t r → IsTraceOf c q u s → r ≡ s → t ≡ u
one_trace (Solo limit pick) p q t u r s a h k e = absurd h
one_trace (Net shape limit nodes workers pick) p q t u r s a h k e = one_record p q a r s t u e h.2 k.2
one_trace Print p q t u r s a h k e = absurd h
one_trace Other p q t u r s a h k e = absurd h

-- what is printed without a record isn't printed with one
never_mixed : (c : Command) (p q : Program) (t u : List ℕ) (r : Record Label) → Prints c p t → IsTraceOf c q u r → ⊥
never_mixed (Solo limit pick) p q t u r h k = k
never_mixed (Net shape limit nodes workers pick) p q t u r h k = h
never_mixed Print p q t u r h k = k
never_mixed Other p q t u r h k = k

-- the run is too much for the one with the same numbers as for the other
one_bound : (c : Command) (p q : Program) (m n m' n' : ℕ) → AreAlike p q → IsTooMuch c p m n → IsTooMuch c q m' n' → (m ≡ m') × (n ≡ n')
one_bound (Solo limit pick) p q m n m' n' a h k = (h.0 ∙ sym k.0, h.1 ∙ same_count p q a ∙ sym k.1)
one_bound (Net shape limit nodes workers pick) p q m n m' n' a h k = (h.0 ∙ sym k.0, h.1 ∙ same_count p q a ∙ sym k.1)
one_bound Print p q m n m' n' a h k = absurd h
one_bound Other p q m n m' n' a h k = absurd h

-- and what is too much for the one isn't printed of the other
never_both : (c : Command) (p q : Program) (m n : ℕ) (t : List ℕ) → AreAlike p q → IsTooMuch c p m n → Prints c q t → ⊥
never_both (Solo limit pick) p q m n t a h k =
    let more : MOST_PRODUCT < limit * length q.components = subst (λ (n : ℕ). MOST_PRODUCT < limit * n) (same_count p q a) h.2 in
    let most = k.0 in omega (arith, more, most)
never_both (Net shape limit nodes workers pick) p q m n t a h k = k
never_both Print p q m n t a h k = h
never_both Other p q m n t a h k = h

-- nor does it run as a network
never_ran : (c : Command) (p q : Program) (m n : ℕ) (t : List ℕ) (r : Record Label) → AreAlike p q → IsTooMuch c p m n → IsTraceOf c q t r → ⊥
never_ran (Solo limit pick) p q m n t r a h k = k
never_ran (Net shape limit nodes workers pick) p q m n t r a h k =
    let more : MOST_PRODUCT < limit * length q.components = subst (λ (n : ℕ). MOST_PRODUCT < limit * n) (same_count p q a) h.2 in
    let most = k.0 in omega (arith, more, most)
never_ran Print p q m n t r a h k = h
never_ran Other p q m n t r a h k = h

-- a line, which its status fixes
same_line : (s s' : Status) (l l' : List ℕ) → s ≡ s' → l ≡ line_of s → l' ≡ line_of s' → Line s l ≡ Line s' l'
same_line s s' l l' same e f = ap (λ (m : List ℕ). Line s m) e ∙ ap (λ (r : Status). Line r (line_of r)) same ∙ ap (λ (m : List ℕ). Line s' m) (sym f)

-- two answers to one text
one_said : (c : Command) (bytes : List ℕ) (a b : Answer) → Said c bytes a → Said c bytes b → a ≢ Refusal NoMemory → b ≢ Refusal NoMemory → AreOne a b
one_said c bytes a b (text ts p h t) (text us q k u) x y =
    ap Text (one_print c p q _ _ (texts_are_one.accepted bytes ts us p q h k).1 t u)
one_said c bytes a b (text ts p h t) (trace us q k u) x y = absurd (never_mixed c p q _ _ _ t u)
one_said c bytes a b (trace ts p h t) (text us q k u) x y = absurd (never_mixed c q p _ _ _ u t)
one_said c bytes a b (trace ts p h t) (trace us q k u) x y =
    λ e. one_trace c p q _ _ _ _ (texts_are_one.accepted bytes ts us p q h k).1 t u e
one_said c bytes a b (trace ts p h t) (refused k e) x y = absurd (texts_are_one.apart bytes ts p _ _ h k)
one_said c bytes a b (trace ts p h t) (too_much us q k u e) x y =
    absurd (never_ran c q p _ _ _ _ (texts_are_one.accepted bytes us ts q p k h).1 u t)
one_said c bytes a b (refused h e) (trace us q k u) x y = absurd (texts_are_one.apart bytes us q _ _ k h)
one_said c bytes a b (too_much ts p h t e) (trace us q k u) x y =
    absurd (never_ran c p q _ _ _ _ (texts_are_one.accepted bytes ts us p q h k).1 t u)
one_said c bytes a b (text ts p h t) (refused k e) x y = absurd (texts_are_one.apart bytes ts p _ _ h k)
one_said c bytes a b (text ts p h t) (too_much us q k u e) x y =
    absurd (never_both c q p _ _ _ (texts_are_one.accepted bytes us ts q p k h).1 u t)
one_said c bytes a b (refused h e) (text us q k u) x y = absurd (texts_are_one.apart bytes us q _ _ k h)
one_said c bytes a b (refused h e) (refused k f) x y =
    let one = texts_are_one.refused bytes _ _ _ _ h k in same_line _ _ _ _ (λ i. Refused (one.0 i) (one.1 i)) e f
one_said c bytes a b (refused h e) (too_much us q k u f) x y = absurd (texts_are_one.apart bytes us q _ _ k h)
one_said c bytes a b (too_much ts p h t e) (text us q k u) x y =
    absurd (never_both c p q _ _ _ (texts_are_one.accepted bytes ts us p q h k).1 t u)
one_said c bytes a b (too_much ts p h t e) (refused k f) x y = absurd (texts_are_one.apart bytes ts p _ _ h k)
one_said c bytes a b (too_much ts p h t e) (too_much us q k u f) x y =
    let one = one_bound c p q _ _ _ _ (texts_are_one.accepted bytes ts us p q h k).1 t u in
    same_line _ _ _ _ (λ i. TooMuch (one.0 i) (one.1 i)) e f
one_said c bytes a b memory s x y = absurd (x refl)
one_said c bytes a b s memory x y = absurd (y refl)

pub one_of_text : OneOfText
one_of_text c bytes a b h k x y = one_said c bytes a b (said_of c bytes a h) (said_of c bytes b k) x y

-- two answers that are one refusal
one_refusal : (s : Status) (a b : Answer) → a ≡ Refusal s → b ≡ Refusal s → AreOne a b
one_refusal s a b e f =
    let same : AreOne (Refusal s) (Refusal s) = refl in
    subst (λ (x : Answer). AreOne x b) (sym e) (subst (λ (y : Answer). AreOne (Refusal s) y) (sym f) same)

-- ---- of words and a source
-- The answer after a source told its bytes and didn't fail: it is that of the bytes, which are no more than a source may have,
-- or they are more.
data AfterAll (c : Command) (bytes : List ℕ) (a : Answer) : Type 0 where
  whole : length bytes ≤ MOST_SOURCE → IsOfText c bytes a → AfterAll c bytes a
  long : MOST_SOURCE < length bytes → a ≡ Refusal TooLong → AfterAll c bytes a

-- what was read of a source to its end is all
all_read : (bytes read : List ℕ) (left : Option (List ℕ)) → Consumes (Some bytes) left read → IsAtEnd left → bytes ≡ read
all_read bytes read None h end = absurd h
all_read bytes read (Some rest) h end = h ∙ ap (λ (xs : List ℕ). read ++ xs) end ∙ append-nil read

-- no more was read than there is
read_within : (bytes read : List ℕ) (left : Option (List ℕ)) → Consumes (Some bytes) left read → length read ≤ length bytes
read_within bytes read None h = absurd h
read_within bytes read (Some rest) h =
    let many : length bytes ≡ length read + length rest = ap length h ∙ length-append read rest in omega (arith, many)

after_all : (c : Command) (a : Answer) (f f' : ℕ) (bytes read : List ℕ) (left : Option (List ℕ)) → ¬ Rose f f' → Consumes (Some bytes) left read →
    IsAfter c a f f' left read → a ≢ Refusal NoMemory → AfterAll c bytes a
after_all c (Text t) f f' bytes read left sound told i x =
    let all = all_read bytes read left told i.2 in
    whole (subst (λ (xs : List ℕ). length xs ≤ MOST_SOURCE) (sym all) i.0) (subst (λ (xs : List ℕ). IsOfText c xs (Text t)) (sym all) i.3)
after_all c (Trace t r) f f' bytes read left sound told i x =
    let all = all_read bytes read left told i.2 in
    whole (subst (λ (xs : List ℕ). length xs ≤ MOST_SOURCE) (sym all) i.0) (subst (λ (xs : List ℕ). IsOfText c xs (Trace t r)) (sym all) i.3)
after_all c (Refusal Done) f f' bytes read left sound told i x = absurd i
after_all c (Refusal BadWords) f f' bytes read left sound told i x = absurd i
after_all c (Refusal Unbuilt) f f' bytes read left sound told i x = absurd i
after_all c (Refusal (TooMuch limit components)) f f' bytes read left sound told i x = absurd i
after_all c (Refusal TooLong) f f' bytes read left sound told i x =
    let more = i.0 in let most = read_within bytes read left told in long (omega (arith, more, most)) refl
after_all c (Refusal (Refused place cause)) f f' bytes read left sound told i x = absurd i
after_all c (Refusal ReadFault) f f' bytes read left sound told i x = absurd (sound i.1)
after_all c (Refusal (WriteFault written)) f f' bytes read left sound told i x = absurd i
after_all c (Refusal NoMemory) f f' bytes read left sound told i x = absurd (x refl)
after_all c (Line status line) f f' bytes read left sound told i x =
    let all = all_read bytes read left told i.2 in
    whole (subst (λ (xs : List ℕ). length xs ≤ MOST_SOURCE) (sym all) i.0)
    (subst (λ (xs : List ℕ). IsOfText c xs (Line status line)) (sym all) i.3)

one_after : (c : Command) (bytes : List ℕ) (a b : Answer) → AfterAll c bytes a → AfterAll c bytes b → a ≢ Refusal NoMemory → b ≢ Refusal NoMemory →
    AreOne a b
one_after c bytes a b (whole m h) (whole n k) x y = one_of_text c bytes a b h k x y
one_after c bytes a b (whole m h) (long n e) x y = absurd (omega (arith, m, n))
one_after c bytes a b (long m e) (whole n k) x y = absurd (omega (arith, m, n))
one_after c bytes a b (long m e) (long n f) x y = one_refusal TooLong a b e f

one_read : (c : Command) (bytes : List ℕ) (a b : Answer) (f f' g g' : ℕ) (left left' : Option (List ℕ)) → ¬ Rose f f' → ¬ Rose g g' →
    IsReadAnswer c a f f' (Some bytes) left → IsReadAnswer c b g g' (Some bytes) left' →
    a ≢ Refusal NoMemory → b ≢ Refusal NoMemory → AreOne a b
one_read c bytes a b f f' g g' left left' sound other h k x y =
    one_after c bytes a b (after_all c a f f' bytes h.0 left sound h.1 h.2 x) (after_all c b g g' bytes k.0 left' other k.1 k.2 y) x y

pub one_answer : OneAnswer
one_answer None bytes a b f f' g g' left left' sound other h k x y = one_refusal BadWords a b h.0 k.0
one_answer (Some (Solo limit pick)) bytes a b f f' g g' left left' sound other h k x y =
    one_read (Solo limit pick) bytes a b f f' g g' left left' sound other h k x y
one_answer (Some (Net shape limit nodes workers pick)) bytes a b f f' g g' left left' sound other h k x y =
    one_read (Net shape limit nodes workers pick) bytes a b f f' g g' left left' sound other h k x y
one_answer (Some Print) bytes a b f f' g g' left left' sound other h k x y = one_read Print bytes a b f f' g g' left left' sound other h k x y
one_answer (Some Other) bytes a b f f' g g' left left' sound other h k x y = one_refusal Unbuilt a b h.0 k.0
