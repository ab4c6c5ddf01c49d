-- From what the words and the source give, and how the writing ends, to the clauses of `run`.
use Rattle.std.proofs.Common.{◌≡◌, ◌∙◌, ℕ, ◌<◌, ◌≤◌, ◌⊎◌, List, length, take, Option, Some, None, inl, inr, refl, sym, ap, subst, arith}
use Rattle.std.specs.Io.KnownBytes.{Appends, IsAtEnd}
use Rattle.abc_cause.specs.declared.Cause.{Cause}
use Rattle.abc_io.specs.Devices.{Rose}
use Rattle.abc_io.specs.Whole.{HasRead}
use Rattle.abc_moves.specs.declared.label.Label.{Label}
use Rattle.abc_net.specs.declared.record.Record.{Record}
use Rattle.abc_runner.specs.declared.command.Command.{Command}
use Rattle.abc_runner.specs.declared.command.Command.TheVariants.{Solo, Net, Print, Other}
use Rattle.abc_runner.specs.declared.status.Status.{Status}
use Rattle.abc_runner.specs.declared.status.Status.TheVariants.{Done, BadWords, Unbuilt, TooMuch, TooLong, Refused, ReadFault, WriteFault, NoMemory}
use Rattle.abc_runner.specs.declared.answer.Answer.{Answer}
use Rattle.abc_runner.specs.declared.answer.Answer.TheVariants.{Text, Trace, Refusal, Line}
use Rattle.abc_runner.specs.declared.limits.TheConstants.{MOST_SOURCE}
use Rattle.abc_runner.specs.Statuses.{line_of}
use Rattle.abc_runner.specs.Answers.{whole_of, due_of, ran_of, IsAfter, IsReadAnswer, IsAnswer}
use Rattle.abc_runner.specs.Outcomes.{Ends, EndsAs, IfWriteFault, IsCut, IsOfWholeText, IsRefusal, IsTextStatus, ReadsText, cut_short}

-- ---- the answers that there are
-- What an answer can be after the source was read: its cases with what each gives, so that a fact of all answers is shown case by case.
pub data Case (c : Command) (f f' : ℕ) (l' : Option (List ℕ)) (read : List ℕ) : Answer → Type 0 where
  text : {t : List ℕ} → length read ≤ MOST_SOURCE → f' ≡ f → IsAtEnd l' → Case c f f' l' read (Text t)
  trace : {t : List ℕ} {r : Record Label} → length read ≤ MOST_SOURCE → f' ≡ f → IsAtEnd l' → Case c f f' l' read (Trace t r)
  refused :
      {place : ℕ} {cause : Cause} {line : List ℕ} → length read ≤ MOST_SOURCE → f' ≡ f → IsAtEnd l' → line ≡ line_of (Refused place cause) →
      Case c f f' l' read (Line (Refused place cause) line)
  too_much :
      {limit components : ℕ} {line : List ℕ} → length read ≤ MOST_SOURCE → f' ≡ f → IsAtEnd l' → line ≡ line_of (TooMuch limit components) →
      Case c f f' l' read (Line (TooMuch limit components) line)
  fault : length read ≤ MOST_SOURCE → Rose f f' → Case c f f' l' read (Refusal ReadFault)
  long : MOST_SOURCE < length read → f' ≡ f → Case c f f' l' read (Refusal TooLong)
  memory : length read ≤ MOST_SOURCE → f' ≡ f → Case c f f' l' read (Refusal NoMemory)

-- each answer that there is after the source was read is one of them
pub case_of : (c : Command) (a : Answer) (f f' : ℕ) (l' : Option (List ℕ)) (read : List ℕ) → IsAfter c a f f' l' read → Case c f f' l' read a
case_of c (Text t) f f' l' read i = text i.0 i.1 i.2
case_of c (Trace t r) f f' l' read i = trace i.0 i.1 i.2
case_of c (Refusal Done) f f' l' read i = absurd i
case_of c (Refusal BadWords) f f' l' read i = absurd i
case_of c (Refusal Unbuilt) f f' l' read i = absurd i
case_of c (Refusal (TooMuch limit components)) f f' l' read i = absurd i
case_of c (Refusal TooLong) f f' l' read i = long i.0 i.1
case_of c (Refusal (Refused place cause)) f f' l' read i = absurd i
case_of c (Refusal ReadFault) f f' l' read i = fault i.0 i.1
case_of c (Refusal (WriteFault written)) f f' l' read i = absurd i
case_of c (Refusal NoMemory) f f' l' read i = memory i.0 i.1
case_of c (Line Done line) f f' l' read i = absurd i.3.0
case_of c (Line BadWords line) f f' l' read i = absurd i.3.0
case_of c (Line Unbuilt line) f f' l' read i = absurd i.3.0
case_of c (Line (TooMuch limit components) line) f f' l' read i = too_much i.0 i.1 i.2 i.3.1
case_of c (Line TooLong line) f f' l' read i = absurd i.3.0
case_of c (Line (Refused place cause) line) f f' l' read i = refused i.0 i.1 i.2 i.3.1
case_of c (Line ReadFault line) f f' l' read i = absurd i.3.0
case_of c (Line (WriteFault written) line) f f' l' read i = absurd i.3.0
case_of c (Line NoMemory line) f f' l' read i = absurd i.3.0

-- a command that reads has an answer to what the source gave
pub read_answer : (w : Option Command) (a : Answer) (f f' : ℕ) (l l' : Option (List ℕ)) → ReadsText w → IsAnswer w a f f' l l' →
    (c : Command) × IsReadAnswer c a f f' l l'
read_answer None a f f' l l' h i = absurd h
read_answer (Some (Solo limit pick)) a f f' l l' h i = (Solo limit pick, i)
read_answer (Some (Net shape limit nodes workers pick)) a f f' l l' h i = (Net shape limit nodes workers pick, i)
read_answer (Some Print) a f f' l l' h i = (Print, i)
read_answer (Some Other) a f f' l l' h i = absurd h

-- the answer of a command that reads, or the refusal of words that are none, or of a command that isn't built
pub data Answered (w : Option Command) (f f' : ℕ) (l l' : Option (List ℕ)) (a : Answer) : Type 0 where
  read : (c : Command) → ReadsText w → IsReadAnswer c a f f' l l' → Answered w f f' l l' a
  none : w ≡ None → a ≡ Refusal BadWords → f' ≡ f → Answered w f f' l l' a
  other : w ≡ Some Other → a ≡ Refusal Unbuilt → f' ≡ f → Answered w f f' l l' a

-- each answer is one of these
pub answered : (w : Option Command) (a : Answer) (f f' : ℕ) (l l' : Option (List ℕ)) → IsAnswer w a f f' l l' → Answered w f f' l l' a
answered None a f f' l l' i = none refl i.0 i.1
answered (Some (Solo limit pick)) a f f' l l' i = read (Solo limit pick) tt i
answered (Some (Net shape limit nodes workers pick)) a f f' l l' i = read (Net shape limit nodes workers pick) tt i
answered (Some Print) a f f' l l' i = read Print tt i
answered (Some Other) a f f' l l' i = other refl i.0 i.1

-- of the source: its counts, the bytes left now and the bytes that were read; of the sink: its counts and what it told, before and after
module _ (c : Command) (f f' : ℕ) (l' : Option (List ℕ)) (read : List ℕ) (k k' : ℕ) (t t' : Option (List ℕ)) where
  -- too long is only a source of which more was read
  pub long_after : (a : Answer) (s : Status) → Ends (whole_of a) (due_of a) s k k' t t' → Case c f f' l' read a → s ≡ TooLong →
      MOST_SOURCE < length read
  long_after a s (inl e) (text m same end) h = cc
  long_after a s (inl e) (trace m same end) h = cc
  long_after a s (inr e) (text m same end) h = cc
  long_after a s (inr e) (trace m same end) h = cc
  long_after a s (inl e) (refused m same end line) h = cc
  long_after a s (inr e) (refused m same end line) h = cc
  long_after a s (inl e) (too_much m same end line) h = cc
  long_after a s (inr e) (too_much m same end line) h = cc
  long_after a s (inl e) (fault m rose) h = cc
  long_after a s (inr e) (fault m rose) h = cc
  long_after a s e (long m same) h = m
  long_after a s (inl e) (memory m same) h = cc
  long_after a s (inr e) (memory m same) h = cc

  -- and such a source is too long
  pub too_long_after : (a : Answer) (s : Status) → Ends (whole_of a) (due_of a) s k k' t t' → Case c f f' l' read a → MOST_SOURCE < length read →
      EndsAs TooLong s k k' t t'
  too_long_after a s e (text m same end) h = absurd (omega (arith, m))
  too_long_after a s e (trace m same end) h = absurd (omega (arith, m))
  too_long_after a s e (refused m same end line) h = absurd (omega (arith, m))
  too_long_after a s e (too_much m same end line) h = absurd (omega (arith, m))
  too_long_after a s e (fault m rose) h = absurd (omega (arith, m))
  too_long_after a s e (long m same) h = e
  too_long_after a s e (memory m same) h = absurd (omega (arith, m))

  -- a status of a whole text comes only where the source was read to its end
  pub end_after : (a : Answer) (s : Status) → Ends (whole_of a) (due_of a) s k k' t t' → Case c f f' l' read a → IsOfWholeText s → IsAtEnd l'
  end_after a s e (text m same end) h = end
  end_after a s e (trace m same end) h = end
  end_after a s e (refused m same end line) h = end
  end_after a s e (too_much m same end line) h = end
  end_after a s (inl e) (fault m rose) h = absurd (subst IsOfWholeText e.0 h)
  end_after a s (inr e) (fault m rose) h = absurd (subst IsOfWholeText e.1 h)
  end_after a s (inl e) (long m same) h = absurd (subst IsOfWholeText e.0 h)
  end_after a s (inr e) (long m same) h = absurd (subst IsOfWholeText e.1 h)
  end_after a s (inl e) (memory m same) h = absurd (subst IsOfWholeText e.0 h)
  end_after a s (inr e) (memory m same) h = absurd (subst IsOfWholeText e.1 h)

  -- the source's count is as it was, or the call ends as a fault of the source
  pub sound_after : (a : Answer) (s : Status) → Ends (whole_of a) (due_of a) s k k' t t' → Case c f f' l' read a →
      (f' ≡ f) ⊎ EndsAs ReadFault s k k' t t'
  sound_after a s e (text m same end) = inl same
  sound_after a s e (trace m same end) = inl same
  sound_after a s e (refused m same end line) = inl same
  sound_after a s e (too_much m same end line) = inl same
  sound_after a s e (fault m rose) = inr e
  sound_after a s e (long m same) = inl same
  sound_after a s e (memory m same) = inl same

  -- a read fault comes only where the source's count rose
  pub fault_after : (a : Answer) (s : Status) → Ends (whole_of a) (due_of a) s k k' t t' → Case c f f' l' read a → s ≡ ReadFault → Rose f f'
  fault_after a s (inl e) (text m same end) h = cc
  fault_after a s (inl e) (trace m same end) h = cc
  fault_after a s (inr e) (text m same end) h = cc
  fault_after a s (inr e) (trace m same end) h = cc
  fault_after a s (inl e) (refused m same end line) h = cc
  fault_after a s (inr e) (refused m same end line) h = cc
  fault_after a s (inl e) (too_much m same end line) h = cc
  fault_after a s (inr e) (too_much m same end line) h = cc
  fault_after a s e (fault m rose) h = rose
  fault_after a s (inl e) (long m same) h = cc
  fault_after a s (inr e) (long m same) h = cc
  fault_after a s (inl e) (memory m same) h = cc
  fault_after a s (inr e) (memory m same) h = cc

  -- want of memory, whose line was due
  pub no_memory_after : (a : Answer) (s : Status) → Ends (whole_of a) (due_of a) s k k' t t' → Case c f f' l' read a → s ≡ NoMemory →
      EndsAs NoMemory s k k' t t'
  no_memory_after a s (inl e) (text m same end) h = cc
  no_memory_after a s (inl e) (trace m same end) h = cc
  no_memory_after a s (inr e) (text m same end) h = cc
  no_memory_after a s (inr e) (trace m same end) h = cc
  no_memory_after a s (inl e) (refused m same end line) h = cc
  no_memory_after a s (inr e) (refused m same end line) h = cc
  no_memory_after a s (inl e) (too_much m same end line) h = cc
  no_memory_after a s (inr e) (too_much m same end line) h = cc
  no_memory_after a s (inl e) (fault m rose) h = cc
  no_memory_after a s (inr e) (fault m rose) h = cc
  no_memory_after a s (inl e) (long m same) h = cc
  no_memory_after a s (inr e) (long m same) h = cc
  no_memory_after a s e (memory m same) h = e

  -- without faults the status is one of a text
  pub text_after : (a : Answer) (s : Status) → Ends (whole_of a) (due_of a) s k k' t t' → Case c f f' l' read a → ¬ (Rose f f') → ¬ (Rose k k') →
      length read ≤ MOST_SOURCE → IsTextStatus s
  text_after a s (inr e) i source sink h = absurd (sink e.2)
  text_after a s (inl e) (text m same end) source sink h = subst IsTextStatus (sym e.0) tt
  text_after a s (inl e) (trace m same end) source sink h = subst IsTextStatus (sym e.0) tt
  text_after a s (inl e) (refused m same end line) source sink h = subst IsTextStatus (sym e.0) tt
  text_after a s (inl e) (too_much m same end line) source sink h = subst IsTextStatus (sym e.0) tt
  text_after a s (inl e) (fault m rose) source sink h = absurd (source rose)
  text_after a s (inl e) (long m same) source sink h = absurd (omega (arith, m))
  text_after a s (inl e) (memory m same) source sink h = subst IsTextStatus (sym e.0) tt

  -- the line of a refusal was written whole
  pub line_after : (a : Answer) (s : Status) → Ends (whole_of a) (due_of a) s k k' t t' → Case c f f' l' read a → IsRefusal s →
      Appends t t' (line_of s)
  line_after a s (inl e) (text m same end) h = absurd (subst IsRefusal e.0 h)
  line_after a s (inl e) (trace m same end) h = absurd (subst IsRefusal e.0 h)
  line_after a s (inr e) (text m same end) h = absurd (subst IsRefusal e.1 h)
  line_after a s (inr e) (trace m same end) h = absurd (subst IsRefusal e.1 h)
  line_after a s (inl e) (refused m same end line) h = subst (λ due. Appends t t' due) (line ∙ sym (ap line_of e.0)) e.2
  line_after a s (inr e) (refused m same end line) h = absurd (subst IsRefusal e.1 h)
  line_after a s (inl e) (too_much m same end line) h = subst (λ due. Appends t t' due) (line ∙ sym (ap line_of e.0)) e.2
  line_after a s (inr e) (too_much m same end line) h = absurd (subst IsRefusal e.1 h)
  line_after a s (inl e) (fault m rose) h = subst (λ due. Appends t t' due) (sym (ap line_of e.0)) e.2
  line_after a s (inr e) (fault m rose) h = absurd (subst IsRefusal e.1 h)
  line_after a s (inl e) (long m same) h = subst (λ due. Appends t t' due) (sym (ap line_of e.0)) e.2
  line_after a s (inr e) (long m same) h = absurd (subst IsRefusal e.1 h)
  line_after a s (inl e) (memory m same) h = absurd (subst IsRefusal e.0 h)
  line_after a s (inr e) (memory m same) h = absurd (subst IsRefusal e.1 h)

-- ---- write faults
-- a fact of written bytes holds at each status that is no write fault
not_cut : (whole : Status) (P : ℕ → Type 0) → ((written : ℕ) → whole ≡ WriteFault written → ⊥) → IfWriteFault whole P
not_cut Done P never = tt
not_cut BadWords P never = tt
not_cut Unbuilt P never = tt
not_cut (TooMuch limit components) P never = tt
not_cut TooLong P never = tt
not_cut (Refused place cause) P never = tt
not_cut ReadFault P never = tt
not_cut (WriteFault written) P never = absurd (never written refl)
not_cut NoMemory P never = tt

-- and at one that was cut short, where it holds of the bytes written
cut : (whole : Status) (written : ℕ) (P : ℕ → Type 0) → P written → IfWriteFault (cut_short whole written) P
cut Done written P p = p
cut BadWords written P p = p
cut Unbuilt written P p = p
cut (TooMuch limit components) written P p = p
cut TooLong written P p = p
cut (Refused place cause) written P p = p
cut ReadFault written P p = p
cut (WriteFault most) written P p = p
cut NoMemory written P p = tt

-- a status that was cut short
is_cut : (whole : Status) (written : ℕ) → IsCut (cut_short whole written)
is_cut Done written = tt
is_cut BadWords written = tt
is_cut Unbuilt written = tt
is_cut (TooMuch limit components) written = tt
is_cut TooLong written = tt
is_cut (Refused place cause) written = tt
is_cut ReadFault written = tt
is_cut (WriteFault most) written = tt
is_cut NoMemory written = tt

-- the sink's count is as it was, but for a status under which it may have failed
pub sink_sound : (whole : Status) (due : List ℕ) (s : Status) (k k' : ℕ) (t t' : Option (List ℕ)) → Ends whole due s k k' t t' → IsCut s ⊎ (k' ≡ k)
sink_sound whole due s k k' t t' (inl e) = inr e.1
sink_sound whole due s k k' t t' (inr e) = inl (subst IsCut (sym e.1) (is_cut whole e.0))

-- no answer is a write fault
never_cut_after : (c : Command) (a : Answer) (f f' : ℕ) (l' : Option (List ℕ)) (bytes : List ℕ) → Case c f f' l' bytes a → (written : ℕ) →
    whole_of a ≡ WriteFault written → ⊥
never_cut_after c a f f' l' bytes (text m same end) written h = cc
never_cut_after c a f f' l' bytes (trace m same end) written h = cc
never_cut_after c a f f' l' bytes (refused m same end line) written h = cc
never_cut_after c a f f' l' bytes (too_much m same end line) written h = cc
never_cut_after c a f f' l' bytes (fault m rose) written h = cc
never_cut_after c a f f' l' bytes (long m same) written h = cc
never_cut_after c a f f' l' bytes (memory m same) written h = cc

-- nor is one to words that aren't read
never_cut : (w : Option Command) (a : Answer) (f f' : ℕ) (l l' : Option (List ℕ)) → Answered w f f' l l' a → (written : ℕ) →
    whole_of a ≡ WriteFault written → ⊥
never_cut w a f f' l l' (read c h i) written e = never_cut_after c a f f' l' i.0 (case_of c a f f' l' i.0 i.2) written e
never_cut w a f f' l l' (none h i same) written e = let e' : BadWords ≡ WriteFault written = subst (λ b. whole_of b ≡ WriteFault written) i e in cc
never_cut w a f f' l l' (other h i same) written e = let e' : Unbuilt ≡ WriteFault written = subst (λ b. whole_of b ≡ WriteFault written) i e in cc

-- ---- the clauses
module _ (w : Option Command) (a : Answer) (s : Status) (f f' : ℕ) (l l' : Option (List ℕ)) (k k' : ℕ) (t t' : Option (List ℕ))
    (i : IsAnswer w a f f' l l') (e : Ends (whole_of a) (due_of a) s k k' t t') where
  -- a fact of the answer of a command that reads, from the facts of its cases
  of_read : (P : Type 0) → ((c : Command) (bytes : List ℕ) → Case c f f' l' bytes a → P) → ReadsText w → P
  of_read P each reads =
      let r = read_answer w a f f' l l' reads i in each r.0 r.1.0 (case_of r.0 a f f' l' r.1.0 r.1.2)

  -- so many bytes of what was due were written before the sink failed
  abbrev CutAt : Option (Record Label) → ℕ → Type 0
  CutAt ran written =
      Rose k k' × (answer : Answer) × IsAnswer w answer f f' l l' × (ran ≡ ran_of answer) × (written < length (due_of answer))
      × Appends t t' (take written (due_of answer))

  -- a write fault tells what was due, and how much of it was written
  pub write_fault : (ran : Option (Record Label)) → ran ≡ ran_of a → IfWriteFault s (CutAt ran)
  write_fault ran kept = elim e [
    | inl e ↦ subst (λ s. IfWriteFault s (CutAt ran)) (sym e.0)
        (not_cut (whole_of a) (CutAt ran) (never_cut w a f f' l l' (answered w a f f' l l' i)))
    | inr e ↦ subst (λ s. IfWriteFault s (CutAt ran)) (sym e.1) (cut (whole_of a) e.0 (CutAt ran) (e.2, a, i, kept, e.3, e.4))
  ]

  -- too long exactly where more bytes were read than a source may have
  pub too_long : ReadsText w → HasRead l l' (λ read. (s ≡ TooLong → MOST_SOURCE < length read) × (MOST_SOURCE < length read →
      EndsAs TooLong s k k' t t'))
  too_long reads =
      let r = read_answer w a f f' l l' reads i in
      let at = case_of r.0 a f f' l' r.1.0 r.1.2 in
      (r.1.0, r.1.1, (long_after r.0 f f' l' r.1.0 k k' t t' a s e at, too_long_after r.0 f f' l' r.1.0 k k' t t' a s e at))

  -- with no fault a source of at most the allowed bytes gives the status of a text
  pub complete : ReadsText w → ¬ (Rose f f') → ¬ (Rose k k') → HasRead l l' (λ read. length read ≤ MOST_SOURCE → IsTextStatus s)
  complete reads source sink =
      let r = read_answer w a f f' l l' reads i in
      let at = case_of r.0 a f f' l' r.1.0 r.1.2 in (r.1.0, r.1.1, text_after r.0 f f' l' r.1.0 k k' t t' a s e at source sink)

  -- a status that no refused words have is that of a command that reads
  reads_where : (P : Status → Type 0) → (P BadWords → ⊥) → (P Unbuilt → ⊥) → ((written : ℕ) → P (WriteFault written) → ⊥) → P s → ReadsText w
  reads_where P bad unbuilt failed h = elim (answered w a f f' l l' i) [
    | read c reads j ↦ reads
    | none n j same ↦ elim (subst (λ b. Ends (whole_of b) (due_of b) s k k' t t') j e) [
      | inl e ↦ absurd (bad (subst P e.0 h))
      | inr e ↦ absurd (failed e.0 (subst P e.1 h))
    ]
    | other n j same ↦ elim (subst (λ b. Ends (whole_of b) (due_of b) s k k' t t') j e) [
      | inl e ↦ absurd (unbuilt (subst P e.0 h))
      | inr e ↦ absurd (failed e.0 (subst P e.1 h))
    ]
  ]

  -- the status of a whole text is that of a command that read its source to the end
  pub whole_text : IsOfWholeText s → ReadsText w × IsAtEnd l'
  whole_text h =
      let reads = reads_where IsOfWholeText (λ h. h) (λ h. h) (λ n h. h) h in
      (reads, of_read (IsAtEnd l') (λ c bytes at. end_after c f f' l' bytes k k' t t' a s e at h) reads)

  -- want of memory comes only where the source is read, and its line may be cut short
  pub no_memory : s ≡ NoMemory → ReadsText w × EndsAs NoMemory s k k' t t'
  no_memory h =
      let reads = reads_where (λ s. s ≡ NoMemory) (λ h. cc) (λ h. cc) (λ n h. cc) h in
      (reads, of_read (EndsAs NoMemory s k k' t t') (λ c bytes at. no_memory_after c f f' l' bytes k k' t t' a s e at h) reads)

  -- a read fault comes only where the source's count rose
  pub read_fault : s ≡ ReadFault → ReadsText w × Rose f f'
  read_fault h =
      let reads = reads_where (λ s. s ≡ ReadFault) (λ h. cc) (λ h. cc) (λ n h. cc) h in
      (reads, of_read (Rose f f') (λ c bytes at. fault_after c f f' l' bytes k k' t t' a s e at h) reads)

  -- only what is read is too long
  pub too_long_only : s ≡ TooLong → ReadsText w
  too_long_only h = reads_where (λ s. s ≡ TooLong) (λ h. cc) (λ h. cc) (λ n h. cc) h

  -- the source's count is as it was, or the call ends as a fault of the source
  pub source_sound : (f' ≡ f) ⊎ (ReadsText w × EndsAs ReadFault s k k' t t')
  source_sound = elim (answered w a f f' l l' i) [
    | read c reads j ↦ elim (sound_after c f f' l' j.0 k k' t t' a s e (case_of c a f f' l' j.0 j.2)) [
      | inl same ↦ inl same
      | inr ended ↦ inr (reads, ended)
    ]
    | none n j same ↦ inl same
    | other n j same ↦ inl same
  ]

  -- the line of a refusal was written whole
  pub refusal_line : IsRefusal s → Appends t t' (line_of s)
  refusal_line h = elim (answered w a f f' l l' i) [
    | read c reads j ↦ line_after c f f' l' j.0 k k' t t' a s e (case_of c a f f' l' j.0 j.2) h
    | none n j same ↦ elim (subst (λ b. Ends (whole_of b) (due_of b) s k k' t t') j e) [
      | inl e ↦ subst (λ due. Appends t t' due) (sym (ap line_of e.0)) e.2
      | inr e ↦ absurd (subst IsRefusal e.1 h)
    ]
    | other n j same ↦ elim (subst (λ b. Ends (whole_of b) (due_of b) s k k' t t') j e) [
      | inl e ↦ subst (λ due. Appends t t' due) (sym (ap line_of e.0)) e.2
      | inr e ↦ absurd (subst IsRefusal e.1 h)
    ]
  ]
