-- What is printed for `solo` tells the run that limit and pick fix.
use Rattle.std.proofs.Common.{◌≡◌, ℕ, ◌≤◌, ◌⊎◌, List, length, map, Option, Some, inl, inr, subst}
use Rattle.std.specs.Io.KnownBytes.{Appends, IsAtEnd}
use Rattle.std.proofs.lemmas.List.{length-map}
use Rattle.abc_io.specs.Whole.{HasRead}
use Rattle.abc_term.specs.Standing.{definitions_of, system_of}
use Rattle.abc_term.specs.Systems.{IsSilent}
use Rattle.abc_steps.specs.Rows.{choice_of_row}
use Rattle.abc_steps.proofs.OneRun.{turns_end, turns_are_determined}
use Rattle.abc_moves.specs.declared.label.Label.{Label}
use Rattle.abc_net.specs.declared.record.Record.{Record}
use Rattle.abc_runner.specs.declared.command.Command.{Command}
use Rattle.abc_runner.specs.declared.command.Command.TheVariants.{Solo}
use Rattle.abc_runner.specs.declared.status.Status.{Status}
use Rattle.abc_runner.specs.declared.status.Status.TheVariants.{Done, BadWords, Unbuilt, TooMuch, TooLong, Refused, ReadFault, WriteFault, NoMemory}
use Rattle.abc_runner.specs.declared.answer.Answer.{Answer}
use Rattle.abc_runner.specs.declared.answer.Answer.TheVariants.{Text, Trace, Refusal, Line}
use Rattle.abc_runner.specs.Answers.{whole_of, due_of, IsOfText, IsAfter, IsAnswer}
use Rattle.abc_runner.specs.Outcomes.{cut_short}
use Rattle.abc_runner.specs.Laws.{TellsSoloRun, SoloTells, DoneTells}

-- a text that is the answer to `solo` of these bytes
tells_run : (limit pick : ℕ) (bytes text : List ℕ) → IsOfText (Solo limit pick) bytes (Text text) → TellsSoloRun limit pick bytes text
tells_run limit pick bytes text h =
    let p = h.1 in
    let solo = h.3.1 in
    let defs = definitions_of p.definitions in
    let rows = solo.rows in
    let ended = turns_end defs limit pick (system_of p) (map choice_of_row rows) solo.last solo.run.ruled in
    let many : length (map choice_of_row rows) ≡ length rows = length-map rows choice_of_row in
    record {
      tokens = h.0;
      program = p;
      accepted = h.2;
      small = h.3.0;
      rows = rows;
      last = solo.last;
      run = solo.run.told;
      ruled = solo.run.ruled;
      only = λ choices end other.
          turns_are_determined defs limit pick (system_of p) choices (map choice_of_row rows) end solo.last other solo.run.ruled;
      within = subst (λ (n : ℕ). n ≤ limit) many ended.0;
      ends = subst (λ (n : ℕ). (n ≡ limit) ⊎ IsSilent defs solo.last) many ended.1;
      trace = solo.written;
    }

pub solo_tells : SoloTells
solo_tells limit pick text faults faults' left left' i = (i.2.2, (i.0, i.1, tells_run limit pick i.0 text i.2.3))

-- ---- where the status is Done
-- no write fault
pub never_cut : (whole : Status) (written : ℕ) → Done ≡ cut_short whole written → ⊥
never_cut Done written e = cc
never_cut BadWords written e = cc
never_cut Unbuilt written e = cc
never_cut (TooMuch limit components) written e = cc
never_cut TooLong written e = cc
never_cut (Refused place cause) written e = cc
never_cut ReadFault written e = cc
never_cut (WriteFault other) written e = cc
never_cut NoMemory written e = cc

-- the answer is a text, or the trace of what ran
pub data IsText : Answer → Type 0 where
  text : (t : List ℕ) → IsText (Text t)
  trace : (t : List ℕ) (r : Record Label) → IsText (Trace t r)

pub text_of_done : (c : Command) (a : Answer) (f f' : ℕ) (left : Option (List ℕ)) (read : List ℕ) → IsAfter c a f f' left read →
    Done ≡ whole_of a → IsText a
text_of_done c (Text t) f f' left read i e = text t
text_of_done c (Trace t r) f f' left read i e = trace t r
text_of_done c (Refusal Done) f f' left read i e = absurd i
text_of_done c (Refusal BadWords) f f' left read i e = absurd i
text_of_done c (Refusal Unbuilt) f f' left read i e = absurd i
text_of_done c (Refusal (TooMuch limit components)) f f' left read i e = absurd i
text_of_done c (Refusal TooLong) f f' left read i e = cc
text_of_done c (Refusal (Refused place cause)) f f' left read i e = absurd i
text_of_done c (Refusal ReadFault) f f' left read i e = cc
text_of_done c (Refusal (WriteFault written)) f f' left read i e = absurd i
text_of_done c (Refusal NoMemory) f f' left read i e = cc
text_of_done c (Line Done line) f f' left read i e = absurd i.3.0
text_of_done c (Line BadWords line) f f' left read i e = absurd i.3.0
text_of_done c (Line Unbuilt line) f f' left read i e = absurd i.3.0
text_of_done c (Line (TooMuch limit components) line) f f' left read i e = cc
text_of_done c (Line TooLong line) f f' left read i e = absurd i.3.0
text_of_done c (Line (Refused place cause) line) f f' left read i e = cc
text_of_done c (Line ReadFault line) f f' left read i e = absurd i.3.0
text_of_done c (Line (WriteFault written) line) f f' left read i e = absurd i.3.0
text_of_done c (Line NoMemory line) f f' left read i e = absurd i.3.0

done_with : (limit pick : ℕ) (a : Answer) (f f' : ℕ) (left left' told told' : Option (List ℕ)) → IsText a →
    IsAnswer (Some (Solo limit pick)) a f f' left left' → Appends told told' (due_of a) →
    IsAtEnd left' × HasRead left left' (λ bytes. (text : List ℕ) × Appends told told' text × TellsSoloRun limit pick bytes text)
done_with limit pick a f f' left left' told told' (text t) i w =
    let tells = solo_tells limit pick t f f' left left' i in (tells.0, (tells.1.0, tells.1.1, (t, w, tells.1.2)))
done_with limit pick a f f' left left' told told' (trace t r) i w = absurd i.2.3.3

pub done_tells : DoneTells
done_tells limit pick a f f' left left' k k' told told' i e =
    elim e [
      | inl e ↦ done_with limit pick a f f' left left' told told' (text_of_done (Solo limit pick) a f f' left' i.0 i.2 e.0) i e.2
      | inr e ↦ absurd (never_cut (whole_of a) e.0 e.1)
    ]
