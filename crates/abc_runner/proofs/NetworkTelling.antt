-- What a record that is handed over tells, and what is written where all is done.
use Rattle.std.proofs.Common.{◌≡◌, ◌∙◌, ◌⊎◌, ℕ, List, length, Option, Some, None, IfSome, inl, inr, sym, subst}
use Rattle.std.specs.Io.KnownBytes.{Appends}
use Rattle.abc_shape.specs.declared.shape.Shape.{Shape}
use Rattle.abc_term.specs.Standing.{definitions_of}
use Rattle.abc_term.specs.Systems.{IsSilent}
use Rattle.abc_moves.specs.declared.label.Label.{Label}
use Rattle.abc_net.specs.declared.record.Record.{Record}
use Rattle.abc_trace.specs.declared.trace.Head.TheVariants as head
use Rattle.abc_run_text.specs.TextOf.{text_of}
use Rattle.abc_record_text.specs.RecordTexts.{IsRecordText, handled_in}
use Rattle.abc_runner.specs.declared.command.Command.{Command}
use Rattle.abc_runner.specs.declared.command.Command.TheVariants.{Solo, Net, Print, Other}
use Rattle.abc_runner.specs.declared.status.Status.{Status}
use Rattle.abc_runner.specs.declared.status.Status.TheVariants.{Done, BadWords, Unbuilt}
use Rattle.abc_runner.specs.declared.answer.Answer.{Answer}
use Rattle.abc_runner.specs.declared.answer.Answer.TheVariants.{Text, Trace, Refusal, Line}
use Rattle.abc_runner.specs.Answers.{whole_of, due_of, ran_of, IsOfText, IsAnswer}
use Rattle.abc_runner.specs.Networks.{IsNetworkRun, HasRun, HandsOver, TellsNetworkRun, TellsNetwork}
use Rattle.abc_runner.specs.Outcomes.{Ends, IsAfterRun}
use Rattle.abc_runner.proofs.SoloTelling.{IsText, text, trace, text_of_done, never_cut}

-- ---- of a text
-- a trace with what ran is that of a program's run
has_run : (shape : Shape) (limit nodes workers pick : ℕ) (bytes text : List ℕ) (ran : Record Label)
    (h : IsOfText (Net shape limit nodes workers pick) bytes (Trace text ran)) → HasRun h.1 shape limit nodes pick bytes ran
has_run shape limit nodes workers pick bytes x ran h =
    record { tokens = h.0; accepted = h.2; small = h.3.0; run = h.3.1 }

-- and tells a run of the calculus
tells_run : (shape : Shape) (limit nodes workers pick : ℕ) (bytes text : List ℕ) (ran : Record Label) →
    IsOfText (Net shape limit nodes workers pick) bytes (Trace text ran) → TellsNetworkRun shape limit nodes pick bytes ran text
tells_run shape limit nodes workers pick bytes x ran h =
    let p = h.1 in
    let run : IsNetworkRun p shape limit nodes pick ran = h.3.1 in
    let told : IsRecordText p ran x = h.3.2 in
    let own = run.network in
    record {
      tokens = h.0;
      program = p;
      accepted = h.2;
      small = h.3.0;
      legal = run.legal;
      network = own;
      choices = told.choices;
      numbering = told.numbering;
      rows = told.rows;
      last = told.last;
      run = told.run;
      chosen = told.chosen;
      ends = subst (λ n. (length told.rows ≡ n) ⊎ IsSilent (definitions_of p.definitions) told.last) own.limit told.ends;
      trace = told.written
          ∙ (λ t. text_of p (head.Net (own.shape t) (own.limit t) (own.nodes t) (own.pick t)) told.rows told.last (handled_in ran));
    }

-- ---- what ran
-- the status after what ran is Done, or a write fault
after_run : (due : List ℕ) (s : Status) (k k' : ℕ) (t t' : Option (List ℕ)) → Ends Done due s k k' t t' → IsAfterRun s
after_run due s k k' t t' (inl e) = subst IsAfterRun (sym e.0) tt
after_run due s k k' t t' (inr e) = subst IsAfterRun (sym e.1) tt

-- what ran, with an answer, is what a network's run leaves
handed_with : (w : Option Command) (a : Answer) (s : Status) (f f' : ℕ) (l l' : Option (List ℕ)) (k k' : ℕ) (t t' : Option (List ℕ)) →
    IsAnswer w a f f' l l' → Ends (whole_of a) (due_of a) s k k' t t' → IfSome (ran_of a) (λ ran. HandsOver w s l l' ran)
handed_with w (Text x) s f f' l l' k k' t t' i e = tt
handed_with None (Trace x r) s f f' l l' k k' t t' i e = let never : Trace x r ≡ Refusal BadWords = i.0 in cc
handed_with (Some (Solo limit pick)) (Trace x r) s f f' l l' k k' t t' i e = absurd i.2.3.3
handed_with (Some (Net shape limit nodes workers pick)) (Trace x r) s f f' l l' k k' t t' i e =
    (after_run x s k k' t t' e, i.2.2, (i.0, i.1, (i.2.3.1, has_run shape limit nodes workers pick i.0 x r i.2.3)))
handed_with (Some Print) (Trace x r) s f f' l l' k k' t t' i e = absurd i.2.3.3
handed_with (Some Other) (Trace x r) s f f' l l' k k' t t' i e = let never : Trace x r ≡ Refusal Unbuilt = i.0 in cc
handed_with w (Refusal status) s f f' l l' k k' t t' i e = tt
handed_with w (Line status line) s f f' l l' k k' t t' i e = tt

-- so is a record that is kept of an answer
pub handed_over : (w : Option Command) (a : Answer) (s : Status) (f f' : ℕ) (l l' : Option (List ℕ)) (k k' : ℕ) (t t' : Option (List ℕ))
    (ran : Option (Record Label)) → IsAnswer w a f f' l l' → ran ≡ ran_of a → Ends (whole_of a) (due_of a) s k k' t t' →
    IfSome ran (λ ran. HandsOver w s l l' ran)
handed_over w a s f f' l l' k k' t t' ran i kept e =
    subst (λ (r : Option (Record Label)). IfSome r (λ ran. HandsOver w s l l' ran)) (sym kept) (handed_with w a s f f' l l' k k' t t' i e)

-- ---- where the status is Done
-- what is written of a network is a trace, of the record that is kept
network_with : (shape : Shape) (limit nodes workers pick : ℕ) (a : Answer) (f f' : ℕ) (l l' t t' : Option (List ℕ))
    (ran : Option (Record Label)) → IsText a → IsAnswer (Some (Net shape limit nodes workers pick)) a f f' l l' → ran ≡ ran_of a →
    Appends t t' (due_of a) → TellsNetwork (Some (Net shape limit nodes workers pick)) ran l l' t t'
network_with shape limit nodes workers pick a f f' l l' t t' ran (text x) i kept w = absurd i.2.3.3
network_with shape limit nodes workers pick a f f' l l' t t' ran (trace x r) i kept w =
    (i.2.2, (i.0, i.1, (r, kept, x, w, tells_run shape limit nodes workers pick i.0 x r i.2.3)))

pub network_done : (w : Option Command) (a : Answer) (s : Status) (f f' : ℕ) (l l' : Option (List ℕ)) (k k' : ℕ) (t t' : Option (List ℕ))
    (ran : Option (Record Label)) → IsAnswer w a f f' l l' → ran ≡ ran_of a → Ends (whole_of a) (due_of a) s k k' t t' → s ≡ Done →
    TellsNetwork w ran l l' t t'
network_done None a s f f' l l' k k' t t' ran i kept e done = tt
network_done (Some (Solo limit pick)) a s f f' l l' k k' t t' ran i kept e done = tt
network_done (Some (Net shape limit nodes workers pick)) a s f f' l l' k k' t t' ran i kept e done =
    elim e [
      | inl e ↦ network_with shape limit nodes workers pick a f f' l l' t t' ran
          (text_of_done (Net shape limit nodes workers pick) a f f' l' i.0 i.2 (sym done ∙ e.0)) i kept e.2
      | inr e ↦ absurd (never_cut (whole_of a) e.0 (sym done ∙ e.1))
    ]
network_done (Some Print) a s f f' l l' k k' t t' ran i kept e done = tt
network_done (Some Other) a s f f' l l' k k' t t' ran i kept e done = tt
