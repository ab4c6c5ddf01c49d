-- What a legal record of a program tells.
use Rattle.std.proofs.Common.{◌≡◌, ◌∙◌, ◌⊎◌, ℕ, zero, suc, ◌+◌, List, [], ◌∷◌, length, map, take, refl, ap, sym, subst, length-append, arith}
use Rattle.std.proofs.lemmas.List.{length-map}
use Rattle.abc_packet.specs.declared.choice.Choice.{Choice}
use Rattle.abc_packet.specs.declared.log.Entry.{Entry}
use Rattle.abc_shape.specs.declared.shape.Shape.{Shape}
use Rattle.abc_shape.specs.declared.shape.Shape.TheVariants.{Cluster, Ring, Tree}
use Rattle.abc_shape.specs.Plans.{IsLayout, layout_of}
use Rattle.abc_term.specs.declared.terms.Program.{Program}
use Rattle.abc_term.specs.Processes.{System}
use Rattle.abc_term.specs.Standing.{definitions_of, system_of}
use Rattle.abc_term.specs.Systems as systems
use Rattle.abc_moves.specs.declared.label.Label.{Label}
use Rattle.abc_live_body.specs.Running.{RunningComponent}
use Rattle.abc_live_body.specs.AbcMeaning.{abc}
use Rattle.abc_live_body.specs.AbcLaws.{AreStarted}
use Rattle.abc_live_body.specs.Systems.{choice_of}
use Rattle.abc_network.specs.Networks.{Rules}
use Rattle.abc_network.specs.Shapes.{cluster_rules, ring_rules, tree_rules}
use Rattle.abc_logs.specs.Choices.{AreChoices, AreNumbered}
use Rattle.abc_net.specs.declared.record.Record.{Record}
use Rattle.abc_net.specs.Records.{first_logs, agents_logs, logs_of}
use Rattle.abc_merge.proofs.Known.{count_is}
use Rattle.abc_schedule.specs.Legal.{IsLegal, KeepsRecords}
use Rattle.abc_schedule.specs.Schedules as net
use Rattle.abc_schedule.proofs.ByShape.{cluster-records, ring-records, tree-records}
use Rattle.abc_record_ends.specs.Ends.{EndsRight}
use Rattle.abc_record_ends.proofs.ByShape.{records-end-right}
use Rattle.abc_record_ends.proofs.Silence.{ends-the-program}
use Rattle.abc_record_text.specs.LegalRecords.{IsLegalBy, IsLegalFor}
use Rattle.abc_record_text.specs.RecordTexts.{CanRun}
use Rattle.abc_record_text.proofs.Handled.{length-entries_of}

-- Where the choices lead, it is by as many steps as the limit, or to where no component can speak.
abbrev pub EndsWell : Program → ℕ → List Choice → Type 0
EndsWell p limit choices =
    (U : System) → systems.Runs (definitions_of p.definitions) (system_of p) (map choice_of choices) U
    → (length choices ≡ limit) ⊎ systems.IsSilent (definitions_of p.definitions) U

-- There is a log for each actor, each agent took or turned the same numbers, and the choices that the logs tell are a run of the program.
pub record ToldBy (p : Program) (agents nodes limit : ℕ) (logs : List (List (Entry Label))) : Type 0 where
  pub count : ℕ
  pub many : length logs ≡ agents + nodes
  pub numbered : AreNumbered (take agents logs) count
  pub runs : (choices : List Choice) → length choices ≡ count → AreChoices (take agents logs) 1 choices
      → CanRun (definitions_of p.definitions) (system_of p) choices
  pub ends : (choices : List Choice) → length choices ≡ count → AreChoices (take agents logs) 1 choices → EndsWell p limit choices

-- by the rules of one network
told-by : {N : Type 0} (r : Rules Label N) (p : Program) (bodies : List RunningComponent) (logs : List (List (Entry Label)))
    → KeepsRecords abc r → EndsRight abc r → AreStarted p bodies → IsLegal abc r bodies logs
    → ToldBy p r.plan.agents r.plan.nodes r.limit logs
told-by r p bodies logs keeps right started l =
    let w = l.last in
    let all = ap (λ xs. length xs) l.are_logs in
    let both = length-append (map net.log_in w.agents) (map net.log_in w.nodes) in
    let agents = length-map w.agents net.log_in in
    let nodes = length-map w.nodes net.log_in in
    let many_agents = l.joined.many_agents in
    let many_nodes = l.joined.many_nodes in
    record {
      count = l.count;
      many = omega (arith, all, both, agents, nodes, many_agents, many_nodes);
      numbered = keeps.numbered bodies logs l;
      runs = λ choices same are.
          let told = ends-the-program r keeps right p bodies logs l choices started same are in (told.1, told.4);
      ends = λ choices same are U runs.
          let told = ends-the-program r keeps right p bodies logs l choices started same are in
          subst (λ v. (length choices ≡ r.limit) ⊎ systems.IsSilent (definitions_of p.definitions) v) (sym (told.5 U runs)) told.6;
    }

-- by those of a shape
told-in : (p : Program) (shape : Shape) (agents nodes limit pick : ℕ) (bodies : List RunningComponent) (logs : List (List (Entry Label)))
    → IsLayout (layout_of shape agents nodes) → AreStarted p bodies → IsLegalBy abc shape agents nodes limit pick bodies logs
    → ToldBy p agents nodes limit logs
told-in p Cluster agents nodes limit pick bodies logs layout started l =
    told-by (cluster_rules agents nodes limit pick) p bodies logs (cluster-records abc agents nodes limit pick layout)
    ((records-end-right abc).clusters agents nodes limit pick layout) started l
told-in p Ring agents nodes limit pick bodies logs layout started l =
    told-by (ring_rules agents nodes limit pick) p bodies logs (ring-records abc agents nodes limit pick layout)
    ((records-end-right abc).rings agents nodes limit pick layout) started l
told-in p Tree agents nodes limit pick bodies logs layout started l =
    told-by (tree_rules agents nodes limit pick) p bodies logs (tree-records abc agents nodes limit pick layout)
    ((records-end-right abc).trees agents nodes limit pick layout) started l

-- the first logs are those that are taken
take-first_logs : {L : Type 0} (agents : ℕ) (logs : List (List (Entry L))) → take agents logs ≡ first_logs agents logs
take-first_logs zero logs = refl
take-first_logs (suc agents) [] = refl
take-first_logs (suc agents) (log ∷ logs) = ap (λ xs. log ∷ xs) (take-first_logs agents logs)

-- The same of a record, by its own words.
pub record RecordTells (p : Program) (ran : Record Label) : Type 0 where
  pub count : ℕ
  pub many : length ran.logs ≡ ran.agents + ran.nodes
  pub numbered : AreNumbered (agents_logs ran) count
  pub runs : (choices : List Choice) → AreNumbered (agents_logs ran) (length choices) → AreChoices (agents_logs ran) 1 choices
      → CanRun (definitions_of p.definitions) (system_of p) choices
  pub ends : (choices : List Choice) → AreNumbered (agents_logs ran) (length choices) → AreChoices (agents_logs ran) 1 choices
      → EndsWell p ran.limit choices

pub record_tells : (p : Program) (ran : Record Label) → IsLegalFor p ran → RecordTells p ran
record_tells p ran legal =
    let logs = logs_of ran in
    let told = told-in p ran.shape ran.agents ran.nodes ran.limit ran.pick legal.bodies logs legal.plan legal.started legal.legal in
    let first = take-first_logs ran.agents logs in
    let numbered = subst (λ xs. AreNumbered xs told.count) first told.numbered in
    record {
      count = told.count;
      many = sym (length-entries_of ran.logs) ∙ told.many;
      numbered = numbered;
      runs = λ choices so are.
          told.runs choices
          (sym (count_is (agents_logs ran) (length choices) so) ∙ count_is (agents_logs ran) told.count numbered)
          (subst (λ xs. AreChoices xs 1 choices) (sym first) are);
      ends = λ choices so are.
          told.ends choices
          (sym (count_is (agents_logs ran) (length choices) so) ∙ count_is (agents_logs ran) told.count numbered)
          (subst (λ xs. AreChoices xs 1 choices) (sym first) are);
    }
