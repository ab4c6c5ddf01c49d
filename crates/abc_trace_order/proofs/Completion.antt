-- What was read goes on to a whole trace.
use Rattle.std.proofs.Common.{◌≡◌, ℕ, zero, suc, ◌+◌, ◌-◌, ◌≤◌, ◌<◌, ◌^◌, false, List, [], ◌∷◌, ◌++◌, length, codes, None, All, inl, inr, refl, sym, ap, ◌∙◌, subst, append_assoc, length-append, arith}
use Rattle.std.specs.Prelude.{◌⊎◌}
use Rattle.std.proofs.lemmas.List.Elements.{All-nil}
use Rattle.abc_value.specs.declared.value.Value.{Value}
use Rattle.abc_pred.specs.declared.names.Name.{Name}
use Rattle.abc_text.specs.Words.{keyword_at}
use Rattle.abc_text.specs.Meanings.{has_word, with_word, number_in, AreDifferent}
use Rattle.abc_checks.specs.declared.limits.TheConstants.{MOST_COMPONENTS}
use Rattle.abc_trace.specs.declared.trace.Head.TheVariants.{Solo}
use Rattle.abc_trace.specs.declared.trace.EnvLine.{EnvLine}
use Rattle.abc_trace.specs.Lines.{ended}
use Rattle.abc_trace.specs.Texts.{trace_text}
use Rattle.abc_trace.specs.WellFormed.{IsName, IsEntry, FinalIsWellFormed, words_of, nodes_of}
use Rattle.abc_trace_lines.specs.Plain as plain
use Rattle.abc_trace_preds.specs.Reading.{PredsStay}
use Rattle.abc_trace_order.specs.declared.reading.Reading.{Reading}
use Rattle.abc_trace_order.specs.Lines.{last_line, front_text}
use Rattle.abc_trace_order.specs.Reading.{trace_of, IsReading, GrowsBy, EndsBy, IsNumberedEnv}
use Rattle.abc_trace_order.specs.Texts.{IsTraceText, BeginsTrace}
use Rattle.abc_trace_order.proofs.WordLists.{word_given, below_given}
use Rattle.abc_trace_order.proofs.Growth.{none_of, EnvComes, env_grows, NodeComes, node_grows, first_reading, last_ends}

-- A trace begins with a front of what it begins with.
pub begins_front : (a b : List ℕ) → BeginsTrace (a ++ b) → BeginsTrace a
begins_front a b h = (b ++ h.0, subst IsTraceText (append_assoc a b h.0) h.1)

-- and with what something that it begins with grew from
begins_from : (r : Reading) (line : List ℕ) (r' : Reading) → GrowsBy r line r' → BeginsTrace (front_text (trace_of r')) → BeginsTrace (front_text (trace_of r))
begins_from r line r' grows h = begins_front (front_text (trace_of r)) (ended line) (subst BeginsTrace grows.text h)

-- With all components and nodes the last line is missing.
begins_last : (r : Reading) → IsReading r → 1 ≤ length r.finals → length r.handled ≡ nodes_of r.head → BeginsTrace (front_text (trace_of r))
begins_last r reading some all =
    let ends = last_ends r reading some all in
    (ended (plain.line_text (last_line (trace_of r))), (trace_of r, ends.formed, ends.text))

-- With all components some nodes are.
begins_nodes :
    (k : ℕ) (r : Reading) → IsReading r → 1 ≤ length r.finals → length r.handled + k ≡ nodes_of r.head → BeginsTrace (front_text (trace_of r))
begins_nodes zero r reading some all = begins_last r reading some (omega (arith, all))
begins_nodes (suc k) r reading some all =
    let node = length r.handled in
    let grown : List ℕ = r.handled ++ 0 ∷ [] in
    let grows = node_grows r reading node 0 grown (record { some = some; next = refl; room = omega (arith, all) }) (omega arith) refl in
    let r' : Reading = record { head = r.head; lines = r.lines; finals = r.finals; handled = grown; names = r.names; components = r.components } in
    begins_from r (plain.line_text (plain.Node node 0)) r' grows
    (begins_nodes k r' grows.reading some (omega (arith, all, length-append {A = ℕ} r.handled (0 ∷ []))))

-- the name of a component
a_name : IsName (codes "a")
unfolding keyword_at
a_name = ((refl, λ k d lt. absurd (omega (arith, lt)), omega arith), refl)

-- a component with this name and no attribute
a_line : (known : List (List ℕ)) → (f : EnvLine) × IsNumberedEnv known (codes "a") [] (with_word known (codes "a")) f
a_line known =
    let known' = with_word known (codes "a") in
    let n = number_in known (codes "a") in
    let word = word_given known (codes "a") n known' refl refl in
    let low = below_given known (codes "a") n known' refl refl in
    let name : Name = record { 0 = n } in (
      record { component = name; entries = [] },
      record {
        formed = record { component = (low, subst IsName (sym word) a_name); entries = All-nil (IsEntry known'); once = tt };
        same = ap (λ (w : List ℕ). plain.Env w []) word;
        met = ap (with_word known) (sym word);
      },
    )

-- With none a component is.
begins_envs : PredsStay → (r : Reading) → IsReading r → length r.finals ≡ 0 → BeginsTrace (front_text (trace_of r))
begins_envs stay r reading none =
    let b = reading.begun in
    let before : length r.handled ≡ 0 = by b.order in
    let line = a_line r.names in
    let names = with_word r.names (codes "a") in
    let finals : List EnvLine = r.finals ++ line.0 ∷ [] in
    let components : List (List ℕ) = r.components ++ codes "a" ∷ [] in
    let no_components : r.components ≡ [] = reading.components ∙ ap (words_of r.names (λ f. f.component)) (none_of r.finals none) in
    let grows = env_grows stay r reading (codes "a") [] names line.0 finals components
    (record { before = before; new = ap (λ (ws : List (List ℕ)). has_word ws (codes "a")) no_components; room = omega (arith, none) })
    line.1 refl refl in
    let r' : Reading = record { head = r.head; lines = r.lines; finals = finals; handled = r.handled; names = names; components = components } in
    let some : 1 ≤ length finals = omega (arith, length-append {A = EnvLine} r.finals (line.0 ∷ [])) in
    begins_from r (plain.line_text (plain.Env (codes "a") [])) r' grows
    (begins_nodes (nodes_of r.head) r' grows.reading some (omega (arith, before)))
  where
    by : (length r.handled ≡ 0) ⊎ (1 ≤ length r.finals) → length r.handled ≡ 0
    by (inl e) = e
    by (inr some) = absurd (omega (arith, some, none))

-- So what was read begins a trace.
pub reading_begins : PredsStay → (r : Reading) → IsReading r → BeginsTrace (front_text (trace_of r))
reading_begins stay r reading = by r.finals refl
  where
    by : (fs : List EnvLine) → r.finals ≡ fs → BeginsTrace (front_text (trace_of r))
    by [] e = begins_envs stay r reading (ap (length {A = EnvLine}) e)
    by (f ∷ fs) e =
        let few = reading.begun.nodes in
        let some : 1 ≤ length r.finals = omega (arith, ap (length {A = EnvLine}) e) in
        missing (nodes_of r.head) (length r.handled) few (λ k all. begins_nodes k r reading some all)
      where
        missing : {P : Type 0} → (n m : ℕ) → m ≤ n → ((k : ℕ) → m + k ≡ n → P) → P
        missing n m h f = f (n - m) (omega (arith, h))

-- and so does nothing.
pub nothing_begins : PredsStay → BeginsTrace []
nothing_begins stay =
    let r : Reading = record { head = Solo 1 0; lines = []; finals = []; handled = []; names = []; components = [] } in
    let reading : IsReading r = first_reading (Solo 1 0) (omega arith, omega arith, omega arith) in
    begins_front [] (front_text (trace_of r)) (reading_begins stay r reading)
