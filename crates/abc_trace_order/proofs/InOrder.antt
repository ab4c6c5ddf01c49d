-- The lines of a trace are good and in order.
use Rattle.std.proofs.Common.{◌≡◌, ℕ, suc, ◌+◌, ◌≤◌, ◌<◌, ◌^◌, false, List, [], ◌∷◌, ◌++◌, length, map, Option, Some, None, All, inl, inr, refl, sym, ap, ◌∙◌, subst, append_assoc, append-nil, length-append, arith}
use Rattle.std.specs.Prelude.{fold, ◌⊎◌}
use Rattle.std.proofs.lemmas.List.{length-map}
use Rattle.std.proofs.lemmas.List.Sums.{fold-append}
use Rattle.std.proofs.lemmas.List.Elements.{All-nil, All-cons, All-tail, All-append, All-map}
use Rattle.abc_value.specs.declared.value.Value.{Value}
use Rattle.abc_pred.specs.declared.names.Name.{Name}
use Rattle.abc_pred.specs.Standing.{pred_of}
use Rattle.abc_text.specs.Meanings.{AreNew, AreDifferent}
use Rattle.abc_checks.specs.declared.limits.TheConstants.{MOST_COMPONENTS}
use Rattle.abc_printed.specs.Parts.{word_at}
use Rattle.abc_trace.specs.declared.trace.Head.{Head}
use Rattle.abc_trace.specs.declared.trace.Head.TheVariants.{Solo, Net}
use Rattle.abc_trace.specs.declared.trace.Said.{Said}
use Rattle.abc_trace.specs.declared.trace.Line.{Line}
use Rattle.abc_trace.specs.declared.trace.EnvLine.{EnvLine}
use Rattle.abc_trace.specs.declared.trace.Trace.{Trace}
use Rattle.abc_trace.specs.Texts.{limit_of}
use Rattle.abc_trace.specs.WellFormed.{IsHearer, IsEntry, HeadIsWellFormed, TailIsWellFormed, LineIsWellFormed, FinalIsWellFormed, SaidIsWellFormed, IsWellFormed, words_of, nodes_of}
use Rattle.abc_trace_lines.specs.Plain as plain
use Rattle.abc_trace_lines.specs.Spelled as spelled
use Rattle.abc_trace_lines.specs.Spelled.{SaidIsSpelled, TailIsSpelled}
use Rattle.abc_trace_order.specs.Lines.{worded, said_of, tail_of, number_line, number_lines, env_line, node_lines, last_line, front_lines, trace_lines}
use Rattle.abc_trace_order.specs.Order.{Stage, Start, Within, Ended, SaysPred, IsGoodLine, MayBeSaid, Admits, after, stage_behind, AreInOrder}
use Rattle.abc_trace_order.specs.Reading.{IsBegun}

-- ---- lines one behind another
-- Good lines lead from one stage to another.
pub record Leads (s : Stage) (ls : List plain.Line) (s' : Stage) : Type 0 where
  pub good : All IsGoodLine ls
  pub order : AreInOrder s ls
  pub stage : stage_behind s ls ≡ s'

pub leads_none : (s : Stage) → Leads s [] s
leads_none s = record { good = All-nil IsGoodLine; order = tt; stage = refl }

pub leads_on :
    (s : Stage) (x : plain.Line) (ls : List plain.Line) (s' : Stage) → IsGoodLine x → Admits s x → Leads (after s x) ls s' →
    Leads s (x ∷ ls) s'
leads_on s x ls s' good admits h = record {
  good = All-cons IsGoodLine x ls good h.good;
  order = (admits, h.order);
  stage = h.stage;
}

order_append : (s : Stage) (xs ys : List plain.Line) → AreInOrder s xs → AreInOrder (stage_behind s xs) ys → AreInOrder s (xs ++ ys)
order_append s [] ys h g = g
order_append s (x ∷ xs) ys h g = (h.0, order_append (after s x) xs ys h.1 g)

pub leads_append :
    (s s' s'' : Stage) (xs ys : List plain.Line) → Leads s xs s' → Leads s' ys s'' → Leads s (xs ++ ys) s''
leads_append s s' s'' xs ys h g = record {
  good = All-append IsGoodLine xs ys h.good g.good;
  order = order_append s xs ys h.order (subst (λ (u : Stage). AreInOrder u ys) (sym h.stage) g.order);
  stage = fold-append after s xs ys ∙ ap (λ (u : Stage). stage_behind u ys) h.stage ∙ g.stage;
}

pub leads_to : (s s' s'' : Stage) (ls : List plain.Line) → s' ≡ s'' → Leads s ls s' → Leads s ls s''
leads_to s s' s'' ls e h = record { good = h.good; order = h.order; stage = h.stage ∙ e }

-- the line behind others may come where they lead
pub admitted :
    (s : Stage) (xs : List plain.Line) (y : plain.Line) (ys : List plain.Line) → AreInOrder s (xs ++ y ∷ ys) → Admits (stage_behind s xs) y
admitted s [] y ys h = h.0
admitted s (x ∷ xs) y ys h = admitted (after s x) xs y ys h.1

-- and is one of them
pub all_next : (P : plain.Line → Type 0) (xs : List plain.Line) (y : plain.Line) (ys : List plain.Line) → All P (xs ++ y ∷ ys) → P y
all_next P [] y ys h = h 0 y (omega arith)
all_next P (x ∷ xs) y ys h = all_next P xs y ys (All-tail P x (xs ++ y ∷ ys) h)

-- ---- one line
-- what holds of each item
pub each_is : {A : Type 0} (P Q : A → Type 0) → ((a : A) → P a → Q a) → (xs : List A) → All P xs → All Q xs
each_is P Q f xs h k d lt = f _ (h k d lt)

-- the words of items in words
pub worded_words : {B : Type 0} (words : List (List ℕ)) (items : List (Name × B)) → map (λ e. e.0) (worded words items) ≡ words_of words (λ e. e.0) items
worded_words words [] = refl
worded_words words (e ∷ items) = ap (λ ws. word_at words e.0 ∷ ws) (worded_words words items)

said_spelled : (words : List (List ℕ)) (s : Said) → SaidIsWellFormed words s → SaidIsSpelled (said_of words s)
said_spelled words s h = record {
  place = h.place;
  few = h.few;
  values = h.values;
  heard = All-map spelled.IsHearer (λ (e : Name × ℕ). (word_at words e.0, e.1)) s.heard
      (each_is (IsHearer words) (λ e. spelled.IsHearer (word_at words e.0, e.1)) (λ e g. (g.0.1, g.1)) s.heard h.heard);
  once = subst AreDifferent (sym (worded_words words s.heard)) h.once;
}

tail_spelled : (head : Head) (words : List (List ℕ)) (o : Option Said) → TailIsWellFormed head words o → TailIsSpelled (tail_of words o)
tail_spelled head words None h = tt
tail_spelled head words (Some s) h = said_spelled words s h

tail_says : (head : Head) (words : List (List ℕ)) (o : Option Said) → TailIsWellFormed head words o → SaysPred (tail_of words o)
tail_says head words None h = tt
tail_says head words (Some s) h = (words, pred_of s.pred, h.pred, refl)

tail_may : (head : Head) (words : List (List ℕ)) (o : Option Said) → TailIsWellFormed head words o → MayBeSaid head (tail_of words o)
tail_may head words None h = h
tail_may head words (Some s) h = tt

pub number_good :
    (head : Head) (words : List (List ℕ)) (n : ℕ) (l : Line) → LineIsWellFormed head words l → n < 2 ^ 64 → IsGoodLine (number_line words n l)
number_good head words n l h small = record {
  spelled = (small, h.sender.1, tail_spelled head words l.said h.said);
  pred = tail_says head words l.said h.said;
}

pub env_good : (words : List (List ℕ)) (f : EnvLine) → FinalIsWellFormed words f → IsGoodLine (env_line words f)
env_good words f h = record {
  spelled = (
    h.component.1,
    All-map spelled.IsEntry (λ (e : Name × Value). (word_at words e.0, e.1)) f.entries
        (each_is (IsEntry words) (λ e. spelled.IsEntry (word_at words e.0, e.1)) (λ e g. (g.0.1, g.1, g.2)) f.entries h.entries),
    subst AreDifferent (sym (worded_words words f.entries)) h.once,
  );
  pred = tt;
}

-- ---- many lines
-- No limit is great.
pub limit_small : (h : Head) → HeadIsWellFormed h → limit_of h < 2 ^ 64
limit_small (Solo limit pick) h = omega (arith, h.1)
limit_small (Net shape limit nodes pick) h = omega (arith, h.1)

pub nodes_small : (h : Head) → HeadIsWellFormed h → nodes_of h < 2 ^ 64
nodes_small (Solo limit pick) h = omega arith
nodes_small (Net shape limit nodes pick) h = omega (arith, h.4)

numbers_lead :
    (head : Head) (words : List (List ℕ)) (count : ℕ) (ls : List Line) → All (LineIsWellFormed head words) ls → count + length ls ≤ limit_of head →
    limit_of head < 2 ^ 64 → Leads (Within head count [] 0) (number_lines words (count + 1) ls) (Within head (count + length ls) [] 0)
numbers_lead head words count [] h few small =
    let same : count ≡ count + 0 = omega arith in
    leads_to _ _ _ [] (ap (λ n. Within head n [] 0) same) (leads_none (Within head count [] 0))
numbers_lead head words count (l ∷ ls) h few small =
    let first = h 0 l (omega arith) in
    let same : count + 1 + length ls ≡ count + suc (length ls) = omega arith in
    leads_to _ _ _ (number_lines words (count + 1) (l ∷ ls)) (ap (λ n. Within head n [] 0) same)
    (leads_on (Within head count [] 0) (number_line words (count + 1) l) (number_lines words (count + 1 + 1) ls) (Within head (count + 1 + length ls) [] 0)
    (number_good head words (count + 1) l first (omega (arith, few, small)))
    (refl, refl, omega (arith, few), tail_may head words l.said first.said)
    (numbers_lead head words (count + 1) ls (All-tail (LineIsWellFormed head words) l ls h) (omega (arith, few)) small))

envs_lead :
    (head : Head) (words : List (List ℕ)) (count : ℕ) (known : List (List ℕ)) (fs : List EnvLine) → All (FinalIsWellFormed words) fs →
    AreNew known (words_of words (λ f. f.component) fs) → length known + length fs ≤ MOST_COMPONENTS →
    Leads (Within head count known 0) (map (env_line words) fs) (Within head count (known ++ words_of words (λ f. f.component) fs) 0)
envs_lead head words count known [] h new few =
    leads_to _ _ _ [] (ap (λ (ws : List (List ℕ)). Within head count ws 0) (sym (append-nil known))) (leads_none (Within head count known 0))
envs_lead head words count known (f ∷ fs) h new few =
    let word = word_at words f.component in
    let others = words_of words (λ f. f.component) fs in
    leads_to _ _ _ (map (env_line words) (f ∷ fs)) (ap (λ (ws : List (List ℕ)). Within head count ws 0) (append_assoc known (word ∷ []) others))
    (leads_on (Within head count known 0) (env_line words f) (map (env_line words) fs) (Within head count ((known ++ word ∷ []) ++ others) 0)
    (env_good words f (h 0 f (omega arith))) (refl, new.0, omega (arith, few))
    (envs_lead head words count (known ++ word ∷ []) fs (All-tail (FinalIsWellFormed words) f fs h) new.1
    (omega (arith, few, length-append {A = List ℕ} known (word ∷ [])))))

nodes_lead :
    (head : Head) (count : ℕ) (components : List (List ℕ)) (nodes : ℕ) (handled : List ℕ) → All (λ n. n < 2 ^ 64) handled →
    (length handled ≡ 0) ⊎ (1 ≤ length components) → nodes + length handled ≤ nodes_of head → nodes_of head < 2 ^ 64 →
    Leads (Within head count components nodes) (node_lines nodes handled) (Within head count components (nodes + length handled))
nodes_lead head count components nodes [] h some few small =
    let same : nodes ≡ nodes + 0 = omega arith in
    leads_to _ _ _ [] (ap (λ n. Within head count components n) same) (leads_none (Within head count components nodes))
nodes_lead head count components nodes (n ∷ handled) h (inl none) few small = absurd (omega (arith, none))
nodes_lead head count components nodes (n ∷ handled) h (inr some) few small =
    let same : nodes + 1 + length handled ≡ nodes + suc (length handled) = omega arith in
    leads_to _ _ _ (node_lines nodes (n ∷ handled)) (ap (λ n. Within head count components n) same)
    (leads_on (Within head count components nodes) (plain.Node nodes n) (node_lines (nodes + 1) handled)
    (Within head count components (nodes + 1 + length handled))
    (record { spelled = (omega (arith, few, small), h 0 n (omega arith)); pred = tt }) (some, refl, omega (arith, few))
    (nodes_lead head count components (nodes + 1) handled (All-tail (λ n. n < 2 ^ 64) n handled h) (inr some) (omega (arith, few)) small))

-- ---- a trace
-- Where a trace that is begun stands.
abbrev pub stage_at : Trace → Stage
stage_at t = Within t.head (length t.lines) (words_of t.names (λ f. f.component) t.finals) (length t.handled)

pub begun_leads : (t : Trace) → IsBegun t → Leads Start (front_lines t) (stage_at t)
begun_leads t b =
    let words = words_of t.names (λ f. f.component) t.finals in
    let many : length words ≡ length t.finals = length-map t.finals (λ (f : EnvLine). word_at t.names f.component) in
    let numbers = numbers_lead t.head t.names 0 t.lines b.lines (let few = b.count in omega (arith, few)) (limit_small t.head b.head) in
    let envs = envs_lead t.head t.names (0 + length t.lines) [] t.finals b.finals b.once (let few = b.few in omega (arith, few)) in
    let order : (length t.handled ≡ 0) ⊎ (1 ≤ length words) = subst (λ (n : ℕ). (length t.handled ≡ 0) ⊎ (1 ≤ n)) (sym many) b.order in
    let nodes = nodes_lead t.head (0 + length t.lines) words 0 t.handled b.handled order (let few = b.nodes in omega (arith, few))
    (nodes_small t.head b.head) in
    let first : Leads Start (plain.First t.head ∷ number_lines t.names (0 + 1) t.lines) (Within t.head (0 + length t.lines) [] 0) =
    leads_on Start (plain.First t.head) (number_lines t.names (0 + 1) t.lines) (Within t.head (0 + length t.lines) [] 0)
    (record { spelled = b.head; pred = tt }) tt numbers in
    let two = leads_append Start (Within t.head (0 + length t.lines) [] 0) (Within t.head (0 + length t.lines) words 0)
    (plain.First t.head ∷ number_lines t.names (0 + 1) t.lines) (map (env_line t.names) t.finals) first envs in
    let all = leads_append Start (Within t.head (0 + length t.lines) words 0) (Within t.head (0 + length t.lines) words (0 + length t.handled))
    (plain.First t.head ∷ number_lines t.names (0 + 1) t.lines ++ map (env_line t.names) t.finals) (node_lines 0 t.handled) two nodes in
    let same : 0 + length t.lines ≡ length t.lines = omega arith in
    let same' : 0 + length t.handled ≡ length t.handled = omega arith in
    leads_to _ _ _ (front_lines t) (λ i. Within t.head (same i) words (same' i)) all

-- A well-formed trace is begun,
pub begun_whole : (t : Trace) → IsWellFormed t → IsBegun t
begun_whole t w = record {
  names = w.names;
  head = w.head;
  lines = w.lines;
  count = w.count;
  finals = w.finals;
  few = w.few;
  once = w.once;
  order = inr w.some;
  nodes = let all = w.nodes in omega (arith, all);
  handled = w.handled;
}

-- and all its lines lead to the end.
pub whole_leads : (t : Trace) → IsWellFormed t → Leads Start (trace_lines t) Ended
whole_leads t w =
    let words = words_of t.names (λ f. f.component) t.finals in
    let many : length words ≡ length t.finals = length-map t.finals (λ (f : EnvLine). word_at t.names f.component) in
    leads_append Start (stage_at t) Ended (front_lines t) (last_line t ∷ []) (begun_leads t (begun_whole t w))
    (leads_on (stage_at t) (last_line t) [] Ended
    (record { spelled = let few = w.count in let small = limit_small t.head w.head in omega (arith, few, small); pred = tt })
    (let some = w.some in omega (arith, some, many), w.nodes, refl, refl) (leads_none Ended))
