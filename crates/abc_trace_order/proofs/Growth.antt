-- What a line makes of what was read.
use Rattle.std.proofs.Common.{◌≡◌, ℕ, suc, ◌+◌, ◌≤◌, ◌<◌, ◌^◌, false, List, [], ◌∷◌, ◌++◌, length, map, Option, Some, None, All, inl, inr, refl, sym, ap, ◌∙◌, subst, append_assoc, append-nil, length-append, arith}
use Rattle.std.specs.Prelude.{flat_map, ◌⊎◌}
use Rattle.std.proofs.lemmas.List.{map-append, length-map}
use Rattle.std.proofs.lemmas.List.Elements.{All-nil, All-cons, All-append}
use Rattle.std.proofs.lemmas.Grind.{flat_map-append}
use Rattle.abc_value.specs.declared.value.Value.{Value}
use Rattle.abc_text.specs.Meanings.{has_word, AreDifferent}
use Rattle.abc_text.specs.Spelling.{IsWordSpelling}
use Rattle.abc_checks.specs.declared.limits.TheConstants.{MOST_COMPONENTS}
use Rattle.abc_printed.specs.Parts.{word_at}
use Rattle.abc_trace.specs.declared.trace.Head.{Head}
use Rattle.abc_trace.specs.declared.trace.Line.{Line}
use Rattle.abc_trace.specs.declared.trace.EnvLine.{EnvLine}
use Rattle.abc_trace.specs.declared.trace.Trace.{Trace}
use Rattle.abc_trace.specs.Lines.{ended}
use Rattle.abc_trace.specs.Texts.{limit_of, trace_text}
use Rattle.abc_trace.specs.WellFormed.{HeadIsWellFormed, LineIsWellFormed, FinalIsWellFormed, IsWellFormed, words_of, nodes_of}
use Rattle.abc_trace.specs.Met.{with_words, line_words, final_words, trace_words}
use Rattle.abc_trace_lines.specs.Plain as plain
use Rattle.abc_trace_preds.specs.Reading.{PredsStay}
use Rattle.abc_trace_order.specs.declared.reading.Reading.{Reading}
use Rattle.abc_trace_order.specs.Lines.{lines_text, number_line, number_lines, env_line, node_lines, last_line, front_lines, front_text}
use Rattle.abc_trace_order.specs.Order.{MayBeSaid}
use Rattle.abc_trace_order.specs.Reading.{trace_of, IsBegun, IsReading, GrowsBy, EndsBy, IsNumberedLine, IsNumberedEnv}
use Rattle.abc_trace_order.proofs.Splits.{all_text-append}
use Rattle.abc_trace_order.proofs.TextIs.{trace_is}
use Rattle.abc_trace_order.proofs.WordLists.{words_grow, words_length, words_all, words_different, words_append, different_more}
use Rattle.abc_trace_order.proofs.Stay.{with_names, Stays, begun_stays}
use Rattle.abc_trace_order.proofs.Bounds.{AreWords, line_are, env_are}

-- no item
pub none_of : {A : Type 0} (xs : List A) → length xs ≡ 0 → xs ≡ []
none_of [] e = refl
none_of (x ∷ xs) e = absurd (omega (arith, e))

-- ---- one line more
-- It stands behind all others, and its words are met behind theirs.
pub record Adds (r : Reading) (x : plain.Line) (ws : List (List ℕ)) (r' : Reading) : Type 0 where
  pub begun : IsBegun (trace_of r')
  pub lines : front_lines (trace_of r') ≡ front_lines (with_names (trace_of r) r'.names) ++ x ∷ []
  pub met : trace_words (trace_of r') ≡ trace_words (with_names (trace_of r) r'.names) ++ ws
  pub names : r'.names ≡ with_words r.names ws
  pub components : r'.components ≡ words_of r'.names (λ f. f.component) r'.finals
  pub words : AreWords ws (length (plain.line_text x))

-- So what was read grows by its text.
pub adds_grow :
    (r : Reading) (x : plain.Line) (ws : List (List ℕ)) (r' : Reading) → IsReading r → Stays (trace_of r) r'.names → Adds r x ws r' →
    GrowsBy r (plain.line_text x) r'
adds_grow r x ws r' reading stays adds =
    let text : front_text (trace_of r') ≡ front_text (trace_of r) ++ ended (plain.line_text x) =
    ap lines_text (adds.lines ∙ ap (λ ls. ls ++ x ∷ []) stays.lines)
    ∙ all_text-append plain.line_text (front_lines (trace_of r)) (x ∷ [])
    ∙ ap (λ t. front_text (trace_of r) ++ t) (append-nil (ended (plain.line_text x))) in
    let longer = words_length r.names ws in
    let few = adds.words.few in
    let known = reading.few in
    record {
      reading = record {
        begun = adds.begun;
        numbered = adds.names ∙ ap (λ (ns : List (List ℕ)). with_words ns ws) reading.numbered
            ∙ sym (words_append [] (trace_words (trace_of r)) ws)
            ∙ ap (with_words []) (ap (λ (ms : List (List ℕ)). ms ++ ws) (sym stays.met) ∙ sym adds.met);
        components = adds.components;
        words = subst (All IsWordSpelling) (sym adds.names) (words_all IsWordSpelling r.names ws reading.words adds.words.spelled);
        few = omega (
          arith,
          ap (length {A = List ℕ}) adds.names,
          longer,
          few,
          known,
          ap (length {A = ℕ}) text,
          length-append (front_text (trace_of r)) (ended (plain.line_text x)),
          length-append (plain.line_text x) (10 ∷ []),
        );
      };
      text = text;
    }

-- ---- the line of a number
numbers_more :
    (words : List (List ℕ)) (n : ℕ) (ls : List Line) (l : Line) →
    number_lines words n (ls ++ l ∷ []) ≡ number_lines words n ls ++ number_line words (n + length ls) l ∷ []
numbers_more words n [] l = let same : n ≡ n + 0 = omega arith in ap (λ k. number_line words k l ∷ []) same
numbers_more words n (x ∷ ls) l =
    let same : n + 1 + length ls ≡ n + suc (length ls) = omega arith in
    ap (λ rest. number_line words n x ∷ rest)
    (numbers_more words (n + 1) ls l ∙ ap (λ k. number_lines words (n + 1) ls ++ number_line words k l ∷ []) same)

-- behind the lines of numbers, where nothing stands behind them
number_last :
    (head : Head) (words : List (List ℕ)) (ls : List Line) (l : Line) (fs : List EnvLine) (handled : List ℕ) → fs ≡ [] → handled ≡ [] →
    plain.First head ∷ number_lines words 1 (ls ++ l ∷ []) ++ map (env_line words) fs ++ node_lines 0 handled
    ≡ (plain.First head ∷ number_lines words 1 ls ++ map (env_line words) fs ++ node_lines 0 handled) ++ number_line words (1 + length ls) l ∷ []
number_last head words ls l fs handled no_fs no_handled =
    let front = plain.First head ∷ number_lines words 1 ls in
    let bare : (xs : List plain.Line) → xs ++ map (env_line words) fs ++ node_lines 0 handled ≡ xs =
    λ xs. (λ i. xs ++ map (env_line words) (no_fs i) ++ node_lines 0 (no_handled i)) ∙ append-nil (xs ++ []) ∙ append-nil xs in
    bare (plain.First head ∷ number_lines words 1 (ls ++ l ∷ []))
    ∙ ap (λ (xs : List plain.Line). plain.First head ∷ xs) (numbers_more words 1 ls l)
    ∙ ap (λ (xs : List plain.Line). xs ++ number_line words (1 + length ls) l ∷ []) (sym (bare front))

-- what is met behind lines of numbers, where nothing stands behind them
number_met :
    (words : List (List ℕ)) (ls : List Line) (l : Line) (fs : List EnvLine) → fs ≡ [] →
    flat_map (line_words words) (ls ++ l ∷ []) ++ flat_map (final_words words) fs
    ≡ (flat_map (line_words words) ls ++ flat_map (final_words words) fs) ++ line_words words l
number_met words ls l fs no_fs =
    let bare : (xs : List (List ℕ)) → xs ++ flat_map (final_words words) fs ≡ xs =
    λ xs. ap (λ gs. xs ++ flat_map (final_words words) gs) no_fs ∙ append-nil xs in
    bare (flat_map (line_words words) (ls ++ l ∷ []))
    ∙ flat_map-append (line_words words) ls (l ∷ [])
    ∙ ap (λ (xs : List (List ℕ)). flat_map (line_words words) ls ++ xs) (append-nil (line_words words l))
    ∙ ap (λ (xs : List (List ℕ)). xs ++ line_words words l) (sym (bare (flat_map (line_words words) ls)))

-- The line of the next number may come.
pub record NumberComes (r : Reading) (n : ℕ) (said : Option plain.Said) : Type 0 where
  pub first : length r.finals ≡ 0
  pub next : n ≡ length r.lines + 1
  pub within : n ≤ limit_of r.head
  pub may : MayBeSaid r.head said

-- where no component's line came no node's did
no_nodes : (t : Trace) → IsBegun t → length t.finals ≡ 0 → t.handled ≡ []
no_nodes t b none = by b.order
  where
    by : (length t.handled ≡ 0) ⊎ (1 ≤ length t.finals) → t.handled ≡ []
    by (inl e) = none_of t.handled e
    by (inr some) = absurd (omega (arith, some, none))

pub number_grows :
    PredsStay → (r : Reading) → IsReading r → (n : ℕ) (sender : List ℕ) (said : Option plain.Said) (names : List (List ℕ)) (l : Line)
    (lines : List Line) → NumberComes r n said → IsNumberedLine r.names sender said names l → lines ≡ r.lines ++ l ∷ [] →
    GrowsBy r (plain.line_text (plain.Number n sender said))
    (record { head = r.head; lines = lines; finals = r.finals; handled = r.handled; names = names; components = r.components })
number_grows stay r reading n sender said names l lines comes numbered added =
    let b = reading.begun in
    let grow = words_grow r.names (line_words names l) in
    let different = subst AreDifferent (sym numbered.met) (words_different r.names (line_words names l) b.names) in
    let stays = begun_stays stay (trace_of r) names grow.0 b (numbered.met ∙ grow.1) different in
    let formed = numbered.formed r.head comes.may in
    let no_fs = none_of r.finals comes.first in
    let no_handled = no_nodes (trace_of r) b comes.first in
    let count : 1 + length r.lines ≡ n = let next = comes.next in omega (arith, next) in
    let is : number_line names (1 + length r.lines) l ≡ plain.Number n sender said =
    ap (λ k. number_line names k l) count ∙ numbered.same n in
    let long : length lines ≡ n =
    let next = comes.next in omega (arith, next, ap (length {A = Line}) added, length-append {A = Line} r.lines (l ∷ [])) in
    let within = comes.within in
    adds_grow r (plain.Number n sender said) (line_words names l)
    (record { head = r.head; lines = lines; finals = r.finals; handled = r.handled; names = names; components = r.components })
    reading stays (record {
      begun = record {
        names = different;
        head = b.head;
        lines = subst (All (LineIsWellFormed r.head names)) (sym added)
            (All-append (LineIsWellFormed r.head names) r.lines (l ∷ []) stays.begun.lines
            (All-cons (LineIsWellFormed r.head names) l [] formed (All-nil (LineIsWellFormed r.head names))));
        count = omega (arith, long, within);
        finals = stays.begun.finals;
        few = b.few;
        once = stays.begun.once;
        order = b.order;
        nodes = b.nodes;
        handled = b.handled;
      };
      lines = ap (λ (ls : List Line). plain.First r.head ∷ number_lines names 1 ls ++ map (env_line names) r.finals ++ node_lines 0 r.handled) added
          ∙ number_last r.head names r.lines l r.finals r.handled no_fs no_handled
          ∙ ap (λ (x : plain.Line). (plain.First r.head ∷ number_lines names 1 r.lines ++ map (env_line names) r.finals ++ node_lines 0 r.handled) ++ x ∷ []) is;
      met = ap (λ (ls : List Line). flat_map (line_words names) ls ++ flat_map (final_words names) r.finals) added
          ∙ number_met names r.lines l r.finals no_fs;
      names = numbered.met;
      components = reading.components ∙ sym stays.components;
      words = subst (λ (x : plain.Line). AreWords (line_words names l) (length (plain.line_text x))) (numbered.same n)
          (line_are r.head names n l formed);
    })

-- ---- the line of an environment
-- It may come next.
pub record EnvComes (r : Reading) (component : List ℕ) : Type 0 where
  pub before : length r.handled ≡ 0
  pub new : has_word r.components component ≡ false
  pub room : length r.finals < MOST_COMPONENTS

-- behind the lines of environments, where nothing stands behind them
env_last :
    (front : List plain.Line) (words : List (List ℕ)) (fs : List EnvLine) (f : EnvLine) (handled : List ℕ) → handled ≡ [] →
    front ++ map (env_line words) (fs ++ f ∷ []) ++ node_lines 0 handled
    ≡ (front ++ map (env_line words) fs ++ node_lines 0 handled) ++ env_line words f ∷ []
env_last front words fs f handled none =
    let bare : (xs : List plain.Line) → xs ++ node_lines 0 handled ≡ xs =
    λ xs. ap (λ hs. xs ++ node_lines 0 hs) none ∙ append-nil xs in
    bare (front ++ map (env_line words) (fs ++ f ∷ []))
    ∙ ap (λ (xs : List plain.Line). front ++ xs) (map-append (env_line words) fs (f ∷ []))
    ∙ sym (append_assoc front (map (env_line words) fs) (env_line words f ∷ []))
    ∙ ap (λ (xs : List plain.Line). xs ++ env_line words f ∷ []) (sym (bare (front ++ map (env_line words) fs)))

pub env_grows :
    PredsStay → (r : Reading) → IsReading r → (component : List ℕ) (entries : List (List ℕ × Value)) (names : List (List ℕ)) (f : EnvLine)
    (finals : List EnvLine) (components : List (List ℕ)) → EnvComes r component → IsNumberedEnv r.names component entries names f →
    finals ≡ r.finals ++ f ∷ [] → components ≡ r.components ++ component ∷ [] →
    GrowsBy r (plain.line_text (plain.Env component entries))
    (record { head = r.head; lines = r.lines; finals = finals; handled = r.handled; names = names; components = components })
env_grows stay r reading component entries names f finals components comes numbered added grown =
    let b = reading.begun in
    let grow = words_grow r.names (final_words names f) in
    let different = subst AreDifferent (sym numbered.met) (words_different r.names (final_words names f) b.names) in
    let stays = begun_stays stay (trace_of r) names grow.0 b (numbered.met ∙ grow.1) different in
    let none = none_of r.handled comes.before in
    let word_is : word_at names f.component ≡ component =
    let e : plain.Env (word_at names f.component) _ ≡ plain.Env component entries = numbered.same in cc in
    let all_words : words_of names (λ f. f.component) finals ≡ r.components ++ component ∷ [] =
    ap (words_of names (λ f. f.component)) added
    ∙ map-append (λ (f : EnvLine). word_at names f.component) r.finals (f ∷ [])
    ∙ (λ i. (stays.components ∙ sym reading.components) i ++ word_is i ∷ []) in
    let once : AreDifferent (words_of names (λ f. f.component) finals) =
    subst AreDifferent (sym all_words)
    (different_more r.components component (subst AreDifferent (sym reading.components) b.once) comes.new) in
    let room = comes.room in
    let long : length finals ≡ length r.finals + 1 = omega (arith, ap (length {A = EnvLine}) added, length-append {A = EnvLine} r.finals (f ∷ [])) in
    adds_grow r (plain.Env component entries) (final_words names f)
    (record { head = r.head; lines = r.lines; finals = finals; handled = r.handled; names = names; components = components })
    reading stays (record {
      begun = record {
        names = different;
        head = b.head;
        lines = stays.begun.lines;
        count = b.count;
        finals = subst (All (FinalIsWellFormed names)) (sym added)
            (All-append (FinalIsWellFormed names) r.finals (f ∷ []) stays.begun.finals
            (All-cons (FinalIsWellFormed names) f [] numbered.formed (All-nil (FinalIsWellFormed names))));
        few = omega (arith, long, room);
        once = once;
        order = inr (omega (arith, long));
        nodes = b.nodes;
        handled = b.handled;
      };
      lines = ap (λ (fs : List EnvLine). plain.First r.head ∷ number_lines names 1 r.lines ++ map (env_line names) fs ++ node_lines 0 r.handled) added
          ∙ env_last (plain.First r.head ∷ number_lines names 1 r.lines) names r.finals f r.handled none
          ∙ ap (λ (x : plain.Line). (plain.First r.head ∷ number_lines names 1 r.lines ++ map (env_line names) r.finals ++ node_lines 0 r.handled) ++ x ∷ [])
          numbered.same;
      met = ap (λ (fs : List EnvLine). flat_map (line_words names) r.lines ++ flat_map (final_words names) fs) added
          ∙ ap (λ (xs : List (List ℕ)). flat_map (line_words names) r.lines ++ xs)
          (flat_map-append (final_words names) r.finals (f ∷ [])
          ∙ ap (λ (xs : List (List ℕ)). flat_map (final_words names) r.finals ++ xs) (append-nil (final_words names f)))
          ∙ sym (append_assoc (flat_map (line_words names) r.lines) (flat_map (final_words names) r.finals) (final_words names f));
      names = numbered.met;
      components = grown ∙ sym all_words;
      words = subst (λ (x : plain.Line). AreWords (final_words names f) (length (plain.line_text x))) numbered.same (env_are names f numbered.formed);
    })

-- ---- the line of a node
nodes_more : (n : ℕ) (handled : List ℕ) (h : ℕ) → node_lines n (handled ++ h ∷ []) ≡ node_lines n handled ++ plain.Node (n + length handled) h ∷ []
nodes_more n [] h = let same : n ≡ n + 0 = omega arith in ap (λ k. plain.Node k h ∷ []) same
nodes_more n (x ∷ handled) h =
    let same : n + 1 + length handled ≡ n + suc (length handled) = omega arith in
    ap (λ rest. plain.Node n x ∷ rest)
    (nodes_more (n + 1) handled h ∙ ap (λ k. node_lines (n + 1) handled ++ plain.Node k h ∷ []) same)

-- It may come next.
pub record NodeComes (r : Reading) (node : ℕ) : Type 0 where
  pub some : 1 ≤ length r.finals
  pub next : node ≡ length r.handled
  pub room : length r.handled < nodes_of r.head

pub node_grows :
    (r : Reading) → IsReading r → (node packets : ℕ) (handled : List ℕ) → NodeComes r node → packets < 2 ^ 64 → handled ≡ r.handled ++ packets ∷ [] →
    GrowsBy r (plain.line_text (plain.Node node packets))
    (record { head = r.head; lines = r.lines; finals = r.finals; handled = handled; names = r.names; components = r.components })
node_grows r reading node packets handled comes small added =
    let b = reading.begun in
    let front = plain.First r.head ∷ number_lines r.names 1 r.lines ++ map (env_line r.names) r.finals in
    let count : 0 + length r.handled ≡ node = let next = comes.next in omega (arith, next) in
    let long : length handled ≡ length r.handled + 1 = omega (arith, ap (length {A = ℕ}) added, length-append {A = ℕ} r.handled (packets ∷ [])) in
    let room = comes.room in
    let stays : Stays (trace_of r) r.names = record { begun = b; lines = refl; met = refl; components = refl } in
    adds_grow r (plain.Node node packets) []
    (record { head = r.head; lines = r.lines; finals = r.finals; handled = handled; names = r.names; components = r.components })
    reading stays (record {
      begun = record {
        names = b.names;
        head = b.head;
        lines = b.lines;
        count = b.count;
        finals = b.finals;
        few = b.few;
        once = b.once;
        order = inr comes.some;
        nodes = omega (arith, long, room);
        handled = subst (All (λ n. n < 2 ^ 64)) (sym added)
            (All-append (λ n. n < 2 ^ 64) r.handled (packets ∷ []) b.handled (All-cons (λ n. n < 2 ^ 64) packets [] small (All-nil (λ n. n < 2 ^ 64))));
      };
      lines = ap (λ (hs : List ℕ). front ++ node_lines 0 hs) added
          ∙ ap (λ (xs : List plain.Line). front ++ xs) (nodes_more 0 r.handled packets ∙ ap (λ k. node_lines 0 r.handled ++ plain.Node k packets ∷ []) count)
          ∙ sym (append_assoc front (node_lines 0 r.handled) (plain.Node node packets ∷ []));
      met = sym (append-nil (trace_words (trace_of r)));
      names = refl;
      components = reading.components;
      words = record { spelled = All-nil IsWordSpelling; few = omega arith };
    })

-- ---- the first line and the last
pub first_reading :
    (head : Head) → HeadIsWellFormed head →
    IsReading (record { head = head; lines = []; finals = []; handled = []; names = []; components = [] })
first_reading head formed = record {
  begun = record {
    names = tt;
    head = formed;
    lines = All-nil (LineIsWellFormed head []);
    count = omega arith;
    finals = All-nil (FinalIsWellFormed []);
    few = omega arith;
    once = tt;
    order = inl refl;
    nodes = omega arith;
    handled = All-nil (λ n. n < 2 ^ 64);
  };
  numbered = refl;
  components = refl;
  words = All-nil IsWordSpelling;
  few = omega arith;
}

-- All components that came are some, and all nodes came: the trace is whole.
pub reading_whole :
    (r : Reading) → IsReading r → 1 ≤ length r.finals → length r.handled ≡ nodes_of r.head → IsWellFormed (trace_of r)
reading_whole r reading some all =
    let b = reading.begun in
    record {
      names = b.names;
      head = b.head;
      lines = b.lines;
      count = b.count;
      finals = b.finals;
      some = some;
      few = b.few;
      once = b.once;
      nodes = all;
      handled = b.handled;
    }

pub last_ends :
    (r : Reading) → IsReading r → 1 ≤ length r.finals → length r.handled ≡ nodes_of r.head → EndsBy r (plain.line_text (last_line (trace_of r))) r
last_ends r reading some all = record { reading = reading; formed = reading_whole r reading some all; text = trace_is (trace_of r) }
