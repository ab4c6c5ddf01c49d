-- The text of a trace is that of its lines in words.
use Rattle.std.proofs.Common.{◌≡◌, ℕ, ◌+◌, List, [], ◌∷◌, ◌++◌, length, map, decimal, codes, Option, Some, None, refl, sym, ap, ◌∙◌, subst, append_assoc, append-nil}
use Rattle.std.specs.Prelude.{flat_map}
use Rattle.std.proofs.lemmas.List.Folds.{flat_map-map}
use Rattle.abc_value.specs.declared.value.Value.{Value}
use Rattle.abc_value.specs.Literals.{literal}
use Rattle.abc_pred.specs.declared.names.Name.{Name}
use Rattle.abc_pred.specs.Standing.{pred_of}
use Rattle.abc_printed.specs.Parts.{word_at}
use Rattle.abc_printed.specs.Printed.{pred_text}
use Rattle.abc_trace.specs.declared.trace.Head.{Head}
use Rattle.abc_trace.specs.declared.trace.Head.TheVariants.{Solo, Net}
use Rattle.abc_trace.specs.declared.trace.Said.{Said}
use Rattle.abc_trace.specs.declared.trace.Line.{Line}
use Rattle.abc_trace.specs.declared.trace.EnvLine.{EnvLine}
use Rattle.abc_trace.specs.declared.trace.Trace.{Trace}
use Rattle.abc_trace.specs.Lines.{ended, spaced, parted, behind_comma, head_text, place_text, heard_text, entry_text, entries_text, env_text, node_text, end_text}
use Rattle.abc_trace.specs.Texts.{numbered, line_by, line_text, final_text, limit_of, trace_text}
use Rattle.abc_trace_lines.specs.Plain.{First, Number, Env, Node, hearer_text, hearers_text}
use Rattle.abc_trace_lines.specs.Plain as plain
use Rattle.abc_trace_order.specs.Lines.{lines_text, worded, said_of, tail_of, number_line, number_lines, env_line, node_lines, last_line, front_lines, trace_lines, front_text}
use Rattle.abc_trace_order.specs.Texts.{IsTraceText, AreWholeLines}
use Rattle.abc_trace_order.proofs.Splits.{all_text-append, are_whole}

-- ---- lines
head_is : (h : Head) → head_text h ≡ ended (plain.line_text (First h))
head_is (Solo limit pick) = refl
head_is (Net shape limit nodes pick) = refl

-- those that heard behind the first, in words
others_are :
    (words : List (List ℕ)) (heard : List (Name × ℕ)) →
    flat_map (behind_comma (place_text words)) heard ≡ flat_map (behind_comma hearer_text) (worded words heard)
others_are words [] = refl
others_are words (h ∷ heard) = ap (λ t. behind_comma (place_text words) h ++ t) (others_are words heard)

heard_is : (words : List (List ℕ)) (heard : List (Name × ℕ)) → heard_text words heard ≡ hearers_text (worded words heard)
heard_is words [] = refl
heard_is words (h ∷ heard) = ap (λ t. place_text words h ++ t) (others_are words heard)

-- The end of a line may stand with its last part.
regroup : (a w t : List ℕ) → a ++ 32 ∷ (w ++ (t ++ 10 ∷ [])) ≡ (a ++ 32 ∷ (w ++ t)) ++ 10 ∷ []
regroup a w t = ap (λ u. a ++ 32 ∷ u) (sym (append_assoc w t (10 ∷ []))) ∙ sym (append_assoc a (32 ∷ (w ++ t)) (10 ∷ []))

tail_is :
    (words : List (List ℕ)) (n : ℕ) (sender : Name) (said : Option Said) →
    line_by words n sender said ≡ ended (plain.line_text (Number n (word_at words sender) (tail_of words said)))
tail_is words n sender None = refl
tail_is words n sender (Some s) =
    ap (λ heard. spaced (decimal n) (word_at words sender ++ ended (58 ∷ spaced (decimal s.place)
    (codes "(" ++ parted literal s.values ++ codes ") @ (" ++ pred_text words (pred_of s.pred) ++ codes ") -> " ++ heard))))
    (heard_is words s.heard)
    ∙ regroup (decimal n) (word_at words sender) (58 ∷ spaced (decimal s.place)
    (codes "(" ++ parted literal s.values ++ codes ") @ (" ++ pred_text words (pred_of s.pred) ++ codes ") -> " ++ hearers_text (worded words s.heard)))

line_is : (words : List (List ℕ)) (n : ℕ) (l : Line) → line_text words n l ≡ ended (plain.line_text (number_line words n l))
line_is words n l = tail_is words n l.sender l.said

numbers_are : (words : List (List ℕ)) (n : ℕ) (ls : List Line) → numbered (line_text words) n ls ≡ lines_text (number_lines words n ls)
numbers_are words n [] = refl
numbers_are words n (l ∷ ls) = λ i. line_is words n l i ++ numbers_are words (n + 1) ls i

each_is :
    (words : List (List ℕ)) (entries : List (Name × Value)) →
    flat_map (entry_text words) entries ≡ flat_map plain.entry_text (worded words entries)
each_is words [] = refl
each_is words (e ∷ entries) = ap (λ t. entry_text words e ++ t) (each_is words entries)

entries_are : (words : List (List ℕ)) (entries : List (Name × Value)) → entries_text words entries ≡ plain.entries_text (worded words entries)
entries_are words [] = refl
entries_are words (e ∷ entries) = ap (λ t. codes "{ " ++ t ++ codes "}") (each_is words (e ∷ entries))

env_is : (words : List (List ℕ)) (f : EnvLine) → final_text words f ≡ ended (plain.line_text (env_line words f))
env_is words f = ap (λ t. ended (codes "env " ++ spaced (word_at words f.component) t)) (entries_are words f.entries)

finals_are : (words : List (List ℕ)) (fs : List EnvLine) → flat_map (final_text words) fs ≡ lines_text (map (env_line words) fs)
finals_are words [] = refl
finals_are words (f ∷ fs) = λ i. env_is words f i ++ finals_are words fs i

nodes_are : (n : ℕ) (handled : List ℕ) → numbered node_text n handled ≡ lines_text (node_lines n handled)
nodes_are n [] = refl
nodes_are n (h ∷ handled) = ap (λ t. node_text n h ++ t) (nodes_are (n + 1) handled)

-- ---- a trace
-- its text but for the last line
front_is :
    (t : Trace) →
    head_text t.head ++ numbered (line_text t.names) 1 t.lines ++ flat_map (final_text t.names) t.finals ++ numbered node_text 0 t.handled
    ≡ front_text t
front_is t =
    let numbers = number_lines t.names 1 t.lines in
    let envs = map (env_line t.names) t.finals in
    let nodes = node_lines 0 t.handled in
    (λ i. head_is t.head i ++ numbers_are t.names 1 t.lines i ++ finals_are t.names t.finals i ++ nodes_are 0 t.handled i)
    ∙ ap (λ x. x ++ lines_text nodes) (sym (all_text-append plain.line_text (First t.head ∷ numbers) envs))
    ∙ sym (all_text-append plain.line_text (First t.head ∷ numbers ++ envs) nodes)

-- and with it
pub trace_is : (t : Trace) → trace_text t ≡ front_text t ++ ended (plain.line_text (last_line t))
trace_is t = ap (λ x. x ++ end_text (limit_of t.head) (length t.lines)) (front_is t)

pub text_is : (t : Trace) → trace_text t ≡ lines_text (trace_lines t)
text_is t =
    trace_is t ∙ ap (λ x. front_text t ++ x) (sym (append-nil (ended (plain.line_text (last_line t)))))
    ∙ sym (all_text-append plain.line_text (front_lines t) (last_line t ∷ []))

-- So it is whole lines.
pub text_is_whole : (bytes : List ℕ) → IsTraceText bytes → AreWholeLines bytes
text_is_whole bytes (t, formed, is) =
    subst AreWholeLines (sym (text_is t) ∙ is) (are_whole plain.line_text (trace_lines t))
