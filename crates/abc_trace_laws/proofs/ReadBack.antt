-- What was written is read back, its names numbered as their words are met.
use Rattle.std.proofs.Common.{◌≡◌, ℕ, ◌≤◌, true, List, [], ◌∷◌, ◌++◌, length, map, All, refl, sym, ap, ◌∙◌, subst, arith}
use Rattle.std.specs.Prelude.{flat_map, ◌==◌}
use Rattle.std.proofs.lemmas.List.{length-map}
use Rattle.std.proofs.lemmas.List.Elements.{All-nil, All-cons}
use Rattle.abc_text.specs.Meanings.{has_word, with_word, AreDifferent}
use Rattle.abc_text.proofs.Growing.{with_word_has}
use Rattle.abc_trace.specs.declared.trace.Trace.{Trace}
use Rattle.abc_trace.specs.Texts.{limit_of, trace_text}
use Rattle.abc_trace.specs.WellFormed.{IsWellFormed}
use Rattle.abc_trace.specs.Met.{with_words, line_words, final_words, trace_words}
use Rattle.abc_trace_lines.specs.Plain as plain
use Rattle.abc_trace_preds.proofs.Words.{has_stays}
use Rattle.abc_trace_order.specs.Lines.{lines_text, node_lines, trace_lines}
use Rattle.abc_trace_order.specs.Texts.{IsReadAs}
use Rattle.abc_trace_order.proofs.TextIs.{text_is}
use Rattle.abc_trace_order.proofs.WordLists.{words_different}
use Rattle.abc_trace_laws.specs.Plain.{plain_trace}
use Rattle.abc_trace_laws.specs.Renumbered.{renamed_final, words_as_met, new_name, renumbered}
use Rattle.abc_trace_laws.specs.Laws.{WrittenIsReadBack}
use Rattle.abc_trace_laws.proofs.OneTrace.{traces_are_one}
use Rattle.abc_trace_laws.proofs.Renumbering.{all_left, all_right, Has, line_anew, LinesStay, lines_stay, FinalsStay, finals_stay}

-- The words that were met have numbers.
all_met : (known ws : List (List ℕ)) → All (λ w. has_word (with_words known ws) w ≡ true) ws
all_met known [] = All-nil (λ w. has_word known w ≡ true)
all_met known (w ∷ ws) =
    All-cons (λ v. has_word (with_words (with_word known w) ws) v ≡ true) w ws
    (has_stays (with_word known w) ws w (with_word_has known w)) (all_met (with_word known w) ws)

-- A trace by the new numbers of its names: the lines stay, and so do those of environments.
module _ (t : Trace) (formed : IsWellFormed t) where
  abbrev trace_anew : Trace
  trace_anew = record {
    names = words_as_met t;
    head = t.head;
    lines = map (line_anew t.names (words_as_met t)) t.lines;
    finals = map (renamed_final (new_name t)) t.finals;
    handled = t.handled;
  }

  in_lines : All (Has t.names (words_as_met t)) (flat_map (line_words t.names) t.lines)
  in_lines = all_left (Has t.names (words_as_met t)) (flat_map (line_words t.names) t.lines) (flat_map (final_words t.names) t.finals)
      (all_met [] (trace_words t))

  in_finals : All (Has t.names (words_as_met t)) (flat_map (final_words t.names) t.finals)
  in_finals = all_right (Has t.names (words_as_met t)) (flat_map (line_words t.names) t.lines) (flat_map (final_words t.names) t.finals)
      (all_met [] (trace_words t))

  lines : LinesStay t.names (words_as_met t) t.head t.lines
  lines = lines_stay t.names (words_as_met t) t.head t.lines formed.lines in_lines

  finals : FinalsStay t.names (words_as_met t) t.finals
  finals = finals_stay t.names (words_as_met t) t.finals formed.finals in_finals

  lines_many : length (map (line_anew t.names (words_as_met t)) t.lines) ≡ length t.lines
  lines_many = length-map t.lines (line_anew t.names (words_as_met t))

  finals_many : length (map (renamed_final (new_name t)) t.finals) ≡ length t.finals
  finals_many = length-map t.finals (renamed_final (new_name t))

  -- It is well formed,
  anew_formed : IsWellFormed trace_anew
  anew_formed = record {
    names = words_different [] (trace_words t) tt;
    head = formed.head;
    lines = lines.formed;
    count = subst (λ n. n ≤ limit_of t.head) (sym lines_many) formed.count;
    finals = finals.formed;
    some = subst (λ n. 1 ≤ n) (sym finals_many) formed.some;
    few = let few = formed.few in omega (arith, few, finals_many);
    once = subst AreDifferent (sym finals.components) formed.once;
    nodes = formed.nodes;
    handled = formed.handled;
  }

  -- has the same lines in words,
  anew_same : trace_lines trace_anew ≡ trace_lines t
  anew_same =
      λ i. (plain.First t.head ∷ lines.same 1 i ++ finals.same i ++ node_lines 0 t.handled)
      ++ plain.Last (lines_many i == limit_of t.head) (lines_many i) ∷ []

  -- and so the same text,
  anew_text : trace_text trace_anew ≡ trace_text t
  anew_text = text_is trace_anew ∙ ap lines_text anew_same ∙ sym (text_is t)

  -- in which the same words are met.
  anew_met : trace_words trace_anew ≡ trace_words t
  anew_met = λ i. lines.met i ++ finals.met i

  anew_read : IsReadAs (trace_text t) trace_anew
  anew_read = record { formed = anew_formed; text = anew_text; numbered = ap (with_words []) (sym anew_met) }

  -- It is the renumbered one.
  anew_plain : plain_trace trace_anew ≡ renumbered t
  anew_plain = λ i. record {
    names = words_as_met t;
    head = t.head;
    lines = lines.plain i;
    finals = map (renamed_final (new_name t)) t.finals;
    handled = t.handled;
  }

-- So each that is read from its text is.
read_same : (t u : Trace) → IsWellFormed t → IsReadAs (trace_text t) u → plain_trace u ≡ renumbered t
read_same t u formed read =
    traces_are_one.one u (trace_anew t formed) read.formed (anew_formed t formed) read.numbered (anew_read t formed).numbered
    (read.text ∙ sym (anew_text t formed))
    ∙ anew_plain t formed

pub written_is_read_back : WrittenIsReadBack
written_is_read_back = record {
  there = λ t formed. (trace_anew t formed, anew_read t formed);
  same = read_same;
  still = λ t formed met. read_same t t formed (record { formed = formed; text = refl; numbered = met });
}
