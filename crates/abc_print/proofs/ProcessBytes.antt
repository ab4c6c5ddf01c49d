-- The bytes of each form of processes.
use Rattle.std.proofs.Common.{◌≡◌, ℕ, ◌≤◌, List, [], ◌∷◌, ◌++◌, flat_map, map, codes, refl, ap, sym, ◌∙◌, append-nil, append_assoc}
use Rattle.std.specs.Fmt.{digits}
use Rattle.abc_pred.specs.declared.names.Name.{Name}
use Rattle.abc_pred.specs.Terms.{Expr, Pred}
use Rattle.abc_pred.specs.Standing.{expr_of}
use Rattle.abc_text.specs.declared.words.Mark.TheVariants as m
use Rattle.abc_text.specs.declared.words.Keyword.TheVariants as k
use Rattle.abc_term.specs.declared.terms.Update.{Update as HeldUpdate}
use Rattle.abc_term.specs.Standing.{updates_of}
use Rattle.abc_term.specs.Processes.{Process, Update}
use Rattle.abc_term.specs.Processes as P
use Rattle.abc_printed.specs.Parts.{Part, Space, mark, keyword, name, variable, listed, word_at, bytes_of}
use Rattle.abc_printed.specs.Forms.{expr_parts, pred_parts, process_grade, process_parts, curled, update_parts, output_parts, input_parts}
use Rattle.abc_printed.specs.Forms.{guard_parts, spaced}
use Rattle.abc_print.specs.Bytes.{bracket, expr_bytes, expr_list, pred_bytes, variable_list, update_bytes, output_bytes, input_bytes, process_bytes}
use Rattle.abc_print.proofs.Joined.{bytes-append, bytes-three, bytes-flat-map, bytes-sides, bracketed-highest, bracketed-lowest}
use Rattle.abc_print.proofs.TermBytes.{pred-lowest}

pub update-bytes :
    (words : List (List ℕ)) (a : Name) (e : Expr)
    → update_bytes words (a, e) ≡ 91 ∷ (word_at words a ++ (codes " := " ++ (expr_bytes words e ++ codes "] ")))
unfolding update_bytes expr_bytes
update-bytes words a e =
    bytes-three words (mark m.OpenSquare ∷ name a ∷ spaced (mark m.Becomes)) (expr_parts e) (mark m.CloseSquare ∷ Space ∷ [])
    ∙ ap (λ rest. 91 ∷ rest) (append_assoc (word_at words a) (codes " := ") (bytes_of words (expr_parts e) ++ codes "] "))

pub ruleset update_forms = (append_assoc, update-bytes)

-- a predicate in round brackets, between others
guarded :
    (words : List (List ℕ)) (p : Pred) (rest : List ℕ) → bytes_of words (guard_parts p) ++ rest ≡ 40 ∷ (pred_bytes words 0 p ++ 41 ∷ rest)
guarded words p rest =
    ap (λ text. 40 ∷ (text ++ rest)) (bytes-append words (pred_parts p) (mark m.CloseRound ∷ []))
    ∙ ap (λ text. 40 ∷ text) (append_assoc (bytes_of words (pred_parts p)) (41 ∷ []) rest)
    ∙ ap (λ text. 40 ∷ (text ++ 41 ∷ rest)) (sym (pred-lowest words p))

pub output-bytes :
    (words : List (List ℕ)) (es : List Expr) (p : Pred)
    → output_bytes words es p ≡ 40 ∷ (expr_list words es ++ (codes ") @ (" ++ (pred_bytes words 0 p ++ codes ") . ")))
unfolding output_bytes expr_list
output-bytes words es p =
    let front : List Part = mark m.OpenRound ∷ listed expr_parts es in
    let middle : List Part = mark m.CloseRound ∷ spaced (mark m.At) in
    bytes-three words (front ++ middle) (guard_parts p) (spaced (mark m.Dot))
    ∙ ap (λ text. text ++ (bytes_of words (guard_parts p) ++ codes " . ")) (bytes-append words front middle)
    ∙ append_assoc (bytes_of words front) (codes ") @ ") (bytes_of words (guard_parts p) ++ codes " . ")
    ∙ ap (λ rest. bytes_of words front ++ (codes ") @ " ++ rest)) (guarded words p (codes " . "))

pub input-bytes :
    (words : List (List ℕ)) (p : Pred) (xs : List Name)
    → input_bytes words p xs ≡ codes "? (" ++ (pred_bytes words 0 p ++ (codes ") (" ++ (variable_list words xs ++ codes ") . ")))
unfolding input_bytes variable_list
input-bytes words p xs =
    let front : List Part = mark m.Question ∷ Space ∷ guard_parts p in
    let opened : List Part = Space ∷ mark m.OpenRound ∷ listed (λ x. variable x ∷ []) xs in
    let rest : List ℕ = bytes_of words opened ++ (41 ∷ codes " . ") in
    bytes-append words (front ++ opened ++ mark m.CloseRound ∷ []) (spaced (mark m.Dot))
    ∙ ap (λ text. text ++ codes " . ") (bytes-three words front opened (mark m.CloseRound ∷ []))
    ∙ append_assoc (bytes_of words front) (bytes_of words opened ++ 41 ∷ []) (codes " . ")
    ∙ ap (λ text. bytes_of words front ++ text) (append_assoc (bytes_of words opened) (41 ∷ []) (codes " . "))
    ∙ ap (λ text. codes "? " ++ text) (guarded words p rest)

pub ruleset head_forms = (append_assoc, output-bytes, input-bytes)

-- a form of the highest grade has no brackets
process-highest :
    (words : List (List ℕ)) (asked : ℕ) (A : Process) → process_grade A ≡ 2 → asked ≤ 2
    → process_bytes words asked A ≡ bytes_of words (process_parts A)
unfolding process_bytes
process-highest words asked A g h =
    ap (λ grade. bytes_of words (curled asked grade (process_parts A))) g
    ∙ ap (bytes_of words) (bracketed-highest m.OpenCurly m.CloseCurly asked (process_parts A) h)

-- nor has any where no grade is asked
pub process-lowest : (words : List (List ℕ)) (A : Process) → process_bytes words 0 A ≡ bytes_of words (process_parts A)
unfolding process_bytes
process-lowest words A = ap (bytes_of words) (bracketed-lowest m.OpenCurly m.CloseCurly (process_grade A) (process_parts A))

pub nil-bytes : (words : List (List ℕ)) (asked : ℕ) → asked ≤ 2 → process_bytes words asked P.Nil ≡ 48 ∷ []
unfolding digits
nil-bytes words asked h = process-highest words asked P.Nil refl h

pub call-bytes : (words : List (List ℕ)) (asked : ℕ) (c : Name) → asked ≤ 2 → process_bytes words asked (P.Call c) ≡ word_at words c
call-bytes words asked c h = process-highest words asked (P.Call c) refl h ∙ append-nil (word_at words c)

pub output-process-bytes :
    (words : List (List ℕ)) (asked : ℕ) (es : List Expr) (p : Pred) (us : List HeldUpdate) (A : Process) → asked ≤ 2
    → process_bytes words asked (P.Output es p (updates_of us) A)
    ≡ output_bytes words es p ++ (flat_map (λ u. update_bytes words (u.name, expr_of u.value)) us ++ process_bytes words 2 A)
unfolding process_bytes output_bytes update_bytes
output-process-bytes words asked es p us A h =
    process-highest words asked (P.Output es p (updates_of us) A) refl h
    ∙ bytes-three words (output_parts es p ++ spaced (mark m.Dot)) (flat_map update_parts (updates_of us))
    (curled 2 (process_grade A) (process_parts A))
    ∙ ap (λ updates. output_bytes words es p ++ (updates ++ process_bytes words 2 A))
    (bytes-flat-map words update_parts (λ u. (u.name, expr_of u.value)) us)

pub input-process-bytes :
    (words : List (List ℕ)) (asked : ℕ) (p : Pred) (xs : List Name) (us : List HeldUpdate) (A : Process) → asked ≤ 2
    → process_bytes words asked (P.Input p xs (updates_of us) A)
    ≡ input_bytes words p xs ++ (flat_map (λ u. update_bytes words (u.name, expr_of u.value)) us ++ process_bytes words 2 A)
unfolding process_bytes input_bytes update_bytes
input-process-bytes words asked p xs us A h =
    process-highest words asked (P.Input p xs (updates_of us) A) refl h
    ∙ bytes-three words (input_parts p xs ++ spaced (mark m.Dot)) (flat_map update_parts (updates_of us))
    (curled 2 (process_grade A) (process_parts A))
    ∙ ap (λ updates. input_bytes words p xs ++ (updates ++ process_bytes words 2 A))
    (bytes-flat-map words update_parts (λ u. (u.name, expr_of u.value)) us)

pub when-bytes :
    (words : List (List ℕ)) (asked : ℕ) (p : Pred) (A : Process) → asked ≤ 2
    → process_bytes words asked (P.When p A) ≡ codes "when (" ++ (pred_bytes words 0 p ++ (codes ") " ++ process_bytes words 2 A))
unfolding process_bytes
when-bytes words asked p A h =
    process-highest words asked (P.When p A) refl h
    ∙ bytes-append words (keyword k.When ∷ Space ∷ guard_parts p) (Space ∷ curled 2 (process_grade A) (process_parts A))
    ∙ ap (λ rest. codes "when " ++ rest) (guarded words p (32 ∷ process_bytes words 2 A))

pub choice-bytes :
    (words : List (List ℕ)) (asked : ℕ) (A B : Process)
    → process_bytes words asked (P.Choice A B)
    ≡ bracket 123 1 asked ++ (process_bytes words 1 A ++ (codes " + " ++ (process_bytes words 2 B ++ bracket 125 1 asked)))
unfolding process_bytes
choice-bytes words asked A B =
    bytes-sides words m.OpenCurly m.CloseCurly (mark m.Plus) asked 1
    (curled 1 (process_grade A) (process_parts A)) (curled 2 (process_grade B) (process_parts B))

pub par-bytes :
    (words : List (List ℕ)) (asked : ℕ) (A B : Process)
    → process_bytes words asked (P.Par A B)
    ≡ bracket 123 0 asked ++ (process_bytes words 0 A ++ (codes " | " ++ (process_bytes words 1 B ++ bracket 125 0 asked)))
unfolding process_bytes
par-bytes words asked A B =
    bytes-sides words m.OpenCurly m.CloseCurly (mark m.Bar) asked 0
    (curled 0 (process_grade A) (process_parts A)) (curled 1 (process_grade B) (process_parts B))

pub ruleset process_forms = (append_assoc, nil-bytes, call-bytes, output-process-bytes, input-process-bytes, when-bytes, choice-bytes, par-bytes)
