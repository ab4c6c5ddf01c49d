-- Lists of names and of variables.
use Rattle.std.proofs.Common.{◌≡◌, ℕ, List, [], ◌∷◌, ◌++◌, flat_map, length, refl, ap, append-nil, append_assoc}
use Rattle.abc_pred.specs.declared.names.Name.{Name}
use Rattle.abc_printed.specs.Parts.{name, variable, behind_comma, word_at}
use Rattle.abc_print.specs.Bytes.{name_list, next_name, variable_list, next_variable}
use Rattle.abc_print.proofs.Joined.{bytes-flat}

pub name_list-nil : (words : List (List ℕ)) (ns : List Name) → length ns ≡ 0 → name_list words ns ≡ []
unfolding name_list
name_list-nil words [] h = refl
name_list-nil words (n ∷ ns) h = cc

pub name_list-cons : (words : List (List ℕ)) (n : Name) (ns : List Name) → name_list words (n ∷ ns) ≡ word_at words n ++ flat_map (next_name words) ns
unfolding name_list next_name
name_list-cons words n ns = ap (λ rest. word_at words n ++ rest) (bytes-flat words (behind_comma (λ n. name n ∷ [])) ns)

pub next_name-bytes : (words : List (List ℕ)) (n : Name) → next_name words n ≡ 44 ∷ 32 ∷ word_at words n
unfolding next_name
next_name-bytes words n = ap (λ word. 44 ∷ 32 ∷ word) (append-nil (word_at words n))

pub variable_list-nil : (words : List (List ℕ)) (ns : List Name) → length ns ≡ 0 → variable_list words ns ≡ []
unfolding variable_list
variable_list-nil words [] h = refl
variable_list-nil words (n ∷ ns) h = cc

pub variable_list-cons :
    (words : List (List ℕ)) (n : Name) (ns : List Name)
    → variable_list words (n ∷ ns) ≡ 36 ∷ (word_at words n ++ flat_map (next_variable words) ns)
unfolding variable_list next_variable
variable_list-cons words n ns = ap (λ rest. 36 ∷ (word_at words n ++ rest)) (bytes-flat words (behind_comma (λ n. variable n ∷ [])) ns)

pub next_variable-bytes : (words : List (List ℕ)) (n : Name) → next_variable words n ≡ 44 ∷ 32 ∷ 36 ∷ word_at words n
unfolding next_variable
next_variable-bytes words n = ap (λ word. 44 ∷ 32 ∷ 36 ∷ word) (append-nil (word_at words n))

pub ruleset name_lists = (append_assoc, append-nil, name_list-nil, name_list-cons, next_name-bytes)

pub ruleset variable_lists = (append_assoc, append-nil, variable_list-nil, variable_list-cons, next_variable-bytes)
