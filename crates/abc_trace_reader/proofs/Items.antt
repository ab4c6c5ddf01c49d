-- Items whose words are numbered one by one.
use Rattle.std.proofs.Common.{◌≡◌, ℕ, ◌+◌, ◌≤◌, ◌<◌, List, [], ◌∷◌, ◌++◌, length, map, take, get_or, Bor, sym, ap, ◌∙◌, subst, arith}
use Rattle.std.proofs.lemmas.List.{map-append, take_more}
use Rattle.abc_pred.specs.declared.names.Name.{Name}
use Rattle.abc_text.specs.Meanings.{with_word, number_in}
use Rattle.abc_trace_order.specs.Reading.{AreNumbered}
use Rattle.abc_trace_order.proofs.WordLists.{one_length, numbered_more}

-- items in words
abbrev pub plain_items : {B : Type 0} → List (Bor (List ℕ) × B) → List (List ℕ × B)
plain_items items = map (λ e. (e.0.now, e.1)) items

-- one item more
pub numbered_item :
    {B : Type 0} (known : List (List ℕ)) (items : List (Bor (List ℕ) × B)) (item : Bor (List ℕ) × B) (known' known'' : List (List ℕ))
    (named named' : List (Name × B)) (n : ℕ) → AreNumbered known (plain_items items) known' named → n ≡ number_in known' item.0.now →
    known'' ≡ with_word known' item.0.now → named' ≡ named ++ (record { 0 = n }, item.1) ∷ [] →
    AreNumbered known (plain_items (items ++ item ∷ [])) known'' named'
numbered_item {B} known items item known' known'' named named' n h is grown added =
    subst (λ (ns : List (Name × B)). AreNumbered known (plain_items (items ++ item ∷ [])) known'' ns) (sym added)
    (subst (λ (is : List (List ℕ × B)). AreNumbered known is known'' (named ++ (record { 0 = n }, item.1) ∷ []))
    (sym (map-append {B = List ℕ × B} (λ (e : Bor (List ℕ) × B). (e.0.now, e.1)) items (item ∷ [])))
    (numbered_more known (plain_items items) known' named item.0.now item.1 n known'' h is grown))

-- and of a list
pub numbered_next :
    {B : Type 0} (known : List (List ℕ)) (items : List (Bor (List ℕ) × B)) (index : ℕ) (d : Bor (List ℕ) × B) (known' known'' : List (List ℕ))
    (named named' : List (Name × B)) (n : ℕ) → index < length items → AreNumbered known (plain_items (take index items)) known' named →
    n ≡ number_in known' (get_or items index d).0.now → known'' ≡ with_word known' (get_or items index d).0.now →
    named' ≡ named ++ (record { 0 = n }, (get_or items index d).1) ∷ [] →
    AreNumbered known (plain_items (take (index + 1) items)) known'' named'
numbered_next {B} known items index d known' known'' named named' n within h is grown added =
    subst (λ (is : List (Bor (List ℕ) × B)). AreNumbered known (plain_items is) known'' named') (sym (take_more items index d within))
    (numbered_item known (take index items) (get_or items index d) known' known'' named named' n h is grown added)

-- The words grow by one at most.
pub few_more :
    (known known' : List (List ℕ)) (word : List ℕ) (m n : ℕ) → known' ≡ with_word known word → length known ≤ m + n → length known' ≤ m + (n + 1)
few_more known known' word m n grown few =
    let one = one_length known word in
    omega (arith, one, few, ap (length {A = List ℕ}) grown)
