-- Attributes with their values.
use Rattle.std.proofs.Common.{◌≡◌, ℕ, ◌<◌, false, true, List, [], ◌∷◌, ◌++◌, length, get_or, drop, codes, All, refl, sym, ap, ◌∙◌, subst, append_assoc, map, arith}
use Rattle.std.specs.Prelude.{◌==◌, flat_map}
use Rattle.std.proofs.lemmas.List.{append_cancel_left, flat_map_more, length-map}
use Rattle.std.proofs.lemmas.List.Elements.{All-nil, All-cons, All-append, All-head, All-tail}
use Rattle.abc_value.specs.declared.value.Value.{Value}
use Rattle.abc_value.specs.declared.value.Value.TheVariants.{Nothing}
use Rattle.abc_value.specs.Literals.{literal, IsValue}
use Rattle.abc_text.specs.Tokens.{is_letter}
use Rattle.abc_text.specs.Meanings.{AreDifferent}
use Rattle.abc_trace_lines.specs.Plain.{Env, entry_text, entries_text, line_text}
use Rattle.abc_trace_lines.specs.Spelled.{IsEntry, IsSpelled, entries_words}
use Rattle.abc_trace_lines.specs.Fronts.{IsNameBefore}
use Rattle.abc_trace_lines.specs.Items.{IsItemFront, IsEntryFront, IsEntriesFront}
use Rattle.abc_trace_lines.specs.Reading.{AreEntries, IsLine}
use Rattle.abc_trace_lines.proofs.Literals.{literal_split}
use Rattle.abc_trace_lines.proofs.Numerals.{not_empty}
use Rattle.abc_trace_lines.proofs.Words.{begins_letter, name_split, name_before_one}
use Rattle.abc_trace_lines.proofs.ItemLists.{follow, items_one}

-- what follows an attribute's name
behind_name : List ℕ × Value → List ℕ → List ℕ
behind_name e r = 61 ∷ (32 ∷ (literal e.1 ++ (59 ∷ (32 ∷ r))))

-- an attribute with its value, byte by byte
entry_parts : (e : List ℕ × Value) (r : List ℕ) → entry_text e ++ r ≡ e.0 ++ (32 ∷ behind_name e r)
unfolding behind_name
entry_parts e r =
    append_assoc (e.0 ++ codes " = " ++ literal e.1) (codes "; ") r
    ∙ append_assoc (e.0 ++ codes " = ") (literal e.1) (codes "; " ++ r)
    ∙ append_assoc e.0 (codes " = ") (literal e.1 ++ (codes "; " ++ r))

pub entry_split : (a b : List ℕ × Value) (r s : List ℕ) → IsEntry a → IsEntry b → Unit {0} →
    Unit {0} → entry_text a ++ r ≡ entry_text b ++ s → (a ≡ b) × (r ≡ s)
unfolding behind_name
entry_split a b r s x y u v e =
    let whole = sym (entry_parts a r) ∙ e ∙ entry_parts b s in
    let words = name_split a.0 b.0 (32 ∷ behind_name a r)
    (32 ∷ behind_name b s) x.0 y.0 refl refl whole in
    let values = literal_split a.1 b.1 (59 ∷ (32 ∷ r)) (59 ∷ (32 ∷ s)) x.1 y.1 refl refl
    (ap (λ (t : List ℕ). drop 3 t) words.1) in
    ((λ i. (words.0 i, values.0 i)), ap (λ (t : List ℕ). drop 2 t) values.1)

-- ---- one of them
-- None begins with the bracket that closes them.
no_entry : (more : List ℕ) (e : List ℕ × Value) (t : List ℕ) → IsEntry e →
    ¬ (125 ∷ more ≡ entry_text e ++ t)
no_entry more e t x f =
    let whole : e.0 ++ (32 ∷ behind_name e t) ≡ 125 ∷ more = sym (f ∙ entry_parts e t) in
    let h : is_letter 125 ≡ true = ap (λ (s : List ℕ). is_letter (get_or s 0 0)) (sym whole)
    ∙ begins_letter e.0 (32 ∷ behind_name e t) x.0 in
    let z : false ≡ true = h in cc

-- what stands before an attribute's value
name_of : (bytes more : List ℕ) (e : List ℕ × Value) → IsEntryFront bytes e more →
    IsNameBefore 32 bytes e.0 (behind_name e more)
name_of bytes more e is = record { name = is.good.0; text = is.text ∙ entry_parts e more }

-- what follows the name that is read
named_is : (bytes named more word : List ℕ) (e : List ℕ × Value) →
    IsNameBefore 32 bytes word named → IsEntryFront bytes e more → named ≡ behind_name e more
named_is bytes named more word e name is =
    (name_before_one 32 bytes word e.0 named (behind_name e more) refl name
    (name_of bytes more e is)).1

pub entry_not_equal : (bytes named word : List ℕ) → IsNameBefore 32 bytes word named →
    ((text : List ℕ) → ¬ (named ≡ codes "= " ++ text)) → (e : List ℕ × Value) (more : List ℕ) →
    ¬ (IsEntryFront bytes e more)
unfolding behind_name
entry_not_equal bytes named word name none e more is =
    none (literal e.1 ++ (59 ∷ (32 ∷ more))) (named_is bytes named more word e name is)

-- what stands behind the equality sign that is read
value_of : (bytes named text more word : List ℕ) (e : List ℕ × Value) →
    IsNameBefore 32 bytes word named → named ≡ codes "= " ++ text → IsEntryFront bytes e more →
    IsItemFront literal IsValue text e.1 (59 ∷ (32 ∷ more))
unfolding behind_name
value_of bytes named text more word e name f is = record {
  good = is.good.1;
  text = append_cancel_left (codes "= ") text (literal e.1 ++ (59 ∷ (32 ∷ more)))
      (sym f ∙ named_is bytes named more word e name is);
  stops = refl;
}

pub entry_not_value : (bytes named text word : List ℕ) → IsNameBefore 32 bytes word named →
    named ≡ codes "= " ++ text →
    ((v : Value) (more : List ℕ) → ¬ (IsItemFront literal IsValue text v more)) →
    (e : List ℕ × Value) (more : List ℕ) → ¬ (IsEntryFront bytes e more)
entry_not_value bytes named text word name f none e more is =
    none e.1 (59 ∷ (32 ∷ more)) (value_of bytes named text more word e name f is)

-- the value that is read, and what follows it
same_value : (bytes named text rest more word : List ℕ) (v : Value) (e : List ℕ × Value) →
    IsNameBefore 32 bytes word named → named ≡ codes "= " ++ text →
    IsItemFront literal IsValue text v rest → IsEntryFront bytes e more →
    (v ≡ e.1) × (rest ≡ 59 ∷ (32 ∷ more))
same_value bytes named text rest more word v e name f item is =
    let mine = value_of bytes named text more word e name f is in
    literal_split v e.1 rest (59 ∷ (32 ∷ more)) item.good mine.good item.stops refl
    (sym item.text ∙ mine.text)

pub entry_not_end : (bytes named text rest word : List ℕ) (v : Value) →
    IsNameBefore 32 bytes word named → named ≡ codes "= " ++ text →
    IsItemFront literal IsValue text v rest → ((more : List ℕ) → ¬ (rest ≡ codes "; " ++ more)) →
    (e : List ℕ × Value) (more : List ℕ) → ¬ (IsEntryFront bytes e more)
entry_not_end bytes named text rest word v name f item none e more is =
    none more (same_value bytes named text rest more word v e name f item is).1

-- none is no attribute's value
pub entry_not_none : (bytes named text rest word : List ℕ) → IsNameBefore 32 bytes word named →
    named ≡ codes "= " ++ text → IsItemFront literal IsValue text Nothing rest →
    (e : List ℕ × Value) (more : List ℕ) → ¬ (IsEntryFront bytes e more)
entry_not_none bytes named text rest word name f item e more is =
    is.good.2 (sym (same_value bytes named text rest more word Nothing e name f item is).0)

-- ---- all of them
-- those that are read so far
pub record IsEntriesSoFar (bytes : List ℕ) (entries : List (List ℕ × Value))
    (rest : List ℕ) : Type 0 where
  pub good : All IsEntry entries
  pub text : bytes ≡ flat_map entry_text entries ++ rest

pub entries_more : (bytes rest more : List ℕ) (h : List (List ℕ × Value)) (e : List ℕ × Value) →
    IsEntriesSoFar bytes h rest → IsEntryFront rest e more → IsEntriesSoFar bytes (h ++ e ∷ []) more
entries_more bytes rest more h e so is = record {
  good = All-append IsEntry h (e ∷ []) so.good (All-cons IsEntry e [] is.good (All-nil IsEntry));
  text =
      so.text ∙ ap (λ (t : List ℕ). flat_map entry_text h ++ t) is.text
      ∙ sym (append_assoc (flat_map entry_text h) (entry_text e) more)
      ∙ ap (λ (t : List ℕ). t ++ more) (flat_map_more entry_text [] h e);
}

pub entries_not : (bytes rest : List ℕ) (h : List (List ℕ × Value)) → IsEntriesSoFar bytes h rest →
    ((more : List ℕ) → ¬ (rest ≡ codes "}" ++ more)) →
    ((e : List ℕ × Value) (more : List ℕ) → ¬ (IsEntryFront rest e more)) →
    (entries : List (List ℕ × Value)) (more : List ℕ) → ¬ (IsEntriesFront bytes entries more)
entries_not bytes rest h so closed none g more is =
    by (follow entry_text IsEntry (λ r. Unit {0}) entry_split (λ a r x. tt) h g rest
    (125 ∷ more) so.good is.good tt tt (no_entry more) (sym so.text ∙ is.text))
  where
    good_from : (h : List (List ℕ × Value)) (k : List (List ℕ × Value)) → All IsEntry (h ++ k) →
        All IsEntry k
    good_from [] k x = x
    good_from (b ∷ h) k x = good_from h k (All-tail IsEntry b (h ++ k) x)

    by : (k : List (List ℕ × Value)) × (g ≡ h ++ k) × (rest ≡ flat_map entry_text k ++ 125 ∷ more) →
        ⊥
    by ([], same, f) = closed more f
    by (c ∷ k, same, f) = none c (flat_map entry_text k ++ 125 ∷ more) (record {
      good = All-head IsEntry c k (good_from h (c ∷ k) (subst (All IsEntry) same is.good));
      text = f ∙ append_assoc (entry_text c) (flat_map entry_text k) (125 ∷ more);
    })

entries_one : (bytes r s : List ℕ) (h g : List (List ℕ × Value)) → IsEntriesFront bytes h r →
    IsEntriesFront bytes g s → (h ≡ g) × (r ≡ s)
entries_one bytes r s h g a b =
    let both = items_one entry_text IsEntry (λ t. Unit {0}) entry_split (λ c t x. tt) h g (125 ∷ r)
    (125 ∷ s) a.good b.good tt tt (no_entry r) (no_entry s) (sym a.text ∙ b.text) in
    (both.0, ap (λ (t : List ℕ). drop 1 t) both.1)

-- ---- in their brackets
-- attributes in brackets, byte by byte
inside_text : (e : List ℕ × Value) (es : List (List ℕ × Value)) →
    entries_text (e ∷ es) ≡ codes "{ " ++ (flat_map entry_text (e ∷ es) ++ 125 ∷ [])
inside_text e es = append_assoc (codes "{ ") (flat_map entry_text (e ∷ es)) (codes "}")

-- what stands behind the bracket that opens them
inside_is : (bytes inside : List ℕ) (entries : List (List ℕ × Value)) → ¬ (bytes ≡ codes "{}") →
    bytes ≡ codes "{ " ++ inside → AreEntries bytes entries →
    (0 < length entries) × IsEntriesFront inside entries []
inside_is bytes inside [] some e is = absurd (some is.text)
inside_is bytes inside (x ∷ xs) some e is = (
  omega arith,
  record {
    good = is.good;
    text = append_cancel_left (codes "{ ") inside (flat_map entry_text (x ∷ xs) ++ 125 ∷ [])
        (sym e ∙ is.text ∙ inside_text x xs);
  },
)

pub entries_not_inside : (bytes inside : List ℕ) → ¬ (bytes ≡ codes "{}") →
    bytes ≡ codes "{ " ++ inside →
    ((entries : List (List ℕ × Value)) (more : List ℕ) → ¬ (IsEntriesFront inside entries more)) →
    (entries : List (List ℕ × Value)) → ¬ (AreEntries bytes entries)
entries_not_inside bytes inside some e none entries is =
    none entries [] (inside_is bytes inside entries some e is).1

-- those that are read are those that stand there
same_entries : (bytes inside rest : List ℕ) (read entries : List (List ℕ × Value)) →
    ¬ (bytes ≡ codes "{}") → bytes ≡ codes "{ " ++ inside → IsEntriesFront inside read rest →
    AreEntries bytes entries → (read ≡ entries) × (rest ≡ [])
same_entries bytes inside rest read entries some e front is =
    entries_one inside rest [] read entries front (inside_is bytes inside entries some e is).1

pub entries_not_some : (bytes inside rest : List ℕ) (read : List (List ℕ × Value)) →
    ¬ (bytes ≡ codes "{}") → bytes ≡ codes "{ " ++ inside → IsEntriesFront inside read rest →
    length read ≡ 0 → (entries : List (List ℕ × Value)) → ¬ (AreEntries bytes entries)
entries_not_some bytes inside rest read some e front none entries is =
    let long = (inside_is bytes inside entries some e is).0 in
    let same = ap length (same_entries bytes inside rest read entries some e front is).0 in
    omega (arith, long, same, none)

pub entries_not_end : (bytes inside rest : List ℕ) (read : List (List ℕ × Value)) →
    ¬ (bytes ≡ codes "{}") → bytes ≡ codes "{ " ++ inside → IsEntriesFront inside read rest →
    false ≡ (length rest == 0) → (entries : List (List ℕ × Value)) → ¬ (AreEntries bytes entries)
entries_not_end bytes inside rest read some e front more entries is =
    not_empty rest more (same_entries bytes inside rest read entries some e front is).1

pub entries_not_once : (bytes inside rest : List ℕ) (read : List (List ℕ × Value)) →
    ¬ (bytes ≡ codes "{}") → bytes ≡ codes "{ " ++ inside → IsEntriesFront inside read rest →
    ¬ (AreDifferent (entries_words read)) → (entries : List (List ℕ × Value)) →
    ¬ (AreEntries bytes entries)
entries_not_once bytes inside rest read some e front twice entries is =
    twice (subst (λ (es : List (List ℕ × Value)). AreDifferent (entries_words es))
    (sym (same_entries bytes inside rest read entries some e front is).0) is.once)

pub entries_are : (bytes inside rest : List ℕ) (read : List (List ℕ × Value)) →
    bytes ≡ codes "{ " ++ inside → IsEntriesFront inside read rest → ¬ (length read ≡ 0) →
    rest ≡ [] → AreDifferent (entries_words read) → AreEntries bytes read
entries_are bytes inside rest [] e front some end once = absurd (some refl)
entries_are bytes inside rest (x ∷ xs) e front some end once = record {
  good = front.good;
  once = once;
  text =
      e ∙ ap (λ (t : List ℕ). codes "{ " ++ t)
      (front.text ∙ ap (λ (t : List ℕ). flat_map entry_text (x ∷ xs) ++ 125 ∷ t) end)
      ∙ sym (inside_text x xs);
}

-- what is not empty has some
pub not_none : {X Y : Type 0} (f : X → Y) (xs : List X) → false ≡ (length xs == 0) →
    ¬ (length (map f xs) ≡ 0)
not_none f xs e h =
    let none : length xs ≡ 0 = sym (length-map xs f) ∙ h in
    let z : false ≡ true = e ∙ ap (λ (n : ℕ). n == 0) none in
    cc

-- ---- the line
-- the component stands behind env
component_is : (bytes named word : List ℕ) (es : List (List ℕ × Value)) →
    bytes ≡ codes "env " ++ named → IsLine bytes (Env word es) →
    IsNameBefore 32 named word (entries_text es)
component_is bytes named word es e is = record {
  name = is.spelled.0;
  text = append_cancel_left (codes "env ") named (word ++ 32 ∷ entries_text es)
      (sym e ∙ sym is.text);
}

pub env_not_entries : (bytes named text component : List ℕ) → bytes ≡ codes "env " ++ named →
    IsNameBefore 32 named component text → ((es : List (List ℕ × Value)) → ¬ (AreEntries text es)) →
    (word : List ℕ) (es : List (List ℕ × Value)) → ¬ (IsLine bytes (Env word es))
env_not_entries bytes named text component e name none word es is = none es (record {
  good = is.spelled.1;
  once = is.spelled.2;
  text = (name_before_one 32 named component word text (entries_text es) refl name
      (component_is bytes named word es e is)).1;
})

-- ---- one reading
entries_same : (h k : List (List ℕ × Value)) → All IsEntry h → All IsEntry k →
    entries_text h ≡ entries_text k → h ≡ k
entries_same [] [] x y e = refl
entries_same [] (b ∷ k) x y e =
    let f = ap (λ (t : List ℕ). get_or t 1 0) e in absurd (omega (arith, f))
entries_same (a ∷ h) [] x y e =
    let f = ap (λ (t : List ℕ). get_or t 1 0) e in absurd (omega (arith, f))
entries_same (a ∷ h) (b ∷ k) x y e =
    let inside : List ℕ = flat_map entry_text (b ∷ k) ++ 125 ∷ [] in
    let same : inside ≡ flat_map entry_text (a ∷ h) ++ 125 ∷ [] =
    append_cancel_left (codes "{ ") inside (flat_map entry_text (a ∷ h) ++ 125 ∷ [])
    (sym (inside_text b k) ∙ sym e ∙ inside_text a h) in
    (entries_one inside [] [] (a ∷ h) (b ∷ k) (record { good = x; text = same })
    (record { good = y; text = refl })).0

pub env_lines_one : (u w : List ℕ) (h k : List (List ℕ × Value)) → IsSpelled (Env u h) →
    IsSpelled (Env w k) → line_text (Env u h) ≡ line_text (Env w k) → Env u h ≡ Env w k
env_lines_one u w h k x y e =
    let named : List ℕ = w ++ 32 ∷ entries_text k in
    let left : IsNameBefore 32 named u (entries_text h) = record {
      name = x.0;
      text = append_cancel_left (codes "env ") named (u ++ 32 ∷ entries_text h) (sym e);
    } in
    let both = name_before_one 32 named u w (entries_text h) (entries_text k) refl left
    (record { name = y.0; text = refl }) in
    let same = entries_same h k x.1 y.1 both.1 in
    (λ i. Env (both.0 i) (same i))
