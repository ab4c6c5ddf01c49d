-- Names at the front of bytes.
use Rattle.std.proofs.Common.{◌≡◌, ℕ, ◌≤◌, true, false, List, [], ◌∷◌, ◌++◌, length, get_or, drop, None, sym, ap, ◌∙◌, subst}
use Rattle.std.specs.List.{AllPass}
use Rattle.std.proofs.lemmas.List.Elements.{All-cons, All-tail}
use Rattle.abc_text.specs.declared.limits.TheConstants.{MOST_NAME}
use Rattle.abc_text.specs.Tokens.{is_letter, is_word_byte}
use Rattle.abc_text.specs.Words.{keyword_at}
use Rattle.abc_text.proofs.Forward.{letter_is_word}
use Rattle.abc_trace.specs.WellFormed.{IsName}
use Rattle.abc_trace_lines.specs.Fronts.{StopsAt, IsCut, IsNameBefore, IsNameFront}
use Rattle.abc_trace_lines.proofs.Cuts.{run_split, cut_one}

-- A name is bytes of a word.
pub name_bytes : (word : List ℕ) → IsName word → AllPass is_word_byte word
name_bytes [] h = absurd h.0
name_bytes (b ∷ bs) h = All-cons (λ x. is_word_byte x ≡ true) b bs (letter_is_word b h.0.0) h.0.1

-- Two names before what goes on with no byte of a word are one.
pub name_split : (u w r s : List ℕ) → IsName u → IsName w → StopsAt is_word_byte r →
    StopsAt is_word_byte s → u ++ r ≡ w ++ s → (u ≡ w) × (r ≡ s)
name_split u w r s h k x y e =
    run_split is_word_byte u w r s (name_bytes u h) (name_bytes w k) x y e

-- ---- what names are, byte by byte
-- A name begins with a letter.
pub begins_letter : (word more : List ℕ) → IsName word →
    is_letter (get_or (word ++ more) 0 0) ≡ true
begins_letter [] more h = absurd h.0
begins_letter (b ∷ bs) more h = h.0.0

-- bytes of a word that begin with a letter, and are no keyword
named : (b : ℕ) (bs : List ℕ) → is_letter b ≡ true → AllPass is_word_byte (b ∷ bs) →
    length (b ∷ bs) ≤ MOST_NAME → keyword_at (b ∷ bs) ≡ None → IsName (b ∷ bs)
named b bs letter bytes short free =
    ((letter, All-tail (λ x. is_word_byte x ≡ true) b bs bytes, short), free)

-- the same of bytes that are a first one and others
pub name_is : (word : List ℕ) (b : ℕ) (bs : List ℕ) → word ≡ b ∷ bs → is_letter b ≡ true →
    AllPass is_word_byte word → length word ≤ MOST_NAME → keyword_at word ≡ None → IsName word
name_is word b bs e letter bytes short free =
    subst IsName (sym e) (named b bs letter (subst (AllPass is_word_byte) e bytes)
    (subst (λ (w : List ℕ). length w ≤ MOST_NAME) e short)
    (subst (λ (w : List ℕ). keyword_at w ≡ None) e free))

-- ---- names at the front
-- The bytes of a word at the front are a name's, where a name stands there.
pub cut_of_name : (bytes word more name rest : List ℕ) → IsCut is_word_byte bytes word more →
    IsNameFront bytes name rest → IsName word
cut_of_name bytes word more name rest cut is =
    let mine : IsCut is_word_byte bytes name rest = record {
      text = is.text;
      passes = name_bytes
          name is.name;
      stops = is.stops;
    } in
    subst IsName (sym (cut_one is_word_byte bytes word name more rest cut mine).0) is.name

pub name_of_before : (mark : ℕ) (bytes word more : List ℕ) → is_word_byte mark ≡ false →
    IsNameBefore mark bytes word more → IsNameFront bytes word (mark ∷ more)
name_of_before mark bytes word more stop is =
    record { name = is.name; text = is.text; stops = stop }

-- There is one name at the front.
pub name_one : (bytes u w r s : List ℕ) → IsNameFront bytes u r → IsNameFront bytes w s →
    (u ≡ w) × (r ≡ s)
name_one bytes u w r s a b = name_split u w r s a.name b.name a.stops b.stops (sym a.text ∙ b.text)

-- There is one name before a byte that no word has.
pub name_before_one : (mark : ℕ) (bytes u w r s : List ℕ) → is_word_byte mark ≡ false →
    IsNameBefore mark bytes u r → IsNameBefore mark bytes w s → (u ≡ w) × (r ≡ s)
name_before_one mark bytes u w r s stop a b =
    let both = name_one bytes u w (mark ∷ r) (mark ∷ s) (name_of_before mark bytes u r stop a)
    (name_of_before mark bytes w s stop b) in
    let more : mark ∷ r ≡ mark ∷ s = both.1 in
    (both.0, ap (λ (t : List ℕ). drop 1 t) more)
