-- What was read so far of a text.
use Rattle.std.proofs.Common.{◌≡◌, ℕ, suc, ◌+◌, ◌≤◌, List, [], ◌∷◌, ◌++◌, length, Some, None, All, refl, sym, ap, ◌∙◌, subst, arith, length-append}
use Rattle.std.proofs.lemmas.List.{map-append}
use Rattle.std.proofs.lemmas.List.Sums.{fold-append}
use Rattle.abc_text.specs.declared.lexical.Before.{Before}
use Rattle.abc_text.specs.declared.lexical.Before.TheVariants.{Open}
use Rattle.abc_text.specs.declared.lexical.Token.{Token}
use Rattle.abc_text.specs.declared.lexical.Fault.{Fault}
use Rattle.abc_text.specs.declared.lexical.Next.TheVariants.{End, Bad}
use Rattle.abc_text.specs.Tokens.{skip, next, left, spelled}
use Rattle.abc_text.specs.Meanings.{spelling, named, with_named, names_behind, HasName}
use Rattle.abc_text.proofs.Forward.{good_within}
use Rattle.abc_text.proofs.Growing.{behind_grows, named_have_numbers}
use Rattle.abc_text.proofs.Numbers.{spelled_at}
use Rattle.abc_text.proofs.Standing.{IsBack, skip_back, back_back, drop_back}
use Rattle.abc_lexer.specs.declared.step.Item.{Item}
use Rattle.abc_lexer.specs.declared.step.Item.TheVariants.{Keyword, Name, Variable, Number, Text, Mark}
use Rattle.abc_lexer.specs.declared.lexer.Read.{Read}
use Rattle.abc_lexer.specs.Items.{IsItem, IsReadOf}
use Rattle.abc_lexer.proofs.Scans.{ReadsOn, found_on, found_shorter, reads_end, reads_bad}
use Rattle.abc_grammar.specs.declared.lexemes.Lexeme.{Lexeme}
use Rattle.abc_grammar.specs.Lexemes.{lexeme_of, lexemes_of}
use Rattle.abc_grammar.specs.Scanned.{IsScanned}
use Rattle.abc_lexemes.specs.Lexed.{HasText, IsMeant}
use Rattle.abc_lexemes.proofs.Meant.{lexeme_stays}
use Rattle.abc_lexemes.proofs.NewWords.{behind_length}

-- what a token is fits
pub has_text : (word : List ℕ) (item : Item) → IsItem word item → HasText item
has_text word (Keyword k) h = tt
has_text word (Name name) h = tt
has_text word (Variable name) h = tt
has_text word (Number n) h = tt
has_text word (Text bytes) h = h.1
has_text word (Mark m) h = tt

-- These tokens were read, and the rest is left; they stand for these lexemes, and these words have numbers.
pub record IsSoFar (names : List (List ℕ)) (bytes : List ℕ) (tokens : List Token) (lexemes : List Lexeme)
    (known : List (List ℕ)) (before : Before) (rest : List ℕ) : Type 0 where
  pub reads : ReadsOn bytes tokens before rest
  pub back : IsBack rest bytes
  pub known_are : known ≡ names_behind names bytes tokens
  pub meant : lexemes ≡ lexemes_of known bytes tokens
  pub count : length tokens + length rest ≤ length bytes

-- so there are few words
pub so_far_few : (names : List (List ℕ)) (bytes : List ℕ) (tokens : List Token) (lexemes : List Lexeme)
    (known : List (List ℕ)) (before : Before) (rest : List ℕ) →
    IsSoFar names bytes tokens lexemes known before rest → length known ≤ length names + length bytes
so_far_few names bytes tokens lexemes known before rest h =
    omega (arith, ap (length {A = List ℕ}) h.known_are, behind_length bytes names tokens, h.count)

behind_one : (names : List (List ℕ)) (bytes : List ℕ) (ts : List Token) (t : Token) →
    names_behind names bytes (ts ++ t ∷ []) ≡ with_named (names_behind names bytes ts) (named bytes t)
behind_one names bytes ts t =
    fold-append (λ (known : List (List ℕ)) (t : Token). with_named known (named bytes t)) names ts (t ∷ [])

lexemes_stay : (words more : List (List ℕ)) (bytes : List ℕ) (ts : List Token) →
    All (λ t. HasName words (named bytes t)) ts → lexemes_of (words ++ more) bytes ts ≡ lexemes_of words bytes ts
lexemes_stay words more bytes [] h = refl
lexemes_stay words more bytes (t ∷ ts) h =
    let here = lexeme_stays words more bytes t (h 0 t (omega arith)) in
    let rest = lexemes_stay words more bytes ts (λ k d lt. h (suc k) d (omega (arith, lt))) in
    λ i. here i ∷ rest i

pub so_far_on : (names : List (List ℕ)) (bytes : List ℕ) (tokens : List Token) (lexemes : List Lexeme)
    (known known' : List (List ℕ)) (before : Before) (rest : List ℕ)
    (r : Read) (x : Lexeme) → IsSoFar names bytes tokens lexemes known before rest → IsReadOf
    (length bytes) before rest r → IsMeant known known' r.item x →
    IsSoFar names bytes (tokens ++ r.token ∷ []) (lexemes ++ x ∷ []) known' r.after r.left.now
so_far_on names bytes tokens lexemes known known' before rest r x so here means =
    let t = r.token in
    let word : spelled rest t ≡ spelling bytes t = sym (spelled_at bytes before rest t so.back here.token) in
    let meant = means bytes t here.kind (subst (λ (w : List ℕ). IsItem w r.item) word here.item) in
    let within = good_within before (skip rest) t.kind t.len here.token.token in
    let all : known' ≡ names_behind names bytes (tokens ++ t ∷ []) =
    meant.1 ∙ ap (λ (ws : List (List ℕ)). with_named ws (named bytes t)) so.known_are ∙ sym
    (behind_one names bytes tokens t) in
    let grows = behind_grows bytes known (t ∷ []) in
    let more : known' ≡ known ++ grows.0 = meant.1 ∙ grows.1 in
    let have : All (λ u. HasName known (named bytes u)) tokens =
    subst (λ (ws : List (List ℕ)). All (λ u. HasName ws (named bytes u)) tokens) (sym so.known_are)
    (named_have_numbers names bytes tokens) in
    let stay : lexemes_of known' bytes tokens ≡ lexemes_of known bytes tokens =
    ap (λ (ws : List (List ℕ)). lexemes_of ws bytes tokens) more ∙ lexemes_stay known grows.0 bytes tokens have in
    let shorter = found_shorter (length bytes) before rest r here in
    record {
      reads = found_on bytes tokens before rest r so.reads here;
      back = subst (λ (b : List ℕ). IsBack b bytes) (sym here.left)
          (back_back (left rest t) (skip rest) bytes (drop_back t.len (skip rest) within.1) (back_back
          (skip rest) rest bytes (skip_back rest) so.back));
      known_are = all;
      meant =
          (λ i. (so.meant ∙ sym stay) i ++ (meant.0 i ∷ [])) ∙ sym (map-append (lexeme_of known' bytes) tokens
          (t ∷ []));
      count = let so_count = so.count in omega (arith, so_count, shorter, length-append {A = Token} tokens (t ∷ []));
    }

pub so_far_begins : (names : List (List ℕ)) (bytes : List ℕ) → IsSoFar names bytes [] [] names Open bytes
so_far_begins names bytes = record {
  reads = λ ts fault h. h;
  back = drop_back 0 bytes (omega arith);
  known_are = refl;
  meant = refl;
  count = omega arith;
}

-- the text ends, or a bad token comes
pub so_far_ends : (names : List (List ℕ)) (bytes : List ℕ) (tokens : List Token) (lexemes : List Lexeme)
    (known : List (List ℕ)) (before : Before) (rest : List ℕ) →
    IsSoFar names bytes tokens lexemes known before rest → next before (skip rest) ≡ End →
    IsScanned names bytes tokens None lexemes × (known ≡ names_behind names bytes tokens)
so_far_ends names bytes tokens lexemes known before rest h e = (
  record {
    read = reads_end bytes tokens before rest h.reads e;
    meant = h.meant ∙ ap (λ (ws : List (List ℕ)). lexemes_of ws bytes tokens) h.known_are;
  },
  h.known_are,
)

pub so_far_bad : (names : List (List ℕ)) (bytes : List ℕ) (tokens : List Token) (lexemes : List Lexeme)
    (known : List (List ℕ)) (before : Before) (rest : List ℕ)
    (fault : Fault) → IsSoFar names bytes tokens lexemes known before rest →
    (next before (skip rest) ≡ Bad fault.cause) × (fault.place + length (skip rest) ≡ length bytes) →
    IsScanned names bytes tokens (Some fault) lexemes × (known ≡ names_behind names bytes tokens)
so_far_bad names bytes tokens lexemes known before rest fault h e = (
  record {
    read = reads_bad bytes tokens before rest fault h.reads e.0 e.1;
    meant = h.meant ∙ ap (λ (ws : List (List ℕ)). lexemes_of ws bytes tokens) h.known_are;
  },
  h.known_are,
)
