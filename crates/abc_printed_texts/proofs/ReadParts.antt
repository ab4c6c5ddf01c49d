-- Good parts are read back: their bytes are tokens, one for each lexeme.
use Rattle.std.proofs.Common.{◌≡◌, ℕ, suc, ◌+◌, List, [], ◌∷◌, ◌++◌, length, drop, take, map, None, All, refl, sym, ap, ◌∙◌, subst, arith, length-append}
use Rattle.std.proofs.lemmas.List.{take_at, drop_at, drop-drop}
use Rattle.abc_text.specs.declared.lexical.Before.{Before}
use Rattle.abc_text.specs.declared.lexical.Before.TheVariants.{Open}
use Rattle.abc_text.specs.declared.lexical.Token.{Token as TextToken}
use Rattle.abc_text.specs.Tokens.{skip, next, stands_after, IsRead}
use Rattle.abc_text.specs.Meanings.{spelling}
use Rattle.abc_text.proofs.Following.{followed}
use Rattle.abc_printed.specs.Parts.{Part, Token, Space, Line, lexemes, spelled, bytes_of}
use Rattle.abc_printed.specs.Printable.{HasWord}
use Rattle.abc_printed_texts.specs.Read.{kind_of, AreSpelledTokens}
use Rattle.abc_printed_texts.proofs.Good.{after, AreGood}
use Rattle.abc_printed_texts.proofs.Alone.{begun, lexeme_token, lexeme_after, lexeme_followed}

-- the tokens of parts, the first of which begins at `place`
abbrev pub tokens_from : List (List ℕ) → ℕ → List Part → List TextToken
tokens_from words place [] = []
tokens_from words place (Token t ∷ rest) =
    record { kind = kind_of t; place = place; len = length (spelled words t) } ∷ tokens_from words (place + length (spelled words t)) rest
tokens_from words place (Space ∷ rest) = tokens_from words (place + 1) rest
tokens_from words place (Line ∷ rest) = tokens_from words (place + 1) rest

-- A space and the end of a line are skipped.
space_read :
    (size : ℕ) (before : Before) (bytes : List ℕ) (ts : List TextToken) →
    IsRead size before bytes ts None → IsRead size before (32 ∷ bytes) ts None
unfolding skip
space_read size before bytes [] h = h
space_read size before bytes (t ∷ ts) h = (record { token = h.0.token; place = h.0.place }, h.1)

-- And so is the end of a line.
line_read :
    (size : ℕ) (before : Before) (bytes : List ℕ) (ts : List TextToken) →
    IsRead size before bytes ts None → IsRead size before (10 ∷ bytes) ts None
unfolding skip
line_read size before bytes [] h = h
line_read size before bytes (t ∷ ts) h = (record { token = h.0.token; place = h.0.place }, h.1)

-- The bytes of good parts are read as their tokens.
parts_read :
    (words : List (List ℕ)) (size place : ℕ) (before : Before) (parts : List Part) → All (HasWord words) (lexemes parts) → AreGood before parts →
    place + length (bytes_of words parts) ≡ size → IsRead size before (bytes_of words parts) (tokens_from words place parts) None
unfolding next skip
parts_read words size place before [] has good e = refl
parts_read words size place before (Token t ∷ rest) has good e =
    let word = spelled words t in
    let bytes = bytes_of words rest in
    let len = length (spelled words t) in
    let here : HasWord words t = has 0 t (omega arith) in
    let alone = lexeme_token words before t here good.0 in
    let token = followed before bytes word (kind_of t) alone.token (lexeme_followed words t rest good.1) in
    let front : skip (word ++ bytes) ≡ word ++ bytes = begun word bytes alone.begins in
    let long = length-append {A = ℕ} word bytes in
    let mine : take len (skip (word ++ bytes)) ≡ word = ap (take len) front ∙ take_at word bytes len refl in
    let theirs : drop len (skip (word ++ bytes)) ≡ bytes = ap (drop len) front ∙ drop_at word bytes len refl in
    let behind : after before t ≡ stands_after before (kind_of t) (take len (skip (word ++ bytes))) =
    sym (lexeme_after words before t here) ∙ ap (stands_after before (kind_of t)) (sym mine) in
    let has' : All (HasWord words) (lexemes rest) = λ k d lt. has (suc k) d (omega (arith, lt)) in
    let more = parts_read words size (place + len) (after before t) rest has' good.2 (omega (arith, e, long)) in (
      record { token = ap (next before) front ∙ token; place = omega (arith, e, ap (length {A = ℕ}) front) },
      subst (λ (bs : List ℕ). IsRead size (stands_after before (kind_of t) (take len (skip (word ++ bytes)))) bs
          (tokens_from words (place + len) rest) None) (sym theirs)
          (subst (λ (b : Before). IsRead size b bytes (tokens_from words (place + len) rest) None) behind more),
    )
parts_read words size place before (Space ∷ rest) has good e =
    space_read size before (bytes_of words rest) (tokens_from words (place + 1) rest)
    (parts_read words size (place + 1) before rest has good (omega (arith, e)))
parts_read words size place before (Line ∷ rest) has good e =
    line_read size before (bytes_of words rest) (tokens_from words (place + 1) rest)
    (parts_read words size (place + 1) before rest has good (omega (arith, e)))

-- The tokens are of the lexemes' kinds.
kinds_from : (words : List (List ℕ)) (place : ℕ) (parts : List Part) → map (λ t. t.kind) (tokens_from words place parts) ≡ map kind_of (lexemes parts)
kinds_from words place [] = refl
kinds_from words place (Token t ∷ rest) = ap (λ ks. kind_of t ∷ ks) (kinds_from words (place + length (spelled words t)) rest)
kinds_from words place (Space ∷ rest) = kinds_from words (place + 1) rest
kinds_from words place (Line ∷ rest) = kinds_from words (place + 1) rest

-- where the bytes from `place` on are those of the parts
spellings_from :
    (words : List (List ℕ)) (whole : List ℕ) (place : ℕ) (parts : List Part) → drop place whole ≡ bytes_of words parts →
    map (spelling whole) (tokens_from words place parts) ≡ map (spelled words) (lexemes parts)
spellings_from words whole place [] e = refl
spellings_from words whole place (Token t ∷ rest) e =
    let word = spelled words t in
    let bytes = bytes_of words rest in
    let here : take (length word) (drop place whole) ≡ word = ap (take (length word)) e ∙ take_at word bytes (length word) refl in
    let next : drop (place + length word) whole ≡ bytes =
    sym (drop-drop (length word) place whole) ∙ ap (drop (length word)) e ∙ drop_at word bytes (length word) refl in
    let more = spellings_from words whole (place + length word) rest next in
    λ i. here i ∷ more i
spellings_from words whole place (Space ∷ rest) e = spellings_from words whole (place + 1) rest (sym (drop-drop 1 place whole) ∙ ap (drop 1) e)
spellings_from words whole place (Line ∷ rest) e = spellings_from words whole (place + 1) rest (sym (drop-drop 1 place whole) ∙ ap (drop 1) e)

-- So the bytes are tokens that are spelled as the lexemes are.
pub good_are_read : (words : List (List ℕ)) (parts : List Part) → All (HasWord words) (lexemes parts) → AreGood Open parts →
    AreSpelledTokens words (bytes_of words parts) (tokens_from words 0 parts) (lexemes parts)
good_are_read words parts has good = record {
  tokens = parts_read words (length (bytes_of words parts)) 0 Open parts has good (omega arith);
  kinds = kinds_from words 0 parts;
  spellings = spellings_from words (bytes_of words parts) 0 parts refl;
}
