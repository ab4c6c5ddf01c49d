-- A printed text in parts, lexemes and what stands between them, and its bytes.
use Rattle.std.specs.Prelude.{ℕ, List, [], ◌∷◌, ◌++◌, flat_map, filter_map, slice_get, decimal, Option, Some, None, if◌then◌else◌, nat_lt}
use Rattle.std.specs.Option.{option_map_or}
use Rattle.abc_pred.specs.declared.names.Name.{Name}
use Rattle.abc_text.specs.declared.words.Mark.{Mark}
use Rattle.abc_text.specs.declared.words.Mark.TheVariants as m
use Rattle.abc_text.specs.declared.words.Keyword.{Keyword}
use Rattle.abc_text.specs.Words.{keyword_text, mark_text}
use Rattle.abc_text.specs.Spelling.{text_spelling}
use Rattle.abc_grammar.specs.declared.lexemes.Lexeme.{Lexeme}
use Rattle.abc_grammar.specs.declared.lexemes.Lexeme.TheVariants as l

-- a lexeme, a space, or the end of a line
pub data Part : Type 0 where
  Token : (t : Lexeme) → Part
  Space : Part
  Line : Part

-- ---- how parts are written in the table of forms
abbrev pub mark : Mark → Part
mark m = Token (l.Mark m)

abbrev pub keyword : Keyword → Part
keyword k = Token (l.Keyword k)

abbrev pub name : Name → Part
name n = Token (l.Name n)

abbrev pub variable : Name → Part
variable n = Token (l.Variable n)

abbrev pub number : ℕ → Part
number n = Token (l.Number n)

abbrev pub text : List ℕ → Part
text bytes = Token (l.Text bytes)

-- items parted by a comma and a space
abbrev pub behind_comma : {A : Type 0} → (A → List Part) → A → List Part
behind_comma print a = mark m.Comma ∷ Space ∷ print a

abbrev pub listed : {A : Type 0} → (A → List Part) → List A → List Part
listed print [] = []
listed print (a ∷ items) = print a ++ flat_map (behind_comma print) items

-- brackets exactly where the grade of the part is below the one that its place asks
abbrev pub bracketed : Mark → Mark → ℕ → ℕ → List Part → List Part
bracketed opener closer asked grade parts =
    if nat_lt grade asked then mark opener ∷ parts ++ mark closer ∷ [] else parts

-- ---- what is printed
-- the lexemes of parts
abbrev pub lexeme_in : Part → Option Lexeme
lexeme_in (Token t) = Some t
lexeme_in Space = None
lexeme_in Line = None

abbrev pub lexemes : List Part → List Lexeme
lexemes parts = filter_map lexeme_in parts

-- The word of a name, where `words` has each word at its number.
abbrev pub word_at : List (List ℕ) → Name → List ℕ
word_at words n = option_map_or (λ word. word) (slice_get words n.0) []

-- how a lexeme is spelled
abbrev pub spelled : List (List ℕ) → Lexeme → List ℕ
spelled words (l.Keyword k) = keyword_text k
spelled words (l.Mark m) = mark_text m
spelled words (l.Name n) = word_at words n
spelled words (l.Variable n) = 36 ∷ word_at words n
spelled words (l.Number n) = decimal n
spelled words (l.Text bytes) = text_spelling bytes

-- a space is 32 and the end of a line 10
abbrev pub part_bytes : List (List ℕ) → Part → List ℕ
part_bytes words (Token t) = spelled words t
part_bytes words Space = 32 ∷ []
part_bytes words Line = 10 ∷ []

abbrev pub bytes_of : List (List ℕ) → List Part → List ℕ
bytes_of words parts = flat_map (part_bytes words) parts
