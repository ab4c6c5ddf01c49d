-- Places in a text of the grammar: where tokens of a kind stand, and any others of that kind would make a text too.
use Rattle.std.proofs.Common.{◌≡◌, List, [], ◌∷◌, ◌++◌, sym, ap, ◌∙◌, subst, append_assoc, append-nil}
use Rattle.abc_grammar.specs.declared.lexemes.Lexeme.{Lexeme}
use Rattle.abc_grammar.specs.Refusals.{IsSomeProgram}

-- These tokens of all have a place for some X.
pub record Place {A : Type 0} (X : List Lexeme → A → Type 0) (all ts : List Lexeme) : Type 0 where
  pub before : List Lexeme
  pub after : List Lexeme
  pub whole : all ≡ before ++ ts ++ after
  pub fits : (us : List Lexeme) (a : A) → X us a → IsSomeProgram (before ++ us ++ after)

-- a list within another
pub regroup : (before left ts right after : List Lexeme) → before ++ (left ++ ts ++ right) ++ after ≡ (before ++ left) ++ ts ++ (right ++ after)
regroup before left ts right after = simp append_assoc

-- A part of tokens that have a place has one: `whole_of` makes the tokens from those of the part, which stand between `left`
-- and `right`.
unfoldable pub inside :
    {A B : Type 0} {X : List Lexeme → A → Type 0} {Y : List Lexeme → B → Type 0} {all : List Lexeme}
    (whole_of : List Lexeme → List Lexeme) (left right : List Lexeme) → ((us : List Lexeme) → whole_of us ≡ left ++ us ++ right) →
    ((us : List Lexeme) (a : A) → X us a → (b : B) × Y (whole_of us) b) →
    (ts : List Lexeme) → Place Y all (whole_of ts) → Place X all ts
inside whole_of left right is each ts p =
    let same : (us : List Lexeme) → p.before ++ whole_of us ++ p.after ≡ (p.before ++ left) ++ us ++ (right ++ p.after) =
    λ us. ap (λ (ws : List Lexeme). p.before ++ ws ++ p.after) (is us) ∙ regroup p.before left us right p.after in
    record {
      before = p.before ++ left;
      after = right ++ p.after;
      whole = p.whole ∙ same ts;
      fits = λ us a h. let made = each us a h in subst IsSomeProgram (same us) (p.fits (whole_of us) made.0 made.1);
    }

-- the same list, with a part cut behind one token, or two
pub behind_one : (head : List Lexeme) (t : Lexeme) (us : List Lexeme) → head ++ t ∷ us ≡ (head ++ t ∷ []) ++ us ++ []
behind_one head t us = sym (append-nil ((head ++ t ∷ []) ++ us) ∙ append_assoc head (t ∷ []) us)

pub behind_two : (head : List Lexeme) (t u : Lexeme) (us : List Lexeme) → head ++ t ∷ u ∷ us ≡ (head ++ t ∷ u ∷ []) ++ us ++ []
behind_two head t u us = sym (append-nil ((head ++ t ∷ u ∷ []) ++ us) ∙ append_assoc head (t ∷ u ∷ []) us)
