-- Names that are different have different words.
use Rattle.std.proofs.Common.{◌≡◌, ◌≢◌, ◌<◌, ◌≤◌, ℕ, ◌+◌, Bool, true, false, List, [], ◌∷◌, ◌++◌, length, map, All, refl, sym, subst, arith}
use Rattle.std.specs.Prelude.{◌||◌}
use Rattle.std.specs.Str.{bytes_eq}
use Rattle.std.proofs.lemmas.Slice.Eq.{bytes_eq-Decides}
use Rattle.std.proofs.lemmas.List.{map-append}
use Rattle.std.proofs.lemmas.List.Elements.{All-nil, All-cons, All-head, All-tail, All-push, All-weaker}
use Rattle.abc_pred.specs.declared.names.Name.{Name}
use Rattle.abc_pred.specs.Maps.{Entries, RisesFrom}
use Rattle.abc_text.specs.Meanings.{has_word, AreNew, AreDifferent}
use Rattle.abc_printed.specs.Parts.{word_at}
use Rattle.abc_traceable.proofs.Numbers.{same_word}

-- each has another number than all behind it
abbrev pub AreApart : List Name → Type 0
AreApart [] = Unit {0}
AreApart (n ∷ ns) = All (λ m. m.0 ≢ n.0) ns × AreApart ns

module _ (words : List (List ℕ)) (different : AreDifferent words) where
  abbrev IsBelow : Name → Type 0
  IsBelow n = n.0 < length words

  -- The word of a name that none of these is stands at none of them.
  word_unknown : (done : List Name) (n : Name) → IsBelow n → All IsBelow done →
      All (λ d. d.0 ≢ n.0) done →
      has_word (map (word_at words) done) (word_at words n) ≡ false
  word_unknown [] n below all other = refl
  word_unknown (d ∷ done) n below all other =
      by (bytes_eq (word_at words n) (word_at words d)) refl
      (word_unknown done n below (All-tail IsBelow d done all)
      (All-tail (λ x. x.0 ≢ n.0) d done other))
    where
      by : (b : Bool) → bytes_eq (word_at words n) (word_at words d) ≡ b →
          has_word (map (word_at words) done) (word_at words n) ≡ false →
          (b || has_word (map (word_at words) done) (word_at words n)) ≡ false
      by true e more =
          absurd (All-head (λ x. x.0 ≢ n.0) d done other
          (sym (same_word words different n d below (All-head IsBelow d done all)
          ((bytes_eq-Decides (word_at words n) (word_at words d)).0 e))))
      by false e more = more

  -- Names that are none of these, nor one more, are none of them all.
  both_apart : (done : List Name) (n : Name) (ns : List Name) →
      All (λ m. All (λ d. d.0 ≢ m.0) done) ns → All (λ m. m.0 ≢ n.0) ns →
      All (λ m. All (λ d. d.0 ≢ m.0) (done ++ n ∷ [])) ns
  both_apart done n [] other apart = All-nil (λ m. All (λ d. d.0 ≢ m.0) (done ++ n ∷ []))
  both_apart done n (m ∷ ns) other apart =
      All-cons (λ x. All (λ d. d.0 ≢ x.0) (done ++ n ∷ [])) m ns
      (All-push (λ d. d.0 ≢ m.0) done n (All-head (λ x. All (λ d. d.0 ≢ x.0) done) m ns other)
      (λ e. All-head (λ x. x.0 ≢ n.0) m ns apart (sym e)))
      (both_apart done n ns (All-tail (λ x. All (λ d. d.0 ≢ x.0) done) m ns other)
      (All-tail (λ x. x.0 ≢ n.0) m ns apart))

  -- So words behind different ones are new, one after another.
  new_words : (done ns : List Name) → All IsBelow done → All IsBelow ns → AreApart ns →
      All (λ n. All (λ d. d.0 ≢ n.0) done) ns →
      AreNew (map (word_at words) done) (map (word_at words) ns)
  new_words done [] all below apart other = tt
  new_words done (n ∷ ns) all below apart other = (
    word_unknown done n (All-head IsBelow n ns below) all
        (All-head (λ m. All (λ d. d.0 ≢ m.0) done) n ns other),
    subst (λ (ws : List (List ℕ)). AreNew ws (map (word_at words) ns))
        (map-append (word_at words) done (n ∷ []))
        (new_words (done ++ n ∷ []) ns (All-push IsBelow done n all (All-head IsBelow n ns below))
        (All-tail IsBelow n ns below) apart.1
        (both_apart done n ns (All-tail (λ m. All (λ d. d.0 ≢ m.0) done) n ns other) apart.0)),
  )

  pub apart_words : (ns : List Name) → All IsBelow ns → AreApart ns →
      AreDifferent (map (word_at words) ns)
  apart_words ns below apart = new_words [] ns (All-nil IsBelow) below apart (none_before ns)
    where
      none_before : (ms : List Name) → All (λ (m : Name). All (λ (d : Name). d.0 ≢ m.0) []) ms
      none_before [] = All-nil (λ (m : Name). All (λ (d : Name). d.0 ≢ m.0) [])
      none_before (n ∷ ms) =
          All-cons (λ (m : Name). All (λ (d : Name). d.0 ≢ m.0) []) n ms
          (All-nil (λ (d : Name). d.0 ≢ n.0)) (none_before ms)

-- ---- maps
-- the names of a map rise,
names_above : (low : ℕ) (es : Entries) → RisesFrom low es → All (λ n. low ≤ n.0) (map (λ e. e.0) es)
names_above low [] h = All-nil (λ n. low ≤ n.0)
names_above low (e ∷ es) h =
    let first : low ≤ e.0.0 = h.0 in
    All-cons (λ n. low ≤ n.0) e.0 (map (λ x. x.0) es) first
    (All-weaker (λ n. e.0.0 + 1 ≤ n.0) (λ n. low ≤ n.0) (λ n more. omega (arith, first, more))
    (map (λ x. x.0) es) (names_above (e.0.0 + 1) es h.2))

-- so they are apart.
pub map_apart : (low : ℕ) (es : Entries) → RisesFrom low es → AreApart (map (λ e. e.0) es)
map_apart low [] h = tt
map_apart low (e ∷ es) h = (
  All-weaker (λ n. e.0.0 + 1 ≤ n.0) (λ n. n.0 ≢ e.0.0) (λ n more same. omega (arith, more, same))
      (map (λ x. x.0) es) (names_above (e.0.0 + 1) es h.2),
  map_apart (e.0.0 + 1) es h.2,
)
