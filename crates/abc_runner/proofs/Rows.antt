-- Lists of words that have no row's number of words.
use Rattle.std.proofs.Common.{◌≡◌, ◌≤◌, List, [], ◌∷◌, length, map, None, refl, arith}
use Rattle.abc_runner.specs.Commands.{Word, command_of}

module _ {X : Type 0} (f : X → Word) where
  pub none_of_two : (ws : List X) → 2 ≤ length ws → length ws ≤ 2 → None ≡ command_of (map f ws)
  none_of_two [] low high = refl
  none_of_two (a ∷ []) low high = absurd (omega arith)
  none_of_two (a ∷ (b ∷ [])) low high = refl
  none_of_two (a ∷ (b ∷ (c ∷ ws))) low high = absurd (omega arith)

  pub none_of_five : (ws : List X) → 5 ≤ length ws → length ws ≤ 5 → None ≡ command_of (map f ws)
  none_of_five [] low high = refl
  none_of_five (a ∷ []) low high = absurd (omega arith)
  none_of_five (a ∷ (b ∷ [])) low high = refl
  none_of_five (a ∷ (b ∷ (c ∷ []))) low high = absurd (omega arith)
  none_of_five (a ∷ (b ∷ (c ∷ (d ∷ [])))) low high = absurd (omega arith)
  none_of_five (a ∷ (b ∷ (c ∷ (d ∷ (e ∷ []))))) low high = refl
  none_of_five (a ∷ (b ∷ (c ∷ (d ∷ (e ∷ (g ∷ ws)))))) low high = absurd (omega arith)

  pub none_of_seven : (ws : List X) → 7 ≤ length ws → None ≡ command_of (map f ws)
  none_of_seven [] low = refl
  none_of_seven (a ∷ []) low = absurd (omega arith)
  none_of_seven (a ∷ (b ∷ [])) low = refl
  none_of_seven (a ∷ (b ∷ (c ∷ []))) low = absurd (omega arith)
  none_of_seven (a ∷ (b ∷ (c ∷ (d ∷ [])))) low = absurd (omega arith)
  none_of_seven (a ∷ (b ∷ (c ∷ (d ∷ (e ∷ []))))) low = refl
  none_of_seven (a ∷ (b ∷ (c ∷ (d ∷ (e ∷ (g ∷ [])))))) low = absurd (omega arith)
  none_of_seven (a ∷ (b ∷ (c ∷ (d ∷ (e ∷ (g ∷ (h ∷ ws))))))) low = refl
