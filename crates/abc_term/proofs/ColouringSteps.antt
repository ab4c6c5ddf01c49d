-- The colouring, computed.
use Rattle.std.proofs.Common.{◌≡◌, [], ◌∷◌, All, inl, inr, refl, lit<, lit≤, arith}
use Rattle.std.proofs.lemmas.List.Elements.{All-cons}
use Rattle.abc_term.specs.Processes.{Component, System}
use Rattle.abc_term.specs.Speaking.{outs}
use Rattle.abc_term.specs.Systems.{Multicasts}
use Rattle.abc_term.specs.Examples.Colouring.{defs, plain, coloured, told, one_coloured, two_coloured, all_coloured, FirstColour, SecondColour, ColouringRuns, ColouringEnds}

pub first_colour : FirstColour
first_colour = record {
  exists = lit< tt;
  hearers = (lit≤ tt, lit< tt, (λ e. cc), (lit≤ tt, lit< tt, (λ e. cc), (lit≤ tt, lit< tt, (λ e. cc), tt)));
  moves = ((inl (refl, (refl, refl, refl, refl)), refl), ((inr (0, refl, (refl, refl, refl, refl)), refl), ((refl, refl), ((inr (0, refl, (refl, refl, refl, refl)), refl), ((refl, refl), ((inr (0, refl, (refl, refl, refl, refl)), refl), tt))))));
}

pub second_colour : SecondColour
second_colour = record {
  exists = lit< tt;
  hearers = (lit≤ tt, lit< tt, (λ e. cc), (lit≤ tt, lit< tt, (λ e. cc), tt));
  moves = ((refl, refl), ((inr (0, refl, (refl, refl, refl, refl)), refl), ((inl (refl, (refl, refl, refl, refl)), refl), ((inr (0, refl, (refl, refl, refl, refl)), refl), ((refl, refl), ((refl, refl), tt))))));
}

abbrev three_coloured : System
three_coloured =
    coloured 0 0 [] (1 ∷ 3 ∷ 5 ∷ [])
    ∷ plain 1 (0 ∷ []) (0 ∷ 2 ∷ [])
    ∷ coloured 0 2 [] (1 ∷ 3 ∷ [])
    ∷ plain 3 (0 ∷ []) (0 ∷ 2 ∷ 4 ∷ [])
    ∷ coloured 0 4 [] (3 ∷ 5 ∷ [])
    ∷ plain 5 (0 ∷ []) (0 ∷ 4 ∷ [])
    ∷ []

abbrev four_coloured : System
four_coloured =
    coloured 0 0 (1 ∷ []) (1 ∷ 3 ∷ 5 ∷ [])
    ∷ coloured 1 1 (0 ∷ []) (0 ∷ 2 ∷ [])
    ∷ coloured 0 2 (1 ∷ []) (1 ∷ 3 ∷ [])
    ∷ plain 3 (0 ∷ []) (0 ∷ 2 ∷ 4 ∷ [])
    ∷ coloured 0 4 [] (3 ∷ 5 ∷ [])
    ∷ plain 5 (0 ∷ []) (0 ∷ 4 ∷ [])
    ∷ []

abbrev five_coloured : System
five_coloured =
    coloured 0 0 (1 ∷ []) (1 ∷ 3 ∷ 5 ∷ [])
    ∷ coloured 1 1 (0 ∷ []) (0 ∷ 2 ∷ [])
    ∷ coloured 0 2 (1 ∷ []) (1 ∷ 3 ∷ [])
    ∷ coloured 1 3 (0 ∷ []) (0 ∷ 2 ∷ 4 ∷ [])
    ∷ coloured 0 4 (1 ∷ []) (3 ∷ 5 ∷ [])
    ∷ plain 5 (0 ∷ []) (0 ∷ 4 ∷ [])
    ∷ []

third_colour : Multicasts defs two_coloured 4 0 ((3, 0) ∷ (5, 0) ∷ []) (told 4 0 (3 ∷ 5 ∷ [])) three_coloured
third_colour = record {
  exists = lit< tt;
  hearers = (lit≤ tt, lit< tt, (λ e. cc), (lit≤ tt, lit< tt, (λ e. cc), tt));
  moves = ((refl, refl), ((refl, refl), ((refl, refl), ((inr (0, refl, (refl, refl, refl, refl)), refl), ((inl (refl, (refl, refl, refl, refl)), refl), ((inr (0, refl, (refl, refl, refl, refl)), refl), tt))))));
}

fourth_colour : Multicasts defs three_coloured 1 0 ((0, 0) ∷ (2, 0) ∷ []) (told 1 1 (0 ∷ 2 ∷ [])) four_coloured
fourth_colour = record {
  exists = lit< tt;
  hearers = (lit≤ tt, lit< tt, (λ e. cc), (lit≤ tt, lit< tt, (λ e. cc), tt));
  moves = ((inr (0, refl, (refl, refl, refl, refl)), refl), ((inl (refl, (refl, refl, refl, refl)), refl), ((inr (0, refl, (refl, refl, refl, refl)), refl), ((refl, refl), ((refl, refl), ((refl, refl), tt))))));
}

fifth_colour : Multicasts defs four_coloured 3 0 ((0, 0) ∷ (2, 0) ∷ (4, 0) ∷ []) (told 3 1 (0 ∷ 2 ∷ 4 ∷ [])) five_coloured
fifth_colour = record {
  exists = lit< tt;
  hearers = (lit≤ tt, lit< tt, (λ e. cc), (lit≤ tt, lit< tt, (λ e. cc), (lit≤ tt, lit< tt, (λ e. cc), tt)));
  moves = ((inr (0, refl, (refl, refl, refl, refl)), refl), ((refl, refl), ((inr (0, refl, (refl, refl, refl, refl)), refl), ((inl (refl, (refl, refl, refl, refl)), refl), ((inr (0, refl, (refl, refl, refl, refl)), refl), ((refl, refl), tt))))));
}

sixth_colour : Multicasts defs five_coloured 5 0 ((0, 0) ∷ (4, 0) ∷ []) (told 5 1 (0 ∷ 4 ∷ [])) all_coloured
sixth_colour = record {
  exists = lit< tt;
  hearers = (lit≤ tt, lit< tt, (λ e. cc), (lit≤ tt, lit< tt, (λ e. cc), tt));
  moves = ((inr (0, refl, (refl, refl, refl, refl)), refl), ((refl, refl), ((refl, refl), ((refl, refl), ((inr (0, refl, (refl, refl, refl, refl)), refl), ((inl (refl, (refl, refl, refl, refl)), refl), tt))))));
}

pub colouring_runs : ColouringRuns
colouring_runs = (one_coloured, (told 0 0 (1 ∷ 3 ∷ 5 ∷ []), first_colour), (two_coloured, (told 2 0 (1 ∷ 3 ∷ []), second_colour), (three_coloured, (told 4 0 (3 ∷ 5 ∷ []), third_colour), (four_coloured, (told 1 1 (0 ∷ 2 ∷ []), fourth_colour), (five_coloured, (told 3 1 (0 ∷ 2 ∷ 4 ∷ []), fifth_colour), (all_coloured, (told 5 1 (0 ∷ 4 ∷ []), sixth_colour), refl))))))

silent_first : (C : Component) (S : System) → outs defs C ≡ 0 → All (λ D. outs defs D ≡ 0) S → All (λ D. outs defs D ≡ 0) (C ∷ S)
silent_first C S e h = All-cons (λ D. outs defs D ≡ 0) C S e h

silent_none : All (λ D. outs defs D ≡ 0) []
silent_none = λ k d lt. absurd (omega arith)

pub colouring_ends : ColouringEnds
colouring_ends = silent_first (coloured 0 0 (1 ∷ []) (1 ∷ 3 ∷ 5 ∷ [])) (coloured 1 1 (0 ∷ []) (0 ∷ 2 ∷ []) ∷ coloured 0 2 (1 ∷ []) (1 ∷ 3 ∷ []) ∷ coloured 1 3 (0 ∷ []) (0 ∷ 2 ∷ 4 ∷ []) ∷ coloured 0 4 (1 ∷ []) (3 ∷ 5 ∷ []) ∷ coloured 1 5 (0 ∷ []) (0 ∷ 4 ∷ []) ∷ []) refl (silent_first (coloured 1 1 (0 ∷ []) (0 ∷ 2 ∷ [])) (coloured 0 2 (1 ∷ []) (1 ∷ 3 ∷ []) ∷ coloured 1 3 (0 ∷ []) (0 ∷ 2 ∷ 4 ∷ []) ∷ coloured 0 4 (1 ∷ []) (3 ∷ 5 ∷ []) ∷ coloured 1 5 (0 ∷ []) (0 ∷ 4 ∷ []) ∷ []) refl (silent_first (coloured 0 2 (1 ∷ []) (1 ∷ 3 ∷ [])) (coloured 1 3 (0 ∷ []) (0 ∷ 2 ∷ 4 ∷ []) ∷ coloured 0 4 (1 ∷ []) (3 ∷ 5 ∷ []) ∷ coloured 1 5 (0 ∷ []) (0 ∷ 4 ∷ []) ∷ []) refl (silent_first (coloured 1 3 (0 ∷ []) (0 ∷ 2 ∷ 4 ∷ [])) (coloured 0 4 (1 ∷ []) (3 ∷ 5 ∷ []) ∷ coloured 1 5 (0 ∷ []) (0 ∷ 4 ∷ []) ∷ []) refl (silent_first (coloured 0 4 (1 ∷ []) (3 ∷ 5 ∷ [])) (coloured 1 5 (0 ∷ []) (0 ∷ 4 ∷ []) ∷ []) refl (silent_first (coloured 1 5 (0 ∷ []) (0 ∷ 4 ∷ [])) ([]) refl (silent_none))))))
