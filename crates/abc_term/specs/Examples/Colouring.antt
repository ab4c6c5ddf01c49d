-- Graph colouring: each vertex takes the least colour that none of its neighbours has told, and tells them
-- def V = when (colour = none) (id, free(used)) @ (this.id in nb) . [colour := free(used)] V
--       + ? (id in this.nb) ($i, $c) . [used := union(used, set($c))] V;
-- comp v0 { id = 0; nb = {1, 3, 5}; used = {}; show id, nb; run V; }, and likewise v1 to v5
use Rattle.std.specs.Prelude.{ℕ, List, [], ◌∷◌, map, pos}
use Rattle.abc_value.specs.declared.value.Value.{Value}
use Rattle.abc_value.specs.declared.value.Value.TheVariants.{Set, Nothing}
use Rattle.abc_value.specs.declared.scalar.Scalar.TheVariants.{Number}
use Rattle.abc_pred.specs.declared.names.Name.{Name}
use Rattle.abc_pred.specs.Terms.{Literal, Attr, This, Var, Free, Plain, SetOf, Union, Same, Member}
use Rattle.abc_term.specs.Processes.{Process, Output, Input, When, Choice, Call, Definitions, Component, System}
use Rattle.abc_term.specs.Speaking.{Label}
use Rattle.abc_term.specs.Systems.{Multicasts, Runs, IsSilent}
use Rattle.abc_term.specs.Examples.Writing.{name, number, set, component, label, choice}

abbrev pub vertex : Name
vertex = name 0

abbrev pub colour : Name
colour = name 1

abbrev pub id : Name
id = name 2

abbrev pub used : Name
used = name 3

abbrev pub nb : Name
nb = name 4

abbrev pub i : Name
i = name 5

abbrev pub c : Name
c = name 6

abbrev pub tells : Process
tells =
    When (Same (Attr colour) (Literal Nothing))
    (Output (Plain (Attr id) ∷ Plain (Free (Attr used)) ∷ []) (Member (This id) (Attr nb)) (set colour (Free (Attr used)) ∷ []) (Call vertex))

abbrev pub learns : Process
learns = Input (Member (Attr id) (This nb)) (i ∷ c ∷ []) ((used, Union (Plain (Attr used)) (SetOf (Var c ∷ []))) ∷ []) (Call vertex)

abbrev pub defs : Definitions
defs = (vertex, Choice tells learns) ∷ []

abbrev pub numbers : List ℕ → Value
numbers ns = Set (map (λ n. Number (pos n)) ns)

-- a vertex with its number, the colours that it was told, and its neighbours
abbrev pub plain : ℕ → List ℕ → List ℕ → Component
plain n colours neighbours =
    component ((id, number n) ∷ (used, numbers colours) ∷ (nb, numbers neighbours) ∷ []) (id ∷ nb ∷ []) (Call vertex)

-- and one that has a colour
abbrev pub coloured : ℕ → ℕ → List ℕ → List ℕ → Component
coloured k n colours neighbours =
    component ((colour, number k) ∷ (id, number n) ∷ (used, numbers colours) ∷ (nb, numbers neighbours) ∷ []) (id ∷ nb ∷ []) (Call vertex)

abbrev pub none_coloured : System
none_coloured =
    plain 0 [] (1 ∷ 3 ∷ 5 ∷ [])
    ∷ plain 1 [] (0 ∷ 2 ∷ [])
    ∷ plain 2 [] (1 ∷ 3 ∷ [])
    ∷ plain 3 [] (0 ∷ 2 ∷ 4 ∷ [])
    ∷ plain 4 [] (3 ∷ 5 ∷ [])
    ∷ plain 5 [] (0 ∷ 4 ∷ [])
    ∷ []

abbrev pub one_coloured : System
one_coloured =
    coloured 0 0 [] (1 ∷ 3 ∷ 5 ∷ [])
    ∷ plain 1 (0 ∷ []) (0 ∷ 2 ∷ [])
    ∷ plain 2 [] (1 ∷ 3 ∷ [])
    ∷ plain 3 (0 ∷ []) (0 ∷ 2 ∷ 4 ∷ [])
    ∷ plain 4 [] (3 ∷ 5 ∷ [])
    ∷ plain 5 (0 ∷ []) (0 ∷ 4 ∷ [])
    ∷ []

abbrev pub two_coloured : System
two_coloured =
    coloured 0 0 [] (1 ∷ 3 ∷ 5 ∷ [])
    ∷ plain 1 (0 ∷ []) (0 ∷ 2 ∷ [])
    ∷ coloured 0 2 [] (1 ∷ 3 ∷ [])
    ∷ plain 3 (0 ∷ []) (0 ∷ 2 ∷ 4 ∷ [])
    ∷ plain 4 [] (3 ∷ 5 ∷ [])
    ∷ plain 5 (0 ∷ []) (0 ∷ 4 ∷ [])
    ∷ []

abbrev pub all_coloured : System
all_coloured =
    coloured 0 0 (1 ∷ []) (1 ∷ 3 ∷ 5 ∷ [])
    ∷ coloured 1 1 (0 ∷ []) (0 ∷ 2 ∷ [])
    ∷ coloured 0 2 (1 ∷ []) (1 ∷ 3 ∷ [])
    ∷ coloured 1 3 (0 ∷ []) (0 ∷ 2 ∷ 4 ∷ [])
    ∷ coloured 0 4 (1 ∷ []) (3 ∷ 5 ∷ [])
    ∷ coloured 1 5 (0 ∷ []) (0 ∷ 4 ∷ [])
    ∷ []

-- vertex n, whose neighbours these are, tells colour k to those that have n for a neighbour
abbrev pub told : ℕ → ℕ → List ℕ → Label
told n k neighbours =
    label ((id, number n) ∷ (nb, numbers neighbours) ∷ []) (Member (Literal (number n)) (Attr nb)) (number n ∷ number k ∷ [])

-- v0 says (0, 0) @ (0 in nb), and v1, v3 and v5 hear it.
abbrev pub FirstColour : Type 0
FirstColour = Multicasts defs none_coloured 0 0 ((1, 0) ∷ (3, 0) ∷ (5, 0) ∷ []) (told 0 0 (1 ∷ 3 ∷ 5 ∷ [])) one_coloured

-- v2 says (2, 0) @ (2 in nb), and v1 and v3 hear it.
abbrev pub SecondColour : Type 0
SecondColour = Multicasts defs one_coloured 2 0 ((1, 0) ∷ (3, 0) ∷ []) (told 2 0 (1 ∷ 3 ∷ [])) two_coloured

-- Then v4, v1, v3 and v5 speak, and the ends of each edge have different colours.
abbrev pub ColouringRuns : Type 0
ColouringRuns =
    Runs defs none_coloured
    (choice 0 0 ((1, 0) ∷ (3, 0) ∷ (5, 0) ∷ [])
    ∷ choice 2 0 ((1, 0) ∷ (3, 0) ∷ [])
    ∷ choice 4 0 ((3, 0) ∷ (5, 0) ∷ [])
    ∷ choice 1 0 ((0, 0) ∷ (2, 0) ∷ [])
    ∷ choice 3 0 ((0, 0) ∷ (2, 0) ∷ (4, 0) ∷ [])
    ∷ choice 5 0 ((0, 0) ∷ (4, 0) ∷ [])
    ∷ []) all_coloured

abbrev pub ColouringEnds : Type 0
ColouringEnds = IsSilent defs all_coloured
