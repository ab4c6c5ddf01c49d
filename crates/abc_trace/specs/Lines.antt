-- The text of each kind of line of a trace. `words` has the word of each name at its number.
use Rattle.std.specs.Prelude.{ℕ, ◌==◌, List, [], ◌∷◌, ◌++◌, flat_map, codes, decimal, if◌then◌else◌}
use Rattle.abc_value.specs.declared.value.Value.{Value}
use Rattle.abc_value.specs.Literals.{literal}
use Rattle.abc_pred.specs.declared.names.Name.{Name}
use Rattle.abc_pred.specs.Terms.{Pred}
use Rattle.abc_shape.specs.declared.shape.Shape.{Shape}
use Rattle.abc_shape.specs.declared.shape.Shape.TheVariants.{Cluster, Ring, Tree}
use Rattle.abc_printed.specs.Parts.{word_at}
use Rattle.abc_printed.specs.Printed.{pred_text}
use Rattle.abc_trace.specs.declared.trace.Head.{Head}
use Rattle.abc_trace.specs.declared.trace.Head.TheVariants.{Solo, Net}

-- bytes and the end of a line
abbrev pub ended : List ℕ → List ℕ
ended bytes = bytes ++ 10 ∷ []

-- bytes, a space, and more
abbrev pub spaced : List ℕ → List ℕ → List ℕ
spaced bytes more = bytes ++ 32 ∷ more

-- items parted by a comma and a space
abbrev pub behind_comma : {A : Type 0} → (A → List ℕ) → A → List ℕ
behind_comma print a = codes ", " ++ print a

abbrev pub parted : {A : Type 0} → (A → List ℕ) → List A → List ℕ
parted print [] = []
parted print (a ∷ items) = print a ++ flat_map (behind_comma print) items

-- ---- the first line
abbrev pub shape_word : Shape → List ℕ
shape_word Cluster = codes "cluster"
shape_word Ring = codes "ring"
shape_word Tree = codes "tree"

-- abc-trace 1 solo LIMIT PICK, or abc-trace 1 SHAPE LIMIT NODES PICK
abbrev pub head_text : Head → List ℕ
head_text (Solo limit pick) =
    ended (codes "abc-trace 1 solo " ++ spaced (decimal limit) (decimal pick))
head_text (Net shape limit nodes pick) =
    ended (codes "abc-trace 1 "
    ++ spaced (shape_word shape) (spaced (decimal limit) (spaced (decimal nodes) (decimal pick))))

-- ---- the line of a number
-- NAME:PLACE
abbrev pub place_text : List (List ℕ) → Name × ℕ → List ℕ
place_text words (name, place) = word_at words name ++ 58 ∷ decimal place

-- NAME:PLACE, NAME:PLACE, or - where nobody heard
abbrev pub heard_text : List (List ℕ) → List (Name × ℕ) → List ℕ
heard_text words [] = codes "-"
heard_text words (h ∷ heard) = parted (place_text words) (h ∷ heard)

-- (VALUES) @ (PRED) -> HEARERS
abbrev pub multicast_text : List (List ℕ) → List Value → Pred → List (Name × ℕ) → List ℕ
multicast_text words values p heard =
    codes "(" ++ parted literal values ++ codes ") @ (" ++ pred_text words p
    ++ codes ") -> " ++ heard_text words heard

-- :PLACE (VALUES) @ (PRED) -> HEARERS, and the end of the line
abbrev pub behind_sender : List (List ℕ) → ℕ → List Value → Pred → List (Name × ℕ) → List ℕ
behind_sender words place values p heard =
    ended (58 ∷ spaced (decimal place) (multicast_text words values p heard))

-- n SENDER:PLACE (VALUES) @ (PRED) -> HEARERS
abbrev pub said_text : List (List ℕ) → ℕ → Name → ℕ → List Value → Pred → List (Name × ℕ) → List ℕ
said_text words n sender place values p heard =
    spaced (decimal n) (word_at words sender ++ behind_sender words place values p heard)

-- n SENDER -
abbrev pub empty_text : List (List ℕ) → ℕ → Name → List ℕ
empty_text words n sender = ended (spaced (decimal n) (spaced (word_at words sender) (codes "-")))

-- ---- the lines behind the last number
-- A = V; and a space
abbrev pub entry_text : List (List ℕ) → Name × Value → List ℕ
entry_text words (a, v) = word_at words a ++ codes " = " ++ literal v ++ codes "; "

-- {}, or { A = V; B = W; }
abbrev pub entries_text : List (List ℕ) → List (Name × Value) → List ℕ
entries_text words [] = codes "{}"
entries_text words (e ∷ entries) =
    codes "{ " ++ flat_map (entry_text words) (e ∷ entries) ++ codes "}"

-- env NAME and its attributes
abbrev pub env_text : List (List ℕ) → Name → List (Name × Value) → List ℕ
env_text words component entries =
    ended (codes "env " ++ spaced (word_at words component) (entries_text words entries))

-- node k HANDLED
abbrev pub node_text : ℕ → ℕ → List ℕ
node_text node handled = ended (codes "node " ++ spaced (decimal node) (decimal handled))

-- limit K where the number limit was reached, else quiet K
abbrev pub end_text : ℕ → ℕ → List ℕ
end_text limit count =
    ended ((if count == limit then codes "limit " else codes "quiet ") ++ decimal count)
