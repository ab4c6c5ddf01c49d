-- Processes whose unguarded calls come to an end.
use Rattle.std.specs.Prelude.{ℕ, zero, suc, Bool, false, ◌||◌, IsTrue, [], ◌∷◌, length}
use Rattle.abc_pred.specs.declared.names.Name.{Name}
use Rattle.abc_pred.specs.Maps.{same_name, lists}
use Rattle.abc_term.specs.Processes.{Process, Definitions, body_of}
use Rattle.abc_term.specs.Calls.{unguarded_calls, Reaches}

-- Each name that the process calls with no action before the call satisfies `OfCall`.
abbrev pub EachUnguarded : (Name → Type 0) → Process → Type 0
EachUnguarded OfCall P = (c : Name) → IsTrue (lists (unguarded_calls P) c) → OfCall c

-- The unguarded calls of the definition's body, those of their bodies, and so on, come to an end within a depth.
abbrev pub CallEnds : ℕ → Definitions → Name → Type 0
CallEnds zero defs c = ⊥
CallEnds (suc depth) defs c = EachUnguarded (CallEnds depth defs) (body_of defs c)

-- Those of the process end within as many bodies as there are definitions.
abbrev pub IsGuarded : Definitions → Process → Type 0
IsGuarded defs P = EachUnguarded (CallEnds (length defs) defs) P

-- ---- Why the calls of a checked program end

-- The name has a definition.
abbrev pub defines : Definitions → Name → Bool
defines [] c = false
defines (d ∷ defs) c = same_name d.0 c || defines defs c

-- Each name that a body calls unguarded has a definition, and no name reaches itself by unguarded calls.
pub record AreGuarded (defs : Definitions) : Type 0 where
  pub defined : (c : Name) → EachUnguarded (λ d. IsTrue (defines defs d)) (body_of defs c)
  pub acyclic : (c : Name) → ¬ Reaches unguarded_calls defs c c
