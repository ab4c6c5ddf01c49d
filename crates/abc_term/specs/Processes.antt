-- AbC's syntax as plain terms: processes, definitions, components and systems.
use Rattle.std.specs.Prelude.{List, [], ◌∷◌, if◌then◌else◌}
use Rattle.abc_pred.specs.declared.names.Name.{Name}
use Rattle.abc_pred.specs.Terms.{Expr, Pred}
use Rattle.abc_pred.specs.Maps.{Entries, same_name}

-- `[a := E]`: the attribute a is set to the value of E.
abbrev pub Update : Type 0
Update = Name × Expr

pub data Process : Type 0 where
  -- 0
  Nil : Process
  -- (es) @ (p) . us P
  Output : (es : List Expr) → (p : Pred) → (us : List Update) → (P : Process) → Process
  -- ? (p) (xs) . us P
  Input : (p : Pred) → (xs : List Name) → (us : List Update) → (P : Process) → Process
  -- when (g) P
  When : (g : Pred) → (P : Process) → Process
  -- P + Q
  Choice : (P Q : Process) → Process
  -- P | Q
  Par : (P Q : Process) → Process
  -- the process of a definition
  Call : (c : Name) → Process

-- The definitions of a program: a process for each name.
abbrev pub Definitions : Type 0
Definitions = List (Name × Process)

-- What a call stands for. A name without definition stands for 0; a checked program calls none.
abbrev pub body_of : Definitions → Name → Process
body_of [] c = Nil
body_of (d ∷ ds) c = if same_name d.0 c then d.1 else body_of ds c

-- A component: an environment of attributes, an interface (the names of the attributes that others may see: a set, of which
-- it matters only what it lists), and a process.
pub record Component : Type 0 where
  pub env : Entries
  pub interface : List Name
  pub process : Process

-- A system: components side by side.
abbrev pub System : Type 0
System = List Component
