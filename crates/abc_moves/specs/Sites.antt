-- An action that a walk has found, and what a process becomes by it.
use Rattle.std.specs.Prelude.{◌≡◌, ℕ, List, [], ◌∷◌, length, map}
use Rattle.std.specs.List.{zip}
use Rattle.abc_pred.specs.Maps.{Entries}
use Rattle.abc_pred.specs.Standing.{pred_of}
use Rattle.abc_term.specs.Processes.{Process, Par, Component}
use Rattle.abc_term.specs.Standing.{process_of, exprs_of, updates_of}
use Rattle.abc_term.specs.Substitution.{put, put_pred, put_expr, put_updates, outside}
use Rattle.abc_term.specs.Speaking.{Label, updated, label_from}
use Rattle.abc_moves.specs.declared.around.Around.{Around}
use Rattle.abc_moves.specs.declared.made.Move.{Move}
use Rattle.abc_moves.specs.declared.site.Beside.{Beside}
use Rattle.abc_moves.specs.declared.site.Beside.TheVariants.{Left, Right}
use Rattle.abc_moves.specs.declared.site.InputAction.{InputAction}
use Rattle.abc_moves.specs.declared.site.OutputAction.{OutputAction}
use Rattle.abc_moves.specs.declared.site.Site.{Site}
use Rattle.abc_moves.specs.declared.tree.Tree.{Tree}
use Rattle.abc_moves.specs.Arounds.{SaysHere, TakesHere}
use Rattle.abc_moves.specs.Trees.{parts, parts_moved, process_in, process_with}

-- What moves beside a process that stays.
abbrev pub join : Beside → Process → Process
join (Left stays scope) R = Par (put scope.now (process_of stays.now)) R
join (Right stays scope) R = Par R (put scope.now (process_of stays.now))

-- What moves among all that stays, the innermost first.
abbrev pub joined : List Beside → Process → Process
joined [] R = R
joined (b ∷ bs) R = joined bs (join b R)

-- ---- what an output says and leaves
abbrev pub said_label : Around → Site OutputAction → Label
said_label at s =
    label_from at.env.now at.interface.now (map (put_expr s.scope.now) (exprs_of s.action.es.now)) (put_pred s.scope.now (pred_of s.action.pred.now))

abbrev pub said_env : Around → Site OutputAction → Entries
said_env at s = updated (put_updates s.scope.now (updates_of s.action.after.now.updates)) at.env.now

abbrev pub said_process : Site OutputAction → Process
said_process s = joined s.beside (put s.scope.now (process_of s.action.after.now.then.value))

-- It is the output of the process at a place.
abbrev pub SaysSite : Around → ℕ → Process → ℕ → Site OutputAction → Type 0
SaysSite at depth P k s = SaysHere at depth P k (said_label at s) (said_env at s) (said_process s)

-- ---- what an input that takes a message leaves
abbrev pub taken_env : Around → Label → Site InputAction → Entries
taken_env at l s =
    let xs = s.action.xs.now in
    updated (put_updates (zip xs l.values) (put_updates (outside xs s.scope.now) (updates_of s.action.after.now.updates))) at.env.now

abbrev pub taken_process : Label → Site InputAction → Process
taken_process l s =
    let xs = s.action.xs.now in
    joined s.beside (put (zip xs l.values) (put (outside xs s.scope.now) (process_of s.action.after.now.then.value)))

-- It is the input of the process at a place that takes the message, which has a value for each of its variables.
abbrev pub TakesSite : Around → Label → ℕ → Process → ℕ → Site InputAction → Type 0
TakesSite at l depth P k s =
    TakesHere at l depth P k (taken_env at l s) (taken_process l s) × (length s.action.xs.now ≡ length l.values)

-- ---- the same in the leaf of a number of a tree
abbrev pub SaysInTree : Around → ℕ → Tree → ℕ → ℕ → Site OutputAction → Type 0
SaysInTree at depth t k leaf s = SaysHere at depth (process_in t) k (said_label at s) (said_env at s) (process_with t leaf (said_process s))

abbrev pub TakesInTree : Around → Label → ℕ → Tree → ℕ → ℕ → Site InputAction → Type 0
TakesInTree at l depth t k leaf s =
    TakesHere at l depth (process_in t) k (taken_env at l s) (process_with t leaf (taken_process l s))
    × (length s.action.xs.now ≡ length l.values)

-- ---- of a component with these things around its tree
abbrev pub tree_around : Around → Tree → Component
tree_around at t = parts at.env.now at.interface.now t

abbrev pub moved_around : Around → Tree → Move → Component
moved_around at t m = parts_moved at.env.now at.interface.now t m
