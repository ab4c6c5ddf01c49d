-- A call at a depth is its definition's body at a depth less.
use Rattle.std.proofs.Common.{◌≡◌, ℕ, zero, suc, ◌+◌, ◌-◌, ◌<◌, List, [], ap, sym, subst, ◌∙◌, arith}
use Rattle.abc_pred.specs.declared.names.Name.{Name}
use Rattle.abc_pred.specs.Maps.{Entries}
use Rattle.abc_term.specs.Processes.{Process, Call, Definitions, body_of}
use Rattle.abc_term.specs.Substitution.{Values, put}
use Rattle.abc_term.specs.Speaking.{Label, outs_of, call_outs, CallSays}
use Rattle.abc_term.proofs.Bindings.{putting_nothing}
use Rattle.abc_moves.specs.Walks.{outs_at, parts_at, SaysAt, ins_at, TakesAt}
use Rattle.abc_sound.specs.Walks.{parts_of, call_parts}
use Rattle.abc_term.specs.Hearing.{ins_of, call_ins, CallTakes}

less-one : (d : ℕ) → suc d - 1 ≡ d
less-one d = omega arith

pub outs_unfolded : (d : ℕ) (defs : Definitions) (env : Entries) (c : Name) (P : Process) → 0 < d → P ≡ body_of defs c → call_outs d defs env c ≡ outs_at (d - 1) defs env (put [] P)
outs_unfolded zero defs env c P h e = absurd (omega arith)
outs_unfolded (suc d) defs env c P h e =
    (λ i. outs_of env (call_outs (sym (less-one d) i) defs env) (sym e i)) ∙ ap (outs_at (suc d - 1) defs env) (sym (putting_nothing P))

pub parts_unfolded : (d : ℕ) (defs : Definitions) (c : Name) (P : Process) → 0 < d → P ≡ body_of defs c → parts_at (d - 1) defs P < call_parts d defs c + 1
parts_unfolded zero defs c P h e = absurd (omega arith)
parts_unfolded (suc d) defs c P h e =
    let same : parts_at (suc d - 1) defs P ≡ call_parts (suc d) defs c = λ i. parts_of (call_parts (less-one d i) defs) (e i) in omega arith

-- as the code meets it
pub outs_called : (d : ℕ) (defs : Definitions) (env : Entries) (c : Name) (bs u : Values) (P0 P : Process) → 0 < d → P ≡ body_of defs c → u ≡ [] → P0 ≡ Call c → outs_at d defs env (put bs P0) ≡ outs_at (d - 1) defs env (put u P)
outs_called d defs env c bs u P0 P h e f g =
    ap (λ Q. outs_at d defs env (put bs Q)) g ∙ outs_unfolded d defs env c P h e ∙ ap (λ w. outs_at (d - 1) defs env (put w P)) (sym f)

pub parts_called : (d : ℕ) (defs : Definitions) (c : Name) (P0 P : Process) → 0 < d → P ≡ body_of defs c → P0 ≡ Call c → parts_at (d - 1) defs P < parts_at d defs P0
parts_called d defs c P0 P h e g = let b = parts_unfolded d defs c P h e in let n = ap (parts_at d defs) g in omega arith

-- ---- what a call says
says_unfolded : (d : ℕ) (defs : Definitions) (env : Entries) (interface : List Name) (c : Name) (P : Process) (k : ℕ) (l : Label) (e : Entries) (R : Process) → 0 < d → P ≡ body_of defs c → SaysAt (d - 1) defs env interface (put [] P) k l e R → CallSays d defs env interface c k l e R
says_unfolded zero defs env interface c P k l e R h f s = absurd (omega arith)
says_unfolded (suc d) defs env interface c P k l e R h f s =
    subst (λ (Q : Process). SaysAt d defs env interface Q k l e R) (putting_nothing P ∙ f)
    (subst (λ (n : ℕ). SaysAt n defs env interface (put [] P) k l e R) (less-one d) s)

pub says_called : (d : ℕ) (defs : Definitions) (env : Entries) (interface : List Name) (c : Name) (bs u : Values) (P0 P : Process) (k : ℕ) (l : Label) (e : Entries) (R : Process) → 0 < d → P ≡ body_of defs c → u ≡ [] → P0 ≡ Call c → SaysAt (d - 1) defs env interface (put u P) k l e R → SaysAt d defs env interface (put bs P0) k l e R
says_called d defs env interface c bs u P0 P k l e R h f g p s =
    subst (λ (Q : Process). SaysAt d defs env interface (put bs Q) k l e R) (sym p)
    (says_unfolded d defs env interface c P k l e R h f (subst (λ (w : Values). SaysAt (d - 1) defs env interface (put w P) k l e R) g s))

-- ---- what takes a message
pub ins_called : (d : ℕ) (defs : Definitions) (l : Label) (env : Entries) (interface : List Name) (c : Name) (bs u : Values) (P0 P : Process) → 0 < d → P ≡ body_of defs c → u ≡ [] → P0 ≡ Call c → ins_at d defs l env interface (put bs P0) ≡ ins_at (d - 1) defs l env interface (put u P)
ins_called zero defs l env interface c bs u P0 P h e f g = absurd (omega arith)
ins_called (suc d) defs l env interface c bs u P0 P h e f g =
    ap (λ Q. ins_at (suc d) defs l env interface (put bs Q)) g
    ∙ (λ i. ins_of l env interface (call_ins (sym (less-one d) i) defs l env interface) (sym e i))
    ∙ ap (ins_at (suc d - 1) defs l env interface) (sym (putting_nothing P))
    ∙ ap (λ w. ins_at (suc d - 1) defs l env interface (put w P)) (sym f)

takes_unfolded : (d : ℕ) (defs : Definitions) (l : Label) (env : Entries) (interface : List Name) (c : Name) (P : Process) (k : ℕ) (e : Entries) (R : Process) → 0 < d → P ≡ body_of defs c → TakesAt (d - 1) defs l env interface (put [] P) k e R → CallTakes d defs l env interface c k e R
takes_unfolded zero defs l env interface c P k e R h f s = absurd (omega arith)
takes_unfolded (suc d) defs l env interface c P k e R h f s =
    subst (λ (Q : Process). TakesAt d defs l env interface Q k e R) (putting_nothing P ∙ f)
    (subst (λ (n : ℕ). TakesAt n defs l env interface (put [] P) k e R) (less-one d) s)

pub takes_called : (d : ℕ) (defs : Definitions) (l : Label) (env : Entries) (interface : List Name) (c : Name) (bs u : Values) (P0 P : Process) (k : ℕ) (e : Entries) (R : Process) → 0 < d → P ≡ body_of defs c → u ≡ [] → P0 ≡ Call c → TakesAt (d - 1) defs l env interface (put u P) k e R → TakesAt d defs l env interface (put bs P0) k e R
takes_called d defs l env interface c bs u P0 P k e R h f g p s =
    subst (λ (Q : Process). TakesAt d defs l env interface (put bs Q) k e R) (sym p)
    (takes_unfolded d defs l env interface c P k e R h f (subst (λ (w : Values). TakesAt (d - 1) defs l env interface (put w P) k e R) g s))
