-- A process without open variables stays so as it moves.
use Rattle.std.proofs.Common.{◌≡◌, ◌⊎◌, ◌||◌, ◌&&◌, ◌==◌, ℕ, zero, suc, Bool, true, false, not, IsTrue, List, [], ◌∷◌, ◌++◌, length, map, refl, sym, ◌∙◌, ap, subst, inl, inr, arith, slice_get, Option, Some, if◌then◌else◌}
use Rattle.std.proofs.lemmas.Bool.{cases_Bool, or_cases, or_left, or_right, or_from, false≢true, not_from_true, not-false}
use Rattle.std.proofs.lemmas.Option.{slice_get_within}
use Rattle.std.specs.Prelude.{IsSomeAnd}
use Rattle.std.specs.List.{list_any, zip}
use Rattle.std.proofs.lemmas.Bool.Decides.{nat_tests}
use Rattle.abc_value.specs.declared.value.Value.{Value}
use Rattle.abc_pred.specs.declared.names.Name.{Name}
use Rattle.abc_pred.specs.Maps.{Entries, lists, same_name}
use Rattle.abc_pred.specs.Terms.{Operand, Literal, Attr, This, Var, Add, Sub, Mul, Size, Free, Expr, Plain, SetOf, Union, Without, Pred, True, False, Same, Less, Member, Not, And, Or}
use Rattle.abc_term.specs.declared.terms.Definition.{Definition}
use Rattle.abc_term.specs.declared.terms.Component.{Component}
use Rattle.abc_term.specs.declared.terms.Program.{Program}
use Rattle.abc_term.specs.Processes.{Process, Nil, Output, Input, When, Choice, Par, Call, Update, Definitions, body_of}
use Rattle.abc_term.specs.Substitution.{Values, put_variable, put_operand, put_expr, put_pred, put_updates, put, outside}
use Rattle.abc_term.specs.Standing.{process_of, definitions_of}
use Rattle.abc_term.specs.Speaking.{Label, Says, CallSays, call_outs}
use Rattle.abc_term.specs.Hearing.{Takes, CallTakes, call_ins, is_meant, is_wanted}
use Rattle.abc_checks.specs.Variables.{operand_open, expr_open, pred_open, updates_open, exprs_open, process_open}
use Rattle.abc_checks.specs.Facts.{IsChecked}
use Rattle.abc_cause.specs.declared.CheckCause.TheVariants as cause
use Rattle.abc_checks.specs.declared.causes.Site.TheVariants as site
use Rattle.abc_pred.proofs.Shown.{same_name-eq}
use Rattle.abc_term.proofs.Listed.{lists_append}
use Rattle.abc_term.proofs.Bodies.{body_found}
use Rattle.abc_sound.proofs.Short.{neither_left, neither_right}

abbrev names : Values → List Name
names bs = map (λ b. b.0) bs

-- Each variable of the outer list is one of the inner list, or has a value.
abbrev Covers : List Name → List Name → Values → Type 0
Covers outer inner bs = (x : Name) → lists outer x ≡ true → (lists inner x ≡ true) ⊎ (lists (names bs) x ≡ true)

variable_closed : (inner : List Name) (bs : Values) (x : Name) → (lists inner x ≡ true) ⊎ (lists (names bs) x ≡ true) → operand_open inner (put_variable bs x) ≡ false
variable_closed inner [] x h = elim h [ inl e ↦ not_from_true (lists inner x) e | inr n ↦ absurd (false≢true n) ]
variable_closed inner (b ∷ bs) x h =
    elim (cases_Bool (same_name b.0 x)) [
      | inl e ↦ ap (λ s. operand_open inner (if s then Literal b.1 else put_variable bs x)) e
      | inr e ↦
          let rest : (lists inner x ≡ true) ⊎ (lists (names bs) x ≡ true) =
          elim h [
            | inl l ↦ inl l
            | inr n ↦ inr (sym (ap (λ s. s || lists (names bs) x) e) ∙ n)
          ] in
          ap (λ s. operand_open inner (if s then Literal b.1 else put_variable bs x)) e ∙ variable_closed inner bs x rest
    ]

module _ (outer inner : List Name) (bs : Values) (covers : Covers outer inner bs) where
  operand_closed : (o : Operand) → operand_open outer o ≡ false → operand_open inner (put_operand bs o) ≡ false
  operand_closed (Literal v) h = refl
  operand_closed (Attr a) h = refl
  operand_closed (This a) h = refl
  operand_closed (Var x) h = variable_closed inner bs x (covers x (not-false (lists outer x) h))
  operand_closed (Add l r) h = or_from _ _ (operand_closed l (neither_left _ _ h)) (operand_closed r (neither_right (operand_open outer l) _ h))
  operand_closed (Sub l r) h = or_from _ _ (operand_closed l (neither_left _ _ h)) (operand_closed r (neither_right (operand_open outer l) _ h))
  operand_closed (Mul l r) h = or_from _ _ (operand_closed l (neither_left _ _ h)) (operand_closed r (neither_right (operand_open outer l) _ h))
  operand_closed (Size o) h = operand_closed o h
  operand_closed (Free o) h = operand_closed o h

  operands_closed : (os : List Operand) → list_any (operand_open outer) os ≡ false → list_any (operand_open inner) (map (put_operand bs) os) ≡ false
  operands_closed [] h = refl
  operands_closed (o ∷ os) h = or_from _ _ (operand_closed o (neither_left _ _ h)) (operands_closed os (neither_right (operand_open outer o) _ h))

  expr_closed : (e : Expr) → expr_open outer e ≡ false → expr_open inner (put_expr bs e) ≡ false
  expr_closed (Plain o) h = operand_closed o h
  expr_closed (SetOf os) h = operands_closed os h
  expr_closed (Union l r) h = or_from _ _ (expr_closed l (neither_left _ _ h)) (expr_closed r (neither_right (expr_open outer l) _ h))
  expr_closed (Without l r) h = or_from _ _ (expr_closed l (neither_left _ _ h)) (expr_closed r (neither_right (expr_open outer l) _ h))

  exprs_closed : (es : List Expr) → exprs_open outer es ≡ false → exprs_open inner (map (put_expr bs) es) ≡ false
  exprs_closed [] h = refl
  exprs_closed (e ∷ es) h = or_from _ _ (expr_closed e (neither_left _ _ h)) (exprs_closed es (neither_right (expr_open outer e) _ h))

  updates_closed : (us : List Update) → updates_open outer us ≡ false → updates_open inner (put_updates bs us) ≡ false
  updates_closed [] h = refl
  updates_closed (u ∷ us) h = or_from _ _ (expr_closed u.1 (neither_left _ _ h)) (updates_closed us (neither_right (expr_open outer u.1) _ h))

  pred_closed : (p : Pred) → pred_open outer p ≡ false → pred_open inner (put_pred bs p) ≡ false
  pred_closed True h = refl
  pred_closed False h = refl
  pred_closed (Same l r) h = or_from _ _ (operand_closed l (neither_left _ _ h)) (operand_closed r (neither_right (operand_open outer l) _ h))
  pred_closed (Less l r) h = or_from _ _ (operand_closed l (neither_left _ _ h)) (operand_closed r (neither_right (operand_open outer l) _ h))
  pred_closed (Member l r) h = or_from _ _ (operand_closed l (neither_left _ _ h)) (operand_closed r (neither_right (operand_open outer l) _ h))
  pred_closed (Not p) h = pred_closed p h
  pred_closed (And p q) h = or_from _ _ (pred_closed p (neither_left _ _ h)) (pred_closed q (neither_right (pred_open outer p) _ h))
  pred_closed (Or p q) h = or_from _ _ (pred_closed p (neither_left _ _ h)) (pred_closed q (neither_right (pred_open outer p) _ h))

-- ---- Inside an input
kept : (xs : List Name) (b : Name × Value) (bs : Values) (x : Name) → lists (names bs) x ≡ true → lists (names (if not (lists xs b.0) then b ∷ bs else bs)) x ≡ true
kept xs b bs x h =
    elim (lists xs b.0) as (λ s. lists (names (if not s then b ∷ bs else bs)) x ≡ true) [
      | true ↦ h
      | false ↦ or_right (same_name b.0 x) (lists (names bs) x) h
    ]

in_outside : (xs : List Name) (bs : Values) (x : Name) → lists xs x ≡ false → lists (names bs) x ≡ true → lists (names (outside xs bs)) x ≡ true
in_outside xs [] x out h = h
in_outside xs (b ∷ bs) x out h =
    elim (or_cases (same_name b.0 x) (lists (names bs) x) h) [
      | inl e ↦
          let stays : lists xs b.0 ≡ false = ap (lists xs) (same_name-eq b.0 x e) ∙ out in
          subst (λ s. lists (names (if not s then b ∷ outside xs bs else outside xs bs)) x ≡ true) (sym stays) (or_left (same_name b.0 x) (lists (names (outside xs bs)) x) e)
      | inr more ↦ kept xs b (outside xs bs) x (in_outside xs bs x out more)
    ]

covers_inside : (xs outer inner : List Name) (bs : Values) → Covers outer inner bs → Covers (xs ++ outer) (xs ++ inner) (outside xs bs)
covers_inside xs outer inner bs covers x h =
    elim (cases_Bool (lists xs x)) [
      | inl own ↦ inl (lists_append xs inner x ∙ or_left (lists xs x) (lists inner x) own)
      | inr out ↦
          let outer_has : lists outer x ≡ true = sym (ap (λ s. s || lists outer x) out) ∙ sym (lists_append xs outer x) ∙ h in
          elim (covers x outer_has) [
            | inl l ↦ inl (lists_append xs inner x ∙ or_right (lists xs x) (lists inner x) l)
            | inr n ↦ inr (in_outside xs bs x out n)
          ]
    ]

put_closed : (P : Process) (outer inner : List Name) (bs : Values) → Covers outer inner bs → process_open outer P ≡ false → process_open inner (put bs P) ≡ false
put_closed Nil outer inner bs covers h = refl
put_closed (Output es p us P) outer inner bs covers h =
    let a = exprs_open outer es in
    let b = pred_open outer p in
    let c = updates_open outer us in
    let d = process_open outer P in
    let abc : (a || b || c) ≡ false = neither_left (a || b || c) d h in
    let ab : (a || b) ≡ false = neither_left (a || b) c abc in
    or_from _ _
    (or_from _ _ (or_from _ _ (exprs_closed outer inner bs covers es (neither_left a b ab)) (pred_closed outer inner bs covers p (neither_right a b ab)))
    (updates_closed outer inner bs covers us (neither_right (a || b) c abc)))
    (put_closed P outer inner bs covers (neither_right (a || b || c) d h))
put_closed (Input p xs us P) outer inner bs covers h =
    let more = covers_inside xs outer inner bs covers in
    let b = pred_open (xs ++ outer) p in
    let c = updates_open (xs ++ outer) us in
    let d = process_open (xs ++ outer) P in
    let bc : (b || c) ≡ false = neither_left (b || c) d h in
    or_from _ _
    (or_from _ _ (pred_closed (xs ++ outer) (xs ++ inner) (outside xs bs) more p (neither_left b c bc)) (updates_closed (xs ++ outer) (xs ++ inner) (outside xs bs) more us (neither_right b c bc)))
    (put_closed P (xs ++ outer) (xs ++ inner) (outside xs bs) more (neither_right (b || c) d h))
put_closed (When g P) outer inner bs covers h =
    or_from _ _ (pred_closed outer inner bs covers g (neither_left _ _ h)) (put_closed P outer inner bs covers (neither_right (pred_open outer g) _ h))
put_closed (Choice P Q) outer inner bs covers h =
    or_from _ _ (put_closed P outer inner bs covers (neither_left _ _ h)) (put_closed Q outer inner bs covers (neither_right (process_open outer P) _ h))
put_closed (Par P Q) outer inner bs covers h =
    or_from _ _ (put_closed P outer inner bs covers (neither_left _ _ h)) (put_closed Q outer inner bs covers (neither_right (process_open outer P) _ h))
put_closed (Call c) outer inner bs covers h = refl

-- ---- What an input becomes
zip_names : (xs : List Name) (vs : List Value) → length vs ≡ length xs → names (zip xs vs) ≡ xs
zip_names [] vs h = refl
zip_names (x ∷ xs) [] h = absurd (omega (arith, h))
zip_names (x ∷ xs) (v ∷ vs) h = ap (λ ys. x ∷ ys) (zip_names xs vs (omega (arith, h)))

numbers_equal : (m n : ℕ) → (m == n) ≡ true → m ≡ n
numbers_equal m n h = grind (arith, nat_tests)

and_left : (a b : Bool) → (a && b) ≡ true → a ≡ true
and_left true b h = refl
and_left false b h = h

covers_own : (xs : List Name) (bs : Values) → names bs ≡ xs → Covers (xs ++ []) [] bs
covers_own xs bs e x h =
    let own : lists xs x ≡ true =
    elim (or_cases (lists xs x) false (sym (lists_append xs [] x) ∙ h)) [ inl y ↦ y | inr n ↦ absurd (false≢true n) ] in
    inr (ap (λ ys. lists ys x) e ∙ own)

module _ (p : Program) (checked : IsChecked p) where
  abbrev defs : Definitions
  defs = definitions_of p.definitions

  body_closed : (c : Name) → process_open [] (body_of defs c) ≡ false
  body_closed c =
      elim (body_found p.definitions c) [
        | inl nil ↦ ap (process_open []) nil
        | inr found ↦
            ap (process_open []) found.body
            ∙ elim (cases_Bool (process_open [] (process_of found.definition.body))) [
              | inr f ↦ f
              | inl t ↦ absurd (checked cause.OpenVariable (site.Definition found.number) (
                slice_get_within p.definitions found.number found.definition found.at,
                subst (λ (o : Option Definition). IsSomeAnd o (λ d. IsTrue (process_open [] (process_of d.body)))) (sym found.at) t,
              ))
            ]
      ]

  pub run_closed : (i : ℕ) (C : Component) → slice_get p.components i ≡ Some C → process_open [] (process_of C.run) ≡ false
  run_closed i C at =
      elim (cases_Bool (process_open [] (process_of C.run))) [
        | inr f ↦ f
        | inl t ↦ absurd (checked cause.OpenVariable (site.Component i)
            (slice_get_within p.components i C at, subst (λ (o : Option Component). IsSomeAnd o (λ d. IsTrue (process_open [] (process_of d.run)))) (sym at) t))
      ]

  abbrev Closed : Process → Type 0
  Closed P = process_open [] P ≡ false

  -- ---- Speaking
  module _ (env : Entries) (interface : List Name) where
    module _ (v : Name → ℕ) (OfCall : Name → ℕ → Label → Entries → Process → Type 0)
        (calls_close : (c : Name) (k : ℕ) (l : Label) (e : Entries) (R : Process) → OfCall c k l e R → Closed R) where
      said : (P : Process) (k : ℕ) (l : Label) (e : Entries) (R : Process) → Closed P → Says env interface v OfCall P k l e R → Closed R
      said Nil k l e R closed h = absurd h
      said (Output es q us P) k l e R closed h = ap (process_open []) h.3 ∙ neither_right (exprs_open [] es || pred_open [] q || updates_open [] us) (process_open [] P) closed
      said (Input q xs us P) k l e R closed h = absurd h
      said (When g P) k l e R closed h = said P k l e R (neither_right (pred_open [] g) (process_open [] P) closed) h.1
      said (Choice P Q) k l e R closed h =
          elim h [
            | inl left ↦ said P k l e R (neither_left (process_open [] P) (process_open [] Q) closed) left
            | inr right ↦ said Q right.0 l e R (neither_right (process_open [] P) (process_open [] Q) closed) right.2
          ]
      said (Par P Q) k l e R closed h =
          let one = neither_left (process_open [] P) (process_open [] Q) closed in
          let two = neither_right (process_open [] P) (process_open [] Q) closed in
          elim h [
            | inl left ↦ ap (process_open []) left.2 ∙ or_from _ _ (said P k l e left.0 one left.1) two
            | inr right ↦ ap (process_open []) right.4 ∙ or_from _ _ one (said Q right.0 l e right.1 two right.3)
          ]
      said (Call c) k l e R closed h = calls_close c k l e R h

    call_said : (d : ℕ) (c : Name) (k : ℕ) (l : Label) (e : Entries) (R : Process) → CallSays d defs env interface c k l e R → Closed R
    call_said zero c k l e R h = absurd h
    call_said (suc d) c k l e R h = said (call_outs d defs env) (CallSays d defs env interface) (call_said d) (body_of defs c) k l e R (body_closed c) h

    pub speaking_closes : (d : ℕ) (P : Process) (k : ℕ) (l : Label) (e : Entries) (R : Process) → Closed P
        → Says env interface (call_outs d defs env) (CallSays d defs env interface) P k l e R → Closed R
    speaking_closes d = said (call_outs d defs env) (CallSays d defs env interface) (call_said d)

  -- ---- Hearing
  module _ (l : Label) (env : Entries) (interface : List Name) where
    heard : (q : Pred) (xs : List Name) (us : List Update) (P : Process) → Closed (Input q xs us P) → length l.values ≡ length xs → Closed (put (zip xs l.values) P)
    heard q xs us P closed same =
        put_closed P (xs ++ []) [] (zip xs l.values) (covers_own xs (zip xs l.values) (zip_names xs l.values same))
        (neither_right (pred_open (xs ++ []) q || updates_open (xs ++ []) us) (process_open (xs ++ []) P) closed)

    module _ (v : Name → ℕ) (OfCall : Name → ℕ → Entries → Process → Type 0)
        (calls_close : (c : Name) (k : ℕ) (e : Entries) (R : Process) → OfCall c k e R → Closed R) where
      taken : (P : Process) (k : ℕ) (e : Entries) (R : Process) → Closed P → Takes l env interface v OfCall P k e R → Closed R
      taken Nil k e R closed h = absurd h
      taken (Output es q us P) k e R closed h = absurd h
      taken (Input q xs us P) k e R closed h =
          let many = length l.values == length xs in
          let meant = is_meant l env interface in
          let same : (length l.values == length xs) ≡ true = and_left many meant (and_left (many && meant) (is_wanted l env q xs) h.1) in
          ap (process_open []) h.3 ∙ heard q xs us P closed (numbers_equal (length l.values) (length xs) same)
      taken (When g P) k e R closed h = taken P k e R (neither_right (pred_open [] g) (process_open [] P) closed) h.1
      taken (Choice P Q) k e R closed h =
          elim h [
            | inl left ↦ taken P k e R (neither_left (process_open [] P) (process_open [] Q) closed) left
            | inr right ↦ taken Q right.0 e R (neither_right (process_open [] P) (process_open [] Q) closed) right.2
          ]
      taken (Par P Q) k e R closed h =
          let one = neither_left (process_open [] P) (process_open [] Q) closed in
          let two = neither_right (process_open [] P) (process_open [] Q) closed in
          elim h [
            | inl left ↦ ap (process_open []) left.2 ∙ or_from _ _ (taken P k e left.0 one left.1) two
            | inr right ↦ ap (process_open []) right.4 ∙ or_from _ _ one (taken Q right.0 e right.1 two right.3)
          ]
      taken (Call c) k e R closed h = calls_close c k e R h

    call_taken : (d : ℕ) (c : Name) (k : ℕ) (e : Entries) (R : Process) → CallTakes d defs l env interface c k e R → Closed R
    call_taken zero c k e R h = absurd h
    call_taken (suc d) c k e R h = taken (call_ins d defs l env interface) (CallTakes d defs l env interface) (call_taken d) (body_of defs c) k e R (body_closed c) h

    pub hearing_closes : (d : ℕ) (P : Process) (k : ℕ) (e : Entries) (R : Process) → Closed P
        → Takes l env interface (call_ins d defs l env interface) (CallTakes d defs l env interface) P k e R → Closed R
    hearing_closes d = taken (call_ins d defs l env interface) (CallTakes d defs l env interface) (call_taken d)
