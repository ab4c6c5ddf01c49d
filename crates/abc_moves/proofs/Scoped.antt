-- What bindings beside a process stand for.
use Rattle.std.proofs.Common.{◌≡◌, Bool, true, false, ◌||◌, if◌then◌else◌, List, [], ◌∷◌, ◌++◌, length, refl, ap, sym, subst, ◌∙◌, arith}
use Rattle.std.specs.List.{zip}
use Rattle.std.proofs.lemmas.Bool.{true≢false, eq-eqb}
use Rattle.abc_value.specs.declared.value.Value.{Value}
use Rattle.abc_value.specs.declared.value.Value.TheVariants.{Nothing}
use Rattle.abc_pred.specs.declared.names.Name.{Name}
use Rattle.abc_pred.specs.Terms.{Operand, Literal, Var, Expr, Pred}
use Rattle.abc_pred.specs.Maps.{Entries, IsMap, look_up, lists, set_to, same_name, ShowsTheSame}
use Rattle.abc_pred.specs.Meaning.{sat, close, expr_val}
use Rattle.abc_pred.proofs.Shown.{same_name-eq}
use Rattle.abc_pred.proofs.Looks.{setting_sets, setting_keeps_the_others, setting_gives_a_map}
use Rattle.abc_term.specs.Substitution.{Values, put_variable, put_pred, put_expr, outside}
use Rattle.abc_term.proofs.Bindings.{sat-put, expr-bound, close-put, putting_twice}
use Rattle.abc_moves.specs.Scopes.{values_in, HasNoOthers, IsScope, bind_all, PutsInside}
use Rattle.abc_moves.proofs.Same.{sat-vars, close-vars, expr_in-vars, put-same, variable-outside}

-- ---- look-ups
look_up-step : (s : Bool) (n x : Name) (m : Entries) (rest : Value) (l : Bool) → (s ≡ true → n ≡ x) → rest ≡ (if l then look_up m x else Nothing) → (if s then look_up m n else rest) ≡ (if s || l then look_up m x else Nothing)
look_up-step true n x m rest l same e = ap (look_up m) (same refl)
look_up-step false n x m rest l same e = e

look_up-values_in : (ns : List Name) (m : Entries) (x : Name) → look_up (values_in ns m) x ≡ (if lists ns x then look_up m x else Nothing)
look_up-values_in [] m x = refl
look_up-values_in (n ∷ ns) m x =
    look_up-step (same_name n x) n x m (look_up (values_in ns m) x) (lists ns x) (λ h. same_name-eq n x h) (look_up-values_in ns m x)

listed-or : (l : Bool) (v : Value) → (l ≡ false → v ≡ Nothing) → (if l then v else Nothing) ≡ v
listed-or true v h = refl
listed-or false v h = sym (h refl)

shows-values_in : (ns : List Name) (m : Entries) → HasNoOthers ns m → ShowsTheSame m (values_in ns m)
shows-values_in ns m h x = sym (look_up-values_in ns m x ∙ listed-or (lists ns x) (look_up m x) (h x))

pub sat-scope : (ns : List Name) (m : Entries) (s : IsScope ns m) (p : Pred) (own other : Entries) → sat p own other m ≡ sat (put_pred (values_in ns m) p) own other []
sat-scope ns m s p own other = sat-vars own other m (values_in ns m) (shows-values_in ns m s.no_others) p ∙ sym (sat-put (values_in ns m) p own other)

pub close-scope : (ns : List Name) (m : Entries) (s : IsScope ns m) (p : Pred) (own : Entries) → close p own m ≡ close (put_pred (values_in ns m) p) own []
close-scope ns m s p own = close-vars own m (values_in ns m) (shows-values_in ns m s.no_others) p ∙ sym (close-put (values_in ns m) p own)

pub value-scope : (ns : List Name) (m : Entries) (s : IsScope ns m) (e : Expr) (own : Entries) → expr_val e own m ≡ expr_val (put_expr (values_in ns m) e) own []
value-scope ns m s e own = expr_in-vars own own m (values_in ns m) (shows-values_in ns m s.no_others) e ∙ sym (expr-bound (values_in ns m) e own)

-- ---- a name that is set
set-by : (m : Entries) (n x : Name) (v : Value) → IsMap m → (s : Bool) → same_name n x ≡ s → look_up (set_to v n m) x ≡ (if s then v else look_up m x)
set-by m n x v h true e = ap (look_up (set_to v n m)) (sym (same_name-eq n x e)) ∙ setting_sets m n v h
set-by m n x v h false e =
    setting_keeps_the_others m n x v h (λ q. true≢false (sym (eq-eqb n.0 x.0 (ap (λ (k : Name). k.0) (sym q))) ∙ e))

look_up-set : (m : Entries) (n x : Name) (v : Value) → IsMap m → look_up (set_to v n m) x ≡ (if same_name n x then v else look_up m x)
look_up-set m n x v h = set-by m n x v h (same_name n x) refl

-- ---- variables that are bound anew
map-bind_all : (xs : List Name) (vs : List Value) (m : Entries) → IsMap m → IsMap (bind_all xs vs m)
map-bind_all [] vs m h = h
map-bind_all (x ∷ xs) [] m h = h
map-bind_all (x ∷ xs) (v ∷ vs) m h = setting_gives_a_map (bind_all xs vs m) x v (map-bind_all xs vs m h)

all-step : (s l : Bool) (v found old : Value) → (if s then v else (if l then found else old)) ≡ (if s || l then (if s then v else found) else old)
all-step true l v found old = refl
all-step false l v found old = refl

look_up-bind_all : (xs : List Name) (vs : List Value) (m : Entries) (y : Name) → length xs ≡ length vs → IsMap m → look_up (bind_all xs vs m) y ≡ (if lists xs y then look_up (zip xs vs) y else look_up m y)
look_up-bind_all [] vs m y e h = refl
look_up-bind_all (x ∷ xs) [] m y e h = absurd (omega arith)
look_up-bind_all (x ∷ xs) (v ∷ vs) m y e h =
    look_up-set (bind_all xs vs m) x y v (map-bind_all xs vs m h)
    ∙ ap (λ w. if same_name x y then v else w) (look_up-bind_all xs vs m y (omega arith) h)
    ∙ all-step (same_name x y) (lists xs y) v (look_up (zip xs vs) y) (look_up m y)

-- ---- what a variable becomes
in-step : (s l : Bool) (n x : Name) (m : Entries) → (s ≡ true → n ≡ x) → (if s then Literal (look_up m n) else (if l then Literal (look_up m x) else Var x)) ≡ (if s || l then Literal (look_up m x) else Var x)
in-step true l n x m same = ap (λ k. Literal (look_up m k)) (same refl)
in-step false l n x m same = refl

variable-values_in : (ns : List Name) (m : Entries) (x : Name) → put_variable (values_in ns m) x ≡ (if lists ns x then Literal (look_up m x) else Var x)
variable-values_in [] m x = refl
variable-values_in (n ∷ ns) m x =
    ap (λ o. if same_name n x then Literal (look_up m n) else o) (variable-values_in ns m x)
    ∙ in-step (same_name n x) (lists ns x) n x m (λ e. same_name-eq n x e)

zip-step : (s l : Bool) (v found : Value) (x : Name) → (if s then Literal v else (if l then Literal found else Var x)) ≡ (if s || l then Literal (if s then v else found) else Var x)
zip-step true l v found x = refl
zip-step false l v found x = refl

variable-zip : (xs : List Name) (vs : List Value) (y : Name) → length xs ≡ length vs → put_variable (zip xs vs) y ≡ (if lists xs y then Literal (look_up (zip xs vs) y) else Var y)
variable-zip [] vs y e = refl
variable-zip (x ∷ xs) [] y e = absurd (omega arith)
variable-zip (x ∷ xs) (v ∷ vs) y e =
    ap (λ o. if same_name x y then Literal v else o) (variable-zip xs vs y (omega arith))
    ∙ zip-step (same_name x y) (lists xs y) v (look_up (zip xs vs) y) y

after-step : (s : Bool) (v : Value) (y : Name) (here there last : Operand) → (here ≡ Var y → there ≡ last) → (if s then Literal v else here) ≡ Var y → (if s then Literal v else there) ≡ last
after-step true v y here there last f e = cc
after-step false v y here there last f e = f e

variable-after : (a b : Values) (y : Name) → put_variable a y ≡ Var y → put_variable (a ++ b) y ≡ put_variable b y
variable-after [] b y e = refl
variable-after (p ∷ a) b y e = after-step (same_name p.0 y) p.1 y (put_variable a y) (put_variable (a ++ b) y) (put_variable b y) (variable-after a b y) e

variable-before : (a b : Values) (y : Name) → put_variable b y ≡ Var y → put_variable (a ++ b) y ≡ put_variable a y
variable-before [] b y e = e
variable-before (p ∷ a) b y e = ap (λ o. if same_name p.0 y then Literal p.1 else o) (variable-before a b y e)

or-step : (s l r : Bool) → (s || (l || r)) ≡ ((s || l) || r)
or-step true l r = refl
or-step false l r = refl

lists-append : (a b : List Name) (y : Name) → lists (a ++ b) y ≡ (lists a y || lists b y)
lists-append [] b y = refl
lists-append (n ∷ a) b y = ap (λ l. same_name n y || l) (lists-append a b y) ∙ or-step (same_name n y) (lists a y) (lists b y)

or-true : (l r : Bool) → r ≡ true → (l || r) ≡ true
or-true true r e = refl
or-true false r e = e

or-false : (l r : Bool) → r ≡ false → (l || r) ≡ l
or-false true r e = refl
or-false false r e = e

left-false : (l r : Bool) → (l || r) ≡ false → l ≡ false
left-false true r e = e
left-false false r e = refl

right-false : (l r : Bool) → (l || r) ≡ false → r ≡ false
right-false true r e = absurd (true≢false e)
right-false false r e = e

module _ (ns xs : List Name) (vs : List Value) (m : Entries) (h : IsMap m) (n : length xs ≡ length vs) (y : Name) where
  abbrev new_vars : Entries
  new_vars = bind_all xs vs m

  inside-by : (l : Bool) → lists xs y ≡ l → put_variable (values_in (ns ++ xs) new_vars) y ≡ put_variable (outside xs (values_in ns m) ++ zip xs vs) y
  inside-by true e =
      let listed : lists (ns ++ xs) y ≡ true = lists-append ns xs y ∙ or-true (lists ns y) (lists xs y) e in
      variable-values_in (ns ++ xs) new_vars y ∙ ap (λ l. if l then Literal (look_up new_vars y) else Var y) listed
      ∙ ap Literal (look_up-bind_all xs vs m y n h ∙ ap (λ l. if l then look_up (zip xs vs) y else look_up m y) e)
      ∙ sym (variable-after (outside xs (values_in ns m)) (zip xs vs) y
      (variable-outside xs (values_in ns m) y ∙ ap (λ l. if l then Var y else put_variable (values_in ns m) y) e)
      ∙ variable-zip xs vs y n ∙ ap (λ l. if l then Literal (look_up (zip xs vs) y) else Var y) e)
  inside-by false e =
      let listed : lists (ns ++ xs) y ≡ lists ns y = lists-append ns xs y ∙ or-false (lists ns y) (lists xs y) e in
      variable-values_in (ns ++ xs) new_vars y ∙ ap (λ l. if l then Literal (look_up new_vars y) else Var y) listed
      ∙ ap (λ v. if lists ns y then Literal v else Var y) (look_up-bind_all xs vs m y n h ∙ ap (λ l. if l then look_up (zip xs vs) y else look_up m y) e)
      ∙ sym (variable-values_in ns m y)
      ∙ sym (variable-before (outside xs (values_in ns m)) (zip xs vs) y (variable-zip xs vs y n ∙ ap (λ l. if l then Literal (look_up (zip xs vs) y) else Var y) e)
      ∙ variable-outside xs (values_in ns m) y ∙ ap (λ l. if l then Var y else put_variable (values_in ns m) y) e)

  none-by : (l : Bool) → lists xs y ≡ l → (lists ns y ≡ false → look_up m y ≡ Nothing) → lists (ns ++ xs) y ≡ false → look_up new_vars y ≡ Nothing
  none-by true e f g = absurd (true≢false (sym e ∙ right-false (lists ns y) (lists xs y) (sym (lists-append ns xs y) ∙ g)))
  none-by false e f g =
      look_up-bind_all xs vs m y n h ∙ ap (λ l. if l then look_up (zip xs vs) y else look_up m y) e
      ∙ f (left-false (lists ns y) (lists xs y) (sym (lists-append ns xs y) ∙ g))

pub puts_inside : (ns xs : List Name) (vs : List Value) (m : Entries) → IsScope ns m → length xs ≡ length vs → PutsInside xs vs (values_in ns m) (values_in (ns ++ xs) (bind_all xs vs m))
puts_inside ns xs vs m s n P =
    put-same (values_in (ns ++ xs) (bind_all xs vs m)) (outside xs (values_in ns m) ++ zip xs vs) (λ y. inside-by ns xs vs m s.map n y (lists xs y) refl) P
    ∙ sym (putting_twice (outside xs (values_in ns m)) (zip xs vs) P)

pub scope_inside : (ns xs : List Name) (vs : List Value) (m : Entries) → IsScope ns m → length xs ≡ length vs → IsScope (ns ++ xs) (bind_all xs vs m)
scope_inside ns xs vs m s n =
    record { map = map-bind_all xs vs m s.map; no_others = λ y. none-by ns xs vs m s.map n y (lists xs y) refl (s.no_others y) }

-- ---- as the code makes them
pub scope_copied : (ns b : List Name) (m v : Entries) → IsScope ns m → b ≡ ns → v ≡ m → IsScope b v
scope_copied ns b m v s e f = subst (λ (w : Entries). IsScope b w) (sym f) (subst (λ (n : List Name). IsScope n m) (sym e) s)

pub values_copied : (ns b : List Name) (m v : Entries) → b ≡ ns → v ≡ m → values_in b v ≡ values_in ns m
values_copied ns b m v e f i = values_in (e i) (f i)

pub scope_bound : (ns b xs : List Name) (vs : List Value) (m v : Entries) → IsScope ns m → length xs ≡ length vs → b ≡ ns ++ xs → v ≡ bind_all xs vs m → IsScope b v
scope_bound ns b xs vs m v s n e f =
    subst (λ (w : Entries). IsScope b w) (sym f) (subst (λ (k : List Name). IsScope k (bind_all xs vs m)) (sym e) (scope_inside ns xs vs m s n))

pub values_bound : (ns b xs : List Name) (vs : List Value) (m v : Entries) → IsScope ns m → length xs ≡ length vs → b ≡ ns ++ xs → v ≡ bind_all xs vs m → PutsInside xs vs (values_in ns m) (values_in b v)
values_bound ns b xs vs m v s n e f =
    subst (λ (w : Entries). PutsInside xs vs (values_in ns m) (values_in b w)) (sym f)
    (subst (λ (k : List Name). PutsInside xs vs (values_in ns m) (values_in k (bind_all xs vs m))) (sym e) (puts_inside ns xs vs m s n))

-- ---- what a variable has
pub look_up_scope : (ns : List Name) (m : Entries) (s : IsScope ns m) (x : Name) → look_up m x ≡ look_up (values_in ns m) x
look_up_scope ns m s x = shows-values_in ns m s.no_others x
