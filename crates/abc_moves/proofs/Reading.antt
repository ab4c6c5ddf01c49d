-- What an input's predicate reads of a message.
use Rattle.std.proofs.Common.{◌≡◌, ◌==◌, ◌<◌, ℕ, Bool, true, false, not, ◌||◌, ◌&&◌, IsTrue, if◌then◌else◌, List, [], ◌∷◌, ◌++◌, length, refl, ap, sym, ◌∙◌, arith}
use Rattle.std.specs.List.{zip}
use Rattle.std.proofs.lemmas.Bool.{true≢false, eqb-true}
use Rattle.abc_value.specs.declared.value.Value.{Value}
use Rattle.abc_value.specs.declared.value.Value.TheVariants.{Nothing}
use Rattle.abc_pred.specs.declared.names.Name.{Name}
use Rattle.abc_pred.specs.Terms.{Pred, True}
use Rattle.abc_pred.specs.Maps.{Entries, look_up, lists, same_name}
use Rattle.abc_pred.specs.Meaning.{sat}
use Rattle.abc_pred.proofs.Shown.{same_name-eq}
use Rattle.abc_term.specs.Processes.{Nil, When, Output, Update}
use Rattle.abc_term.specs.Substitution.{Values, put_pred, put_updates, outside}
use Rattle.abc_term.specs.Speaking.{Label}
use Rattle.abc_term.specs.Hearing.{takes, is_meant, is_wanted}
use Rattle.abc_term.proofs.Bindings.{sat-put, putting_twice, putting_nothing}
use Rattle.abc_moves.specs.Scopes.{PutsInside}
use Rattle.abc_moves.specs.Hears.{inside}

look-if : (h : Bool) (b : Name × Value) (bs z : Values) (x : Name) → look_up ((if h then b ∷ bs else bs) ++ z) x ≡ (if h then (if same_name b.0 x then b.1 else look_up (bs ++ z) x) else look_up (bs ++ z) x)
look-if true b bs z x = refl
look-if false b bs z x = refl

look-step : (h s l : Bool) (v less there rest : Value) → (s ≡ true → h ≡ l) → less ≡ (if l then there else rest) → (if not h then (if s then v else less) else less) ≡ (if l then there else (if s then v else rest))
look-step true true true v less there rest same e = e
look-step true true false v less there rest same e = absurd (true≢false (same refl))
look-step true false true v less there rest same e = e
look-step true false false v less there rest same e = e
look-step false true true v less there rest same e = absurd (true≢false (sym (same refl)))
look-step false true false v less there rest same e = refl
look-step false false true v less there rest same e = e
look-step false false false v less there rest same e = e

same-if : (l : Bool) (v : Value) → v ≡ (if l then v else v)
same-if true v = refl
same-if false v = refl

look_up-outside : (xs : List Name) (bs z : Values) (x : Name) → look_up (outside xs bs ++ z) x ≡ (if lists xs x then look_up z x else look_up (bs ++ z) x)
look_up-outside xs [] z x = same-if (lists xs x) (look_up z x)
look_up-outside xs (b ∷ bs) z x =
    look-if (not (lists xs b.0)) b (outside xs bs) z x
    ∙ look-step (lists xs b.0) (same_name b.0 x) (lists xs x) b.1 (look_up (outside xs bs ++ z) x) (look_up z x) (look_up (bs ++ z) x) (λ h. ap (lists xs) (same_name-eq b.0 x h)) (look_up-outside xs bs z x)

look_up-before : (bs z : Values) (x : Name) → look_up z x ≡ Nothing → look_up (bs ++ z) x ≡ look_up bs x
look_up-before [] z x e = e
look_up-before (b ∷ bs) z x e = ap (λ v. if same_name b.0 x then b.1 else v) (look_up-before bs z x e)

none-step : (s l : Bool) (v rest : Value) → (s || l) ≡ false → (l ≡ false → rest ≡ Nothing) → (if s then v else rest) ≡ Nothing
none-step true l v rest e f = absurd (true≢false e)
none-step false l v rest e f = f e

look_up-unlisted : (xs : List Name) (vs : List Value) (x : Name) → lists xs x ≡ false → look_up (zip xs vs) x ≡ Nothing
look_up-unlisted [] vs x e = refl
look_up-unlisted (y ∷ xs) [] x e = refl
look_up-unlisted (y ∷ xs) (v ∷ vs) x e = none-step (same_name y x) (lists xs x) v (look_up (zip xs vs) x) e (look_up-unlisted xs vs x)

-- a variable of the input has the message's value
pub inside_listed : (xs : List Name) (vs : List Value) (bs : Values) (x : Name) → lists xs x ≡ true → look_up (inside xs vs bs) x ≡ look_up (zip xs vs) x
inside_listed xs vs bs x e = look_up-outside xs bs (zip xs vs) x ∙ ap (λ l. if l then look_up (zip xs vs) x else look_up (bs ++ zip xs vs) x) e

-- and any other what it has outside
pub inside_unlisted : (xs : List Name) (vs : List Value) (bs : Values) (x : Name) → lists xs x ≡ false → look_up (inside xs vs bs) x ≡ look_up bs x
inside_unlisted xs vs bs x e =
    look_up-outside xs bs (zip xs vs) x ∙ ap (λ l. if l then look_up (zip xs vs) x else look_up (bs ++ zip xs vs) x) e
    ∙ look_up-before bs (zip xs vs) x (look_up-unlisted xs vs x e)

pub pred_twice : (first second : Values) (p : Pred) → put_pred second (put_pred first p) ≡ put_pred (first ++ second) p
pred_twice first second p = let e = putting_twice first second (When p Nil) in cc

pub sat_inside : (xs : List Name) (vs : List Value) (bs : Values) (p : Pred) (own other : Entries) → sat p own other (inside xs vs bs) ≡ sat (put_pred (zip xs vs) (put_pred (outside xs bs) p)) own other []
sat_inside xs vs bs p own other =
    sym (sat-put (inside xs vs bs) p own other) ∙ ap (λ q. sat q own other []) (sym (pred_twice (outside xs bs) (zip xs vs) p))

pub pred_nothing : (u : Values) (p : Pred) → u ≡ [] → put_pred u p ≡ p
pred_nothing u p f = ap (λ w. put_pred w p) f ∙ (let e = putting_nothing (When p Nil) in cc)

-- updates under what an input's variables read are updates in which their values have been put
pub updates_twice : (xs : List Name) (vs : List Value) (bs : Values) (us : List Update) →
    put_updates (inside xs vs bs) us ≡ put_updates (zip xs vs) (put_updates (outside xs bs) us)
updates_twice xs vs bs us = let e = sym (putting_twice (outside xs bs) (zip xs vs) (Output [] True us Nil)) in cc

pub updates_inside : (xs : List Name) (vs : List Value) (outer inner : Values) → PutsInside xs vs outer inner → (us : List Update) → put_updates inner us ≡ put_updates (zip xs vs) (put_updates (outside xs outer) us)
updates_inside xs vs outer inner h us = let e = h (Output [] True us Nil) in cc

-- ---- an input that takes a message
both-true : (a b c : Bool) → (a && b && c) ≡ true → a ≡ true
both-true true b c e = refl
both-true false false c e = e
both-true false true c e = e

taken : (t : Bool) (place : ℕ) → place < (if t then 1 else 0) → (place ≡ 0) × (t ≡ true)
taken true place h = (omega arith, refl)
taken false place h = absurd (omega arith)

pub taken_at : (t : Bool) (place : ℕ) → place < (if t then 1 else 0) → (place ≡ 0) × IsTrue t
taken_at t place h = taken t place h

pub taken_lengths : (l : Label) (env : Entries) (interface xs : List Name) (p : Pred) → IsTrue (takes l env interface p xs) → length xs ≡ length l.values
taken_lengths l env interface xs p h =
    sym (eqb-true (length l.values) (length xs) (both-true (length l.values == length xs) (is_meant l env interface) (is_wanted l env p xs) h))
