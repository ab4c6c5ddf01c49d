-- The limit of tokens of a definition or a component, as a fact of all tokens of a program.
use Rattle.std.proofs.Common.{◌≡◌, ℕ, zero, suc, ◌+◌, ◌<◌, ◌≤◌, Bool, true, false, List, [], ◌∷◌, ◌++◌, length, take, Option, Some, None, refl, sym, ap, ◌∙◌, subst, arith}
use Rattle.std.specs.Prelude.{fold, slice_get, ◌==◌, ◌&&◌, not, if◌then◌else◌}
use Rattle.std.proofs.lemmas.Bool.{and_parts}
use Rattle.std.proofs.lemmas.Bool.Decides.{nat_tests}
use Rattle.std.specs.List.{list_all}
use Rattle.abc_grammar.specs.declared.lexemes.Lexeme.{Lexeme}
use Rattle.abc_grammar.specs.declared.limits.TheConstants.{MOST_TOKENS}
use Rattle.abc_grammar.specs.Limits.{starts_item, IsTooLarge}
use Rattle.abc_grammar_laws.proofs.NoItems.{is_inside, NoItem}
use Rattle.abc_limits.specs.Walking.{State, start, step, item_behind, counted_on, is_whole}
use Rattle.abc_limits.proofs.Passing.{not_both, got}
use Rattle.abc_limits.proofs.Walks.{large_is, is_large}

-- token t is the first one too many
abbrev pub is_over : Option ℕ → Lexeme → Bool
is_over item t = not (starts_item t) && is_whole item

-- Behind so many tokens of a definition or a component none of these is the first one too many of theirs.
abbrev pub Roomy : Option ℕ → List Lexeme → Type 0
Roomy item [] = Unit {0}
Roomy item (t ∷ ts) = (is_over item t ≡ false) × Roomy (item_behind item t) ts

-- how many tokens of the last definition or component stand before, behind these tokens
abbrev pub item_after : Option ℕ → List Lexeme → Option ℕ
item_after item ts = fold item_behind item ts

-- one list behind another
pub roomy_append : (item : Option ℕ) (ts us : List Lexeme) → Roomy item ts → Roomy (item_after item ts) us → Roomy item (ts ++ us)
roomy_append item [] us h k = k
roomy_append item (t ∷ ts) us h k = (h.0, roomy_append (item_behind item t) ts us h.1 k)

-- the first of two lists
pub roomy_front : (item : Option ℕ) (ts us : List Lexeme) → Roomy item (ts ++ us) → Roomy item ts
roomy_front item [] us h = tt
roomy_front item (t ∷ ts) us h = (h.0, roomy_front (item_behind item t) ts us h.1)

-- the second of two lists
pub roomy_back : (item : Option ℕ) (ts us : List Lexeme) → Roomy item (ts ++ us) → Roomy (item_after item ts) us
roomy_back item [] us h = h
roomy_back item (t ∷ ts) us h = roomy_back (item_behind item t) ts us h.1

-- ---- this is the limit
-- what the walk over a program's tokens counts
item_is : (s : State) (ts : List Lexeme) → (fold step s ts).item ≡ item_after s.item ts
item_is s [] = refl
item_is s (t ∷ ts) = item_is (step s t) ts

-- a test that is not true
not_true : (b : Bool) → ¬ (b ≡ true) → b ≡ false
not_true true h = absurd (h refl)
not_true false h = refl

-- tokens none of which is one too many are roomy
roomy_of : (item : Option ℕ) (ts : List Lexeme) →
    ((k : ℕ) (t : Lexeme) → slice_get ts k ≡ Some t → is_over (item_after item (take k ts)) t ≡ false) → Roomy item ts
roomy_of item [] h = tt
roomy_of item (t ∷ ts) h = (h 0 t refl, roomy_of (item_behind item t) ts (λ k u e. h (suc k) u e))

-- and the other way round
roomy_at : (item : Option ℕ) (ts : List Lexeme) (k : ℕ) (t : Lexeme) → slice_get ts k ≡ Some t → Roomy item ts →
    is_over (item_after item (take k ts)) t ≡ false
roomy_at item [] k t e h = absurd (cc)
roomy_at item (u ∷ ts) zero t e h =
    let same : u ≡ t = cc in
    subst (λ (x : Lexeme). is_over item x ≡ false) same h.0
roomy_at item (u ∷ ts) (suc k) t e h = roomy_at (item_behind item u) ts k t e h.1

-- tokens none of which is too large
pub small_roomy : (ts : List Lexeme) → ((k : ℕ) → ¬ IsTooLarge ts k) → Roomy None ts
small_roomy ts h =
    roomy_of None ts
    (λ k t e. not_true (is_over (item_after None (take k ts)) t)
    (λ over. h k (large_is ts k t e (ap (λ (o : Option ℕ). is_over o t) (item_is start (take k ts)) ∙ over))))

-- and the other way round
pub roomy_small : (ts : List Lexeme) → Roomy None ts → (k : ℕ) → ¬ IsTooLarge ts k
roomy_small ts h k large =
    let g = got ts k large.exists in
    not_both (is_over (item_after None (take k ts)) g.0)
    (sym (ap (λ (o : Option ℕ). is_over o g.0) (item_is start (take k ts))) ∙ is_large ts k g.0 g.1 large)
    (roomy_at None ts k g.0 g.1 h)

-- ---- the tokens of one definition or component
-- a test whose opposite is true
inside_is : (b : Bool) → not b ≡ true → b ≡ false
inside_is true e = cc
inside_is false e = refl

-- a token inside, behind n others
abbrev Next : ℕ → Lexeme → Type 0
Next n t = (is_over (Some n) t ≡ (n == MOST_TOKENS)) × (item_behind (Some n) t ≡ Some (n + 1))

-- it is one more
next : (n : ℕ) (t : Lexeme) → is_inside t ≡ true → Next n t
next n t e =
    let f = inside_is (starts_item t) e in
    (ap (λ (b : Bool). not b && is_whole (Some n)) f, ap (λ (b : Bool). if b then Some 1 else Some (n + 1)) f)

-- a token inside, and those behind it
parted : (t : Lexeme) (ts : List Lexeme) → NoItem (t ∷ ts) → (is_inside t ≡ true) × NoItem ts
parted t ts h = and_parts (is_inside t) (list_all is_inside ts) h

-- behind n tokens, tokens inside are roomy where they are not too many
pub few_roomy : (n : ℕ) (ts : List Lexeme) → NoItem ts → n + length ts ≤ MOST_TOKENS → Roomy (Some n) ts
few_roomy n [] h le = tt
few_roomy n (t ∷ ts) h le =
    let p = parted t ts h in
    let x = next n t p.0 in
    let below : (n == MOST_TOKENS) ≡ false = let lt : n < MOST_TOKENS = omega (arith, le) in grind (arith, nat_tests) in
    (x.0 ∙ below, subst (λ (o : Option ℕ). Roomy o ts) (sym x.1) (few_roomy (n + 1) ts p.1 (omega (arith, le))))

-- and the other way round
pub roomy_few : (n : ℕ) (ts : List Lexeme) → NoItem ts → n ≤ MOST_TOKENS → Roomy (Some n) ts → n + length ts ≤ MOST_TOKENS
roomy_few n [] h le r = omega (arith, le)
roomy_few n (t ∷ ts) h le r =
    let p = parted t ts h in
    let x = next n t p.0 in
    let other : (n == MOST_TOKENS) ≡ false = sym x.0 ∙ r.0 in
    let lt : n < MOST_TOKENS = grind (arith, nat_tests) in
    let more = roomy_few (n + 1) ts p.1 (omega (arith, lt)) (subst (λ (o : Option ℕ). Roomy o ts) x.1 r.1) in
    omega (arith, more)

-- a definition or a component: its first token begins it, and the others don't begin one
pub item_first : (item : Option ℕ) (t : Lexeme) → starts_item t ≡ true → (is_over item t ≡ false) × (item_behind item t ≡ Some 1)
item_first item t e = (ap (λ (b : Bool). not b && is_whole item) e, ap (λ (b : Bool). if b then Some 1 else counted_on item) e)

-- ---- behind tokens of a definition or a component
-- a token that is not one too many
not_over : (b : Bool) (n : ℕ) → (not b && is_whole (Some n)) ≡ false → n ≤ MOST_TOKENS →
    (k : ℕ) × ((if b then Some 1 else Some (n + 1)) ≡ Some k) × (k ≤ MOST_TOKENS)
not_over true n e le = (1, refl, omega arith)
not_over false n e le =
    let other : (n == MOST_TOKENS) ≡ false = e in
    let lt : n < MOST_TOKENS = grind (arith, nat_tests) in
    (n + 1, refl, omega (arith, lt))

-- behind one token more
pub one_after : (n : ℕ) (t : Lexeme) → n ≤ MOST_TOKENS → is_over (Some n) t ≡ false →
    (k : ℕ) × (item_behind (Some n) t ≡ Some k) × (k ≤ MOST_TOKENS)
one_after n t le e = not_over (starts_item t) n e le

-- behind more tokens
some_after : (n : ℕ) (ts : List Lexeme) → n ≤ MOST_TOKENS → Roomy (Some n) ts → (k : ℕ) × (item_after (Some n) ts ≡ Some k) × (k ≤ MOST_TOKENS)
some_after n [] le r = (n, refl, le)
some_after n (t ∷ ts) le r =
    let one = one_after n t le r.0 in
    let more = some_after one.0 ts one.2 (subst (λ (o : Option ℕ). Roomy o ts) one.1 r.1) in
    (more.0, ap (λ (o : Option ℕ). item_after o ts) one.1 ∙ more.1, more.2)

-- Tokens behind a token are not too many, where it and they stand among tokens that are roomy.
pub few_inside : (front : List Lexeme) (t : Lexeme) (inside back : List Lexeme) → NoItem inside → Roomy (Some 0) (front ++ t ∷ inside ++ back) →
    length inside ≤ MOST_TOKENS
few_inside front t inside back h r =
    let all = roomy_front (Some 0) (front ++ t ∷ inside) back r in
    let before = some_after 0 front (omega arith) (roomy_front (Some 0) front (t ∷ inside) all) in
    let here = subst (λ (o : Option ℕ). Roomy o (t ∷ inside)) before.1 (roomy_back (Some 0) front (t ∷ inside) all) in
    let one = one_after before.0 t before.2 here.0 in
    let most = roomy_few one.0 inside h one.2 (subst (λ (o : Option ℕ). Roomy o inside) one.1 here.1) in
    omega (arith, most)
