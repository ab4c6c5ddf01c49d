-- How a text of the grammar is walked, bracket by bracket: none is crowded where its tuples are short.
use Rattle.std.proofs.Common.{◌≡◌, ℕ, suc, ◌-◌, ◌≤◌, ◌<◌, Bool, true, false, ◌&&◌, List, [], ◌∷◌, ◌++◌, length, Option, Some, None, refl, sym, ap, ◌∙◌, subst, length-append, append_assoc, arith, if◌then◌else◌}
use Rattle.std.specs.Prelude.{nat_le, All}
use Rattle.std.proofs.lemmas.Bool.Decides.{nat_tests}
use Rattle.std.proofs.lemmas.List.Elements.{All-pop}
use Rattle.abc_value.specs.declared.scalar.Scalar.{Scalar}
use Rattle.abc_value.specs.declared.value.Value.{Value}
use Rattle.abc_pred.specs.declared.names.Name.{Name}
use Rattle.abc_pred.specs.Terms.{Operand, Expr, Pred}
use Rattle.abc_term.specs.Processes.{Process, Update}
use Rattle.abc_grammar.specs.declared.lexemes.Lexeme.{Lexeme}
use Rattle.abc_grammar.specs.declared.lexemes.Lexeme.TheVariants as l
use Rattle.abc_text.specs.declared.words.Mark.TheVariants as m
use Rattle.abc_text.specs.declared.words.Keyword.TheVariants as k
use Rattle.abc_grammar.specs.declared.limits.TheConstants.{MOST_PARTS}
use Rattle.abc_grammar.specs.Listed.{AreListed, MayBeListed, AreRepeated, IsName, IsVariable}
use Rattle.abc_grammar.specs.Listed as gl
use Rattle.abc_grammar.specs.Literals.{IsScalar, IsLiteral}
use Rattle.abc_grammar.specs.Literals as gs
use Rattle.abc_grammar.specs.Operands.{IsOperand, IsProduct, IsAtom}
use Rattle.abc_grammar.specs.Operands as og
use Rattle.abc_grammar.specs.Exprs.{IsExpr}
use Rattle.abc_grammar.specs.Exprs as eg
use Rattle.abc_grammar.specs.Preds.{IsPred, IsBoth, IsTest}
use Rattle.abc_grammar.specs.Preds as pg
use Rattle.abc_grammar.specs.Processes.{IsUpdate, IsProcess, IsChoice, IsPrefix, IsAfter}
use Rattle.abc_grammar.specs.Processes as q
use Rattle.abc_grammar.specs.Plain.{PlainComponent, PlainProgram}
use Rattle.abc_grammar.specs.Programs.{IsDefinition, IsInitial, IsComponent, IsProgram}
use Rattle.abc_grammar.specs.Programs as g
use Rattle.abc_grammar_laws.specs.Short.{HasShortTuples, AreShort}
use Rattle.abc_grammar_laws.specs.Crowding.{Bracket, Standing, is_crowded, moved, step, walk}

-- ---- walks
pub walk_none : (limited : Bool) (ts : List Lexeme) → walk limited None ts ≡ None
walk_none limited ts = refl

pub walk_append : (limited : Bool) (s : Option Standing) (ts us : List Lexeme) → walk limited s (ts ++ us) ≡ walk limited (walk limited s ts) us
walk_append limited None ts us = refl
walk_append limited (Some s) [] us = refl
walk_append limited (Some s) (t ∷ ts) us = walk_append limited (step limited s t) ts us

regrouped : (ps qs rs ss zs : List Lexeme) → (ps ++ (qs ++ (rs ++ ss))) ++ zs ≡ ((ps ++ qs) ++ rs) ++ (ss ++ zs)
regrouped ps qs rs ss zs =
    append_assoc ps (qs ++ (rs ++ ss)) zs
    ∙ ap (λ (ts : List Lexeme). ps ++ ts) (append_assoc qs (rs ++ ss) zs ∙ ap (λ (ts : List Lexeme). qs ++ ts) (append_assoc rs ss zs))
    ∙ sym (append_assoc ps qs (rs ++ (ss ++ zs))) ∙ sym (append_assoc (ps ++ qs) rs (ss ++ zs))

-- nothing is asked
abbrev pub Any : {A : Type 0} → A → Type 0
Any a = Unit {0}

pub all_any : {A : Type 0} (xs : List A) → All (Any {A = A}) xs
all_any xs k d lt = tt

module _ (limited : Bool) where
  -- the next token may stand
  abbrev pub Roomy : List Bracket → Type 0
  Roomy bs = (limited && is_crowded bs) ≡ false

  and_false : (b : Bool) → (b && false) ≡ false
  and_false true = refl
  and_false false = refl

  pub roomy_none : Roomy []
  roomy_none = and_false limited

  pub roomy_any : (n : ℕ) (bs : List Bracket) → Roomy ((true, n) ∷ bs)
  roomy_any n bs = and_false limited

  pub roomy_few : (n : ℕ) (bs : List Bracket) → n < 8 → Roomy ((false, n) ∷ bs)
  roomy_few n bs h = let e : nat_le MOST_PARTS n ≡ false = grind (arith, nat_tests) in ap (λ (b : Bool). limited && b) e ∙ and_false limited

  pub roomy_if : (n : ℕ) (bs : List Bracket) → (limited ≡ true → n < 8) → Roomy ((false, n) ∷ bs)
  roomy_if n bs h = by limited refl
    where
      by : (b : Bool) → limited ≡ b → Roomy ((false, n) ∷ bs)
      by true e = roomy_few n bs (h e)
      by false e = ap (λ (b : Bool). b && is_crowded ((false, n) ∷ bs)) e

  -- one token where it may stand
  pub one_step : (t : Lexeme) (ts : List Lexeme) (w c : Bool) (bs : List Bracket) → Roomy bs →
      walk limited (Some (w, (c, bs))) (t ∷ ts) ≡ walk limited (moved t w c bs) ts
  one_step t ts w c bs h = ap (λ (b : Bool). walk limited (if b then None else moved t w c bs) ts) h

  -- ---- terms: where they begin behind no `set`, they leave the brackets as they were
  -- and end behind no `set(..)`
  abbrev pub Flat : List Lexeme → Type 0
  Flat ts = (c : Bool) (bs : List Bracket) → Roomy bs → walk limited (Some (false, (c, bs))) ts ≡ Some (false, (false, bs))

  -- or may end behind one
  abbrev pub Ended : List Lexeme → Type 0
  Ended ts = (c : Bool) (bs : List Bracket) → Roomy bs → (d : Bool) × (walk limited (Some (false, (c, bs))) ts ≡ Some (false, (d, bs)))

  pub flat_ended : (ts : List Lexeme) → Flat ts → Ended ts
  flat_ended ts h c bs r = (false, h c bs r)

  -- a token that is no bracket, comma, `@`, `.` or `set`
  abbrev pub IsQuiet : Lexeme → Type 0
  IsQuiet t = (w c : Bool) (bs : List Bracket) → moved t w c bs ≡ Some (false, (false, bs))

  pub quiet_flat : (t : Lexeme) → IsQuiet t → Flat (t ∷ [])
  quiet_flat t q c bs r = one_step t [] false c bs r ∙ ap (λ (s : Option Standing). walk limited s []) (q false c bs)

  pub behind : (t : Lexeme) (ts : List Lexeme) → IsQuiet t → Flat ts → Flat (t ∷ ts)
  behind t ts q h c bs r = one_step t ts false c bs r ∙ ap (λ (s : Option Standing). walk limited s ts) (q false c bs) ∙ h false bs r

  pub flat_append : (ts us : List Lexeme) → Ended ts → Flat us → Flat (ts ++ us)
  flat_append ts us h q c bs r = let e = h c bs r in walk_append limited (Some (false, (c, bs))) ts us
      ∙ ap (λ (s : Option Standing). walk limited s us) e.1 ∙ q e.0 bs r

  pub ended_behind : (t : Lexeme) (ts : List Lexeme) → IsQuiet t → Ended ts → Ended (t ∷ ts)
  ended_behind t ts q h c bs r =
      let e = h false bs r in
      (e.0, one_step t ts false c bs r ∙ ap (λ (s : Option Standing). walk limited s ts) (q false c bs) ∙ e.1)

  pub ended_append : (ts us : List Lexeme) → Ended ts → Ended us → Ended (ts ++ us)
  ended_append ts us h q c bs r =
      let e = h c bs r in
      let f = q e.0 bs r in
      (f.0, walk_append limited (Some (false, (c, bs))) ts us ∙ ap (λ (s : Option Standing). walk limited s us) e.1 ∙ f.1)

  pub flat_joined : (ts us : List Lexeme) (t : Lexeme) → IsQuiet t → Flat ts → Flat us → Flat (ts ++ t ∷ us)
  flat_joined ts us t q h j = flat_append ts (t ∷ us) (flat_ended ts h) (behind t us q j)

  -- ---- brackets
  -- `(` .. `)` behind no `set`
  pub in_round : (ts : List Lexeme) → Ended ts → Flat (l.Mark m.OpenRound ∷ ts ++ l.Mark m.CloseRound ∷ [])
  in_round ts h c bs r =
      let room = roomy_few 0 bs (omega arith) in
      let e = h false ((false, 0) ∷ bs) room in
      one_step (l.Mark m.OpenRound) (ts ++ l.Mark m.CloseRound ∷ []) false c bs r
      ∙ walk_append limited (Some (false, (false, (false, 0) ∷ bs))) ts (l.Mark m.CloseRound ∷ [])
      ∙ ap (λ (s : Option Standing). walk limited s (l.Mark m.CloseRound ∷ [])) e.1
      ∙ one_step (l.Mark m.CloseRound) [] false e.0 ((false, 0) ∷ bs) room

  pub in_square : (ts : List Lexeme) → Ended ts → Flat (l.Mark m.OpenSquare ∷ ts ++ l.Mark m.CloseSquare ∷ [])
  in_square ts h c bs r =
      let room = roomy_any 0 bs in
      let e = h false ((true, 0) ∷ bs) room in
      one_step (l.Mark m.OpenSquare) (ts ++ l.Mark m.CloseSquare ∷ []) false c bs r
      ∙ walk_append limited (Some (false, (false, (true, 0) ∷ bs))) ts (l.Mark m.CloseSquare ∷ [])
      ∙ ap (λ (s : Option Standing). walk limited s (l.Mark m.CloseSquare ∷ [])) e.1
      ∙ one_step (l.Mark m.CloseSquare) [] false e.0 ((true, 0) ∷ bs) room

  pub in_curly : (ts : List Lexeme) → Ended ts → Flat (l.Mark m.OpenCurly ∷ ts ++ l.Mark m.CloseCurly ∷ [])
  in_curly ts h c bs r =
      let room = roomy_any 0 bs in
      let e = h false ((true, 0) ∷ bs) room in
      one_step (l.Mark m.OpenCurly) (ts ++ l.Mark m.CloseCurly ∷ []) false c bs r
      ∙ walk_append limited (Some (false, (false, (true, 0) ∷ bs))) ts (l.Mark m.CloseCurly ∷ [])
      ∙ ap (λ (s : Option Standing). walk limited s (l.Mark m.CloseCurly ∷ [])) e.1
      ∙ one_step (l.Mark m.CloseCurly) [] false e.0 ((true, 0) ∷ bs) room

  -- the closing bracket and what follows it
  pub close_round : (ts us : List Lexeme) → Flat ((l.Mark m.OpenRound ∷ ts ++ l.Mark m.CloseRound ∷ []) ++ us) →
      Flat (l.Mark m.OpenRound ∷ ts ++ l.Mark m.CloseRound ∷ us)
  close_round ts us h = subst (λ vs. Flat (l.Mark m.OpenRound ∷ vs)) (append_assoc ts (l.Mark m.CloseRound ∷ []) us) h

  -- items parted by commas in a bracket that may hold any number
  abbrev pub Anywhere : List Lexeme → Type 0
  Anywhere ts = (c : Bool) (n : ℕ) (bs : List Bracket) → (d : Bool) × (p : ℕ) × (walk limited (Some (false, (c, (true, n) ∷ bs))) ts ≡ Some
      (false, (d, (true, p) ∷ bs)))

  pub listed_anywhere : {A : Type 0} {Item : List Lexeme → A → Type 0} → ((ts : List Lexeme) (a : A) → Item ts a → Ended ts) →
      {ts : List Lexeme} {xs : List A} → AreListed Item ts xs → Anywhere ts
  listed_anywhere ended (gl.one {ts} {a} h) c n bs = let e = ended ts a h c ((true, n) ∷ bs) (roomy_any n bs) in (e.0, n, e.1)
  listed_anywhere ended (gl.more {ts} {us} {items} {a} h q) c n bs =
      let e = listed_anywhere ended h c n bs in
      let f = ended us a q false ((true, suc e.1) ∷ bs) (roomy_any (suc e.1) bs) in (
        f.0,
        suc e.1,
        walk_append limited (Some (false, (c, (true, n) ∷ bs))) ts (l.Mark m.Comma ∷ us)
            ∙ ap (λ (s : Option Standing). walk limited s (l.Mark m.Comma ∷ us)) e.2
            ∙ one_step (l.Mark m.Comma) us false e.0 ((true, e.1) ∷ bs) (roomy_any e.1 bs) ∙ f.1,
      )

  pub may_be_anywhere : {A : Type 0} {Item : List Lexeme → A → Type 0} → ((ts : List Lexeme) (a : A) → Item ts a → Ended ts) →
      {ts : List Lexeme} {xs : List A} → MayBeListed Item ts xs → Anywhere ts
  may_be_anywhere ended gl.none c n bs = (c, n, refl)
  may_be_anywhere ended (gl.some h) c n bs = listed_anywhere ended h c n bs

  pub curly_list : (ts : List Lexeme) → Anywhere ts → Flat (l.Mark m.OpenCurly ∷ ts ++ l.Mark m.CloseCurly ∷ [])
  curly_list ts h c bs r =
      let e = h false 0 bs in
      one_step (l.Mark m.OpenCurly) (ts ++ l.Mark m.CloseCurly ∷ []) false c bs r
      ∙ walk_append limited (Some (false, (false, (true, 0) ∷ bs))) ts (l.Mark m.CloseCurly ∷ [])
      ∙ ap (λ (s : Option Standing). walk limited s (l.Mark m.CloseCurly ∷ [])) e.2
      ∙ one_step (l.Mark m.CloseCurly) [] false e.0 ((true, e.1) ∷ bs) (roomy_any e.1 bs)

  -- items in a round bracket behind no `set`, as many as may be
  abbrev pub Within : List Lexeme → ℕ → Type 0
  Within ts count = (c : Bool) (bs : List Bracket) → (d : Bool) × (walk limited (Some (false, (c, (false, 0) ∷ bs))) ts ≡ Some (
    false,
    (
      d,
      (false, count - 1) ∷ bs,
    ),
  ))

  pub listed_within :
      {A : Type 0} {Item : List Lexeme → A → Type 0} → ((ts : List Lexeme) (a : A) → Item ts a → Ended ts) → {ts : List Lexeme} {xs : List A} →
      AreListed Item ts xs →
      (limited ≡ true → length xs ≤ 8) → Within ts (length xs)
  listed_within ended (gl.one {ts} {a} h) few c bs = ended ts a h c ((false, 0) ∷ bs) (roomy_few 0 bs (omega arith))
  listed_within {A} ended (gl.more {ts} {us} {items} {a} h q) few c bs =
      let n = length-append {A = A} items (a ∷ []) in
      let fewer : limited ≡ true → length items ≤ 8 = λ e. let b = few e in omega (arith, n, b) in
      let some : 0 < length items = listed_some h in
      let e = listed_within ended h fewer c bs in
      let before = roomy_if (length items - 1) bs (λ t. let b = few t in omega (arith, n, b, some)) in
      let now = roomy_if (length items) bs (λ t. let b = few t in omega (arith, n, b)) in
      let count : suc (length items - 1) ≡ length items = omega (arith, some) in
      let last : length items ≡ length (items ++ a ∷ []) - 1 = omega (arith, n) in
      let f = ended us a q false ((false, length items) ∷ bs) now in (
        f.0,
        walk_append limited (Some (false, (c, (false, 0) ∷ bs))) ts (l.Mark m.Comma ∷ us)
            ∙ ap (λ (s : Option Standing). walk limited s (l.Mark m.Comma ∷ us)) e.1
            ∙ one_step (l.Mark m.Comma) us false e.0 ((false, length items - 1) ∷ bs) before
            ∙ ap (λ (p : ℕ). walk limited (Some (false, (false, (false, p) ∷ bs))) us) count ∙ f.1
            ∙ ap (λ (p : ℕ). Some (false, (f.0, (false, p) ∷ bs))) last,
      )
    where
      listed_some : {A : Type 0} {Item : List Lexeme → A → Type 0} {ts : List Lexeme} {xs : List A} → AreListed Item ts xs → 0 < length xs
      listed_some (gl.one h) = omega arith
      listed_some {A} (gl.more {items} {a} h q) = let n = length-append {A = A} items (a ∷ []) in omega (arith, n)

  pub tuple_flat : {A : Type 0} {Item : List Lexeme → A → Type 0} → ((ts : List Lexeme) (a : A) → Item ts a → Ended ts) →
      {ts : List Lexeme} {xs : List A} → MayBeListed Item ts xs →
      (limited ≡ true → length xs ≤ 8) → Flat (l.Mark m.OpenRound ∷ ts ++ l.Mark m.CloseRound ∷ [])
  tuple_flat ended gl.none few c bs r =
      one_step (l.Mark m.OpenRound) (l.Mark m.CloseRound ∷ []) false c bs r ∙ one_step (l.Mark m.CloseRound) [] false false ((false, 0) ∷ bs)
      (roomy_few 0 bs (omega arith))
  tuple_flat ended {xs} (gl.some {ts} h) few c bs r =
      let e = listed_within ended h few false bs in
      one_step (l.Mark m.OpenRound) (ts ++ l.Mark m.CloseRound ∷ []) false c bs r
      ∙ walk_append limited (Some (false, (false, (false, 0) ∷ bs))) ts (l.Mark m.CloseRound ∷ [])
      ∙ ap (λ (s : Option Standing). walk limited s (l.Mark m.CloseRound ∷ [])) e.1
      ∙ one_step (l.Mark m.CloseRound) [] false e.0 ((false, length xs - 1) ∷ bs) (roomy_if (length xs - 1) bs (λ t. let b = few t in omega
      (arith, b)))

  -- ---- literals and operands
  pub scalar_flat : {ts : List Lexeme} {x : Scalar} → IsScalar ts x → Flat ts
  scalar_flat (gs.number {n} h) = quiet_flat (l.Number n) (λ w c bs. refl)
  scalar_flat (gs.negative {n} h) = behind (l.Mark m.Minus) (l.Number n ∷ []) (λ w c bs. refl) (quiet_flat (l.Number n) (λ w c bs. refl))
  scalar_flat (gs.text {bytes}) = quiet_flat (l.Text bytes) (λ w c bs. refl)
  scalar_flat gs.yes = quiet_flat (l.Keyword k.True) (λ w c bs. refl)
  scalar_flat gs.no = quiet_flat (l.Keyword k.False) (λ w c bs. refl)

  pub literal_flat : {ts : List Lexeme} {x : Value} → IsLiteral ts x → Flat ts
  literal_flat (gs.scalar h) = scalar_flat h
  literal_flat gs.nothing = quiet_flat (l.Keyword k.None) (λ w c bs. refl)
  literal_flat (gs.set {ts} h) = curly_list ts (may_be_anywhere (λ us x q. flat_ended us (scalar_flat q)) h)

  own_flat : (n : Name) → Flat (l.Keyword k.This ∷ l.Mark m.Dot ∷ l.Name n ∷ [])
  own_flat n c bs r =
      one_step (l.Keyword k.This) (l.Mark m.Dot ∷ l.Name n ∷ []) false c bs r ∙ one_step (l.Mark m.Dot) (l.Name n ∷ []) false false bs r
      ∙ quiet_flat (l.Name n) (λ w d cs. refl) false bs r

  mutual
    pub operand_flat : {ts : List Lexeme} {a : Operand} → IsOperand ts a → Flat ts
    operand_flat (og.product h) = product_flat h
    operand_flat (og.plus {ts} {us} h q) = flat_joined ts us (l.Mark m.Plus) (λ w c bs. refl) (operand_flat h) (product_flat q)
    operand_flat (og.minus {ts} {us} h q) = flat_joined ts us (l.Mark m.Minus) (λ w c bs. refl) (operand_flat h) (product_flat q)

    pub product_flat : {ts : List Lexeme} {a : Operand} → IsProduct ts a → Flat ts
    product_flat (og.atom h) = atom_flat h
    product_flat (og.times {ts} {us} h q) = flat_joined ts us (l.Mark m.Star) (λ w c bs. refl) (product_flat h) (atom_flat q)

    pub atom_flat : {ts : List Lexeme} {a : Operand} → IsAtom ts a → Flat ts
    atom_flat (og.literal h) = literal_flat h
    atom_flat (og.attribute {a = n}) = quiet_flat (l.Name n) (λ w c bs. refl)
    atom_flat (og.own {a = n}) = own_flat n
    atom_flat (og.variable {x = n}) = quiet_flat (l.Variable n) (λ w c bs. refl)
    atom_flat (og.bracketed {ts} h) = in_round ts (flat_ended ts (operand_flat h))
    atom_flat (og.size {ts} h) = behind (l.Keyword k.Size) (l.Mark m.OpenRound ∷ ts ++ l.Mark m.CloseRound ∷ []) (λ w c bs. refl) (in_round ts
        (flat_ended ts (operand_flat h)))
    atom_flat (og.free {ts} h) = behind (l.Keyword k.Free) (l.Mark m.OpenRound ∷ ts ++ l.Mark m.CloseRound ∷ []) (λ w c bs. refl) (in_round ts
        (flat_ended ts (operand_flat h)))

  -- ---- expressions: a `set(..)` may hold any number of operands, and an `@` stands behind none
  set_ended : (ts : List Lexeme) → Anywhere ts → Ended (l.Keyword k.Set ∷ l.Mark m.OpenRound ∷ ts ++ l.Mark m.CloseRound ∷ [])
  set_ended ts h c bs r =
      let e = h false 0 bs in (
        true,
        one_step (l.Keyword k.Set) (l.Mark m.OpenRound ∷ ts ++ l.Mark m.CloseRound ∷ []) false c bs r
            ∙ one_step (l.Mark m.OpenRound) (ts ++ l.Mark m.CloseRound ∷ []) true false bs r
            ∙ walk_append limited (Some (false, (false, (true, 0) ∷ bs))) ts (l.Mark m.CloseRound ∷ [])
            ∙ ap (λ (s : Option Standing). walk limited s (l.Mark m.CloseRound ∷ [])) e.2
            ∙ one_step (l.Mark m.CloseRound) [] false e.0 ((true, e.1) ∷ bs) (roomy_any e.1 bs),
      )

  pair_flat : (t : Lexeme) (ts us : List Lexeme) → IsQuiet t → Ended ts → Ended us →
      Flat (t ∷ l.Mark m.OpenRound ∷ ts ++ l.Mark m.Comma ∷ us ++ l.Mark m.CloseRound ∷ [])
  pair_flat t ts us quiet h q =
      behind t (l.Mark m.OpenRound ∷ ts ++ l.Mark m.Comma ∷ us ++ l.Mark m.CloseRound ∷ []) quiet (λ c bs r.
      let room = roomy_few 0 bs (omega arith) in
      let one = roomy_few 1 bs (omega arith) in
      let e = h false ((false, 0) ∷ bs) room in
      let f = q false ((false, 1) ∷ bs) one in
      one_step (l.Mark m.OpenRound) (ts ++ l.Mark m.Comma ∷ us ++ l.Mark m.CloseRound ∷ []) false c bs r
      ∙ walk_append limited (Some (false, (false, (false, 0) ∷ bs))) (ts ++ l.Mark m.Comma ∷ us) (l.Mark m.CloseRound ∷ [])
      ∙ ap (λ (s : Option Standing). walk limited s (l.Mark m.CloseRound ∷ []))
      (walk_append limited (Some (false, (false, (false, 0) ∷ bs))) ts (l.Mark m.Comma ∷ us)
      ∙ ap (λ (s : Option Standing). walk limited s (l.Mark m.Comma ∷ us)) e.1
      ∙ one_step (l.Mark m.Comma) us false e.0 ((false, 0) ∷ bs) room ∙ f.1)
      ∙ one_step (l.Mark m.CloseRound) [] false f.0 ((false, 1) ∷ bs) one)

  pub expr_ended : (ts : List Lexeme) (a : Expr) → IsExpr ts a → Ended ts
  expr_ended ts a (eg.operand h) = flat_ended ts (operand_flat h)
  expr_ended _ a (eg.set {ts} h) = set_ended ts (may_be_anywhere (λ us x q. flat_ended us (operand_flat q)) h)
  expr_ended _ x (eg.union {ts} {us} {a} {b} h q) =
      flat_ended (l.Keyword k.Union ∷ l.Mark m.OpenRound ∷ ts ++ l.Mark m.Comma ∷ us ++ l.Mark m.CloseRound ∷ [])
      (pair_flat (l.Keyword k.Union) ts us (λ w c bs. refl) (expr_ended ts a h) (expr_ended us b q))
  expr_ended _ x (eg.without {ts} {us} {a} {b} h q) =
      flat_ended (l.Keyword k.Without ∷ l.Mark m.OpenRound ∷ ts ++ l.Mark m.Comma ∷ us ++ l.Mark m.CloseRound ∷ [])
      (pair_flat (l.Keyword k.Without) ts us (λ w c bs. refl) (expr_ended ts a h) (expr_ended us b q))

  -- ---- predicates
  mutual
    pub pred_flat : {ts : List Lexeme} {a : Pred} → IsPred ts a → Flat ts
    pred_flat (pg.both h) = both_flat h
    pred_flat (pg.or {ts} {us} h q) = flat_joined ts us (l.Keyword k.Or) (λ w c bs. refl) (pred_flat h) (both_flat q)

    pub both_flat : {ts : List Lexeme} {a : Pred} → IsBoth ts a → Flat ts
    both_flat (pg.test h) = test_flat h
    both_flat (pg.and {ts} {us} h q) = flat_joined ts us (l.Keyword k.And) (λ w c bs. refl) (both_flat h) (test_flat q)

    pub test_flat : {ts : List Lexeme} {a : Pred} → IsTest ts a → Flat ts
    test_flat pg.always = quiet_flat (l.Keyword k.Tt) (λ w c bs. refl)
    test_flat pg.never = quiet_flat (l.Keyword k.Ff) (λ w c bs. refl)
    test_flat (pg.not {ts} h) = behind (l.Keyword k.Not) ts (λ w c bs. refl) (test_flat h)
    test_flat (pg.bracketed {ts} h) = in_square ts (flat_ended ts (pred_flat h))
    test_flat (pg.same {ts} {us} h q) = flat_joined ts us (l.Mark m.Equal) (λ w c bs. refl) (operand_flat h) (operand_flat q)
    test_flat (pg.below {ts} {us} h q) = flat_joined ts us (l.Mark m.Below) (λ w c bs. refl) (operand_flat h) (operand_flat q)
    test_flat (pg.member {ts} {us} h q) = flat_joined ts us (l.Keyword k.In) (λ w c bs. refl) (operand_flat h) (operand_flat q)

  -- ---- processes whose tuples are short
  abbrev pub Short : Process → Type 0
  Short A = limited ≡ true → HasShortTuples A

  pub repeated_flat :
      {A : Type 0} {Item : List Lexeme → A → Type 0} (Holds : A → Type 0) → ((ts : List Lexeme) (a : A) → Item ts a → Holds a → Flat ts) →
      {ts : List Lexeme} {xs : List A} → AreRepeated Item ts xs → All Holds xs → Ended ts
  repeated_flat Holds flat gl.none all c bs r = (c, refl)
  repeated_flat Holds flat (gl.more {ts} {us} {items} {a} h i) all c bs r =
      let parts = All-pop Holds (items ++ a ∷ []) items (Some a) refl all in
      flat_ended (ts ++ us) (flat_append ts us (repeated_flat Holds flat h parts.0) (flat us a i parts.1)) c bs r

  pub update_flat : (ts : List Lexeme) (u : Update) → IsUpdate ts u → Flat ts
  update_flat _ u (q.update {a} {ts} {e} h) =
      in_square (l.Name a ∷ l.Mark m.Becomes ∷ ts)
      (ended_behind (l.Name a) (l.Mark m.Becomes ∷ ts) (λ w c bs. refl) (ended_behind (l.Mark m.Becomes) ts (λ w c bs. refl) (expr_ended ts e h)))

  pub name_ended : (ts : List Lexeme) (n : Name) → IsName ts n → Ended ts
  name_ended _ n gl.name = flat_ended (l.Name n ∷ []) (quiet_flat (l.Name n) (λ w c bs. refl))

  pub variable_ended : (ts : List Lexeme) (n : Name) → IsVariable ts n → Ended ts
  variable_ended _ n gl.variable = flat_ended (l.Variable n ∷ []) (quiet_flat (l.Variable n) (λ w c bs. refl))

  -- a mark that may stand behind no `set(..)`
  pub behind_bracket : (t : Lexeme) (ts us : List Lexeme) → ((w : Bool) (bs : List Bracket) → moved t w false bs ≡ Some (false, (false, bs))) →
      Flat ts → Flat us → Flat (ts ++ t ∷ us)
  behind_bracket t ts us q h j c bs r =
      walk_append limited (Some (false, (c, bs))) ts (t ∷ us) ∙ ap (λ (s : Option Standing). walk limited s (t ∷ us)) (h c bs r)
      ∙ one_step t us false false bs r ∙ ap (λ (s : Option Standing). walk limited s us) (q false bs) ∙ j false bs r

  mutual
    pub process_flat : {ts : List Lexeme} {A : Process} → IsProcess ts A → Short A → Flat ts
    process_flat (q.choice h) s = choice_flat h s
    process_flat (q.par {ts} {us} h i) s = flat_joined ts us (l.Mark m.Bar) (λ w c bs. refl) (process_flat h (λ e. (s e).0)) (choice_flat i (λ e.
        (s e).1))

    pub choice_flat : {ts : List Lexeme} {A : Process} → IsChoice ts A → Short A → Flat ts
    choice_flat (q.prefix h) s = prefix_flat h s
    choice_flat (q.plus {ts} {us} h i) s = flat_joined ts us (l.Mark m.Plus) (λ w c bs. refl) (choice_flat h (λ e. (s e).0)) (prefix_flat i (λ e.
        (s e).1))

    pub prefix_flat : {ts : List Lexeme} {A : Process} → IsPrefix ts A → Short A → Flat ts
    prefix_flat q.nil s = quiet_flat (l.Number 0) (λ w c bs. refl)
    prefix_flat (q.call {c = n}) s = quiet_flat (l.Name n) (λ w c bs. refl)
    prefix_flat (q.braced {ts} h) s = in_curly ts (flat_ended ts (process_flat h s))
    prefix_flat (q.when {ts} {us} h i) s =
        behind (l.Keyword k.When) (l.Mark m.OpenRound ∷ ts ++ l.Mark m.CloseRound ∷ us) (λ w c bs. refl)
        (close_round ts us (flat_append (l.Mark m.OpenRound ∷ ts ++ l.Mark m.CloseRound ∷ []) us (flat_ended
        (l.Mark m.OpenRound ∷ ts ++ l.Mark m.CloseRound ∷ []) (in_round ts (flat_ended ts (pred_flat h)))) (prefix_flat i s)))
    prefix_flat (q.output {ts} {us} {vs} h i j) s =
        subst Flat (sym (append_assoc (l.Mark m.OpenRound ∷ ts) (l.Mark m.CloseRound ∷ l.Mark m.At ∷ l.Mark m.OpenRound ∷ us)
        (l.Mark m.CloseRound ∷ l.Mark m.Dot ∷ vs)))
        (close_round ts (l.Mark m.At ∷ l.Mark m.OpenRound ∷ us ++ l.Mark m.CloseRound ∷ l.Mark m.Dot ∷ vs)
        (behind_bracket (l.Mark m.At) (l.Mark m.OpenRound ∷ ts ++ l.Mark m.CloseRound ∷ [])
        (l.Mark m.OpenRound ∷ us ++ l.Mark m.CloseRound ∷ l.Mark m.Dot ∷ vs) (λ w bs. refl)
        (tuple_flat expr_ended h (λ e. (s e).0))
        (close_round us (l.Mark m.Dot ∷ vs)
        (behind_bracket (l.Mark m.Dot) (l.Mark m.OpenRound ∷ us ++ l.Mark m.CloseRound ∷ []) vs (λ w bs. refl) (in_round us (flat_ended us
        (pred_flat i))) (after_flat j (λ e. (s e).1))))))
    prefix_flat (q.input {ts} {us} {vs} h i j) s =
        subst Flat
        (sym (append_assoc (l.Mark m.Question ∷ l.Mark m.OpenRound ∷ ts) (l.Mark m.CloseRound ∷ l.Mark m.OpenRound ∷ us)
        (l.Mark m.CloseRound ∷ l.Mark m.Dot ∷ vs)))
        (behind (l.Mark m.Question) (l.Mark m.OpenRound ∷ ts ++ (l.Mark m.CloseRound ∷ l.Mark m.OpenRound ∷ us ++ l.Mark m.CloseRound ∷ l.Mark
        m.Dot ∷ vs)) (λ w c bs. refl)
        (close_round ts (l.Mark m.OpenRound ∷ us ++ l.Mark m.CloseRound ∷ l.Mark m.Dot ∷ vs)
        (flat_append (l.Mark m.OpenRound ∷ ts ++ l.Mark m.CloseRound ∷ []) (l.Mark m.OpenRound ∷ us ++ l.Mark m.CloseRound ∷ l.Mark m.Dot ∷ vs)
        (flat_ended (l.Mark m.OpenRound ∷ ts ++ l.Mark m.CloseRound ∷ []) (in_round ts (flat_ended ts (pred_flat h))))
        (close_round us (l.Mark m.Dot ∷ vs)
        (behind_bracket (l.Mark m.Dot) (l.Mark m.OpenRound ∷ us ++ l.Mark m.CloseRound ∷ []) vs (λ w bs. refl) (tuple_flat variable_ended i (λ e.
        (s e).0)) (after_flat j (λ e. (s e).1)))))))

    pub after_flat : {ts : List Lexeme} {us : List Update} {A : Process} → IsAfter ts us A → Short A → Flat ts
    after_flat (q.after {ts} {us} {updates} h i) s = flat_append ts us (repeated_flat (Any {A = Update}) (λ vs u j a. update_flat vs u j) h
        (all_any updates)) (prefix_flat i s)

  -- ---- programs whose tuples are short
  -- a token that is quiet ends it
  ended_by : (ts : List Lexeme) (t : Lexeme) → IsQuiet t → Ended ts → Flat (ts ++ t ∷ [])
  ended_by ts t q h = flat_append ts (t ∷ []) h (quiet_flat t q)

  shape :
      (ts us vs : List Lexeme) →
      l.Mark m.OpenCurly ∷ (ts ++ (l.Keyword k.Show ∷ us ++ (l.Mark m.Semicolon ∷ l.Keyword k.Run ∷ vs ++ l.Mark m.Semicolon ∷ []))) ++ l.Mark
      m.CloseCurly ∷ []
      ≡ l.Mark m.OpenCurly ∷ ts ++ l.Keyword k.Show ∷ us ++ l.Mark m.Semicolon ∷ l.Keyword k.Run ∷ vs ++ l.Mark m.Semicolon ∷ l.Mark m.CloseCurly ∷ []
  shape ts us vs = regrouped (l.Mark m.OpenCurly ∷ ts) (l.Keyword k.Show ∷ us) (l.Mark m.Semicolon ∷ l.Keyword k.Run ∷ vs)
      (l.Mark m.Semicolon ∷ []) (l.Mark m.CloseCurly ∷ [])

  pub definition_flat : (ts : List Lexeme) (d : Name × Process) → IsDefinition ts d → Short d.1 → Flat ts
  definition_flat _ d (g.definition {c} {ts} {A} h) s =
      behind (l.Keyword k.Def) (l.Name c ∷ l.Mark m.Equal ∷ ts ++ l.Mark m.Semicolon ∷ []) (λ w b bs. refl)
      (behind (l.Name c) (l.Mark m.Equal ∷ ts ++ l.Mark m.Semicolon ∷ []) (λ w b bs. refl)
      (behind (l.Mark m.Equal) (ts ++ l.Mark m.Semicolon ∷ []) (λ w b bs. refl) (ended_by ts (l.Mark m.Semicolon) (λ w b bs. refl) (flat_ended ts
      (process_flat h s)))))

  pub initial_flat : (ts : List Lexeme) (x : Name × Value) → IsInitial ts x → Flat ts
  initial_flat _ x (g.initial {a} {ts} h) =
      behind (l.Name a) (l.Mark m.Equal ∷ ts ++ l.Mark m.Semicolon ∷ []) (λ w b bs. refl)
      (behind (l.Mark m.Equal) (ts ++ l.Mark m.Semicolon ∷ []) (λ w b bs. refl) (ended_by ts (l.Mark m.Semicolon) (λ w b bs. refl) (flat_ended ts
      (literal_flat h))))

  pub run_flat : (vs : List Lexeme) (A : Process) → IsProcess vs A → Short A →
      Flat (l.Mark m.Semicolon ∷ l.Keyword k.Run ∷ vs ++ l.Mark m.Semicolon ∷ [])
  run_flat vs A h s =
      behind (l.Mark m.Semicolon) (l.Keyword k.Run ∷ vs ++ l.Mark m.Semicolon ∷ []) (λ w b bs. refl)
      (behind (l.Keyword k.Run) (vs ++ l.Mark m.Semicolon ∷ []) (λ w b bs. refl) (ended_by vs (l.Mark m.Semicolon) (λ w b bs. refl) (flat_ended vs
      (process_flat h s))))

  -- what stands between the braces of a component
  body_walk :
      (ts us vs : List Lexeme) (first : List (Name × Value)) (shown : List Name) (A : Process) →
      AreRepeated IsInitial ts first → MayBeListed IsName us shown → IsProcess vs A → Short A →
      Anywhere (ts ++ (l.Keyword k.Show ∷ us ++ (l.Mark m.Semicolon ∷ l.Keyword k.Run ∷ vs ++ l.Mark m.Semicolon ∷ [])))
  body_walk ts us vs first shown A h i j s c n bs =
      let rest = l.Mark m.Semicolon ∷ l.Keyword k.Run ∷ vs ++ l.Mark m.Semicolon ∷ [] in
      let e = repeated_flat (Any {A = Name × Value}) (λ ws x q a. initial_flat ws x q) h (all_any first) c ((true, n) ∷ bs) (roomy_any n bs) in
      let f = may_be_anywhere name_ended i false n bs in
      let all = walk_append limited (Some (false, (c, (true, n) ∷ bs))) ts (l.Keyword k.Show ∷ us ++ rest) in (
        false,
        f.1,
        all ∙ ap (λ (s : Option Standing). walk limited s (l.Keyword k.Show ∷ us ++ rest)) e.1
            ∙ one_step (l.Keyword k.Show) (us ++ rest) false e.0 ((true, n) ∷ bs) (roomy_any n bs)
            ∙ walk_append limited (Some (false, (false, (true, n) ∷ bs))) us rest ∙ ap (λ (s : Option Standing). walk limited s rest) f.2
            ∙ run_flat vs A j s f.0 ((true, f.1) ∷ bs) (roomy_any f.1 bs),
      )

  pub component_flat : (ts : List Lexeme) (C : PlainComponent) → IsComponent ts C → Short C.run → Flat ts
  component_flat _ C (g.component {c} {ts} {us} {vs} {first} {shown} {A} h i j) s =
      behind (l.Keyword k.Comp)
      (l.Name c ∷ l.Mark m.OpenCurly ∷ ts ++ l.Keyword k.Show ∷ us ++ l.Mark m.Semicolon ∷ l.Keyword k.Run ∷ vs ++ l.Mark m.Semicolon ∷ l.Mark
      m.CloseCurly ∷ []) (λ w b bs. refl)
      (behind (l.Name c) (l.Mark m.OpenCurly ∷ ts ++ l.Keyword k.Show ∷ us ++ l.Mark m.Semicolon ∷ l.Keyword k.Run ∷ vs ++ l.Mark m.Semicolon ∷
      l.Mark m.CloseCurly ∷ []) (λ w b bs. refl)
      (subst Flat (shape ts us vs) (curly_list (ts ++ (l.Keyword k.Show ∷ us ++ (l.Mark m.Semicolon ∷ l.Keyword k.Run ∷ vs ++ l.Mark m.Semicolon ∷
      []))) (body_walk ts us vs first shown A h i j s))))

  pub program_flat : (ts : List Lexeme) (p : PlainProgram) → IsProgram ts p → (limited ≡ true → AreShort p) → Ended ts
  program_flat _ p (g.headed_1 {ts} {us} {definitions} {components} h i) s =
      let ds = repeated_flat (λ (d : Name × Process). Short d.1) definition_flat h (λ j d lt e. (s e).definitions j d lt) in
      let cs = repeated_flat (λ (C : PlainComponent). Short C.run) component_flat i (λ j d lt e. (s e).components j d lt) in
      ended_behind (l.Keyword k.Abc) (l.Number 1 ∷ l.Mark m.Semicolon ∷ ts ++ us) (λ w b bs. refl)
      (ended_behind (l.Number 1) (l.Mark m.Semicolon ∷ ts ++ us) (λ w b bs. refl)
      (ended_behind (l.Mark m.Semicolon) (ts ++ us) (λ w b bs. refl) (ended_append ts us ds cs)))
