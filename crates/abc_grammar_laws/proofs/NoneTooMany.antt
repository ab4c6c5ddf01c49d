-- No token begins a part too many where no token stands in a crowded bracket, as in a text whose tuples are short.
use Rattle.std.proofs.Common.{◌≡◌, inl, inr, ℕ, suc, ◌-◌, zero, ◌<◌, Bool, true, false, List, [], ◌∷◌, ◌++◌, length, take, drop, set, get_or, Option, Some, None, refl, sym, ap, ◌∙◌, subst, append_assoc, arith, if◌then◌else◌, ◌≤◌}
use Rattle.std.proofs.lemmas.List.{length-take, set_split, set-get_or, get_or_default}
use Rattle.abc_grammar.specs.declared.lexemes.Lexeme.{Lexeme}
use Rattle.abc_grammar.specs.declared.lexemes.Lexeme.TheVariants as l
use Rattle.abc_text.specs.declared.words.Mark.TheVariants as m
use Rattle.abc_grammar.specs.declared.limits.TheConstants.{MOST_PARTS}
use Rattle.abc_grammar.specs.Listed.{AreListed, IsVariable}
use Rattle.abc_grammar.specs.Exprs.{IsExpr}
use Rattle.abc_grammar.specs.Plain.{PlainProgram}
use Rattle.abc_grammar.specs.Programs.{IsProgram}
use Rattle.abc_grammar_laws.specs.Short.{NoneTooMany}
use Rattle.abc_grammar_laws.specs.Crowding.{Bracket, Standing, is_crowded, moved, step, walk, at_start, BeginsExtraPart, IsUncrowded}
use Rattle.abc_grammar_laws.proofs.Walks.{walk_append, roomy_none, one_step, Ended, listed_within, listed_anywhere, expr_ended, variable_ended, program_flat}

-- ---- walks of one text
-- what a limited walk passes, the other passes too
pub unlimited : (s : Option Standing) (ts : List Lexeme) (r : Standing) → walk true s ts ≡ Some r → walk false s ts ≡ Some r
unlimited None ts r h = h
unlimited (Some s) [] r h = h
unlimited (Some (w, (c, bs))) (t ∷ ts) r h = by (is_crowded bs) refl (unlimited (moved t w c bs) ts r)
  where
    by : (b : Bool) → is_crowded bs ≡ b → (walk true (moved t w c bs) ts ≡ Some r → walk false (moved t w c bs) ts ≡ Some r) →
        walk false (moved t w c bs) ts ≡ Some r
    by true e next = absurd (let k : None ≡ Some r = sym (ap (λ (b : Bool). walk true (if b then None else moved t w c bs) ts) e) ∙ h in cc)
    by false e next = next (sym (ap (λ (b : Bool). walk true (if b then None else moved t w c bs) ts) e) ∙ h)

-- where the whole is passed, so is its front
pub passed_front : (limited : Bool) (s : Option Standing) (ts us : List Lexeme) (r : Standing) → walk limited s (ts ++ us) ≡ Some r →
    (m : Standing) × (walk limited s ts ≡ Some m) × (walk limited (Some m) us ≡ Some r)
passed_front limited None ts us r h = absurd (let k : None ≡ Some r = h in cc)
passed_front limited (Some s) [] us r h = (s, refl, h)
passed_front limited (Some s) (t ∷ ts) us r h = passed_front limited (step limited s t) ts us r h

-- A bracket that holds as many items and a comma, and that no `set` stands before, has no further token.
module _ {A : Type 0} (Item : List Lexeme → A → Type 0) (ended : (limited : Bool) (ts : List Lexeme) (a : A) → Item ts a → Ended limited ts) where
  crowded :
      (parts more : List Lexeme) (items : List A) (t : Lexeme) (bs : List Bracket) → AreListed Item parts items → length items ≡ MOST_PARTS →
      walk true (Some (false, (false, (false, 0) ∷ bs))) (parts ++ l.Mark m.Comma ∷ t ∷ more) ≡ None
  crowded parts more items t bs h full =
      let e = listed_within true (ended true) h (λ _. omega (arith, full)) false bs in
      let seven : (length items - 1) ≡ 7 = omega (arith, full) in
      walk_append true (Some (false, (false, (false, 0) ∷ bs))) parts (l.Mark m.Comma ∷ t ∷ more)
      ∙ ap (λ (s : Option Standing). walk true s (l.Mark m.Comma ∷ t ∷ more)) (e.1 ∙ ap (λ (n : ℕ). Some (false, (e.0, (false, n) ∷ bs))) seven)

  -- what closes such an output's or input's bracket stands behind no `set(..)`
  any_behind_set :
      (t : Lexeme) → ((w : Bool) (bs : List Bracket) → moved t w true bs ≡ None) →
      (parts more : List Lexeme) (items : List A) (w c : Bool) (bs : List Bracket) (r : Standing) → AreListed Item parts items →
      walk false (Some (w, (c, bs))) (l.Mark m.OpenRound ∷ parts ++ l.Mark m.CloseRound ∷ t ∷ more) ≡ Some r → w ≡ false
  any_behind_set t never parts more items false c bs r h j = refl
  any_behind_set t never parts more items true c bs r h j =
      let e = listed_anywhere false (ended false) h false 0 bs in
      let to : walk false (Some (false, (false, (true, 0) ∷ bs))) (parts ++ l.Mark m.CloseRound ∷ t ∷ more) ≡ walk false
      (moved t false true bs) more =
      walk_append false (Some (false, (false, (true, 0) ∷ bs))) parts (l.Mark m.CloseRound ∷ t ∷ more)
      ∙ ap (λ (s : Option Standing). walk false s (l.Mark m.CloseRound ∷ t ∷ more)) e.2 in
      absurd (let k : None ≡ Some r = sym (to ∙ ap (λ (s : Option Standing). walk false s more) (never false bs)) ∙ j in cc)

  -- so none stands where no token stands in a crowded bracket
  pub none_too_many :
      (t : Lexeme) → ((w : Bool) (bs : List Bracket) → moved t w true bs ≡ None) →
      (before parts rest more : List Lexeme) (items : List A) (next : Lexeme) (r : Standing) (q : PlainProgram) → AreListed Item parts items →
      length items ≡ MOST_PARTS →
      IsProgram (before ++ (l.Mark m.OpenRound ∷ parts ++ l.Mark m.CloseRound ∷ t ∷ rest)) q →
      ¬ (walk true (Some at_start) (before ++ (l.Mark m.OpenRound ∷ parts ++ l.Mark m.Comma ∷ next ∷ more)) ≡ Some r)
  none_too_many t never before parts rest more items next r q h full other passed =
      let start = Some at_start in
      let list = l.Mark m.OpenRound ∷ parts ++ l.Mark m.Comma ∷ next ∷ more in
      let closed = l.Mark m.OpenRound ∷ parts ++ l.Mark m.CloseRound ∷ t ∷ rest in
      let b = program_flat false _ q other (λ e. absurd (let k : false ≡ true = e in cc)) false [] (roomy_none false) in
      let front = passed_front true start before list r passed in
      let same = unlimited start before front.0 front.1 in
      let back = walk_append false start before closed ∙ ap (λ (s : Option Standing). walk false s closed) same in
      let no_set = any_behind_set t never parts rest items front.0.0 front.0.1.0 front.0.1.1 (false, (b.0, [])) h (sym back ∙ b.1) in
      cannot front.0 r no_set front.2
    where
      cannot : (s r : Standing) → s.0 ≡ false → ¬ (walk true (Some s) (l.Mark m.OpenRound ∷ parts ++ l.Mark m.Comma ∷ next ∷ more) ≡ Some r)
      cannot (w, (c, bs)) r e j = by (is_crowded bs) refl
        where
          by : (b : Bool) → ¬ (is_crowded bs ≡ b)
          by true f = let k : None ≡ Some r = sym (ap (λ (b : Bool). walk true (if b then None else Some (false, (false, (w, 0) ∷ bs)))
              (parts ++ l.Mark m.Comma ∷ next ∷ more)) f) ∙ j in cc
          by false f =
              let k : None ≡ Some r =
              sym (crowded parts more items next bs h full) ∙ sym (ap (λ (v : Bool). walk true (Some (false, (false, (v, 0) ∷ bs)))
              (parts ++ l.Mark m.Comma ∷ next ∷ more)) e)
              ∙ sym (one_step true (l.Mark m.OpenRound) (parts ++ l.Mark m.Comma ∷ next ∷ more) w c bs f) ∙ j in
              cc

-- the tokens around number k
pub around : (ts : List Lexeme) (k : ℕ) (x : Lexeme) → k < length ts → take k ts ++ get_or ts k x ∷ drop (suc k) ts ≡ ts
around ts k x lt = sym (set_split ts k (get_or ts k x) lt) ∙ ap (set ts k) (get_or_default ts k x (get_or ts k x) lt)
    ∙ set-get_or ts k (get_or ts k x)

-- the same list, cut before its last bracket
cut_before : (before parts : List Lexeme) (end : Lexeme) (t : Lexeme) (rest : List Lexeme) →
    (before ++ l.Mark m.OpenRound ∷ parts ++ end ∷ t ∷ []) ++ rest ≡ before ++ (l.Mark m.OpenRound ∷ parts ++ end ∷ t ∷ rest)
cut_before before parts end t rest =
    append_assoc (before ++ l.Mark m.OpenRound ∷ parts) (end ∷ t ∷ []) rest ∙ append_assoc before (l.Mark m.OpenRound ∷ parts) (end ∷ t ∷ rest)

cut_behind : (before parts : List Lexeme) (end : Lexeme) (t : Lexeme) (rest : List Lexeme) →
    (before ++ l.Mark m.OpenRound ∷ parts ++ end ∷ []) ++ t ∷ rest ≡ before ++ (l.Mark m.OpenRound ∷ parts ++ end ∷ t ∷ rest)
cut_behind before parts end t rest =
    append_assoc (before ++ l.Mark m.OpenRound ∷ parts) (end ∷ []) (t ∷ rest) ∙ append_assoc before (l.Mark m.OpenRound ∷ parts) (end ∷ t ∷ rest)

-- the tokens from where a part too many would stand
from_there :
    (ts : List Lexeme) (k : ℕ) (before parts : List Lexeme) (x : Lexeme) → k < length ts →
    take k ts ≡ before ++ l.Mark m.OpenRound ∷ parts ++ l.Mark m.Comma ∷ [] →
    ts ≡ before ++ (l.Mark m.OpenRound ∷ parts ++ l.Mark m.Comma ∷ get_or ts k x ∷ drop (suc k) ts)
from_there ts k before parts x lt stands =
    sym (around ts k x lt) ∙ ap (λ (us : List Lexeme). us ++ get_or ts k x ∷ drop (suc k) ts) stands
    ∙ cut_behind before parts (l.Mark m.Comma) (get_or ts k x) (drop (suc k) ts)

closed_there :
    (before parts : List Lexeme) (t : Lexeme) (rest : List Lexeme) (p : PlainProgram) →
    IsProgram ((before ++ l.Mark m.OpenRound ∷ parts ++ l.Mark m.CloseRound ∷ t ∷ []) ++ rest) p →
    IsProgram (before ++ (l.Mark m.OpenRound ∷ parts ++ l.Mark m.CloseRound ∷ t ∷ rest)) p
closed_there before parts t rest p h = subst (λ us. IsProgram us p) (cut_before before parts (l.Mark m.CloseRound) t rest) h

-- where all tokens are passed, none begins a part too many
none_passed : (us : List Lexeme) (r : Standing) → walk true (Some at_start) us ≡ Some r → (k : ℕ) → ¬ BeginsExtraPart us k
none_passed us r passed k (inl e) =
    let x = l.Number 0 in
    none_too_many IsExpr expr_ended (l.Mark m.At) (λ w bs. refl) e.before e.parts e.output.0 (drop (suc k) us) e.exprs (get_or us k x) r e.output.1.0
    e.listed e.full (closed_there e.before e.parts (l.Mark m.At) e.output.0 e.output.1.0 e.output.1.1)
    (ap (walk true (Some at_start)) (sym (from_there us k e.before e.parts x e.exists e.stands)) ∙ passed)
none_passed us r passed k (inr e) =
    let x = l.Number 0 in
    none_too_many IsVariable variable_ended (l.Mark m.Dot) (λ w bs. refl) e.before e.parts e.input.0 (drop (suc k) us) e.variables (get_or us k x) r
    e.input.1.0 e.listed e.full (closed_there e.before e.parts (l.Mark m.Dot) e.input.0 e.input.1.0 e.input.1.1)
    (ap (walk true (Some at_start)) (sym (from_there us k e.before e.parts x e.exists e.stands)) ∙ passed)

pub short_tuples : NoneTooMany
short_tuples ts p h short k extra =
    let a = program_flat true ts p h (λ t. short) false [] (roomy_none true) in none_passed ts (false, (a.0, [])) a.1 k extra

-- ---- the tokens before number k decide whether it begins a part too many
pub other_end : (ts us : List Lexeme) (k : ℕ) → k < length us → take k ts ≡ take k us → BeginsExtraPart ts k → BeginsExtraPart us k
other_end ts us k lt e (inl h) =
    inl (record {
      exists = lt;
      before = h.before;
      parts = h.parts;
      exprs = h.exprs;
      listed = h.listed;
      full = h.full;
      stands = sym e
          ∙ h.stands;
      output = h.output;
    })
other_end ts us k lt e (inr h) =
    inr (record {
      exists = lt;
      before = h.before;
      parts = h.parts;
      variables = h.variables;
      listed = h.listed;
      full = h.full;
      stands = sym e
          ∙ h.stands;
      input = h.input;
    })

pub take_take : (ts : List Lexeme) (n k : ℕ) → k ≤ n → take k (take n ts) ≡ take k ts
take_take ts n zero le = refl
take_take [] (suc n) (suc k) le = refl
take_take [] zero (suc k) le = absurd (omega arith)
take_take (t ∷ ts) zero (suc k) le = absurd (omega arith)
take_take (t ∷ ts) (suc n) (suc k) le = ap (λ (us : List Lexeme). t ∷ us) (take_take ts n k (omega arith))

pub none_before : (ts : List Lexeme) (n : ℕ) → IsUncrowded ts n → (k : ℕ) → k < n → ¬ BeginsExtraPart ts k
none_before ts n passed k lt extra = by extra
  where
    there : k < length ts → k < length (take n ts)
    there le = let e = length-take n ts in omega (arith, e, le, lt)

    by : ¬ BeginsExtraPart ts k
    by (inl h) = none_passed (take n ts) passed.0 passed.1 k (other_end ts (take n ts) k (there h.exists) (sym (take_take ts n k (omega arith)))
        (inl h))
    by (inr h) = none_passed (take n ts) passed.0 passed.1 k (other_end ts (take n ts) k (there h.exists) (sym (take_take ts n k (omega arith)))
        (inr h))
