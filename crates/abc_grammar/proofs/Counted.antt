-- The size of a predicate counts each literal as one.
use Rattle.std.proofs.Common.{◌≡◌, ℕ, ◌+◌, true, List, [], ◌∷◌, ◌++◌, refl, ap, ◌∙◌, subst, append_assoc, arith}
use Rattle.std.specs.Prelude.{fold, if◌then◌else◌}
use Rattle.abc_value.specs.declared.scalar.Scalar.{Scalar}
use Rattle.abc_value.specs.declared.value.Value.{Value}
use Rattle.abc_pred.specs.Terms.{Operand, Pred}
use Rattle.abc_grammar.specs.declared.lexemes.Lexeme.{Lexeme}
use Rattle.abc_grammar.specs.declared.lexemes.Lexeme.TheVariants as l
use Rattle.abc_text.specs.declared.words.Mark.TheVariants as m
use Rattle.abc_text.specs.declared.words.Keyword.TheVariants as k
use Rattle.abc_grammar.specs.Listed.{AreListed, MayBeListed}
use Rattle.abc_grammar.specs.Listed as listed
use Rattle.abc_grammar.specs.Literals.{IsScalar, IsLiteral}
use Rattle.abc_grammar.specs.Literals as lit
use Rattle.abc_grammar.specs.Operands.{IsOperand, IsProduct, IsAtom}
use Rattle.abc_grammar.specs.Operands as o
use Rattle.abc_grammar.specs.Preds.{IsPred, IsBoth, IsTest}
use Rattle.abc_grammar.specs.Preds as p
use Rattle.abc_grammar.specs.Sizes.{Spot, Free, Behind, Within, spot_behind, counts, size_from, size_of}
use Rattle.abc_grammar.specs.SizeLaws.{operand_size, product_size, atom_size, pred_size, both_size, test_size}

-- these tokens, from a spot on, have this size and lead to that spot
pub record Leads (from : Spot) (ts : List Lexeme) (size : ℕ) (to : Spot) : Type 0 where
  pub counted : size_from from ts ≡ size
  pub ends : fold spot_behind from ts ≡ to

size-append : (ts us : List Lexeme) (from : Spot) → size_from from (ts ++ us) ≡ size_from from ts + size_from (fold spot_behind from ts) us
size-append [] us from = omega arith
size-append (t ∷ ts) us from = let more = size-append ts us (spot_behind from t) in omega (arith, more)

fold-append : (ts us : List Lexeme) (from : Spot) → fold spot_behind from (ts ++ us) ≡ fold spot_behind (fold spot_behind from ts) us
fold-append [] us from = refl
fold-append (t ∷ ts) us from = fold-append ts us (spot_behind from t)

join : (from mid to : Spot) (ts us : List Lexeme) (m n : ℕ) → Leads from ts m mid → Leads mid us n to → Leads from (ts ++ us) (m + n) to
join from mid to ts us m n h k = record {
  counted = size-append ts us from ∙ ap (λ s. size_from from ts + size_from s us) h.ends ∙ (let a = h.counted in let b = k.counted in omega (arith, a, b));
  ends = fold-append ts us from ∙ ap (λ s. fold spot_behind s us) h.ends ∙ k.ends;
}

resize : (from to : Spot) (ts : List Lexeme) (m n : ℕ) → m ≡ n → Leads from ts m to → Leads from ts n to
resize from to ts m n e h = record { counted = h.counted ∙ e; ends = h.ends }

-- ---- within a set literal nothing counts
-- a list none of whose tokens closes a set
inner : (ts : List Lexeme) → Type 0
inner ts = Leads Within ts 0 Within

scalar_inner : (ts : List Lexeme) (x : Scalar) → IsScalar ts x → inner ts
unfolding inner
scalar_inner _ _ (lit.number h) = record { counted = refl; ends = refl }
scalar_inner _ _ (lit.negative h) = record { counted = refl; ends = refl }
scalar_inner _ _ lit.text = record { counted = refl; ends = refl }
scalar_inner _ _ lit.yes = record { counted = refl; ends = refl }
scalar_inner _ _ lit.no = record { counted = refl; ends = refl }

comma_inner : inner (l.Mark m.Comma ∷ [])
unfolding inner
comma_inner = record { counted = refl; ends = refl }

scalars_inner : {ts : List Lexeme} {xs : List Scalar} → AreListed IsScalar ts xs → inner ts
unfolding inner
scalars_inner (listed.one {ts} {a = x} h) = scalar_inner ts x h
scalars_inner (listed.more {ts} {us} {a = x} before h) =
    join Within Within Within ts (l.Mark m.Comma ∷ us) 0 0 (scalars_inner before) (join Within Within Within (l.Mark m.Comma ∷ []) us 0 0 comma_inner (scalar_inner us x h))

set_inner : {ts : List Lexeme} {xs : List Scalar} → MayBeListed IsScalar ts xs → inner ts
unfolding inner
set_inner listed.none = record { counted = refl; ends = refl }
set_inner (listed.some h) = scalars_inner h

-- ---- operands begin where a - is a sign
scalar_one : (ts : List Lexeme) (x : Scalar) → IsScalar ts x → Leads Free ts 1 Behind
scalar_one _ _ (lit.number h) = record { counted = refl; ends = refl }
scalar_one _ _ (lit.negative h) = record { counted = refl; ends = refl }
scalar_one _ _ lit.text = record { counted = refl; ends = refl }
scalar_one _ _ lit.yes = record { counted = refl; ends = refl }
scalar_one _ _ lit.no = record { counted = refl; ends = refl }

open_curly : Leads Free (l.Mark m.OpenCurly ∷ []) 1 Within
open_curly = record { counted = refl; ends = refl }

close_curly : Leads Within (l.Mark m.CloseCurly ∷ []) 0 Behind
close_curly = record { counted = refl; ends = refl }

literal_one : {ts : List Lexeme} {x : Value} → IsLiteral ts x → Leads Free ts 1 Behind
unfolding inner
literal_one (lit.scalar {ts} {x} h) = scalar_one ts x h
literal_one lit.nothing = record { counted = refl; ends = refl }
literal_one (lit.set {ts} h) =
    join Free Within Behind (l.Mark m.OpenCurly ∷ []) (ts ++ l.Mark m.CloseCurly ∷ []) 1 0 open_curly
    (join Within Within Behind ts (l.Mark m.CloseCurly ∷ []) 0 0 (set_inner h) close_curly)

-- a token that counts, from any spot that it leads from
between : (from to : Spot) (t : Lexeme) → counts from t ≡ true → spot_behind from t ≡ to → Leads from (t ∷ []) 1 to
between from to t c e = record { counted = ap (λ b. (if b then 1 else 0) + 0) c; ends = e }

-- an operand behind some tokens, in a bracket that closes
round_leads :
    (first ts : List Lexeme) (i j : ℕ) → Leads Free first i Free → Leads Free ts j Behind →
    Leads Free (first ++ (ts ++ l.Mark m.CloseRound ∷ [])) (i + j + 1) Behind
round_leads first ts i j h g =
    resize Free Behind (first ++ (ts ++ l.Mark m.CloseRound ∷ [])) (i + (j + 1)) (i + j + 1) (omega arith)
    (join Free Free Behind first (ts ++ l.Mark m.CloseRound ∷ []) i (j + 1) h
    (join Free Behind Behind ts (l.Mark m.CloseRound ∷ []) j 1 g (between Behind Behind (l.Mark m.CloseRound) refl refl)))

mutual
  operand_leads : {ts : List Lexeme} {a : Operand} → (h : IsOperand ts a) → Leads Free ts (operand_size h) Behind
  operand_leads (o.product h) = product_leads h
  operand_leads (o.plus {ts} {us} h i) =
      resize Free Behind (ts ++ l.Mark m.Plus ∷ us) _ _ (omega arith)
      (join Free Behind Behind ts (l.Mark m.Plus ∷ us) _ _ (operand_leads h) (join Behind Free Behind (l.Mark m.Plus ∷ []) us 1 _ (between Behind Free (l.Mark m.Plus) refl refl) (product_leads i)))
  operand_leads (o.minus {ts} {us} h i) =
      resize Free Behind (ts ++ l.Mark m.Minus ∷ us) _ _ (omega arith)
      (join Free Behind Behind ts (l.Mark m.Minus ∷ us) _ _ (operand_leads h) (join Behind Free Behind (l.Mark m.Minus ∷ []) us 1 _ (between Behind Free (l.Mark m.Minus) refl refl) (product_leads i)))

  product_leads : {ts : List Lexeme} {a : Operand} → (h : IsProduct ts a) → Leads Free ts (product_size h) Behind
  product_leads (o.atom h) = atom_leads h
  product_leads (o.times {ts} {us} h i) =
      resize Free Behind (ts ++ l.Mark m.Star ∷ us) _ _ (omega arith)
      (join Free Behind Behind ts (l.Mark m.Star ∷ us) _ _ (product_leads h) (join Behind Free Behind (l.Mark m.Star ∷ []) us 1 _ (between Behind Free (l.Mark m.Star) refl refl) (atom_leads i)))

  atom_leads : {ts : List Lexeme} {a : Operand} → (h : IsAtom ts a) → Leads Free ts (atom_size h) Behind
  atom_leads (o.literal h) = literal_one h
  atom_leads o.attribute = record { counted = refl; ends = refl }
  atom_leads o.own = record { counted = refl; ends = refl }
  atom_leads o.variable = record { counted = refl; ends = refl }
  atom_leads (o.bracketed {ts} h) = round_leads (l.Mark m.OpenRound ∷ []) ts 1 _ (record { counted = refl; ends = refl }) (operand_leads h)
  atom_leads (o.size {ts} h) = round_leads (l.Keyword k.Size ∷ l.Mark m.OpenRound ∷ []) ts 2 _ (record { counted = refl; ends = refl }) (operand_leads h)
  atom_leads (o.free {ts} h) = round_leads (l.Keyword k.Free ∷ l.Mark m.OpenRound ∷ []) ts 2 _ (record { counted = refl; ends = refl }) (operand_leads h)

-- ---- predicates end where an operand may have ended, or not
pub data EndsAt (ts : List Lexeme) (size : ℕ) : Type 0 where
  At : Leads Free ts size Free → EndsAt ts size
  AtOperand : Leads Free ts size Behind → EndsAt ts size

-- a token that leads from both to where a - is a sign
pub record Parts (t : Lexeme) : Type 0 where
  pub at_free : spot_behind Free t ≡ Free
  pub at_behind : spot_behind Behind t ≡ Free

behind_pred : (ts : List Lexeme) (n : ℕ) (t : Lexeme) → Parts t → EndsAt ts n → Leads Free (ts ++ t ∷ []) (n + 1) Free
behind_pred ts n t h (At k) = join Free Free Free ts (t ∷ []) n 1 k (between Free Free t refl h.at_free)
behind_pred ts n t h (AtOperand k) = join Free Behind Free ts (t ∷ []) n 1 k (between Behind Free t refl h.at_behind)

further : (from : List Lexeme) (us : List Lexeme) (m n : ℕ) → Leads Free from m Free → EndsAt us n → EndsAt (from ++ us) (m + n)
further from us m n h (At k) = At (join Free Free Free from us m n h k)
further from us m n h (AtOperand k) = AtOperand (join Free Free Behind from us m n h k)

-- two parts and a token between them
parted : (ts us : List Lexeme) (m n : ℕ) (t : Lexeme) → Parts t → EndsAt ts m → EndsAt us n → EndsAt (ts ++ t ∷ us) (m + 1 + n)
parted ts us m n t h i j = subst (λ vs. EndsAt vs (m + 1 + n)) (append_assoc ts (t ∷ []) us) (further (ts ++ t ∷ []) us (m + 1) n (behind_pred ts m t h i) j)

parts : (t : Lexeme) → spot_behind Free t ≡ Free → spot_behind Behind t ≡ Free → Parts t
parts t h k = record { at_free = h; at_behind = k }

mutual
  pred_ends : {ts : List Lexeme} {a : Pred} → (h : IsPred ts a) → EndsAt ts (pred_size h)
  pred_ends (p.both h) = both_ends h
  pred_ends (p.or {ts} {us} h i) = parted ts us _ _ (l.Keyword k.Or) (parts (l.Keyword k.Or) refl refl) (pred_ends h) (both_ends i)

  both_ends : {ts : List Lexeme} {a : Pred} → (h : IsBoth ts a) → EndsAt ts (both_size h)
  both_ends (p.test h) = test_ends h
  both_ends (p.and {ts} {us} h i) = parted ts us _ _ (l.Keyword k.And) (parts (l.Keyword k.And) refl refl) (both_ends h) (test_ends i)

  test_ends : {ts : List Lexeme} {a : Pred} → (h : IsTest ts a) → EndsAt ts (test_size h)
  test_ends p.always = At (record { counted = refl; ends = refl })
  test_ends p.never = At (record { counted = refl; ends = refl })
  test_ends (p.not {ts} h) = further (l.Keyword k.Not ∷ []) ts 1 _ (record { counted = refl; ends = refl }) (test_ends h)
  test_ends (p.bracketed {ts} h) =
      At (resize Free Free (l.Mark m.OpenSquare ∷ (ts ++ l.Mark m.CloseSquare ∷ [])) _ _ (omega arith)
      (join Free Free Free (l.Mark m.OpenSquare ∷ []) (ts ++ l.Mark m.CloseSquare ∷ []) 1 _ (record { counted = refl; ends = refl })
      (behind_pred ts _ (l.Mark m.CloseSquare) (parts (l.Mark m.CloseSquare) refl refl) (pred_ends h))))
  test_ends (p.same {ts} {us} h i) = parted ts us _ _ (l.Mark m.Equal) (parts (l.Mark m.Equal) refl refl) (AtOperand (operand_leads h)) (AtOperand (operand_leads i))
  test_ends (p.below {ts} {us} h i) = parted ts us _ _ (l.Mark m.Below) (parts (l.Mark m.Below) refl refl) (AtOperand (operand_leads h)) (AtOperand (operand_leads i))
  test_ends (p.member {ts} {us} h i) = parted ts us _ _ (l.Keyword k.In) (parts (l.Keyword k.In) refl refl) (AtOperand (operand_leads h)) (AtOperand (operand_leads i))

ends_counted : (ts : List Lexeme) (n : ℕ) → EndsAt ts n → size_of ts ≡ n
ends_counted ts n (At h) = h.counted
ends_counted ts n (AtOperand h) = h.counted

pub size-pred : (ts : List Lexeme) (a : Pred) (h : IsPred ts a) → size_of ts ≡ pred_size h
size-pred ts a h = ends_counted ts (pred_size h) (pred_ends h)
