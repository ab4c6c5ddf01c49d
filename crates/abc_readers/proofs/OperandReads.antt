-- Reading operands gives what is an operand, and is refused where none goes on.
use Rattle.std.proofs.Common.{◌≡◌, ℕ, zero, suc, ◌<◌, ◌≤◌, Bool, true, false, List, [], ◌∷◌, ◌++◌, length, Some, refl, sym, ap, subst, append_assoc, arith}
use Rattle.std.specs.Prelude.{pos, neg_ℤ}
use Rattle.abc_value.specs.declared.scalar.Scalar.{Scalar}
use Rattle.abc_value.specs.declared.scalar.Scalar.TheVariants as s
use Rattle.abc_value.specs.declared.value.Value.TheVariants as v
use Rattle.abc_value.specs.Values.{fits_64}
use Rattle.abc_pred.specs.Terms.{Operand}
use Rattle.abc_pred.specs.Terms as o
use Rattle.abc_cause.specs.declared.Cause.TheVariants.{Syntax}
use Rattle.abc_grammar.specs.declared.lexemes.Lexeme.{Lexeme}
use Rattle.abc_grammar.specs.declared.lexemes.Lexeme.TheVariants as l
use Rattle.abc_text.specs.declared.words.Mark.TheVariants as m
use Rattle.abc_text.specs.declared.words.Keyword.TheVariants as k
use Rattle.abc_grammar.specs.Listed.{AreListed, MayBeListed}
use Rattle.abc_grammar.specs.Listed as gl
use Rattle.abc_grammar.specs.Literals.{IsScalar, IsLiteral}
use Rattle.abc_grammar.specs.Literals as gs
use Rattle.abc_grammar.specs.Operands.{IsOperand, IsProduct, IsAtom}
use Rattle.abc_grammar.specs.Operands as g
use Rattle.abc_reading.specs.Reading.{◌>>=◌, mapped, times, chain}
use Rattle.abc_reading.proofs.Laws.{Begins, Owes, Reads, bind_owes, mapped_owes, take_owes, refuse_at_owes, refuse_end_owes, go_owes, like_owes, like_end_owes, lift_owes}
use Rattle.abc_reading.proofs.Again.{Guarded, again_owes, again-step}
use Rattle.abc_reading.proofs.Chain.{reads_leaves, chain_reads, chain-agree}
use Rattle.abc_readers.specs.Operands.{Tokens, Reading, refuse, close_round, close_curly, read_if, negative, scalar_at, scalar, alone, commas, listed, members, members_at, set_value_of, literal_at, literal, literal_of, set_literal_of, own_named, own, bracketed_by, applied_by, atom_by, stars, product_by, signs, operand_by, operand_step, operand, product}

some_inj : {A : Type 0} {x y : A} → Some x ≡ Some y → x ≡ y
some_inj e = cc

-- ---- scalars
text_is : (pre : Tokens) → IsScalar (l.Text [] ∷ []) (s.Text [])
text_is pre = gs.text

signed_is : IsScalar (l.Mark m.Minus ∷ l.Number 0 ∷ []) (s.Number (neg_ℤ (pos 0)))
signed_is = gs.negative refl

read_if_owes : (f : Tokens → Reading Scalar) (pre : Tokens) (t : Lexeme) (ts : Tokens) (x : Scalar) (b : Bool) → (b ≡ true → IsScalar (pre ++ t ∷ []) x) → Begins IsScalar pre
    → ((us : Tokens) → f (t ∷ us) ≡ read_if b x (t ∷ us) us) → Owes IsScalar f pre (t ∷ ts) (read_if b x (t ∷ ts) ts)
read_if_owes f pre t ts x true is begins s = take_owes IsScalar f pre t ts x (is refl) s
read_if_owes f pre t ts x false is begins s = refuse_at_owes IsScalar f pre t ts Syntax begins s

negative_owes : (ts : Tokens) → Owes IsScalar negative (l.Mark m.Minus ∷ []) ts (negative ts)
negative_owes [] = refuse_end_owes IsScalar negative (l.Mark m.Minus ∷ []) Syntax (l.Number 0 ∷ [], s.Number (neg_ℤ (pos 0)), signed_is) refl
negative_owes (l.Number n ∷ ts) = read_if_owes negative (l.Mark m.Minus ∷ []) (l.Number n) ts (s.Number (neg_ℤ (pos n))) (fits_64 (neg_ℤ (pos n))) (λ e. gs.negative e) (l.Number 0 ∷ [], s.Number (neg_ℤ (pos 0)), signed_is) (λ us. refl)
negative_owes (t ∷ ts) = refuse_at_owes IsScalar negative (l.Mark m.Minus ∷ []) t ts Syntax (l.Number 0 ∷ [], s.Number (neg_ℤ (pos 0)), signed_is) (λ us. refl)

begins_scalar : Begins IsScalar []
begins_scalar = (l.Text [] ∷ [], s.Text [], gs.text)

pub scalar_reads : Reads IsScalar scalar
unfolding scalar
scalar_reads [] = refuse_end_owes IsScalar scalar_at [] Syntax begins_scalar refl
scalar_reads (l.Number n ∷ ts) = read_if_owes scalar_at [] (l.Number n) ts (s.Number (pos n)) (fits_64 (pos n)) (λ e. gs.number e) begins_scalar (λ us. refl)
scalar_reads (l.Mark m.Minus ∷ ts) = go_owes IsScalar scalar_at negative [] (l.Mark m.Minus) ts (negative ts) (λ us. refl) (negative_owes ts)
scalar_reads (l.Text bytes ∷ ts) = take_owes IsScalar scalar_at [] (l.Text bytes) ts (s.Text bytes) gs.text (λ us. refl)
scalar_reads (l.Keyword k.True ∷ ts) = take_owes IsScalar scalar_at [] (l.Keyword k.True) ts (s.Truth true) gs.yes (λ us. refl)
scalar_reads (l.Keyword k.False ∷ ts) = take_owes IsScalar scalar_at [] (l.Keyword k.False) ts (s.Truth false) gs.no (λ us. refl)
scalar_reads (t ∷ ts) = refuse_at_owes IsScalar scalar_at [] t ts Syntax begins_scalar (λ us. refl)

-- ---- items parted by commas
module _ {A : Type 0} (Item : Tokens → A → Type 0) (item : Tokens → Reading A) (law : Reads Item item) where
  abbrev pub Alone : Tokens → List A → Type 0
  Alone ts xs = (a : A) × (xs ≡ a ∷ []) × Item ts a

  pub alone_reads : Reads Alone (λ us. mapped alone (item us))
  alone_reads ts = mapped_owes Item Alone item alone [] [] ts (item ts) (law ts) (λ mid a h. (a, refl, h))

  one_is : (ts : Tokens) (xs : List A) → Alone ts xs → AreListed Item ts xs
  one_is ts xs h = subst (λ (ys : List A). AreListed Item ts ys) (sym h.1) (gl.one h.2)

  more_are : (ts us : Tokens) (xs ys : List A) (t : Lexeme) (f : List A → List A → List A) → commas t ≡ Some f → AreListed Item ts xs → Alone us ys → AreListed Item (ts ++ t ∷ us) (f xs ys)
  more_are ts us xs ys (l.Mark m.Comma) f e h q =
      subst (λ (j : List A → List A → List A). AreListed Item (ts ++ l.Mark m.Comma ∷ us) (j xs ys)) (some_inj e)
      (subst (λ (zs : List A). AreListed Item (ts ++ l.Mark m.Comma ∷ us) (xs ++ zs)) (sym q.1) (gl.more h q.2))
  more_are ts us xs ys t f e h q = absurd (cc)

  pub listed_reads : Reads (AreListed Item) (listed item)
  listed_reads = chain_reads Syntax (λ us. mapped alone (item us)) commas Alone (AreListed Item) alone_reads one_is more_are

-- ---- set literals
-- behind the opening brace
abbrev pub AreMembers : Tokens → List Scalar → Type 0
AreMembers ts xs = (us : Tokens) × (ts ≡ us ++ l.Mark m.CloseCurly ∷ []) × MayBeListed IsScalar us xs

close_curly_owes : (pre us : Tokens) (xs : List Scalar) → AreListed IsScalar pre xs → Owes AreMembers (close_curly xs) pre us (close_curly xs us)
close_curly_owes pre [] xs h = refuse_end_owes AreMembers (close_curly xs) pre Syntax (l.Mark m.CloseCurly ∷ [], xs, (pre, refl, gl.some h)) refl
close_curly_owes pre (l.Mark m.CloseCurly ∷ us) xs h = take_owes AreMembers (close_curly xs) pre (l.Mark m.CloseCurly) us xs (pre, refl, gl.some h) (λ vs. refl)
close_curly_owes pre (t ∷ us) xs h = refuse_at_owes AreMembers (close_curly xs) pre t us Syntax (l.Mark m.CloseCurly ∷ [], xs, (pre, refl, gl.some h)) (λ vs. refl)

members_reads : Reads AreMembers members
unfolding members
members_reads ts = bind_owes (AreListed IsScalar) AreMembers (listed scalar) close_curly [] [] ts (listed scalar ts) (listed_reads IsScalar scalar scalar_reads ts)
    (λ xs us mid h. close_curly_owes mid us xs h)
    (λ mid b. (b.0 ++ l.Mark m.CloseCurly ∷ [], b.1, (mid ++ b.0, sym (append_assoc mid b.0 (l.Mark m.CloseCurly ∷ [])), gl.some b.2)))

pub members_at_reads : Reads AreMembers members_at
members_at_reads [] = like_end_owes AreMembers members_at members (members []) refl (members_reads [])
members_at_reads (l.Mark m.CloseCurly ∷ ts) = take_owes AreMembers members_at [] (l.Mark m.CloseCurly) ts [] ([], refl, gl.none) (λ vs. refl)
members_at_reads (t ∷ ts) = like_owes AreMembers members_at members t ts (members (t ∷ ts)) (λ us. refl) (members_reads (t ∷ ts))

-- ---- literals
pub literal_reads : Reads IsLiteral literal
unfolding literal
literal_reads [] = like_end_owes IsLiteral literal_at (λ us. mapped v.Scalar (scalar us)) (mapped v.Scalar (scalar [])) refl
    (mapped_owes IsScalar IsLiteral scalar v.Scalar [] [] [] (scalar []) (scalar_reads []) (λ mid x h. gs.scalar h))
literal_reads (l.Keyword k.None ∷ ts) = take_owes IsLiteral literal_at [] (l.Keyword k.None) ts v.Nothing gs.nothing (λ us. refl)
literal_reads (l.Mark m.OpenCurly ∷ ts) = go_owes IsLiteral literal_at (λ us. mapped set_value_of (members_at us)) [] (l.Mark m.OpenCurly) ts (mapped set_value_of (members_at ts)) (λ us. refl)
    (mapped_owes AreMembers IsLiteral members_at set_value_of [] (l.Mark m.OpenCurly ∷ []) ts (members_at ts) (members_at_reads ts)
    (λ mid xs h. subst (λ (us : Tokens). IsLiteral (l.Mark m.OpenCurly ∷ us) (set_value_of xs)) (sym h.1) (gs.set h.2)))
literal_reads (t ∷ ts) = like_owes IsLiteral literal_at (λ us. mapped v.Scalar (scalar us)) t ts (mapped v.Scalar (scalar (t ∷ ts))) (λ us. refl)
    (mapped_owes IsScalar IsLiteral scalar v.Scalar [] [] (t ∷ ts) (scalar (t ∷ ts)) (scalar_reads (t ∷ ts)) (λ mid x h. gs.scalar h))

-- ---- atoms
nothing_is : IsAtom (l.Keyword k.None ∷ []) (o.Literal v.Nothing)
nothing_is = g.literal gs.nothing

begins_atom : Begins IsAtom []
begins_atom = (l.Keyword k.None ∷ [], o.Literal v.Nothing, nothing_is)

scalar_atom : (f : Tokens → Reading Operand) (t : Lexeme) (ts : Tokens) → ((us : Tokens) → f (t ∷ us) ≡ mapped literal_of (scalar (t ∷ us))) → Owes IsAtom f [] (t ∷ ts) (mapped literal_of (scalar (t ∷ ts)))
scalar_atom f t ts e = like_owes IsAtom f (λ us. mapped literal_of (scalar us)) t ts (mapped literal_of (scalar (t ∷ ts))) e
    (mapped_owes IsScalar IsAtom scalar literal_of [] [] (t ∷ ts) (scalar (t ∷ ts)) (scalar_reads (t ∷ ts)) (λ mid x h. g.literal (gs.scalar h)))

own_begins : (pre : Tokens) → (more : Tokens) → pre ++ more ≡ l.Keyword k.This ∷ l.Mark m.Dot ∷ l.Name (record { 0 = 0 }) ∷ [] → Begins IsAtom pre
own_begins pre more e = (more, o.This (record { 0 = 0 }), subst (λ (ts : Tokens). IsAtom ts (o.This (record { 0 = 0 }))) (sym e) g.own)

own_named_owes : (ts : Tokens) → Owes IsAtom own_named (l.Keyword k.This ∷ l.Mark m.Dot ∷ []) ts (own_named ts)
own_named_owes [] = refuse_end_owes IsAtom own_named (l.Keyword k.This ∷ l.Mark m.Dot ∷ []) Syntax (own_begins (l.Keyword k.This ∷ l.Mark m.Dot ∷ []) (l.Name (record { 0 = 0 }) ∷ []) refl) refl
own_named_owes (l.Name a ∷ ts) = take_owes IsAtom own_named (l.Keyword k.This ∷ l.Mark m.Dot ∷ []) (l.Name a) ts (o.This a) g.own (λ us. refl)
own_named_owes (t ∷ ts) = refuse_at_owes IsAtom own_named (l.Keyword k.This ∷ l.Mark m.Dot ∷ []) t ts Syntax (own_begins (l.Keyword k.This ∷ l.Mark m.Dot ∷ []) (l.Name (record { 0 = 0 }) ∷ []) refl) (λ us. refl)

own_owes : (ts : Tokens) → Owes IsAtom own (l.Keyword k.This ∷ []) ts (own ts)
own_owes [] = refuse_end_owes IsAtom own (l.Keyword k.This ∷ []) Syntax (own_begins (l.Keyword k.This ∷ []) (l.Mark m.Dot ∷ l.Name (record { 0 = 0 }) ∷ []) refl) refl
own_owes (l.Mark m.Dot ∷ ts) = go_owes IsAtom own own_named (l.Keyword k.This ∷ []) (l.Mark m.Dot) ts (own_named ts) (λ us. refl) (own_named_owes ts)
own_owes (t ∷ ts) = refuse_at_owes IsAtom own (l.Keyword k.This ∷ []) t ts Syntax (own_begins (l.Keyword k.This ∷ []) (l.Mark m.Dot ∷ l.Name (record { 0 = 0 }) ∷ []) refl) (λ us. refl)

-- behind an opening bracket, and with it
abbrev pub Inside : Tokens → Operand → Type 0
Inside ts a = (us : Tokens) × (ts ≡ us ++ l.Mark m.CloseRound ∷ []) × IsOperand us a

abbrev pub Applied : Tokens → Operand → Type 0
Applied ts a = (us : Tokens) × (ts ≡ l.Mark m.OpenRound ∷ (us ++ l.Mark m.CloseRound ∷ [])) × IsOperand us a

close_round_owes : (pre us : Tokens) (a : Operand) → IsOperand pre a → Owes Inside (close_round a) pre us (close_round a us)
close_round_owes pre [] a h = refuse_end_owes Inside (close_round a) pre Syntax (l.Mark m.CloseRound ∷ [], a, (pre, refl, h)) refl
close_round_owes pre (l.Mark m.CloseRound ∷ us) a h = take_owes Inside (close_round a) pre (l.Mark m.CloseRound) us a (pre, refl, h) (λ vs. refl)
close_round_owes pre (t ∷ us) a h = refuse_at_owes Inside (close_round a) pre t us Syntax (l.Mark m.CloseRound ∷ [], a, (pre, refl, h)) (λ vs. refl)

pub none_is : IsOperand (l.Keyword k.None ∷ []) (o.Literal v.Nothing)
none_is = g.product (g.atom nothing_is)

module _ (inner : Tokens → Reading Operand) (law : Reads IsOperand inner) where
  pub bracketed_reads : Reads Inside (bracketed_by inner)
  bracketed_reads ts = bind_owes IsOperand Inside inner close_round [] [] ts (inner ts) (law ts)
      (λ a us mid h. close_round_owes mid us a h)
      (λ mid b. (b.0 ++ l.Mark m.CloseRound ∷ [], b.1, (mid ++ b.0, sym (append_assoc mid b.0 (l.Mark m.CloseRound ∷ [])), b.2)))

  begins_applied : Begins Applied []
  begins_applied = (l.Mark m.OpenRound ∷ l.Keyword k.None ∷ l.Mark m.CloseRound ∷ [], o.Literal v.Nothing, (l.Keyword k.None ∷ [], refl, none_is))

  pub applied_reads : Reads Applied (applied_by inner)
  applied_reads [] = refuse_end_owes Applied (applied_by inner) [] Syntax begins_applied refl
  applied_reads (l.Mark m.OpenRound ∷ ts) = go_owes Applied (applied_by inner) (bracketed_by inner) [] (l.Mark m.OpenRound) ts (bracketed_by inner ts) (λ us. refl)
      (lift_owes Inside Applied (bracketed_by inner) [] (l.Mark m.OpenRound ∷ []) ts (bracketed_by inner ts) (bracketed_reads ts) (λ mid a h. (h.0, ap (λ (us : Tokens). l.Mark m.OpenRound ∷ us) h.1, h.2)))
  applied_reads (t ∷ ts) = refuse_at_owes Applied (applied_by inner) [] t ts Syntax begins_applied (λ us. refl)

  set_is : (mid : Tokens) (xs : List Scalar) → AreMembers mid xs → IsAtom (l.Mark m.OpenCurly ∷ mid) (set_literal_of xs)
  set_is mid xs h = subst (λ (ts : Tokens). IsAtom (l.Mark m.OpenCurly ∷ ts) (set_literal_of xs)) (sym h.1) (g.literal (gs.set h.2))

  round_is : (mid : Tokens) (a : Operand) → Inside mid a → IsAtom (l.Mark m.OpenRound ∷ mid) a
  round_is mid a h = subst (λ (ts : Tokens). IsAtom (l.Mark m.OpenRound ∷ ts) a) (sym h.1) (g.bracketed h.2)

  size_is : (mid : Tokens) (a : Operand) → Applied mid a → IsAtom (l.Keyword k.Size ∷ mid) (o.Size a)
  size_is mid a h = subst (λ (ts : Tokens). IsAtom (l.Keyword k.Size ∷ ts) (o.Size a)) (sym h.1) (g.size h.2)

  free_is : (mid : Tokens) (a : Operand) → Applied mid a → IsAtom (l.Keyword k.Free ∷ mid) (o.Free a)
  free_is mid a h = subst (λ (ts : Tokens). IsAtom (l.Keyword k.Free ∷ ts) (o.Free a)) (sym h.1) (g.free h.2)

  applied_owes : (t : Lexeme) (make : Operand → Operand) (ts : Tokens) → ((us : Tokens) → atom_by inner (t ∷ us) ≡ mapped make (applied_by inner us))
      → ((mid : Tokens) (a : Operand) → Applied mid a → IsAtom (t ∷ mid) (make a)) → Owes IsAtom (atom_by inner) [] (t ∷ ts) (mapped make (applied_by inner ts))
  applied_owes t make ts e is = go_owes IsAtom (atom_by inner) (λ us. mapped make (applied_by inner us)) [] t ts (mapped make (applied_by inner ts)) e
      (mapped_owes Applied IsAtom (applied_by inner) make [] (t ∷ []) ts (applied_by inner ts) (applied_reads ts) is)

  pub atom_reads : Reads IsAtom (atom_by inner)
  atom_reads [] = like_end_owes IsAtom (atom_by inner) (λ us. mapped literal_of (scalar us)) (mapped literal_of (scalar [])) refl
      (mapped_owes IsScalar IsAtom scalar literal_of [] [] [] (scalar []) (scalar_reads []) (λ mid x h. g.literal (gs.scalar h)))
  atom_reads (l.Keyword k.None ∷ ts) = take_owes IsAtom (atom_by inner) [] (l.Keyword k.None) ts (o.Literal v.Nothing) nothing_is (λ us. refl)
  atom_reads (l.Mark m.OpenCurly ∷ ts) = go_owes IsAtom (atom_by inner) (λ us. mapped set_literal_of (members_at us)) [] (l.Mark m.OpenCurly) ts (mapped set_literal_of (members_at ts)) (λ us. refl)
      (mapped_owes AreMembers IsAtom members_at set_literal_of [] (l.Mark m.OpenCurly ∷ []) ts (members_at ts) (members_at_reads ts) set_is)
  atom_reads (l.Name a ∷ ts) = take_owes IsAtom (atom_by inner) [] (l.Name a) ts (o.Attr a) g.attribute (λ us. refl)
  atom_reads (l.Variable x ∷ ts) = take_owes IsAtom (atom_by inner) [] (l.Variable x) ts (o.Var x) g.variable (λ us. refl)
  atom_reads (l.Keyword k.This ∷ ts) = go_owes IsAtom (atom_by inner) own [] (l.Keyword k.This) ts (own ts) (λ us. refl) (own_owes ts)
  atom_reads (l.Mark m.OpenRound ∷ ts) = go_owes IsAtom (atom_by inner) (bracketed_by inner) [] (l.Mark m.OpenRound) ts (bracketed_by inner ts) (λ us. refl)
      (lift_owes Inside IsAtom (bracketed_by inner) [] (l.Mark m.OpenRound ∷ []) ts (bracketed_by inner ts) (bracketed_reads ts) round_is)
  atom_reads (l.Keyword k.Size ∷ ts) = applied_owes (l.Keyword k.Size) o.Size ts (λ us. refl) size_is
  atom_reads (l.Keyword k.Free ∷ ts) = applied_owes (l.Keyword k.Free) o.Free ts (λ us. refl) free_is
  atom_reads (t ∷ ts) = scalar_atom (atom_by inner) t ts (λ us. refl)

  times_is : (ts us : Tokens) (a b : Operand) (t : Lexeme) (f : Operand → Operand → Operand) → stars t ≡ Some f → IsProduct ts a → IsAtom us b → IsProduct (ts ++ t ∷ us) (f a b)
  times_is ts us a b (l.Mark m.Star) f e h q = subst (λ (j : Operand → Operand → Operand). IsProduct (ts ++ l.Mark m.Star ∷ us) (j a b)) (some_inj e) (g.times h q)
  times_is ts us a b t f e h q = absurd (cc)

  pub product_reads : Reads IsProduct (product_by inner)
  product_reads = chain_reads Syntax (atom_by inner) stars IsAtom IsProduct atom_reads (λ ts a h. g.atom h) times_is

  sum_is : (ts us : Tokens) (a b : Operand) (t : Lexeme) (f : Operand → Operand → Operand) → signs t ≡ Some f → IsOperand ts a → IsProduct us b → IsOperand (ts ++ t ∷ us) (f a b)
  sum_is ts us a b (l.Mark m.Plus) f e h q = subst (λ (j : Operand → Operand → Operand). IsOperand (ts ++ l.Mark m.Plus ∷ us) (j a b)) (some_inj e) (g.plus h q)
  sum_is ts us a b (l.Mark m.Minus) f e h q = subst (λ (j : Operand → Operand → Operand). IsOperand (ts ++ l.Mark m.Minus ∷ us) (j a b)) (some_inj e) (g.minus h q)
  sum_is ts us a b t f e h q = absurd (cc)

  pub operand_by_reads : Reads IsOperand (operand_by inner)
  operand_by_reads = chain_reads Syntax (product_by inner) signs IsProduct IsOperand product_reads (λ ts a h. g.product h) sum_is

-- ---- operands in brackets in operands
abbrev Good : (Unit {0} → Tokens → Reading Operand) → Type 0
Good f = Reads IsOperand (f tt)

times_read : (n : ℕ) → Good (times Syntax operand_step n)
times_read zero ts = refused ts
  where
    begins : Begins IsOperand []
    begins = (l.Keyword k.None ∷ [], o.Literal v.Nothing, none_is)

    refused : (ts : Tokens) → Owes IsOperand (λ us. refuse us) [] ts (refuse ts)
    refused [] = refuse_end_owes IsOperand (λ us. refuse us) [] Syntax begins refl
    refused (t ∷ ts) = refuse_at_owes IsOperand (λ us. refuse us) [] t ts Syntax begins (λ us. refl)
times_read (suc n) ts = operand_by_reads (times Syntax operand_step n tt) (times_read n) ts

module _ (f g' : Tokens → Reading Operand) (lf : Reads IsOperand f) (n : ℕ) (agree : (us : Tokens) → length us < n → f us ≡ g' us) where
  bracketed-agree : (ts : Tokens) → length ts < n → bracketed_by f ts ≡ bracketed_by g' ts
  bracketed-agree ts h = ap (λ (y : Reading Operand). y >>= close_round) (agree ts h)

  applied-agree : (ts : Tokens) → length ts < n → applied_by f ts ≡ applied_by g' ts
  applied-agree [] h = refl
  applied-agree (l.Mark m.OpenRound ∷ ts) h = bracketed-agree ts (omega arith)
  applied-agree (t ∷ ts) h = refl

  atom-agree : (ts : Tokens) → length ts ≤ n → atom_by f ts ≡ atom_by g' ts
  atom-agree [] h = refl
  atom-agree (l.Mark m.OpenRound ∷ ts) h = bracketed-agree ts (omega arith)
  atom-agree (l.Keyword k.Size ∷ ts) h = ap (mapped o.Size) (applied-agree ts (omega arith))
  atom-agree (l.Keyword k.Free ∷ ts) h = ap (mapped o.Free) (applied-agree ts (omega arith))
  atom-agree (t ∷ ts) h = refl

  product-agree : (ts : Tokens) → length ts ≤ n → product_by f ts ≡ product_by g' ts
  product-agree ts h = chain-agree Syntax (atom_by f) (atom_by g') stars (reads_leaves IsAtom (atom_by f) (atom_reads f lf)) n atom-agree ts h

  operand-agree : (ts : Tokens) → length ts ≤ n → operand_by f ts ≡ operand_by g' ts
  operand-agree ts h = chain-agree Syntax (product_by f) (product_by g') signs (reads_leaves IsProduct (product_by f) (product_reads f lf)) n product-agree ts h

operand-guarded : Guarded Good operand_step
operand-guarded f g' p q u ts agree = operand-agree (f tt) (g' tt) p (length ts) (λ us lt. agree tt us lt) ts (omega arith)

pub operand_reads : Reads IsOperand operand
unfolding operand
operand_reads ts = again_owes Syntax operand_step Good operand-guarded times_read IsOperand [] tt ts (λ n. times_read n ts)

-- an operand is products, and the operands in brackets are operands again
pub operand-eq : (ts : Tokens) → operand ts ≡ chain Syntax product signs ts
unfolding operand product
operand-eq ts = again-step Syntax operand_step Good operand-guarded times_read operand_reads tt ts
