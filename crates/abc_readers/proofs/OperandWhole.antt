-- What is an operand is read, whatever follows it; and each front that is one is read at least.
use Rattle.std.proofs.Common.{◌≡◌, Bool, List, [], ◌∷◌, ◌++◌, length, refl, sym, ap, ◌∙◌, append_assoc, arith}
use Rattle.std.specs.Prelude.{pos, neg_ℤ}
use Rattle.abc_value.specs.declared.scalar.Scalar.{Scalar}
use Rattle.abc_value.specs.declared.scalar.Scalar.TheVariants as s
use Rattle.abc_value.specs.declared.value.Value.{Value}
use Rattle.abc_value.specs.declared.value.Value.TheVariants as v
use Rattle.abc_pred.specs.Terms.{Operand}
use Rattle.abc_pred.specs.Terms as o
use Rattle.abc_cause.specs.declared.Cause.TheVariants.{Syntax}
use Rattle.abc_grammar.specs.declared.lexemes.Lexeme.TheVariants as l
use Rattle.abc_text.specs.declared.words.Mark.TheVariants as m
use Rattle.abc_grammar.specs.Listed.{AreListed, MayBeListed}
use Rattle.abc_grammar.specs.Listed as gl
use Rattle.abc_grammar.specs.Literals.{IsScalar, IsLiteral}
use Rattle.abc_grammar.specs.Literals as gs
use Rattle.abc_grammar.specs.Operands.{IsOperand, IsProduct, IsAtom}
use Rattle.abc_grammar.specs.Operands as g
use Rattle.abc_reading.specs.Reading.{Read, ◌>>=◌, mapped, joined, chain}
use Rattle.abc_reading.proofs.Chain.{Leaves, Ends, Reaches, reads_leaves, joined_ends, chain_first, chain_more, chain_whole, then_reaches, chain_reaches}
use Rattle.abc_reading.proofs.Laws.{Reads}
pub use Rattle.abc_readers.specs.Laws.{EndsOperand}
use Rattle.abc_readers.specs.Operands.{Tokens, Reading, close_round, close_curly, read_if, scalar, alone, commas, listed, members, members_at, set_value_of, literal, literal_of, set_literal_of, stars, signs, operand, product, atom}
use Rattle.abc_readers.proofs.OperandReads.{Alone, alone_reads, scalar_reads, atom_reads, product_reads, operand_reads, operand-eq}

-- ---- scalars
pub whole-scalar : {ts : Tokens} {x : Scalar} → IsScalar ts x → (rest : Tokens) → scalar (ts ++ rest) ≡ Read x rest
unfolding scalar
whole-scalar (gs.number {n} e) rest = ap (λ (b : Bool). read_if b (s.Number (pos n)) (l.Number n ∷ rest) rest) e
whole-scalar (gs.negative {n} e) rest = ap (λ (b : Bool). read_if b (s.Number (neg_ℤ (pos n))) (l.Number n ∷ rest) rest) e
whole-scalar gs.text rest = refl
whole-scalar gs.yes rest = refl
whole-scalar gs.no rest = refl

-- ---- items parted by commas, each of which ends where `Stop` holds
module _ {A : Type 0} (Item : Tokens → A → Type 0) (item : Tokens → Reading A) (law : Reads Item item) (Stop : Tokens → Type 0)
    (at_comma : (ts : Tokens) → Stop (l.Mark m.Comma ∷ ts)) (whole : (ts : Tokens) (a : A) → Item ts a → (rest : Tokens) → Stop rest → item (ts ++ rest) ≡ Read a rest) where
  one_leaves : Leaves (λ us. mapped alone (item us))
  one_leaves = reads_leaves (Alone Item item law) (λ us. mapped alone (item us)) (alone_reads Item item law)

  pub whole-listed : {ts : Tokens} {xs : List A} → AreListed Item ts xs → (rest : Tokens) → Stop rest → listed item (ts ++ rest) ≡ joined Syntax (λ us. mapped alone (item us)) commas xs rest
  whole-listed (gl.one {ts} {a} h) rest stop = chain_first Syntax (λ us. mapped alone (item us)) commas one_leaves ts (a ∷ []) rest (ap (mapped alone) (whole ts a h rest stop))
  whole-listed (gl.more {ts} {us} {items} {a} h q) rest stop =
      chain_more Syntax (λ us. mapped alone (item us)) commas one_leaves ts us items (a ∷ []) (l.Mark m.Comma) (λ ys zs. ys ++ zs) rest refl
      (whole-listed h (l.Mark m.Comma ∷ (us ++ rest)) (at_comma (us ++ rest))) (ap (mapped alone) (whole us a q rest stop))

  -- up to a token that is no comma
  pub listed_ends : {ts : Tokens} {xs : List A} → AreListed Item ts xs → (rest : Tokens) → Stop rest → Ends (commas {A = A}) rest → listed item (ts ++ rest) ≡ Read xs rest
  listed_ends {ts} {xs} h rest stop ends = chain_whole Syntax (λ us. mapped alone (item us)) commas one_leaves ts xs rest ends (whole-listed h rest stop)

-- ---- literals
abbrev Anything : Tokens → Type 0
Anything ts = Unit {0}

begins_scalar : {ts : Tokens} {x : Scalar} → IsScalar ts x → (rest : Tokens) → members_at (ts ++ rest) ≡ members (ts ++ rest)
begins_scalar (gs.number e) rest = refl
begins_scalar (gs.negative e) rest = refl
begins_scalar gs.text rest = refl
begins_scalar gs.yes rest = refl
begins_scalar gs.no rest = refl

begins_scalars : {ts : Tokens} {xs : List Scalar} → AreListed IsScalar ts xs → (rest : Tokens) → members_at (ts ++ rest) ≡ members (ts ++ rest)
begins_scalars (gl.one h) rest = begins_scalar h rest
begins_scalars (gl.more {ts} {us} h q) rest = rw (append_assoc ts (l.Mark m.Comma ∷ us) rest) (begins_scalars h (l.Mark m.Comma ∷ (us ++ rest)))

pub whole-members : {ts : Tokens} {xs : List Scalar} → MayBeListed IsScalar ts xs → (rest : Tokens) → members_at ((ts ++ l.Mark m.CloseCurly ∷ []) ++ rest) ≡ Read xs rest
unfolding members
whole-members gl.none rest = refl
whole-members (gl.some {ts} {items} h) rest =
    rw (append_assoc ts (l.Mark m.CloseCurly ∷ []) rest) (begins_scalars h (l.Mark m.CloseCurly ∷ rest)
    ∙ ap (λ (y : Reading (List Scalar)). y >>= close_curly) (listed_ends IsScalar scalar scalar_reads Anything (λ us. tt) (λ us x q more stop. whole-scalar q more) h (l.Mark m.CloseCurly ∷ rest) tt refl))

scalar_alone : {ts : Tokens} {x : Scalar} → IsScalar ts x → (rest : Tokens) → literal (ts ++ rest) ≡ mapped v.Scalar (scalar (ts ++ rest))
unfolding literal
scalar_alone (gs.number e) rest = refl
scalar_alone (gs.negative e) rest = refl
scalar_alone gs.text rest = refl
scalar_alone gs.yes rest = refl
scalar_alone gs.no rest = refl

pub literal_ends : {ts : Tokens} {x : Value} → IsLiteral ts x → (rest : Tokens) → literal (ts ++ rest) ≡ Read x rest
unfolding literal
literal_ends (gs.scalar h) rest = scalar_alone h rest ∙ ap (mapped v.Scalar) (whole-scalar h rest)
literal_ends gs.nothing rest = refl
literal_ends (gs.set h) rest = ap (mapped set_value_of) (whole-members h rest)

pub literal_reach : {ts : Tokens} {x : Value} → IsLiteral ts x → (rest : Tokens) → Reaches (length rest) (literal (ts ++ rest))
literal_reach h rest = rw (literal_ends h rest) (omega arith)

scalar_by_token : {ts : Tokens} {x : Scalar} → IsScalar ts x → (rest : Tokens) → atom (ts ++ rest) ≡ mapped literal_of (scalar (ts ++ rest))
unfolding atom
scalar_by_token (gs.number e) rest = refl
scalar_by_token (gs.negative e) rest = refl
scalar_by_token gs.text rest = refl
scalar_by_token gs.yes rest = refl
scalar_by_token gs.no rest = refl

pub whole-literal : {ts : Tokens} {x : Value} → IsLiteral ts x → (rest : Tokens) → atom (ts ++ rest) ≡ Read (o.Literal x) rest
unfolding atom
whole-literal (gs.scalar h) rest = scalar_by_token h rest ∙ ap (mapped literal_of) (whole-scalar h rest)
whole-literal gs.nothing rest = refl
whole-literal (gs.set h) rest = ap (mapped set_literal_of) (whole-members h rest)

-- ---- operands
pub atom_leaves : Leaves atom
unfolding atom
atom_leaves = reads_leaves IsAtom atom (atom_reads operand operand_reads)

pub product_leaves : Leaves product
unfolding product
product_leaves = reads_leaves IsProduct product (product_reads operand operand_reads)

pub product-eq : (ts : Tokens) → product ts ≡ chain Syntax atom stars ts
unfolding product atom
product-eq ts = refl

at_round : (ts : Tokens) → EndsOperand (l.Mark m.CloseRound ∷ ts)
at_round ts = record { stars = refl; signs = refl }

mutual
  unfolding atom

  pub whole-operand : {ts : Tokens} {a : Operand} → IsOperand ts a → (rest : Tokens) → Ends stars rest → operand (ts ++ rest) ≡ joined Syntax product signs a rest
  whole-operand (g.product {ts} {a} p) rest ends = operand-eq (ts ++ rest) ∙ chain_first Syntax product signs product_leaves ts a rest (whole-product p rest ∙ joined_ends Syntax atom stars atom_leaves a rest ends)
  whole-operand (g.plus {ts} {us} {a} {b} h q) rest ends =
      operand-eq ((ts ++ l.Mark m.Plus ∷ us) ++ rest)
      ∙ chain_more Syntax product signs product_leaves ts us a b (l.Mark m.Plus) o.Add rest refl (sym (operand-eq (ts ++ l.Mark m.Plus ∷ (us ++ rest))) ∙ whole-operand h (l.Mark m.Plus ∷ (us ++ rest)) refl)
      (whole-product q rest ∙ joined_ends Syntax atom stars atom_leaves b rest ends)
  whole-operand (g.minus {ts} {us} {a} {b} h q) rest ends =
      operand-eq ((ts ++ l.Mark m.Minus ∷ us) ++ rest)
      ∙ chain_more Syntax product signs product_leaves ts us a b (l.Mark m.Minus) o.Sub rest refl (sym (operand-eq (ts ++ l.Mark m.Minus ∷ (us ++ rest))) ∙ whole-operand h (l.Mark m.Minus ∷ (us ++ rest)) refl)
      (whole-product q rest ∙ joined_ends Syntax atom stars atom_leaves b rest ends)

  pub whole-product : {ts : Tokens} {a : Operand} → IsProduct ts a → (rest : Tokens) → product (ts ++ rest) ≡ joined Syntax atom stars a rest
  whole-product (g.atom {ts} {a} p) rest = product-eq (ts ++ rest) ∙ chain_first Syntax atom stars atom_leaves ts a rest (whole-atom p rest)
  whole-product (g.times {ts} {us} {a} {b} h q) rest =
      product-eq ((ts ++ l.Mark m.Star ∷ us) ++ rest)
      ∙ chain_more Syntax atom stars atom_leaves ts us a b (l.Mark m.Star) o.Mul rest refl (sym (product-eq (ts ++ l.Mark m.Star ∷ (us ++ rest))) ∙ whole-product h (l.Mark m.Star ∷ (us ++ rest))) (whole-atom q rest)

  pub whole-atom : {ts : Tokens} {a : Operand} → IsAtom ts a → (rest : Tokens) → atom (ts ++ rest) ≡ Read a rest
  whole-atom (g.literal h) rest = whole-literal h rest
  whole-atom g.attribute rest = refl
  whole-atom g.own rest = refl
  whole-atom g.variable rest = refl
  whole-atom (g.bracketed {ts} {a} h) rest =
      rw (append_assoc ts (l.Mark m.CloseRound ∷ []) rest) (ap (λ (y : Reading Operand). y >>= close_round) (whole-operand h (l.Mark m.CloseRound ∷ rest) refl ∙ joined_ends Syntax product signs product_leaves a (l.Mark m.CloseRound ∷ rest) refl))
  whole-atom (g.size {ts} {a} h) rest =
      rw (append_assoc ts (l.Mark m.CloseRound ∷ []) rest) (ap (λ (y : Reading Operand). mapped o.Size (y >>= close_round)) (whole-operand h (l.Mark m.CloseRound ∷ rest) refl ∙ joined_ends Syntax product signs product_leaves a (l.Mark m.CloseRound ∷ rest) refl))
  whole-atom (g.free {ts} {a} h) rest =
      rw (append_assoc ts (l.Mark m.CloseRound ∷ []) rest) (ap (λ (y : Reading Operand). mapped o.Free (y >>= close_round)) (whole-operand h (l.Mark m.CloseRound ∷ rest) refl ∙ joined_ends Syntax product signs product_leaves a (l.Mark m.CloseRound ∷ rest) refl))

pub operand_ends : {ts : Tokens} {a : Operand} → IsOperand ts a → (rest : Tokens) → EndsOperand rest → operand (ts ++ rest) ≡ Read a rest
operand_ends {ts} {a} h rest ends = whole-operand h rest ends.stars ∙ joined_ends Syntax product signs product_leaves a rest ends.signs

-- ---- each front that is an operand is read at least
product_reach : {ts : Tokens} {a : Operand} → IsProduct ts a → (rest : Tokens) → Reaches (length rest) (product (ts ++ rest))
product_reach (g.atom {ts} {a} p) rest =
    let r : Reaches (length rest) (atom (ts ++ rest)) = rw (whole-atom p rest) (omega arith) in
    rw (product-eq (ts ++ rest)) (then_reaches Syntax atom stars atom_leaves (length rest) (atom (ts ++ rest)) r)
product_reach (g.times {ts} {us} {a} {b} h q) rest =
    let r : Reaches (length rest) (atom (us ++ rest)) = rw (whole-atom q rest) (omega arith) in
    rw (append_assoc ts (l.Mark m.Star ∷ us) rest, product-eq (ts ++ l.Mark m.Star ∷ (us ++ rest)))
    (chain_reaches Syntax atom stars atom_leaves ts (us ++ rest) a (l.Mark m.Star) o.Mul (length rest) refl (sym (product-eq (ts ++ l.Mark m.Star ∷ (us ++ rest))) ∙ whole-product h (l.Mark m.Star ∷ (us ++ rest))) r)

pub operand_reach : {ts : Tokens} {a : Operand} → IsOperand ts a → (rest : Tokens) → Reaches (length rest) (operand (ts ++ rest))
operand_reach (g.product {ts} {a} p) rest = rw (operand-eq (ts ++ rest)) (then_reaches Syntax product signs product_leaves (length rest) (product (ts ++ rest)) (product_reach p rest))
operand_reach (g.plus {ts} {us} {a} {b} h q) rest =
    rw (append_assoc ts (l.Mark m.Plus ∷ us) rest, operand-eq (ts ++ l.Mark m.Plus ∷ (us ++ rest)))
    (chain_reaches Syntax product signs product_leaves ts (us ++ rest) a (l.Mark m.Plus) o.Add (length rest) refl (sym (operand-eq (ts ++ l.Mark m.Plus ∷ (us ++ rest))) ∙ whole-operand h (l.Mark m.Plus ∷ (us ++ rest)) refl) (product_reach q rest))
operand_reach (g.minus {ts} {us} {a} {b} h q) rest =
    rw (append_assoc ts (l.Mark m.Minus ∷ us) rest, operand-eq (ts ++ l.Mark m.Minus ∷ (us ++ rest)))
    (chain_reaches Syntax product signs product_leaves ts (us ++ rest) a (l.Mark m.Minus) o.Sub (length rest) refl (sym (operand-eq (ts ++ l.Mark m.Minus ∷ (us ++ rest))) ∙ whole-operand h (l.Mark m.Minus ∷ (us ++ rest)) refl) (product_reach q rest))

pub ruleset products = (operand-eq, product-eq)
