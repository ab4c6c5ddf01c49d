-- What is an expression is read, whatever follows it; and each front that is one is read at least.
use Rattle.std.proofs.Common.{◌≡◌, ℕ, List, [], ◌∷◌, ◌++◌, length, refl, ap, ◌∙◌, append_assoc, arith}
use Rattle.abc_value.specs.declared.scalar.Scalar.{Scalar}
use Rattle.abc_value.specs.declared.value.Value.{Value}
use Rattle.abc_pred.specs.Terms.{Operand, Expr}
use Rattle.abc_pred.specs.Terms as e
use Rattle.abc_grammar.specs.declared.lexemes.Lexeme.{Lexeme}
use Rattle.abc_grammar.specs.declared.lexemes.Lexeme.TheVariants as l
use Rattle.abc_text.specs.declared.words.Mark.TheVariants as m
use Rattle.abc_text.specs.declared.words.Keyword.TheVariants as k
use Rattle.abc_grammar.specs.Listed.{AreListed, MayBeListed}
use Rattle.abc_grammar.specs.Listed as gl
use Rattle.abc_grammar.specs.Literals.{IsScalar, IsLiteral}
use Rattle.abc_grammar.specs.Literals as gs
use Rattle.abc_grammar.specs.Operands.{IsOperand, IsProduct, IsAtom}
use Rattle.abc_grammar.specs.Operands as og
use Rattle.abc_grammar.specs.Exprs.{IsExpr}
use Rattle.abc_grammar.specs.Exprs as g
use Rattle.abc_reading.specs.Reading.{Read, Cut, Refused, ◌>>=◌, mapped}
use Rattle.abc_reading.specs.Exact.{Reaches}
use Rattle.abc_readers.specs.Operands.{Tokens, Reading, close_round, operand}
use Rattle.abc_readers.specs.Exprs.{whole_operand, items, items_at, second_by, two_by, expr_by, expr}
use Rattle.abc_readers.specs.Laws.{EndsOperand}
use Rattle.abc_readers.proofs.OperandWhole.{listed_ends, operand_ends, operand_reach}
use Rattle.abc_readers.proofs.ExprReads.{whole_operand_reads, expr-eq}

-- what begins as an operand does is no keyword of expressions and no bracket that closes
record Begun (ts : Tokens) : Type 0 where
  pub expr : (rest : Tokens) → expr_by expr (ts ++ rest) ≡ mapped e.Plain (operand (ts ++ rest))
  pub item : (rest : Tokens) → items_at (ts ++ rest) ≡ items (ts ++ rest)

begun_more : (ts us : Tokens) (t : Lexeme) → Begun ts → Begun (ts ++ t ∷ us)
begun_more ts us t h = record {
  expr = λ rest. rw (append_assoc ts (t ∷ us) rest) (h.expr (t ∷ (us ++ rest)));
  item = λ rest. rw (append_assoc ts (t ∷ us) rest) (h.item (t ∷ (us ++ rest)));
}

begun_scalar : {ts : Tokens} {x : Scalar} → IsScalar ts x → Begun ts
begun_scalar (gs.number h) = record { expr = λ rest. refl; item = λ rest. refl }
begun_scalar (gs.negative h) = record { expr = λ rest. refl; item = λ rest. refl }
begun_scalar gs.text = record { expr = λ rest. refl; item = λ rest. refl }
begun_scalar gs.yes = record { expr = λ rest. refl; item = λ rest. refl }
begun_scalar gs.no = record { expr = λ rest. refl; item = λ rest. refl }

begun_literal : {ts : Tokens} {x : Value} → IsLiteral ts x → Begun ts
begun_literal (gs.scalar h) = begun_scalar h
begun_literal gs.nothing = record { expr = λ rest. refl; item = λ rest. refl }
begun_literal (gs.set h) = record { expr = λ rest. refl; item = λ rest. refl }

begun_atom : {ts : Tokens} {a : Operand} → IsAtom ts a → Begun ts
begun_atom (og.literal h) = begun_literal h
begun_atom og.attribute = record { expr = λ rest. refl; item = λ rest. refl }
begun_atom og.own = record { expr = λ rest. refl; item = λ rest. refl }
begun_atom og.variable = record { expr = λ rest. refl; item = λ rest. refl }
begun_atom (og.bracketed h) = record { expr = λ rest. refl; item = λ rest. refl }
begun_atom (og.size h) = record { expr = λ rest. refl; item = λ rest. refl }
begun_atom (og.free h) = record { expr = λ rest. refl; item = λ rest. refl }

begun_product : {ts : Tokens} {a : Operand} → IsProduct ts a → Begun ts
begun_product (og.atom h) = begun_atom h
begun_product (og.times {ts} {us} h q) = begun_more ts us (l.Mark m.Star) (begun_product h)

begun_operand : {ts : Tokens} {a : Operand} → IsOperand ts a → Begun ts
begun_operand (og.product h) = begun_product h
begun_operand (og.plus {ts} {us} h q) = begun_more ts us (l.Mark m.Plus) (begun_operand h)
begun_operand (og.minus {ts} {us} h q) = begun_more ts us (l.Mark m.Minus) (begun_operand h)

begun_items : {ts : Tokens} {xs : List Operand} → AreListed IsOperand ts xs → Begun ts
begun_items (gl.one h) = begun_operand h
begun_items (gl.more {ts} {us} h q) = begun_more ts us (l.Mark m.Comma) (begun_items h)

whole_operand_ends : {ts : Tokens} {a : Operand} → IsOperand ts a → (rest : Tokens) → EndsOperand rest → whole_operand (ts ++ rest) ≡ Read a rest
unfolding whole_operand
whole_operand_ends h rest ends = ap (λ (y : Reading Operand). y >>= λ a us. Read a us) (operand_ends h rest ends)

whole-items : {ts : Tokens} {xs : List Operand} → MayBeListed IsOperand ts xs → (rest : Tokens) → items_at ((ts ++ l.Mark m.CloseRound ∷ []) ++ rest) ≡ Read xs rest
unfolding items
whole-items gl.none rest = refl
whole-items (gl.some {ts} {items} h) rest =
    let b = begun_items h in
    rw (append_assoc ts (l.Mark m.CloseRound ∷ []) rest) (b.item (l.Mark m.CloseRound ∷ rest)
    ∙ ap (λ (y : Reading (List Operand)). y >>= close_round) (listed_ends IsOperand whole_operand whole_operand_reads EndsOperand (λ us. record { stars = refl; signs = refl }) (λ us a q more stop. whole_operand_ends q more stop) h (l.Mark m.CloseRound ∷ rest) (record { stars = refl; signs = refl }) refl))

regroup : (ts us rest : Tokens) → ((ts ++ l.Mark m.Comma ∷ us) ++ l.Mark m.CloseRound ∷ []) ++ rest ≡ ts ++ l.Mark m.Comma ∷ (us ++ l.Mark m.CloseRound ∷ rest)
regroup ts us rest = append_assoc (ts ++ l.Mark m.Comma ∷ us) (l.Mark m.CloseRound ∷ []) rest ∙ append_assoc ts (l.Mark m.Comma ∷ us) (l.Mark m.CloseRound ∷ rest)

pair_read : (make : Expr → Expr → Expr) (ts us rest : Tokens) (a b : Expr) → expr (ts ++ l.Mark m.Comma ∷ (us ++ l.Mark m.CloseRound ∷ rest)) ≡ Read a (l.Mark m.Comma ∷ (us ++ l.Mark m.CloseRound ∷ rest))
    → expr (us ++ l.Mark m.CloseRound ∷ rest) ≡ Read b (l.Mark m.CloseRound ∷ rest) → two_by expr make (((ts ++ l.Mark m.Comma ∷ us) ++ l.Mark m.CloseRound ∷ []) ++ rest) ≡ Read (make a b) rest
pair_read make ts us rest a b h q =
    ap (λ (xs : Tokens). two_by expr make xs) (regroup ts us rest)
    ∙ ap (λ (y : Reading Expr). (y >>= λ x xs. Read x xs) >>= second_by expr make) h
    ∙ ap (λ (y : Reading Expr). (y >>= λ x xs. Read x xs) >>= λ c vs. close_round (tt {0}) vs >>= λ w ws. Read (make a c) ws) q

pub expr_ends : {ts : Tokens} {a : Expr} → IsExpr ts a → (rest : Tokens) → EndsOperand rest → expr (ts ++ rest) ≡ Read a rest
expr_ends (g.operand {ts} {a} h) rest ends = let b = begun_operand h in expr-eq (ts ++ rest) ∙ b.expr rest ∙ ap (mapped e.Plain) (operand_ends h rest ends)
expr_ends (g.set {ts} {items} h) rest ends = expr-eq ((l.Keyword k.Set ∷ l.Mark m.OpenRound ∷ ts ++ l.Mark m.CloseRound ∷ []) ++ rest) ∙ ap (mapped e.SetOf) (whole-items h rest)
expr_ends (g.union {ts} {us} {a} {b} h q) rest ends =
    expr-eq ((l.Keyword k.Union ∷ l.Mark m.OpenRound ∷ ts ++ l.Mark m.Comma ∷ us ++ l.Mark m.CloseRound ∷ []) ++ rest)
    ∙ pair_read e.Union ts us rest a b (expr_ends h (l.Mark m.Comma ∷ (us ++ l.Mark m.CloseRound ∷ rest)) (record { stars = refl; signs = refl })) (expr_ends q (l.Mark m.CloseRound ∷ rest) (record { stars = refl; signs = refl }))
expr_ends (g.without {ts} {us} {a} {b} h q) rest ends =
    expr-eq ((l.Keyword k.Without ∷ l.Mark m.OpenRound ∷ ts ++ l.Mark m.Comma ∷ us ++ l.Mark m.CloseRound ∷ []) ++ rest)
    ∙ pair_read e.Without ts us rest a b (expr_ends h (l.Mark m.Comma ∷ (us ++ l.Mark m.CloseRound ∷ rest)) (record { stars = refl; signs = refl })) (expr_ends q (l.Mark m.CloseRound ∷ rest) (record { stars = refl; signs = refl }))

mapped_reaches : {A B : Type 0} (n : ℕ) (f : A → B) (y : Reading A) → Reaches n y → Reaches n (mapped f y)
mapped_reaches n f (Read a us) r = r
mapped_reaches n f (Cut a us c vs) r = r
mapped_reaches n f (Refused c vs) r = absurd r

pub expr_reach : {ts : Tokens} {a : Expr} → IsExpr ts a → (rest : Tokens) → Reaches (length rest) (expr (ts ++ rest))
expr_reach (g.operand {ts} {a} h) rest = let b = begun_operand h in rw (expr-eq (ts ++ rest), b.expr rest) (mapped_reaches (length rest) e.Plain (operand (ts ++ rest)) (operand_reach h rest))
expr_reach (g.set {ts} {items} h) rest = rw (expr-eq ((l.Keyword k.Set ∷ l.Mark m.OpenRound ∷ ts ++ l.Mark m.CloseRound ∷ []) ++ rest), whole-items h rest) (omega arith)
expr_reach (g.union {ts} {us} {a} {b} h q) rest =
    rw (
      expr-eq ((l.Keyword k.Union ∷ l.Mark m.OpenRound ∷ ts ++ l.Mark m.Comma ∷ us ++ l.Mark m.CloseRound ∷ []) ++ rest),
      pair_read e.Union ts us rest a b (expr_ends h (l.Mark m.Comma ∷ (us ++ l.Mark m.CloseRound ∷ rest)) (record { stars = refl; signs = refl })) (expr_ends q (l.Mark m.CloseRound ∷ rest) (record { stars = refl; signs = refl })),
    ) (omega arith)
expr_reach (g.without {ts} {us} {a} {b} h q) rest =
    rw (
      expr-eq ((l.Keyword k.Without ∷ l.Mark m.OpenRound ∷ ts ++ l.Mark m.Comma ∷ us ++ l.Mark m.CloseRound ∷ []) ++ rest),
      pair_read e.Without ts us rest a b (expr_ends h (l.Mark m.Comma ∷ (us ++ l.Mark m.CloseRound ∷ rest)) (record { stars = refl; signs = refl })) (expr_ends q (l.Mark m.CloseRound ∷ rest) (record { stars = refl; signs = refl })),
    ) (omega arith)
