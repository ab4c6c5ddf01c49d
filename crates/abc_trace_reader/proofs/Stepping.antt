-- What each kind of line makes of what was read.
use Rattle.std.proofs.Common.{◌≡◌, ℕ, ◌+◌, ◌≤◌, ◌<◌, ◌^◌, Bool, true, false, List, [], ◌∷◌, ◌++◌, length, Option, Some, None, refl, sym, ap, ◌∙◌, subst, arith}
use Rattle.std.specs.Prelude.{is_some, ◌==◌, ◌↔◌, IsTrue, if◌then◌else◌, All, map}
use Rattle.std.specs.Borrow.{Bor}
use Rattle.std.proofs.lemmas.Bool.{eqb-true, eq-eqb}
use Rattle.std.proofs.lemmas.List.Elements.{All-nil, All-cons, All-tail}
use Rattle.abc_text.specs.Spelling.{IsWordSpelling}
use Rattle.abc_value.specs.declared.value.Value.{Value}
use Rattle.abc_text.specs.Meanings.{has_word, number_in, with_word}
use Rattle.abc_checks.specs.declared.limits.TheConstants.{MOST_COMPONENTS}
use Rattle.abc_trace.specs.declared.trace.Head.{Head}
use Rattle.abc_trace.specs.Texts.{limit_of}
use Rattle.abc_trace.specs.WellFormed.{nodes_of}
use Rattle.abc_trace_lines.specs.declared.parts.SaidParts.{SaidParts}
use Rattle.abc_trace_lines.specs.Plain as plain
use Rattle.abc_trace_lines.specs.Spelled.{IsSpelled, LinesAreOne}
use Rattle.abc_trace_lines.specs.Reading.{plain_tail, IsReadLine}
use Rattle.abc_trace_order.specs.declared.reading.Reading.{Reading}
use Rattle.abc_trace_order.specs.Lines.{last_line}
use Rattle.abc_trace_order.specs.Order.{Stage, Start, Admits, SaysPred, Refuses}
use Rattle.abc_trace_lines.specs.declared.parts.LineParts.{LineParts}
use Rattle.abc_trace_lines.specs.declared.parts.LineParts.TheVariants as parts
use Rattle.abc_trace_order.specs.Reading.{trace_of, stage_of, IsReading, EndsBy, MayBeNumber, MayBeNode, MayBeLast}
use Rattle.abc_trace_order.proofs.Growth.{EnvComes, NodeComes, last_ends}
use Rattle.abc_trace_order.proofs.Refusing.{refuses_one, components_many, number_admitted}

-- ---- the line of a number
-- It may not come,
pub number_late :
    LinesAreOne → (r : Reading) → IsReading r → (n : ℕ) (sender : List ℕ) (said : Option SaidParts) →
    IsSpelled (plain.Number n sender (plain_tail said)) → ¬ MayBeNumber r n (is_some said) →
    Refuses (stage_of r) (plain.line_text (plain.Number n sender (plain_tail said)))
number_late one r reading n sender said spelled never =
    refuses_one one (stage_of r) (plain.Number n sender (plain_tail said)) spelled (λ pred admits. never (number_admitted r reading n sender said admits))

-- or says a predicate that is none.
pub number_wrong :
    LinesAreOne → (r : Reading) (n : ℕ) (sender : List ℕ) (said : Option plain.Said) → IsSpelled (plain.Number n sender said) → ¬ SaysPred said →
    Refuses (stage_of r) (plain.line_text (plain.Number n sender said))
number_wrong one r n sender said spelled never =
    refuses_one one (stage_of r) (plain.Number n sender said) spelled (λ pred admits. never pred)

-- ---- the line of an environment
pub env_late :
    LinesAreOne → (r : Reading) → IsReading r → (component : List ℕ) (entries : List (List ℕ × Value)) → IsSpelled (plain.Env component entries) →
    ¬ EnvComes r component → Refuses (stage_of r) (plain.line_text (plain.Env component entries))
env_late one r reading component entries spelled never =
    refuses_one one (stage_of r) (plain.Env component entries) spelled (λ pred admits. never (record {
      before = admits.0;
      new = admits.1;
      room = let many = components_many r reading in omega (arith, many, admits.2);
    }))

-- ---- the line of a node
pub node_late :
    LinesAreOne → (r : Reading) → IsReading r → (node handled : ℕ) → IsSpelled (plain.Node node handled) → ¬ MayBeNode r node →
    Refuses (stage_of r) (plain.line_text (plain.Node node handled))
node_late one r reading node handled spelled never =
    let many = components_many r reading in
    refuses_one one (stage_of r) (plain.Node node handled) spelled
    (λ pred admits. never (omega (arith, many, admits.0), admits.1, admits.2))

pub node_comes : (r : Reading) (node : ℕ) → MayBeNode r node → NodeComes r node
node_comes r node may = record { some = may.0; next = may.1; room = may.2 }

-- ---- the last line
pub last_late :
    LinesAreOne → (r : Reading) → IsReading r → (limited : Bool) (count : ℕ) → IsSpelled (plain.Last limited count) → ¬ MayBeLast r limited count →
    Refuses (stage_of r) (plain.line_text (plain.Last limited count))
last_late one r reading limited count spelled never =
    let many = components_many r reading in
    refuses_one one (stage_of r) (plain.Last limited count) spelled
    (λ pred admits. never (omega (arith, many, admits.0), admits.1, admits.2, ends admits.2 admits.3))
  where
    ends : count ≡ length r.lines → limited ≡ (length r.lines == limit_of r.head) → limited ≡ (count == limit_of r.head)
    ends counted end_is = end_is ∙ ap (λ n. n == limit_of r.head) (sym counted)

pub last_comes :
    (r : Reading) → IsReading r → (limited : Bool) (count : ℕ) → MayBeLast r limited count → EndsBy r (plain.line_text (plain.Last limited count)) r
last_comes r reading limited count may =
    let counted = may.2 in
    let same : last_line (trace_of r) ≡ plain.Last limited count =
    ap (λ n. plain.Last (n == limit_of r.head) n) (sym counted) ∙ ap (λ b. plain.Last b count) (sym may.3) in
    subst (λ (x : plain.Line). EndsBy r (plain.line_text x) r) same (last_ends r reading may.0 may.1)

-- ---- tests
pub refuted : {P : Type 0} (b : Bool) → (IsTrue b ↔ P) → b ≡ false → ¬ P
refuted b h e p = let yes : b ≡ true = h.1 p in let never : true ≡ false = sym yes ∙ e in cc

pub confirmed : {P : Type 0} (b : Bool) → (IsTrue b ↔ P) → b ≡ true → P
confirmed b h e = h.0 e

-- nothing is there
pub is_none : {A : Type 0} (xs : List A) (b : Bool) → b ≡ (length xs == 0) → b ≡ true → length xs ≡ 0
is_none xs b is e = eqb-true (length xs) 0 (sym is ∙ e)

-- something is
pub is_some_item : {A : Type 0} (xs : List A) (b : Bool) → b ≡ (length xs == 0) → b ≡ false → ¬ (xs ≡ [])
is_some_item {A} xs b is e none =
    let yes : (length xs == 0) ≡ true = eq-eqb (length xs) 0 (ap (length {A = A}) none) in
    let never : true ≡ false = sym yes ∙ sym is ∙ e in cc

-- ---- lines of the other kinds
-- a first line behind another
pub first_late :
    LinesAreOne → (s : Stage) (line : List ℕ) (o : Option LineParts) → IsReadLine line o → (p : LineParts) → o ≡ Some p → (head : Head) →
    p ≡ parts.First head → (Admits s (plain.First head) → ⊥) → Refuses s line
first_late one s line o read p is head first never =
    let read' = subst (IsReadLine line) (is ∙ ap Some first) read in
    subst (Refuses s) read'.1 (refuses_one one s (plain.First head) read'.0 (λ pred admits. never admits))

-- the line of a number before the first
pub number_early :
    LinesAreOne → (line : List ℕ) (o : Option LineParts) → IsReadLine line o → (p : LineParts) → o ≡ Some p →
    (n : ℕ) (sender : Bor (List ℕ)) (said : Option SaidParts) → p ≡ parts.Number n sender said → Refuses Start line
number_early one line o read p is n sender said first =
    let read' = subst (IsReadLine line) (is ∙ ap Some first) read in
    subst (Refuses Start) read'.1 (refuses_one one Start (plain.Number n sender.now (plain_tail said)) read'.0 (λ pred admits. admits))

-- ---- words
-- a word that is new stands last
pub with_new : (words : List (List ℕ)) (word : List ℕ) → has_word words word ≡ false → with_word words word ≡ words ++ word ∷ []
with_new words word h = ap (λ (b : Bool). if b then words else words ++ word ∷ []) h

-- words behind references
pub unmapped : (ws : List (Bor (List ℕ))) → All IsWordSpelling (map (λ w. w.now) ws) → All (λ w. IsWordSpelling w.now) ws
unmapped [] h = All-nil (λ w. IsWordSpelling w.now)
unmapped (w ∷ ws) h =
    All-cons (λ w. IsWordSpelling w.now) w ws (h 0 w.now (omega arith)) (unmapped ws (All-tail IsWordSpelling w.now (map (λ w. w.now) ws) h))
