-- Worked examples of the grammar, of fronts and of refusals.
use Rattle.std.specs.Prelude.{◌≡◌, ℕ, zero, suc, length, List, [], ◌∷◌, ◌++◌, Some, None, pos, negsuc, codes, replicate}
use Rattle.abc_value.specs.declared.scalar.Scalar.TheVariants as s
use Rattle.abc_value.specs.declared.value.Value.TheVariants as v
use Rattle.abc_pred.specs.declared.names.Name.{Name}
use Rattle.abc_pred.specs.Terms as t
use Rattle.abc_term.specs.Processes.{Process}
use Rattle.abc_term.specs.Processes as P
use Rattle.abc_cause.specs.declared.Cause.TheVariants.{Syntax, BadByte}
use Rattle.abc_text.specs.declared.lexical.TokenKind.{TokenKind}
use Rattle.abc_text.specs.declared.lexical.TokenKind.TheVariants.{Word, Variable, Number, Symbol}
use Rattle.abc_text.specs.declared.lexical.Token.{Token}
use Rattle.abc_text.specs.Meanings.{names_of}
use Rattle.abc_grammar.specs.declared.lexemes.Lexeme.{Lexeme}
use Rattle.abc_grammar.specs.declared.lexemes.Lexeme.TheVariants as l
use Rattle.abc_text.specs.declared.words.Mark.TheVariants as m
use Rattle.abc_text.specs.declared.words.Keyword.TheVariants as k
use Rattle.abc_grammar.specs.Lexemes.{lexemes_of}
use Rattle.abc_grammar.specs.Operands.{IsOperand}
use Rattle.abc_grammar.specs.Preds.{IsPred}
use Rattle.abc_grammar.specs.Processes.{IsProcess}
use Rattle.abc_grammar.specs.Programs.{IsProgram}
use Rattle.abc_grammar.specs.Limits.{IsTooDeep, IsTooLarge, BeginsExtraExpr, BeginsExtraVariable, BeginsExtraScalar}
use Rattle.abc_grammar.specs.Sizes.{size_of}
use Rattle.abc_grammar.specs.Refusals.{IsSomeProgram, IsFirstOfProgram, IsFirstOfPred}
use Rattle.abc_grammar.specs.Fronts.{IsLongest}

-- ---- how the examples are written
abbrev pub name : ℕ → Name
name n = record { 0 = n }

-- the words a, b and K of the examples have the numbers 0, 1 and 2
abbrev pub a : Lexeme
a = l.Name (name 0)

abbrev pub b : Lexeme
b = l.Name (name 1)

abbrev pub K : Lexeme
K = l.Name (name 2)

abbrev pub number : ℕ → t.Operand
number n = t.Literal (v.Scalar (s.Number (pos n)))

abbrev pub minus_one : t.Operand
minus_one = t.Literal (v.Scalar (s.Number (negsuc 0)))

abbrev pub attr_a : t.Operand
attr_a = t.Attr (name 0)

abbrev pub token : TokenKind → ℕ → ℕ → Token
token kind place len = record { kind = kind; place = place; len = len }

-- ---- what tokens stand for
-- `a in $in` : a keyword may stand behind $, and the numbers of names are by first meeting
abbrev pub InIn : Type 0
InIn =
    let ts : List Token = token Word 0 1 ∷ token Word 2 2 ∷ token Variable 5 3 ∷ [] in
    lexemes_of (names_of (codes "a in $in") ts) (codes "a in $in") ts
    ≡ l.Name (name 0) ∷ l.Keyword k.In ∷ l.Variable (name 1) ∷ []

-- `x:=007;` : leading zeros
abbrev pub Becomes007 : Type 0
Becomes007 =
    let ts : List Token = token Word 0 1 ∷ token Symbol 1 2 ∷ token Number 3 3 ∷ token Symbol 6 1 ∷ [] in
    lexemes_of (names_of (codes "x:=007;") ts) (codes "x:=007;") ts
    ≡ l.Name (name 0) ∷ l.Mark m.Becomes ∷ l.Number 7 ∷ l.Mark m.Semicolon ∷ []

-- ---- operands
-- `a - -1` : the second - is a sign
abbrev pub MinusMinusOne : Type 0
MinusMinusOne = IsOperand (a ∷ l.Mark m.Minus ∷ l.Mark m.Minus ∷ l.Number 1 ∷ []) (t.Sub attr_a minus_one)

-- `a - 1 - 2` : to the left, and in no other way
abbrev pub ToTheLeft : Type 0
ToTheLeft = IsOperand (a ∷ l.Mark m.Minus ∷ l.Number 1 ∷ l.Mark m.Minus ∷ l.Number 2 ∷ []) (t.Sub (t.Sub attr_a (number 1)) (number 2))

abbrev pub NotToTheRight : Type 0
NotToTheRight = ¬ IsOperand (a ∷ l.Mark m.Minus ∷ l.Number 1 ∷ l.Mark m.Minus ∷ l.Number 2 ∷ []) (t.Sub attr_a (t.Sub (number 1) (number 2)))

-- `(a + 1) * size({2, 1, 2})` : brackets are dropped, and a set literal is the set of its members
abbrev pub SumTimesSize : Type 0
SumTimesSize =
    IsOperand
    (l.Mark m.OpenRound ∷ a ∷ l.Mark m.Plus ∷ l.Number 1 ∷ l.Mark m.CloseRound ∷ l.Mark m.Star ∷ l.Keyword k.Size ∷ l.Mark m.OpenRound
    ∷ l.Mark m.OpenCurly ∷ l.Number 2 ∷ l.Mark m.Comma ∷ l.Number 1 ∷ l.Mark m.Comma ∷ l.Number 2 ∷ l.Mark m.CloseCurly ∷ l.Mark m.CloseRound ∷ [])
    (t.Mul (t.Add attr_a (number 1)) (t.Size (t.Literal (v.Set (s.Number (pos 1) ∷ s.Number (pos 2) ∷ [])))))

-- `- - 3`, `a +` and `size(union(a, b))` are no operands
abbrev pub IsNoOperand : List Lexeme → Type 0
IsNoOperand ts = (o : t.Operand) → ¬ IsOperand ts o

abbrev pub TwoSigns : Type 0
TwoSigns = IsNoOperand (l.Mark m.Minus ∷ l.Mark m.Minus ∷ l.Number 3 ∷ [])

abbrev pub PlusNothing : Type 0
PlusNothing = IsNoOperand (a ∷ l.Mark m.Plus ∷ [])

abbrev pub SizeOfUnion : Type 0
SizeOfUnion =
    IsNoOperand
    (l.Keyword k.Size ∷ l.Mark m.OpenRound ∷ l.Keyword k.Union ∷ l.Mark m.OpenRound ∷ a ∷ l.Mark m.Comma ∷ b ∷ l.Mark m.CloseRound ∷ l.Mark m.CloseRound ∷ [])

-- 2^63 is a number behind a sign alone
abbrev pub LeastNumber : Type 0
LeastNumber = IsOperand (l.Mark m.Minus ∷ l.Number 9223372036854775808 ∷ []) (t.Literal (v.Scalar (s.Number (negsuc 9223372036854775807))))

abbrev pub TooGreat : Type 0
TooGreat = IsNoOperand (l.Number 9223372036854775808 ∷ [])

-- ---- predicates
-- `not a = 1 and tt or ff` : not binds tightest, then and
abbrev pub Precedence : Type 0
Precedence =
    IsPred (l.Keyword k.Not ∷ a ∷ l.Mark m.Equal ∷ l.Number 1 ∷ l.Keyword k.And ∷ l.Keyword k.Tt ∷ l.Keyword k.Or ∷ l.Keyword k.Ff ∷ [])
    (t.Or (t.And (t.Not (t.Same attr_a (number 1))) t.True) t.False)

-- `((a = 1))` is none: brackets of predicates are square
abbrev pub RoundBrackets : Type 0
RoundBrackets =
    (p : t.Pred) →
    ¬ IsPred (l.Mark m.OpenRound ∷ l.Mark m.OpenRound ∷ a ∷ l.Mark m.Equal ∷ l.Number 1 ∷ l.Mark m.CloseRound ∷ l.Mark m.CloseRound ∷ []) p

-- ---- processes and programs
-- `(a) @ (tt) . [b := 1] 0 + K | {0}` : + binds tighter than |
abbrev pub ChoiceAndPar : Type 0
ChoiceAndPar =
    IsProcess
    (l.Mark m.OpenRound ∷ a ∷ l.Mark m.CloseRound ∷ l.Mark m.At ∷ l.Mark m.OpenRound ∷ l.Keyword k.Tt ∷ l.Mark m.CloseRound ∷ l.Mark m.Dot
    ∷ l.Mark m.OpenSquare ∷ b ∷ l.Mark m.Becomes ∷ l.Number 1 ∷ l.Mark m.CloseSquare ∷ l.Number 0 ∷ l.Mark m.Plus ∷ K ∷ l.Mark m.Bar
    ∷ l.Mark m.OpenCurly ∷ l.Number 0 ∷ l.Mark m.CloseCurly ∷ [])
    (P.Par (P.Choice (P.Output (t.Plain attr_a ∷ []) t.True ((name 1, t.Plain (number 1)) ∷ []) P.Nil) (P.Call (name 2))) P.Nil)

-- `1` is no process
abbrev pub OneIsNone : Type 0
OneIsNone = (A : Process) → ¬ IsProcess (l.Number 1 ∷ []) A

-- `abc 1; def K = 0; comp a { b = 1; show b; run K; }`
abbrev pub SmallProgram : Type 0
SmallProgram =
    IsProgram
    (l.Keyword k.Abc ∷ l.Number 1 ∷ l.Mark m.Semicolon
    ∷ l.Keyword k.Def ∷ K ∷ l.Mark m.Equal ∷ l.Number 0 ∷ l.Mark m.Semicolon
    ∷ l.Keyword k.Comp ∷ a ∷ l.Mark m.OpenCurly ∷ b ∷ l.Mark m.Equal ∷ l.Number 1 ∷ l.Mark m.Semicolon
    ∷ l.Keyword k.Show ∷ b ∷ l.Mark m.Semicolon ∷ l.Keyword k.Run ∷ K ∷ l.Mark m.Semicolon ∷ l.Mark m.CloseCurly ∷ [])
    (record {
      definitions = (name 2, P.Nil) ∷ [];
      components = record { name = name 0; initial = (name 1, v.Scalar (s.Number (pos 1))) ∷ []; show = name 1 ∷ []; run = P.Call (name 2) } ∷ [];
    })

-- ---- limits
-- of 101 brackets the last is too many, and no other
abbrev pub BracketsOf101 : Type 0
BracketsOf101 = IsTooDeep (replicate 101 (l.Mark m.OpenRound)) 100

abbrev pub BracketsOf100 : Type 0
BracketsOf100 = ¬ IsTooDeep (replicate 101 (l.Mark m.OpenRound)) 99

-- n + 1 times the number 1, parted by commas
abbrev pub ones : ℕ → List Lexeme
ones zero = l.Number 1 ∷ []
ones (suc n) = ones n ++ l.Mark m.Comma ∷ l.Number 1 ∷ []

-- `abc 1; comp a { show; run ` and then an output: its ninth expression is too many, and its eighth is not
abbrev pub run_a : List Lexeme
run_a =
    l.Keyword k.Abc ∷ l.Number 1 ∷ l.Mark m.Semicolon ∷ l.Keyword k.Comp ∷ a ∷ l.Mark m.OpenCurly ∷ l.Keyword k.Show ∷ l.Mark m.Semicolon ∷ l.Keyword k.Run ∷ []

abbrev pub NinthExpr : Type 0
NinthExpr = BeginsExtraExpr IsSomeProgram (run_a ++ l.Mark m.OpenRound ∷ ones 8) 26

-- of an input the ninth variable
abbrev pub variables : ℕ → List Lexeme
variables zero = l.Variable (name 1) ∷ []
variables (suc n) = variables n ++ l.Mark m.Comma ∷ l.Variable (name 1) ∷ []

abbrev pub NinthVariable : Type 0
NinthVariable =
    BeginsExtraVariable IsSomeProgram
    (run_a ++ l.Mark m.Question ∷ l.Mark m.OpenRound ∷ l.Keyword k.Tt ∷ l.Mark m.CloseRound ∷ l.Mark m.OpenRound ∷ variables 8) 30

-- of a set literal the 257th scalar, whatever stands before it
abbrev pub ExtraScalar : Type 0
ExtraScalar =
    (before : List Lexeme) (t : Lexeme) →
    let front : List Lexeme = before ++ l.Mark m.OpenCurly ∷ ones 255 ++ l.Mark m.Comma ∷ [] in
    BeginsExtraScalar (front ++ t ∷ []) (length front)

-- of a definition the 2,049th token
abbrev pub ExtraToken : Type 0
ExtraToken = IsTooLarge (l.Keyword k.Def ∷ replicate 2048 (l.Number 0)) 2048

-- `a - -1 in {1, -2}` has the size 5
abbrev pub SizeFive : Type 0
SizeFive =
    size_of
    (a ∷ l.Mark m.Minus ∷ l.Mark m.Minus ∷ l.Number 1 ∷ l.Keyword k.In ∷ l.Mark m.OpenCurly ∷ l.Number 1 ∷ l.Mark m.Comma ∷ l.Mark m.Minus ∷ l.Number 2 ∷ l.Mark m.CloseCurly ∷ [])
    ≡ 5

-- ---- fronts and refusals
-- of `tt and not` the longest front that is a predicate is `tt`
abbrev pub FrontOfOne : Type 0
FrontOfOne = IsLongest (l.Keyword k.Tt ∷ l.Keyword k.And ∷ l.Keyword k.Not ∷ []) 1 t.True

-- of `)` none is, and it is refused at its first token
abbrev pub NoFront : Type 0
NoFront = IsFirstOfPred (l.Mark m.CloseRound ∷ []) None Syntax 0

-- `abc 3;` is refused at its second token, as a program
abbrev pub HeaderOfThree : Type 0
HeaderOfThree = IsFirstOfProgram (l.Keyword k.Abc ∷ l.Number 3 ∷ l.Mark m.Semicolon ∷ []) None Syntax 1

-- `->` : a - may begin a predicate, and the bad byte behind it is refused
abbrev pub Arrow : Type 0
Arrow = IsFirstOfPred (l.Mark m.Minus ∷ []) (Some (record { place = 1; cause = BadByte })) BadByte 1
