-- The machine of operands as a part of another.
use Rattle.std.proofs.Common.{◌≡◌, List, Option, Some, None, ap}
use Rattle.abc_pred.specs.Terms.{Operand}
use Rattle.abc_grammar.specs.declared.lexemes.Lexeme.{Lexeme}
use Rattle.abc_grammar.specs.Operands.{IsOperand}
use Rattle.abc_grammar.proofs.OperandRuns.{State, Want, Have, Sign, Own, OwnDot, Call, Members, Member, MemberSign, Left, summed, Around, Outside, Inside, start, step, having, operand_run, Stands}
use Rattle.abc_grammar.proofs.Embedded.{Came}

-- the operand that has come, where no bracket is open
abbrev pub whole : Left → Operand → Around → Option Operand
whole sum a Outside = Some (summed sum a)
whole sum a (Inside bracket left factor around) = None

abbrev pub value : State → Option Operand
value (Have sum a around) = whole sum a around
value (Want sum factor around) = None
value (Sign sum factor around) = None
value (Own sum factor around) = None
value (OwnDot sum factor around) = None
value (Call bracket sum factor around) = None
value (Members sum factor around xs) = None
value (Member sum factor around xs) = None
value (MemberSign sum factor around xs) = None

-- no operand goes on with this token
abbrev pub Stops : Lexeme → Type 0
Stops t = (sum : Left) (a : Operand) → having sum a Outside t ≡ None

abbrev pub OperandCame : List Lexeme → Operand → Type 0
OperandCame ts a = Came step value Stops start ts a

pub came : {ts : List Lexeme} {a : Operand} → IsOperand ts a → OperandCame ts a
came {ts} {a} h =
    let r : Stands ts Outside a = operand_run h Outside in
    record { state = Have r.sum r.last Outside; runs = r.runs; whole = ap Some r.is; stops = λ t e. e r.sum r.last }
