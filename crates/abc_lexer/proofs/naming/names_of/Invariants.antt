use Rattle.std.proofs.Common.{◌≡◌, ◌≤◌, length, take}
use Rattle.abc_text.specs.Meanings.{names_of}
use Rattle.abc_lexer.proofs.naming.names_of.Given as goal

abbrev pub invariant-loop-token : goal.invariant-loop-token
invariant-loop-token l = record { names : l.names ≡ names_of l.bytes (take l.token-index l.tokens); few : length l.names ≤ l.token-index }
