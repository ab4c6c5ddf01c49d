-- Tokens that begin a text of the grammar are walked to their end, crowded brackets aside.
use Rattle.std.proofs.Common.{◌≡◌, Bool, true, false, List, [], ◌∷◌, ◌++◌, Some}
use Rattle.abc_grammar.specs.declared.lexemes.Lexeme.{Lexeme}
use Rattle.abc_grammar.specs.Limits.{Begins}
use Rattle.abc_grammar.specs.Refusals.{IsSomeProgram}
use Rattle.abc_grammar_laws.specs.Crowding.{walk, at_start, BeginningsAreWalked}
use Rattle.abc_grammar_laws.proofs.Walks.{roomy_none, program_flat}
use Rattle.abc_grammar_laws.proofs.NoneTooMany.{passed_front}

apart : ¬ (false ≡ true)
apart e = cc

pub beginnings_are_walked : BeginningsAreWalked
beginnings_are_walked ts (more, (p, q)) =
    let all = program_flat false (ts ++ more) p q (λ e. absurd (apart e)) false [] (roomy_none false) in
    let front = passed_front false (Some at_start) ts more (false, (all.0, [])) all.1 in
    (front.0, front.1)
