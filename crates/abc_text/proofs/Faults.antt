-- A bad token is bad for a cause of tokens.
use Rattle.std.proofs.Common.{ℕ, List, [], ◌∷◌, Some, subst}
use Rattle.abc_text.specs.declared.lexical.Before.{Before}
use Rattle.abc_text.specs.declared.lexical.Before.TheVariants.{Open}
use Rattle.abc_text.specs.declared.lexical.Next.{Next}
use Rattle.abc_text.specs.declared.lexical.Next.TheVariants.{End, Good, Bad}
use Rattle.abc_text.specs.declared.lexical.Token.{Token}
use Rattle.abc_text.specs.declared.lexical.Fault.{Fault}
use Rattle.abc_text.specs.Tokens.{skip, next, stands_after, spelled, left, IsLexical, IsRead}
use Rattle.abc_text.specs.Laws.{FaultsAreLexical}
use Rattle.abc_text.proofs.ByKind.{by_kind}

IfBad : List ℕ → Next → Type 0
IfBad bytes (Bad c) = IsLexical c
IfBad bytes End = Unit {0}
IfBad bytes (Good k n) = Unit {0}

bad_is : (before : Before) (bytes : List ℕ) → IfBad bytes (next before bytes)
unfolding IfBad
bad_is before = by_kind before IfBad tt (λ _ c h. h) (λ _ _ _. tt) (λ _ _ _. tt) (λ _ _. tt) (λ _ _ _ _ _. tt) (λ _ _ _. tt) (λ _ _ _ _. tt)

lexical : (size : ℕ) (before : Before) (bytes : List ℕ) (ts : List Token) (fault : Fault) → IsRead size before bytes ts (Some fault) →
    IsLexical fault.cause
unfolding IfBad
lexical size before bytes [] fault h = subst (IfBad (skip bytes)) h.0 (bad_is before (skip bytes))
lexical size before bytes (t ∷ ts) fault h = lexical size (stands_after before t.kind (spelled bytes t)) (left bytes t) ts fault h.1

pub faults_are_lexical : FaultsAreLexical
faults_are_lexical bytes ts fault h = lexical _ Open bytes ts fault h
