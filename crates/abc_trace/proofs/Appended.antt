-- What calls append, one behind another.
use Rattle.std.proofs.Common.{◌≡◌, ◌∙◌, ℕ, List, ◌++◌, ap, append_assoc}

-- five of them, the last behind all others
pub appended-five :
    (o n₁ n₂ n₃ n₄ n₅ a b c d e : List ℕ) → n₁ ≡ o ++ a → n₂ ≡ n₁ ++ b → n₃ ≡ n₂ ++ c → n₄ ≡ n₃ ++ d → n₅ ≡ n₄ ++ e
    → n₅ ≡ o ++ ((a ++ (b ++ (c ++ d))) ++ e)
appended-five o n₁ n₂ n₃ n₄ n₅ a b c d e e₁ e₂ e₃ e₄ e₅ =
    let all : n₅ ≡ ((((o ++ a) ++ b) ++ c) ++ d) ++ e =
    e₅ ∙ ap (λ n. n ++ e) (e₄ ∙ ap (λ n. n ++ d) (e₃ ∙ ap (λ n. n ++ c) (e₂ ∙ ap (λ n. n ++ b) e₁))) in
    let regrouped : ((((o ++ a) ++ b) ++ c) ++ d) ++ e ≡ o ++ ((a ++ (b ++ (c ++ d))) ++ e) = simp append_assoc in
    all ∙ regrouped
