-- What a walk comes to, said of another process with the same moves.
use Rattle.std.proofs.Common.{◌≡◌, ℕ, ◌∙◌}
use Rattle.abc_moves.specs.declared.walk.Walk.{Walk}
use Rattle.abc_moves.specs.declared.walk.Walk.TheVariants.{Found, Passed}
use Rattle.abc_moves.specs.Walks.{ComesTo}

pub comes_to : {M : Type 0} (P Q : M → Type 0) (place m n : ℕ) → ((x : M) → P x → Q x) → m ≡ n → (w : Walk M) → ComesTo P place m w → ComesTo Q place n w
comes_to P Q place m n f e (Found x) h = f x h
comes_to P Q place m n f e (Passed k) h = (h.0 ∙ e, h.1)
