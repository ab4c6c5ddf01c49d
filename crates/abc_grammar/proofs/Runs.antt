-- Machines that go over tokens one at a time. A machine that ends in one state after each reading of a list of
-- tokens shows that there is one reading.
use Rattle.std.proofs.Common.{◌≡◌, List, [], ◌∷◌, ◌++◌, Option, Some, None, refl, ap, ◌∙◌}
use Rattle.abc_grammar.specs.declared.lexemes.Lexeme.{Lexeme}

-- what comes next, if anything
abbrev pub then_run : {S : Type 0} → (S → Option S) → Option S → Option S
then_run go None = None
then_run go (Some s) = go s

then_cases : {S : Type 0} (o : Option S) (f g h : S → Option S) → ((r : S) → f r ≡ then_run g (h r)) → then_run f o ≡ then_run g (then_run h o)
then_cases None f g h e = refl
then_cases (Some r) f g h e = e r

then_some : {S : Type 0} (o : Option S) → then_run (λ r. Some r) o ≡ o
then_some None = refl
then_some (Some r) = refl

module _ {S : Type 0} (step : S → Lexeme → Option S) where
  abbrev pub run : S → List Lexeme → Option S
  run s [] = Some s
  run s (t ∷ ts) = then_run (λ r. run r ts) (step s t)

  run-append : (x : S) (ts us : List Lexeme) → run x (ts ++ us) ≡ then_run (λ r. run r us) (run x ts)
  run-append x [] us = refl
  run-append x (t ∷ ts) us = then_cases (step x t) _ _ _ (λ r. run-append r ts us)

  -- one list behind another
  pub run_on : (x y : S) (z : Option S) (ts us : List Lexeme) → run x ts ≡ Some y → run y us ≡ z → run x (ts ++ us) ≡ z
  run_on x y z ts us h k = run-append x ts us ∙ ap (then_run (λ r. run r us)) h ∙ k

  -- a token, and a list behind it
  pub run_next : (x y : S) (z : Option S) (t : Lexeme) (us : List Lexeme) → step x t ≡ Some y → run y us ≡ z → run x (t ∷ us) ≡ z
  run_next x y z t us h k = ap (then_run (λ r. run r us)) h ∙ k

  -- a last token
  pub run_end : (x : S) (t : Lexeme) (z : Option S) → step x t ≡ z → run x (t ∷ []) ≡ z
  run_end x t z h = then_some (step x t) ∙ h

inside_cases :
    {S T : Type 0} (outer : T → Lexeme → Option T) (inside : S → T) (o : Option S) (w : Option T) (ts : List Lexeme) (go : S → Option S) (y : S) →
    ((r : S) → o ≡ Some r → w ≡ Some (inside r)) →
    ((r : S) → go r ≡ Some y → run outer (inside r) ts ≡ Some (inside y)) →
    then_run go o ≡ Some y → then_run (λ r. run outer r ts) w ≡ Some (inside y)
inside_cases outer inside None w ts go y steps more h = cc
inside_cases outer inside (Some r) w ts go y steps more h = ap (then_run (λ q. run outer q ts)) (steps r refl) ∙ more r h

-- A machine within another: each step of the one is a step of the other.
pub run_inside :
    {S T : Type 0} (step : S → Lexeme → Option S) (outer : T → Lexeme → Option T) (inside : S → T) →
    ((s r : S) (t : Lexeme) → step s t ≡ Some r → outer (inside s) t ≡ Some (inside r)) →
    (ts : List Lexeme) (x y : S) → run step x ts ≡ Some y → run outer (inside x) ts ≡ Some (inside y)
run_inside step outer inside steps [] x y h = cc
run_inside step outer inside steps (t ∷ ts) x y h =
    inside_cases outer inside (step x t) (outer (inside x) t) ts (λ r. run step r ts) y (λ r. steps x r t) (λ r. run_inside step outer inside steps ts r y) h
