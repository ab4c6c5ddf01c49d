-- A machine for the tokens of a part within a machine for the whole.
use Rattle.std.proofs.Common.{◌≡◌, List, ◌∷◌, ◌++◌, Option, Some, None, ap, ◌∙◌}
use Rattle.abc_grammar.specs.declared.lexemes.Lexeme.{Lexeme}
use Rattle.abc_grammar.proofs.Runs.{run, run_on, run_next, run_inside}

-- What the outer machine makes of a token while a part comes: the part goes on, or it has come and something else
-- begins, or no part has begun.
abbrev pub taken : {S A T : Type 0} → (S → T) → (A → Option T) → Option T → Option S → Option A → Option T
taken inside behind fresh (Some s) whole = Some (inside s)
taken inside behind fresh None (Some a) = behind a
taken inside behind fresh None None = fresh

-- A part has come, and the tokens that stop it do.
pub record Came {S A : Type 0} (step : S → Lexeme → Option S) (value : S → Option A) (Stops : Lexeme → Type 0) (start : S) (ts : List Lexeme) (a : A) : Type 0 where
  pub state : S
  pub runs : run step start ts ≡ Some state
  pub whole : value state ≡ Some a
  pub stops : (t : Lexeme) → Stops t → step state t ≡ None

module _
    {S A T : Type 0} (step : S → Lexeme → Option S) (value : S → Option A) (Stops : Lexeme → Type 0) (start : S)
    (outer : T → Lexeme → Option T) (inside : S → T) (behind : Lexeme → A → Option T) (fresh : Lexeme → Option T)
    (is : (s : S) (t : Lexeme) → outer (inside s) t ≡ taken inside (behind t) (fresh t) (step s t) (value s)) where
  goes_on : (s r : S) (t : Lexeme) → step s t ≡ Some r → outer (inside s) t ≡ Some (inside r)
  goes_on s r t h = is s t ∙ ap (λ o. taken inside (behind t) (fresh t) o (value s)) h

  -- the part alone
  pub inside_run : (ts : List Lexeme) (a : A) (c : Came step value Stops start ts a) → run outer (inside start) ts ≡ Some (inside c.state)
  inside_run ts a c = run_inside step outer inside goes_on ts start c.state c.runs

  -- the token behind it
  pub behind_came : (ts : List Lexeme) (a : A) (c : Came step value Stops start ts a) (t : Lexeme) → Stops t → outer (inside c.state) t ≡ behind t a
  behind_came ts a c t e =
      is c.state t ∙ ap (λ o. taken inside (behind t) (fresh t) o (value c.state)) (c.stops t e)
      ∙ ap (taken inside (behind t) (fresh t) None) c.whole

  -- the part, a token that stops it, and what follows
  pub through :
      (ts : List Lexeme) (a : A) → Came step value Stops start ts a → (t : Lexeme) → Stops t →
      (y : T) (us : List Lexeme) (z : Option T) → behind t a ≡ Some y → run outer y us ≡ z → run outer (inside start) (ts ++ t ∷ us) ≡ z
  through ts a c t e y us z h k =
      run_on outer (inside start) (inside c.state) z ts (t ∷ us) (inside_run ts a c)
      (run_next outer (inside c.state) y z t us (behind_came ts a c t e ∙ h) k)
