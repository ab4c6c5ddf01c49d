-- What the answers of the code's tests say of the facts.
use Rattle.std.proofs.Common.{◌≡◌, ◌≤◌, ◌<◌, ◌↔◌, ◌⊎◌, ℕ, ◌+◌, zero, suc, Bool, true, false, IsTrue, List, [], ◌∷◌, length, inl, inr, get_or, refl, sym, ◌∙◌, ap, subst, arith, nat_lt, Some, None, if◌then◌else◌}
use Rattle.std.proofs.lemmas.Bool.Decides.{nat_tests}
use Rattle.abc_pred.specs.declared.names.Name.{Name}
use Rattle.abc_term.specs.Processes.{Process, Definitions}
use Rattle.abc_term.specs.declared.terms.Program.{Program}
use Rattle.abc_checks.specs.Measures.{width_of, breadth_of, has_broad_part, IsLeastSolution, IsTooWide, HasTooManyMoves}
use Rattle.abc_checks.specs.Sites.{IsFirstSite, ComesBefore}
use Rattle.abc_checks.specs.Facts.{AtWhole, HasFact, rank, IsChecked, IsFirstFact}
use Rattle.abc_checks.specs.declared.causes.Site.{Site}
use Rattle.abc_checks.specs.declared.causes.Site.TheVariants.{Definition, Component, Whole}
use Rattle.abc_cause.specs.declared.CheckCause.{CheckCause}
use Rattle.abc_cause.specs.declared.CheckCause.TheVariants.{DoubleName, UnknownName, OpenVariable, Unguarded, ParallelCycle, TooWide, TooManyMoves, NoComponent, TooManyComponents}
use Rattle.abc_checks.specs.declared.checking.TheConstants.{CAUSES}
use Rattle.abc_checks.proofs.Solving.{width_rises}

above : (n : ℕ) → nat_lt 64 n ≡ true → 64 < n
above n h = grind (arith, nat_tests)

is_above : (n : ℕ) → 64 < n → nat_lt 64 n ≡ true
is_above n h = grind (arith, nat_tests)

pub wide_answer : (defs : Definitions) (w : Name → ℕ) (P : Process) (n : ℕ) → IsLeastSolution width_of defs w → n ≡ width_of w P → IsTrue (nat_lt 64 n) ↔ IsTooWide defs P
wide_answer defs w P n least e = (
  λ h. (w, least, subst (λ (k : ℕ). 64 < k) e (above n h)),
  λ t.
      let less : width_of t.0 P ≤ width_of w P = width_rises t.0 w (λ c. t.1.least w least.solution c) P in
      is_above n (omega (arith, less, e, t.2)),
)

between : (m n : ℕ) → m ≤ n → n ≤ m → m ≡ n
between m n h k = omega arith

pub one_solution : (measure : (Name → ℕ) → Process → ℕ) (defs : Definitions) (v w : Name → ℕ) → IsLeastSolution measure defs v → IsLeastSolution measure defs w → v ≡ w
one_solution measure defs v w a b =
    λ i c. between (v c) (w c) (a.least w b.solution c) (b.least v a.solution c) i

pub broad_answer : (defs : Definitions) (w : Name → ℕ) (P : Process) (b : Bool) → IsLeastSolution breadth_of defs w → b ≡ has_broad_part w P → IsTrue b ↔ HasTooManyMoves defs P
broad_answer defs w P b least e = (
  λ h. (w, least, sym e ∙ h),
  λ t. e ∙ ap (λ (v : Name → ℕ). has_broad_part v P) (one_solution breadth_of defs w t.0 least t.1) ∙ t.2,
)

-- ---- Sites of the whole program

nowhere_else : (Holds : Type 0) (t : Site) → ComesBefore t Whole → ¬ AtWhole Holds t
nowhere_else Holds (Definition i) b h = h
nowhere_else Holds (Component i) b h = h
nowhere_else Holds Whole b h = b

nowhere : (Holds : Type 0) → ¬ Holds → (t : Site) → ¬ AtWhole Holds t
nowhere Holds no_such (Definition i) h = h
nowhere Holds no_such (Component i) h = h
nowhere Holds no_such Whole h = no_such h

pub whole_site : (Holds : Type 0) (b : Bool) → (b ≡ true → Holds) → (b ≡ false → ¬ Holds) → IsFirstSite (AtWhole Holds) (if b then Some Whole else None)
whole_site Holds true yes_if no_if = (yes_if refl, nowhere_else Holds)
whole_site Holds false yes_if no_if = nowhere Holds (no_if refl)

-- ---- The order of causes

of_rank : (d : CheckCause) → d ≡ get_or CAUSES (rank d) DoubleName
of_rank DoubleName = refl
of_rank UnknownName = refl
of_rank OpenVariable = refl
of_rank Unguarded = refl
of_rank ParallelCycle = refl
of_rank TooWide = refl
of_rank TooManyMoves = refl
of_rank NoComponent = refl
of_rank TooManyComponents = refl

rank_at : (i : ℕ) → i < 9 → rank (get_or CAUSES i DoubleName) ≡ i
rank_at zero h = refl
rank_at (suc zero) h = refl
rank_at (suc (suc zero)) h = refl
rank_at (suc (suc (suc zero))) h = refl
rank_at (suc (suc (suc (suc zero)))) h = refl
rank_at (suc (suc (suc (suc (suc zero))))) h = refl
rank_at (suc (suc (suc (suc (suc (suc zero)))))) h = refl
rank_at (suc (suc (suc (suc (suc (suc (suc zero))))))) h = refl
rank_at (suc (suc (suc (suc (suc (suc (suc (suc zero)))))))) h = refl
rank_at (suc (suc (suc (suc (suc (suc (suc (suc (suc i))))))))) h = absurd (omega arith)

pub same_default : (xs : List CheckCause) (i : ℕ) (a b : CheckCause) → i < length xs → get_or xs i a ≡ get_or xs i b
same_default [] i a b h = absurd (omega arith)
same_default (x ∷ xs) zero a b h = refl
same_default (x ∷ xs) (suc i) a b h = same_default xs i a b (omega arith)

rank_below : (d : CheckCause) → rank d < 9
rank_below DoubleName = omega arith
rank_below UnknownName = omega arith
rank_below OpenVariable = omega arith
rank_below Unguarded = omega arith
rank_below ParallelCycle = omega arith
rank_below TooWide = omega arith
rank_below TooManyMoves = omega arith
rank_below NoComponent = omega arith
rank_below TooManyComponents = omega arith

module _ (p : Program) where
  -- none of the causes before a number has a fact
  abbrev pub NoneBefore : ℕ → Type 0
  NoneBefore i = (d : CheckCause) → rank d < i → (t : Site) → ¬ HasFact d p t

  pub none_at_all : (n : ℕ) → 9 ≤ n → NoneBefore n → IsChecked p
  none_at_all n at none d t h = let below : rank d < n = omega (arith, rank_below d) in none d below t h

  pub one_further : (i : ℕ) (e : CheckCause) → i < 9 → e ≡ get_or CAUSES i e → NoneBefore i → IsFirstSite (HasFact e p) None → NoneBefore (i + 1)
  one_further i e lt at none here d less t h =
      let either : (rank d < i) ⊎ (rank d ≡ i) = grind arith in
      elim either [
        | inl before ↦ none d before t h
        | inr equal ↦
            let same : d ≡ e = of_rank d ∙ ap (λ (k : ℕ). get_or CAUSES k DoubleName) equal ∙ same_default CAUSES i DoubleName e lt ∙ sym at in
            here t (subst (λ (c : CheckCause). HasFact c p t) same h)
      ]

  pub first_found : (i : ℕ) (e : CheckCause) (s : Site) → i < 9 → e ≡ get_or CAUSES i e → NoneBefore i → IsFirstSite (HasFact e p) (Some s) → IsFirstFact p e s
  first_found i e s lt at none here = record {
    holds = here.0;
    first_cause = λ d less t. none d (subst (λ (k : ℕ). rank d < k) (ap rank (at ∙ same_default CAUSES i e DoubleName lt) ∙ rank_at i lt) less) t;
    first_site = here.1;
  }
