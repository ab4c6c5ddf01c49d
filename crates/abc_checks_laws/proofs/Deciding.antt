-- What can be decided, over any facts that can: two facts, a fact of an option's value, the first number at which a
-- fact holds, and the item of a list that comes first by a rank.
use Rattle.std.proofs.Common.{◌≡◌, ◌⊎◌, ◌<◌, ℕ, zero, suc, Bool, true, IsTrue, List, [], ◌∷◌, Option, Some, None, IsSomeAnd, All, slice_get, inl, inr, subst, arith}
use Rattle.std.proofs.lemmas.List.Elements.{All-cons}
use Rattle.std.proofs.Math.Bool.{Bool-discrete}
use Rattle.std.proofs.Math.Decide.{dec_lt}
use Rattle.abc_checks.specs.Sites.{IsFirstNumber}
use Rattle.abc_checks.specs.Facts.{Has}

pub both : {P Q : Type 0} → Dec P → Dec Q → Dec (P × Q)
both (yes p) (yes q) = yes (p, q)
both (yes p) (no n) = no (λ h. n h.1)
both (no n) d = no (λ h. n h.0)

pub either : {P Q : Type 0} → Dec P → Dec Q → Dec (P ⊎ Q)
either (yes p) d = yes (inl p)
either (no n) (yes q) = yes (inr q)
either (no n) (no m) = no (λ h. elim h [ inl p ↦ n p | inr q ↦ m q ])

pub never : Dec ⊥
never = no (λ h. h)

pub true_or_not : (b : Bool) → Dec (IsTrue b)
true_or_not b = Bool-discrete b true

pub in_option : {A : Type 0} (P : A → Type 0) → ((x : A) → Dec (P x)) → (o : Option A) → Dec (IsSomeAnd o P)
in_option P decide (Some x) = decide x
in_option P decide None = never

pub has_or_not : {A : Type 0} (has : A → Bool) (xs : List A) (i : ℕ) → Dec (Has has xs i)
has_or_not has xs i = in_option (λ x. IsTrue (has x)) (λ x. true_or_not (has x)) (slice_get xs i)

-- ---- The first number below a count

before_or_last : (k n : ℕ) → k < suc n → (k < n) ⊎ (k ≡ n)
before_or_last k n h = grind arith

module _ (Holds : ℕ → Type 0) (decide : (i : ℕ) → Dec (Holds i)) where
  abbrev pub FirstNumber : ℕ → Type 0
  FirstNumber n = (o : Option ℕ) × IsFirstNumber Holds n o

  none_further : (n : ℕ) → ((k : ℕ) → k < n → ¬ Holds k) → ¬ Holds n → (k : ℕ) → k < suc n → ¬ Holds k
  none_further n before last k lt h =
      elim (before_or_last k n lt) [ inl less ↦ before k less h | inr same ↦ last (subst Holds same h) ]

  one_further : (n : ℕ) (o : Option ℕ) → IsFirstNumber Holds n o → Dec (Holds n) → FirstNumber (suc n)
  one_further n (Some i) first d = (Some i, (omega (arith, first.0), first.1, first.2))
  one_further n None none (yes h) = (Some n, (omega arith, h, none))
  one_further n None none (no h) = (None, none_further n none h)

  pub first_number : (n : ℕ) → FirstNumber n
  first_number zero = (None, λ k lt h. absurd (omega arith))
  first_number (suc n) = let before = first_number n in one_further n before.0 before.1 (decide n)

-- ---- The item of a list that comes first by a rank

module _ {A : Type 0} (rank : A → ℕ) (Holds : A → Type 0) where
  -- the fact does not hold of y, if y comes before x
  abbrev NotBefore : A → A → Type 0
  NotBefore x y = rank y < rank x → ¬ Holds y

  abbrev pub FirstByRank : List A → Type 0
  FirstByRank xs = All (λ y. ¬ Holds y) xs ⊎ ((x : A) × Holds x × All (NotBefore x) xs)

  itself : (x : A) → NotBefore x x
  itself x less h = absurd (omega arith)

  -- x comes first of it and a list whose first item is y
  first_of_two : (x y : A) (xs : List A) → Holds x → Holds y → All (NotBefore y) xs → Dec (rank x < rank y)
      → FirstByRank (x ∷ xs)
  first_of_two x y xs here there none (yes lt) =
      let earlier : All (NotBefore x) xs = λ k d at less. none k d at (omega arith) in
      inr (x, here, All-cons (NotBefore x) x xs (itself x) earlier)
  first_of_two x y xs here there none (no ge) =
      let later : NotBefore y x = λ less h. ge less in
      inr (y, there, All-cons (NotBefore y) x xs later none)

  one_more : (x : A) (xs : List A) → Dec (Holds x) → FirstByRank xs → FirstByRank (x ∷ xs)
  one_more x xs (yes h) (inl none) =
      let alone : All (NotBefore x) xs = λ k d at less. none k d at in
      inr (x, h, All-cons (NotBefore x) x xs (itself x) alone)
  one_more x xs (yes h) (inr found) = first_of_two x found.0 xs h found.1 found.2 (dec_lt (rank x) (rank found.0))
  one_more x xs (no h) (inl none) = inl (All-cons (λ y. ¬ Holds y) x xs h none)
  one_more x xs (no h) (inr found) =
      inr (found.0, found.1, All-cons (NotBefore found.0) x xs (λ less. h) found.2)

  pub first_by_rank : ((x : A) → Dec (Holds x)) → (xs : List A) → FirstByRank xs
  first_by_rank decide [] = inl (λ k d lt. absurd (omega arith))
  first_by_rank decide (x ∷ xs) = one_more x xs (decide x) (first_by_rank decide xs)
