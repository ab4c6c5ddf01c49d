-- Logs have one merge: two lists in order with the same entries are the same.
use Rattle.std.proofs.Common.{◌≡◌, ℕ, ◌<◌, List, [], ◌∷◌, length, refl, sym, ap, ◌∙◌, subst, arith}
use Rattle.std.proofs.Common.{inl, inr}
use Rattle.abc_packet.specs.declared.log.Entry.{Entry}
use Rattle.abc_logs.specs.Merges.{IsBefore, IsBeforeAll, AreInOrder, Has, AreOf, log_of}
use Rattle.abc_merge.specs.Laws.{MergesAreOne}

-- Of two entries only one stands before the other.
never-both : {L : Type 0} (logs : List (List (Entry L))) (x y : ℕ × ℕ) → IsBefore logs x y → IsBefore logs y x → ⊥
never-both logs x y (inl l) (inl m) = omega (arith, l, m)
never-both logs x y (inl l) (inr (e, rest)) = omega (arith, l, e)
never-both logs x y (inr (e, rest)) (inl m) = omega (arith, e, m)
never-both logs x y (inr (e, inl l)) (inr (f, inl m)) = omega (arith, l, m)
never-both logs x y (inr (e, inl l)) (inr (f, inr (a, m))) = omega (arith, l, a)
never-both logs x y (inr (e, inr (a, l))) (inr (f, inl m)) = omega (arith, a, m)
never-both logs x y (inr (e, inr (a, l))) (inr (f, inr (b, m))) = omega (arith, l, m)

-- What stands before all stands before each.
before-each : {L : Type 0} (logs : List (List (Entry L))) (x : ℕ × ℕ) (ys : List (ℕ × ℕ)) (actor place : ℕ) →
    IsBeforeAll logs x ys → Has ys actor place → IsBefore logs x (actor, place)
before-each logs x [] actor place all h = absurd h
before-each logs x (y ∷ ys) actor place all (inl (a, p)) =
    subst (λ n. IsBefore logs x (actor, n)) p (subst (λ n. IsBefore logs x (n, y.1)) a all.0)
before-each logs x (y ∷ ys) actor place all (inr h) = before-each logs x ys actor place all.1 h

-- Entries of these logs are within them.
each-of : {L : Type 0} (logs : List (List (Entry L))) (xs : List (ℕ × ℕ)) (actor place : ℕ) →
    AreOf logs xs → Has xs actor place → place < length (log_of logs actor)
each-of logs [] actor place all h = absurd h
each-of logs (x ∷ xs) actor place all (inl (a, p)) =
    subst (λ n. n < length (log_of logs actor)) p (subst (λ n. x.1 < length (log_of logs n)) a all.0)
each-of logs (x ∷ xs) actor place all (inr h) = each-of logs xs actor place all.1 h

same-pair : (x y : ℕ × ℕ) → x.0 ≡ y.0 → x.1 ≡ y.1 → x ≡ y
same-pair x y a p = ap (λ n. (n, x.1)) a ∙ ap (λ n. (y.0, n)) p

-- The heads of two such lists are the same.
same-heads : {L : Type 0} (logs : List (List (Entry L))) (x y : ℕ × ℕ) (xs ys : List (ℕ × ℕ)) →
    IsBeforeAll logs x xs → IsBeforeAll logs y ys → Has (y ∷ ys) x.0 x.1 → Has (x ∷ xs) y.0 y.1 → x ≡ y
same-heads logs x y xs ys before after (inl (a, p)) h = same-pair x y (sym a) (sym p)
same-heads logs x y xs ys before after (inr g) (inl (a, p)) = same-pair x y a p
same-heads logs x y xs ys before after (inr g) (inr h) =
    absurd (never-both logs x y (before-each logs x xs y.0 y.1 before h) (before-each logs y ys x.0 x.1 after g))

-- What another list has beside the same head, it has behind it.
behind : {L : Type 0} (logs : List (List (Entry L))) (x y : ℕ × ℕ) (xs ys : List (ℕ × ℕ)) (actor place : ℕ) →
    x ≡ y → IsBeforeAll logs x xs → Has xs actor place → Has (y ∷ ys) actor place → Has ys actor place
behind logs x y xs ys actor place e before h (inr g) = g
behind logs x y xs ys actor place e before h (inl (a, p)) =
    let front = before-each logs x xs actor place before h in
    let here : x ≡ (actor, place) = e ∙ same-pair y (actor, place) a p in
    absurd (never-both logs x (actor, place) front (subst (λ z. IsBefore logs z x) here
    (subst (IsBefore logs x) (sym here) front)))

same-lists : {L : Type 0} (logs : List (List (Entry L))) (xs ys : List (ℕ × ℕ)) → AreInOrder logs xs →
    AreInOrder logs ys → ((actor place : ℕ) → Has xs actor place → Has ys actor place) →
    ((actor place : ℕ) → Has ys actor place → Has xs actor place) → xs ≡ ys
same-lists logs [] [] o p f g = refl
same-lists logs [] (y ∷ ys) o p f g = absurd (g y.0 y.1 (inl (refl, refl)))
same-lists logs (x ∷ xs) [] o p f g = absurd (f x.0 x.1 (inl (refl, refl)))
same-lists logs (x ∷ xs) (y ∷ ys) o p f g =
    let heads = same-heads logs x y xs ys o.0 p.0 (f x.0 x.1 (inl (refl, refl))) (g y.0 y.1 (inl (refl, refl))) in
    ap (λ z. z ∷ xs) heads
    ∙ ap (λ l. y ∷ l) (same-lists logs xs ys o.1 p.1
    (λ actor place h. behind logs x y xs ys actor place heads o.0 h (f actor place (inr h)))
    (λ actor place h. behind logs y x ys xs actor place (sym heads) p.0 h (g actor place (inr h))))

pub one-merge : {L : Type 0} → MergesAreOne L
one-merge logs one other is also =
    same-lists logs one other is.ordered also.ordered
    (λ actor place h. also.all actor place (each-of logs one actor place is.only h))
    (λ actor place h. is.all actor place (each-of logs other actor place also.only h))
