-- A literal at the front of bytes is that of one value.
use Rattle.std.proofs.Common.{◌≡◌, ℕ, zero, suc, ◌+◌, ◌<◌, ◌≤◌, Bool, true, false, List, [], ◌∷◌, ◌++◌, length, take, refl, sym, ap, ◌∙◌, subst, inl, inr, arith, length-append}
use Rattle.std.proofs.lemmas.Bool.{cases_lt}
use Rattle.std.proofs.lemmas.Bool.Decides.{nat_tests}
use Rattle.std.proofs.lemmas.List.{take_at, append_cancel_left}
use Rattle.abc_value.specs.declared.scalar.Scalar.TheVariants.{Number, Text, Truth}
use Rattle.abc_value.specs.declared.value.Value.{Value}
use Rattle.abc_value.specs.declared.value.Value.TheVariants.{Scalar as One, Set, Nothing}
use Rattle.abc_value.specs.Literals.{literal, IsValue, BeginsWith, IsLongest}
use Rattle.abc_value.specs.Laws.{GoesOn}
use Rattle.abc_value.specs.Values.{is_same}
use Rattle.abc_value.proofs.Printed.{same_decides}
use Rattle.abc_value.proofs.Alike.{written_is_read}
use Rattle.abc_text.specs.Tokens.{is_digit}
use Rattle.abc_trace_lines.specs.Fronts.{StopsAt}

-- What goes on with no digit goes on with no value.
no_digit : (b : ℕ) → is_digit b ≡ false → 48 ≤ b → b ≤ 57 → ⊥
no_digit b e low high = grind (arith, nat_tests)

pub stays : (v : Value) (rest : List ℕ) → StopsAt is_digit rest → ¬ (GoesOn v rest)
stays (One (Number n)) [] h g = let low = g.0 in omega (arith, low)
stays (One (Number n)) (b ∷ bs) h g = no_digit b h g.0 g.1
stays (One (Text t)) rest h g = g
stays (One (Truth b)) rest h g = g
stays (Set s) rest h g = g
stays Nothing rest h g = g

-- ---- some literal at the front is the longest
-- A literal at the front of which no longer one is there is the longest.
longest_by : (bytes : List ℕ) (u : Value) → IsValue u → BeginsWith bytes (literal u) →
    ((w : Value) → IsValue w → BeginsWith bytes (literal w) →
    length (literal u) < length (literal w) → ⊥) →
    IsLongest bytes u (length (literal u))
longest_by bytes u h b no_longer = record {
  is_value = h;
  within = let e = ap length b.1 in let l = length-append (literal u) b.0 in omega (arith, e, l);
  front = ap (λ (t : List ℕ). take (length (literal u)) t) b.1
      ∙ take_at (literal u) b.0 (length (literal u)) refl;
  longest = λ w k c. elim (cases_lt (length (literal u)) (length (literal w))) [
    | inl lt ↦ absurd (no_longer w k c lt)
    | inr le ↦ le
  ];
}

-- Where none is the longest, no literal is at the front, by how much room it leaves.
none_longest : (bytes : List ℕ) → ((w : Value) (n : ℕ) → ¬ (IsLongest bytes w n)) →
    (room : ℕ) (u : Value) → IsValue u → BeginsWith bytes (literal u) →
    length bytes ≤ length (literal u) + room → ⊥
none_longest bytes none zero u h b fits =
    none u (length (literal u)) (longest_by bytes u h b (λ w k c lt.
    let e = ap length c.1 in let l = length-append (literal w) c.0 in omega
    (arith, e, l, lt, fits)))
none_longest bytes none (suc room) u h b fits =
    none u (length (literal u)) (longest_by bytes u h b
    (λ w k c lt. none_longest bytes none room w k c (omega (arith, fits, lt))))

-- So what shows the longest wrong shows a literal wrong.
some_longest : (bytes : List ℕ) (u : Value) → IsValue u → BeginsWith bytes (literal u) →
    ((w : Value) (n : ℕ) → ¬ (IsLongest bytes w n)) → ⊥
some_longest bytes u h b none = none_longest bytes none (length bytes) u h b (omega arith)

-- Two values whose literals stand before what goes on with no digit are one.
same_value : (v w : Value) (r s : List ℕ) → IsValue v → IsValue w → StopsAt is_digit r →
    StopsAt is_digit s → literal v ++ r ≡ literal w ++ s → v ≡ w
same_value v w r s h k u x e = by (is_same v w) refl
  where
    by : (b : Bool) → is_same v w ≡ b → v ≡ w
    by true t = (same_decides v w).0 t
    by false t = absurd (some_longest (literal v ++ r) v h (r, refl) (λ z n longest.
        let mine = (written_is_read v r h (stays v r u) z n longest).0 in
        let theirs = (written_is_read w s k (stays w s x) z n
        (subst (λ (bytes : List ℕ). IsLongest bytes z n) e longest)).0 in
        differ t ((same_decides v w).1 (sym mine ∙ theirs))))
      where
        differ : is_same v w ≡ false → is_same v w ≡ true → ⊥
        differ e f = let h : false ≡ true = sym e ∙ f in cc

pub literal_split : (v w : Value) (r s : List ℕ) → IsValue v → IsValue w → StopsAt is_digit r →
    StopsAt is_digit s → literal v ++ r ≡ literal w ++ s → (v ≡ w) × (r ≡ s)
literal_split v w r s h k u x e =
    let same = same_value v w r s h k u x e in
    (same, append_cancel_left (literal v) r s (e ∙ ap (λ (z : Value). literal z ++ s) (sym same)))
