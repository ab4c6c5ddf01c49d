-- Items that are printed by their numbers, one after another.
use Rattle.std.proofs.Common.{◌≡◌, ◌∙◌, ℕ, ◌+◌, ◌<◌, List, [], ◌∷◌, ◌++◌, length, take, get_or, suc, ap, sym, append-nil, append_assoc, arith}
use Rattle.std.proofs.lemmas.List.{take_more, length-take-le}
use Rattle.abc_trace.specs.Texts.{numbered}

-- The first items, so many, are printed behind what stood there, and the next one's number is told.
pub record NumberedTo {A : Type 0} (print : ℕ → A → List ℕ) (first : ℕ) (items : List A) (index number : ℕ) (old new : List ℕ) : Type 0 where
  pub counted : number ≡ first + index
  pub written : new ≡ old ++ numbered print first (take index items)

-- one item behind the others
pub numbered-more :
    {A : Type 0} (print : ℕ → A → List ℕ) (n : ℕ) (items : List A) (a : A)
    → numbered print n (items ++ a ∷ []) ≡ numbered print n items ++ print (n + length items) a
numbered-more print n [] a = let same : n ≡ n + 0 = omega arith in append-nil (print n a) ∙ ap (λ k. print k a) same
numbered-more print n (x ∷ items) a =
    let same : n + 1 + length items ≡ n + suc (length items) = omega arith in
    ap (λ rest. print n x ++ rest) (numbered-more print (n + 1) items a ∙ ap (λ k. numbered print (n + 1) items ++ print k a) same)
    ∙ sym (append_assoc (print n x) (numbered print (n + 1) items) (print (n + suc (length items)) a))

-- one step more of a loop that prints them
pub numbered_on :
    {A : Type 0} (print : ℕ → A → List ℕ) (first : ℕ) (items : List A) (index number : ℕ) (old new next : List ℕ) (d : A)
    → index < length items → NumberedTo print first items index number old new → next ≡ new ++ print number (get_or items index d)
    → NumberedTo print first items (index + 1) (number + 1) old next
numbered_on print first items index number old new next d within so more =
    let front = take index items in
    let item = get_or items index d in
    let many : number ≡ first + length front = so.counted ∙ ap (λ k. first + k) (sym (length-take-le index items (omega arith))) in
    record {
      counted = omega (arith, so.counted);
      written =
          more
          ∙ ap (λ text. text ++ print number item) so.written
          ∙ append_assoc old (numbered print first front) (print number item)
          ∙ ap (λ k. old ++ (numbered print first front ++ print k item)) many
          ∙ ap (λ text. old ++ text) (sym (numbered-more print first front item))
          ∙ ap (λ printed. old ++ numbered print first printed) (sym (take_more items index d within));
    }
