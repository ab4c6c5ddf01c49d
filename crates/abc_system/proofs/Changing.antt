-- Lists that are changed item by item from the left.
use Rattle.std.proofs.Common.{◌≡◌, ◌∙◌, ℕ, ◌+◌, ◌<◌, ◌≤◌, List, [], ◌∷◌, ◌++◌, map, take, drop, length, get_or, set, refl, ap, sym, arith}
use Rattle.std.proofs.lemmas.List.{drop_more, take_more, take_more_set, drop-set-lt, take_all, map-append}

module _ {A : Type 0} {B : Type 0} (old new : A → B) where
  -- The first k items have been changed, and the others not.
  pub record ChangedSoFar (k : ℕ) (before now : List A) : Type 0 where
    pub seen : map old (take k now) ≡ map new (take k before)
    pub rest : drop k now ≡ drop k before

-- the items behind the first k are the same
pub item_stays : {A : Type 0} (k : ℕ) (before now : List A) (d : A) → k < length now → k < length before →
    drop k now ≡ drop k before → get_or now k d ≡ get_or before k d
item_stays k before now d here there e =
    let same : get_or now k d ∷ drop (k + 1) now ≡ get_or before k d ∷ drop (k + 1) before =
    sym (drop_more now k d here) ∙ e ∙ drop_more before k d there in
    ap (λ xs. get_or xs 0 d) same

-- and so is the rest behind the next one
pub rest_stays : {A : Type 0} (k : ℕ) (before now : List A) (d : A) → k < length now → k < length before →
    drop k now ≡ drop k before → drop (k + 1) now ≡ drop (k + 1) before
rest_stays k before now d here there e =
    let same : get_or now k d ∷ drop (k + 1) now ≡ get_or before k d ∷ drop (k + 1) before =
    sym (drop_more now k d here) ∙ e ∙ drop_more before k d there in
    ap (λ xs. drop 1 xs) same

module _ {A : Type 0} {B : Type 0} (old new : A → B) where
  -- one item more
  pub one_more_changed : (k : ℕ) (before now : List A) (y d : A) → k < length now → k < length before →
      ChangedSoFar old new k before now → old y ≡ new (get_or now k d) → ChangedSoFar old new (k + 1) before (set now k y)
  one_more_changed k before now y d here there so is =
      let last : old y ≡ new (get_or before k d) = is ∙ ap new (item_stays k before now d here there so.rest) in
      record {
        seen =
            ap (map old) (take_more_set now k y here) ∙ map-append old (take k now) (y ∷ [])
            ∙ (λ i. so.seen i ++ last i ∷ [])
            ∙ sym (map-append new (take k before) (get_or before k d ∷ [])) ∙ ap (map new) (sym (take_more before k d there));
        rest =
            let lt : k < k + 1 = omega arith in
            drop-set-lt (k + 1) now k y lt ∙ rest_stays k before now d here there so.rest;
      }

  -- all items
  pub all_changed : (k : ℕ) (before now : List A) → length now ≤ k → length before ≤ k →
      ChangedSoFar old new k before now → map old now ≡ map new before
  all_changed k before now le most so =
      ap (map old) (sym (take_all k now le)) ∙ so.seen ∙ ap (map new) (take_all k before most)

  pub none_changed : (xs : List A) → ChangedSoFar old new 0 xs xs
  none_changed xs = record { seen = refl; rest = refl }
