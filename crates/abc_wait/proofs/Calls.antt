-- What the calls of a window do, told of what contracts see.
use Rattle.std.proofs.Common.{◌≡◌, ℕ, ◌+◌, ◌-◌, ◌^◌, ◌<◌, List, [], length, get_or, sym, ap, ◌∙◌, subst, arith}
use Rattle.std.proofs.Common.{length-append}
use Rattle.std.specs.Prelude.{Option, Some, None, IfNone, IfSome, OnSome, IsSome, replicate}
use Rattle.std.proofs.Math.ListN.{set}
use Rattle.std.proofs.lemmas.List.{length-set, length-replicate}
use Rattle.abc_wait.specs.Waits.{Waits, item_beside, item_at, RisesFrom}
use Rattle.abc_wait.specs.Changes.{put, Stores, Takes}
use Rattle.abc_wait.specs.Windows.{items_from, IsFirst, IsWidened, IsWindow}
use Rattle.abc_wait.proofs.Items.{item_beside-head, item_beside-rest, first_is_lowest}
use Rattle.abc_wait.proofs.Places.{at_place, items_from-widened, length-items_from-set, item_beside-set}
use Rattle.abc_wait.proofs.Places.{RisesFrom-items_from}

module _ {T : Type 0} where
  -- what contracts see of a window
  abbrev seen : ℕ → List (Option T) → Waits T
  seen n ps = record { first = n; items = items_from n ps }

  -- nothing waits below a number, and something under it
  abbrev IsLowest : Waits T → ℕ → Type 0
  IsLowest w number = ((i : ℕ) → i < number → item_at w i ≡ None) × IsSome (item_at w number)

  module _ (n m number : ℕ) (ps qs : List (Option T)) where
    -- the first number of a window is the lowest
    first_number : (x : T) → IsFirst n ps m qs x → IsLowest (seen n ps) number → m - 1 ≡ number
    first_number x first low =
        let rises = RisesFrom-items_from n ps in
        first_is_lowest n number (m - 1) x (items_from n ps) (items_from m qs) first rises low.0 low.1

    -- the first item of a window is the one asked for
    of_item : (o : Option T) → IfNone o (items_from n ps ≡ []) → IfSome o (IsFirst n ps m qs)
        → IsLowest (seen n ps) number → o ≡ item_at (seen n ps) number
    of_item None nothing first low = sym (ap (λ (es : List (ℕ × T)). item_beside es number) nothing)
    of_item (Some x) nothing first low =
        let at = item_beside-head (m - 1) number x (items_from m qs) (first_number x first low) in
        sym (ap (λ (es : List (ℕ × T)). item_beside es number) first ∙ at)

    -- taking the first item is the taking of the item asked for
    of_change : (o : Option T) → OnSome o (n < m) → IfSome o (IsFirst n ps m qs)
        → IsLowest (seen n ps) number → OnSome o (Takes (seen n ps) (seen m qs) number)
    of_change None higher first low = tt
    of_change (Some x) higher first low =
        let es = items_from n ps in
        let rest = items_from m qs in
        let at = first_number x first low in
        let rises = subst (RisesFrom n) first (RisesFrom-items_from n ps) in
        let left : (k : ℕ) → item_beside rest k ≡ put (item_beside es) number None k =
        λ k. item_beside-rest n (m - 1) k x rest rises
        ∙ (ap (λ (xs : List (ℕ × T)). put (item_beside xs) (m - 1) None k) (sym first)
        ∙ ap (λ i. put (item_beside es) i None k) at) in
        let counted = ap length first in
        record { first = omega arith; items = left; count = omega arith }

  module _ (w : Waits T) (n m number : ℕ) (ps qs : List (Option T)) (e : seen n ps ≡ w) where
    -- the same of what contracts see before the call
    pub taken-item : (o : Option T) → IfNone o (items_from n ps ≡ []) → IfSome o (IsFirst n ps m qs)
        → IsLowest w number → o ≡ item_at w number
    taken-item o none first =
        let P : Waits T → Type 0 = λ v. IsLowest v number → o ≡ item_at v number in
        subst P e (of_item n m number ps qs o none first)

    pub taken-changes : (o : Option T) → OnSome o (n < m) → IfSome o (IsFirst n ps m qs)
        → IsLowest w number → OnSome o (Takes w (seen m qs) number)
    taken-changes o more first =
        let P : Waits T → Type 0 = λ v. IsLowest v number → OnSome o (Takes v (seen m qs) number) in
        subst P e (of_change n m number ps qs o more first)

  module _ (w : Waits T) (n number place : ℕ) (at : number ≡ n + place) (ps ws : List (Option T))
      (e : seen n ps ≡ w) (wide : IsWidened (place + 1) ps ws) where
    -- a widened window has the place
    long : length ws ≡ length ps + (place + 1 - length ps)
    long =
        let added = replicate (place + 1 - length ps) (let o : Option T = None in o) in
        ap length wide
        ∙ (length-append ps added ∙ ap (λ k. length ps + k) (length-replicate (place + 1 - length ps) None))

    -- its items are those of the window before
    same : items_from n ws ≡ w.items
    same =
        ap (items_from n) wide
        ∙ (items_from-widened n (place + 1 - length ps) ps ∙ ap (λ (v : Waits T). v.items) e)

    -- the place of a number without item is empty
    empty : item_at w number ≡ None → get_or ws place None ≡ None
    empty free =
        sym (at_place n place ws)
        ∙ (ap (λ (es : List (ℕ × T)). item_beside es (n + place)) same
        ∙ (ap (item_at w) (sym at) ∙ free))

    -- filling the place adds one item
    more : (x : T) → item_at w number ≡ None
        → length (items_from n (set ws place (Some x))) ≡ length w.items + 1
    more x free =
        let size = long in
        length-items_from-set n place ws x (omega arith) (empty free)
        ∙ ap (λ (es : List (ℕ × T)). length es + 1) same

    -- a widened window in which the place is filled is a window
    pub filled-window : (x : T) (stored : ℕ) → number < 2 ^ 32 → item_at w number ≡ None
        → IsWindow n ps stored → IsWindow n (set ws place (Some x)) (stored + 1)
    filled-window x stored fits free old =
        let size = long in
        let set_size = length-set ws place (Some x) in
        let one_more = more x free in
        let before = ap (λ (v : Waits T). length v.items) e in
        record { bounded = omega (arith, old.bounded); counted = omega (arith, old.counted) }

    -- filling the place is the storing of the item
    pub filled-changes : (x : T) → item_at w number ≡ None
        → Stores w (seen n (set ws place (Some x))) number x
    filled-changes x free =
        let size = long in
        let filled = items_from n (set ws place (Some x)) in
        let items : (k : ℕ) → item_beside filled k ≡ put (item_at w) number (Some x) k =
        λ k. item_beside-set n place k ws x (omega arith)
        ∙ (ap (λ (es : List (ℕ × T)). put (item_beside es) (n + place) (Some x) k) same
        ∙ ap (λ i. put (item_at w) i (Some x) k) (sym at)) in
        record { first = ap (λ (v : Waits T). v.first) e; items = items; count = more x free }
