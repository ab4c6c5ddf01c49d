-- Lists by place: what stands at one, and a change at one.
use Rattle.std.proofs.Common.{◌≡◌, ◌≢◌, ℕ, zero, suc, ◌+◌, ◌<◌, ◌≤◌, List, [], ◌∷◌, ◌++◌, length}
use Rattle.std.proofs.Common.{get_or, map, refl, ap, ◌∙◌, subst, arith}
use Rattle.std.specs.Prelude.{Some, slice_get}
use Rattle.abc_network.specs.Networks.{Swaps}

-- Past the end stands nothing.
pub get-past : {X : Type 0} (d : X) (xs : List X) (i : ℕ) → length xs ≤ i → get_or xs i d ≡ d
get-past d [] i h = refl
get-past d (x ∷ xs) zero h = absurd (let l : suc (length xs) ≤ zero = h in omega arith)
get-past d (x ∷ xs) (suc i) h =
    get-past d xs i (let l : suc (length xs) ≤ suc i = h in omega arith)

-- A place within the length is taken.
pub get-there : {X : Type 0} (xs : List X) (i : ℕ) → i < length xs →
    (x : X) × (slice_get xs i ≡ Some x)
get-there [] i h = absurd (let l : i < 0 = h in omega arith)
get-there (x ∷ xs) zero h = (x, refl)
get-there (x ∷ xs) (suc i) h =
    get-there xs i (let l : suc i < suc (length xs) = h in omega arith)

-- What stands at a place stands there once each is changed,
pub get-map : {X Y : Type 0} (f : X → Y) (xs : List X) (i : ℕ) (x : X) → slice_get xs i ≡ Some x →
    slice_get (map f xs) i ≡ Some (f x)
get-map f [] i x h = absurd (cc)
get-map f (a ∷ xs) zero x h = let e : a ≡ x = cc in ap (λ v. Some (f v)) e
get-map f (a ∷ xs) (suc i) x h = get-map f xs i x h

-- and behind another list at a later one.
pub get-right : {X : Type 0} (xs ys : List X) (k : ℕ) (y : X) → slice_get ys k ≡ Some y →
    slice_get (xs ++ ys) (length xs + k) ≡ Some y
get-right [] ys k y h = subst (λ v. slice_get ys v ≡ Some y) (let e : k ≡ 0 + k = omega arith in e) h
get-right (x ∷ xs) ys k y h =
    subst (λ v. slice_get (x ∷ (xs ++ ys)) v ≡ Some y)
    (let e : suc (length xs + k) ≡ suc (length xs) + k = omega arith in e) (get-right xs ys k y h)

-- The lengths of two lists add up.
pub length-both : {X : Type 0} (xs ys : List X) → length (xs ++ ys) ≡ length xs + length ys
length-both [] ys = omega arith
length-both (x ∷ xs) ys = let e = length-both xs ys in omega arith

-- Lists of one length with the same at each place are one.
pub lists-same : {X : Type 0} (xs ys : List X) → length xs ≡ length ys →
    ((i : ℕ) (x y : X) → slice_get xs i ≡ Some x → slice_get ys i ≡ Some y → x ≡ y) → xs ≡ ys
lists-same [] [] h f = refl
lists-same [] (y ∷ ys) h f = absurd (let l : 0 ≡ suc (length ys) = h in omega arith)
lists-same (x ∷ xs) [] h f = absurd (let l : suc (length xs) ≡ 0 = h in omega arith)
lists-same (x ∷ xs) (y ∷ ys) h f =
    let first : x ≡ y = f zero x y refl refl in
    let rest : xs ≡ ys = lists-same xs ys (let l : suc (length xs) ≡ suc (length ys) = h in omega arith)
    (λ i a b at got. f (suc i) a b at got) in
    ap (λ v. v ∷ xs) first ∙ ap (λ v. y ∷ v) rest

-- A change at a place,
abbrev pub put_in : {X : Type 0} → ℕ → X → List X → List X
put_in i y [] = []
put_in zero y (x ∷ xs) = y ∷ xs
put_in (suc i) y (x ∷ xs) = x ∷ put_in i y xs

-- is such a change,
pub put-swaps : {X : Type 0} (i : ℕ) (x y : X) (xs : List X) → slice_get xs i ≡ Some x →
    Swaps i x y xs (put_in i y xs)
put-swaps i x y [] h = absurd (cc)
put-swaps zero x y (a ∷ xs) h = (cc, refl, refl)
put-swaps (suc i) x y (a ∷ xs) h = (refl, put-swaps i x y xs h)

-- which shows there
pub swap-at : {X : Type 0} (d : X) (i : ℕ) (x y : X) (xs ys : List X) → Swaps i x y xs ys →
    (get_or xs i d ≡ x) × (get_or ys i d ≡ y)
swap-at d i x y [] ys s = absurd s
swap-at d i x y (a ∷ xs) [] s = absurd s
swap-at d zero x y (a ∷ xs) (b ∷ ys) s = (s.0, s.1)
swap-at d (suc i) x y (a ∷ xs) (b ∷ ys) s = swap-at d i x y xs ys s.1

-- and nowhere else.
pub swap-others : {X : Type 0} (d : X) (i : ℕ) (x y : X) (xs ys : List X) → Swaps i x y xs ys →
    (j : ℕ) → j ≢ i → get_or ys j d ≡ get_or xs j d
swap-others d i x y [] ys s j ne = absurd s
swap-others d i x y (a ∷ xs) [] s j ne = absurd s
swap-others d zero x y (a ∷ xs) (b ∷ ys) s zero ne = absurd (ne refl)
swap-others d zero x y (a ∷ xs) (b ∷ ys) s (suc j) ne = ap (λ v. get_or v j d) s.2
swap-others d (suc i) x y (a ∷ xs) (b ∷ ys) s zero ne = s.0
swap-others d (suc i) x y (a ∷ xs) (b ∷ ys) s (suc j) ne =
    swap-others d i x y xs ys s.1 j (λ e. ne (ap suc e))

-- It is a change once each is changed, and beside another list.
pub swap-map : {X Y : Type 0} (f : X → Y) (i : ℕ) (x y : X) (xs ys : List X) → Swaps i x y xs ys →
    Swaps i (f x) (f y) (map f xs) (map f ys)
swap-map f i x y [] ys s = absurd s
swap-map f i x y (a ∷ xs) [] s = absurd s
swap-map f zero x y (a ∷ xs) (b ∷ ys) s = (ap f s.0, ap f s.1, ap (map f) s.2)
swap-map f (suc i) x y (a ∷ xs) (b ∷ ys) s = (ap f s.0, swap-map f i x y xs ys s.1)

-- Before another list,
pub swap-left : {X : Type 0} (i : ℕ) (x y : X) (xs ys zs : List X) → Swaps i x y xs ys →
    Swaps i x y (xs ++ zs) (ys ++ zs)
swap-left i x y [] ys zs s = absurd s
swap-left i x y (a ∷ xs) [] zs s = absurd s
swap-left zero x y (a ∷ xs) (b ∷ ys) zs s = (s.0, s.1, ap (λ v. v ++ zs) s.2)
swap-left (suc i) x y (a ∷ xs) (b ∷ ys) zs s = (s.0, swap-left i x y xs ys zs s.1)

-- and behind one.
pub swap-right : {X : Type 0} (i : ℕ) (x y : X) (xs ys zs : List X) → Swaps i x y xs ys →
    Swaps (length zs + i) x y (zs ++ xs) (zs ++ ys)
swap-right i x y xs ys [] s =
    subst (λ v. Swaps v x y xs ys) (let e : i ≡ 0 + i = omega arith in e) s
swap-right i x y xs ys (z ∷ zs) s =
    subst (λ v. Swaps v x y (z ∷ (zs ++ xs)) (z ∷ (zs ++ ys)))
    (let e : suc (length zs + i) ≡ suc (length zs) + i = omega arith in e)
    (refl, swap-right i x y xs ys zs s)
