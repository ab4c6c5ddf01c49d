-- Sorted keys are the merge.
use Rattle.std.proofs.Common.{◌≡◌, ◌⊎◌, ℕ, zero, suc, ◌+◌, ◌<◌, List, [], ◌∷◌, ◌++◌, length, map, take}
use Rattle.std.proofs.Common.{refl, sym, ap, ◌∙◌, subst, arith, inl, inr, true, false, true≢false}
use Rattle.std.proofs.Common.{get_or, append_assoc, append-nil, length-take-le, Contains}
use Rattle.std.proofs.Common.{IsPermutation, IsSorted, is_lt, Ordering, Less, Equal}
use Rattle.std.specs.Ordering.{nat_cmp, ordering_then}
use Rattle.std.specs.Cmp.{IsTotalOrder, nat_cmp_is}
use Rattle.std.proofs.lemmas.Cmp.{nat_cmp_total, then_total, on_total}
use Rattle.std.proofs.lemmas.List.{take_more}
use Rattle.std.proofs.lemmas.List.Sorted.{sorted_far, All-permutation, Contains-permutation}
use Rattle.std.proofs.lemmas.List.MinMax.{ranks_by}
use Rattle.std.proofs.lemmas.Map.Keys.{IsDistinct-IsPermutation}
use Rattle.std.proofs.lemmas.Bool.{cases_eq, cases_lt}
use Rattle.abc_packet.specs.declared.log.Log.{Log}
use Rattle.abc_packet.specs.declared.log.Entry.{Entry}
use Rattle.abc_net.specs.Records.{entries_of}
use Rattle.abc_logs.specs.Merges.{IsMerge, IsBefore, IsBeforeAll, AreInOrder, Has, AreOf, log_of, clock_at}
use Rattle.abc_logs.specs.Merges.{first_clock, entries_at}
use Rattle.abc_merge.specs.Keys.{Key, place_of_key, clocks_of, entry_keys, keys_of}
use Rattle.abc_merge.proofs.Keys.{clocks_at, same_entry, same_place, flips, all_at, keys_distinct, distinct_at}
use Rattle.abc_merge.proofs.Keys.{Tells, keys_tell, keys_have}

-- The order of keys: by clock, then actor, then place.
abbrev pub by_key : Key → Key → Ordering
by_key x y = ordering_then (ordering_then (nat_cmp x.0 y.0) (nat_cmp x.1 y.1)) (nat_cmp x.2 y.2)

by_key_total : IsTotalOrder by_key
by_key_total =
    then_total (then_total (on_total (λ (t : Key). t.0) nat_cmp_total) (on_total (λ (t : Key). t.1) nat_cmp_total))
    (on_total (λ (t : Key). t.2) nat_cmp_total)

-- Of two numbers one is less, or they are equal.
three : (a b : ℕ) → (a < b) ⊎ ((a ≡ b) ⊎ (b < a))
three a b =
    elim (cases_eq a b) [
      | inl e ↦ inr (inl e)
      | inr n ↦ elim (cases_lt a b) [ inl l ↦ inl l | inr g ↦ inr (inr (omega (arith, g, n))) ]
    ]

-- Of two entries one stands before the other, or they are the same.
total : {L : Type 0} (logs : List (List (Entry L))) (x y : ℕ × ℕ) →
    IsBefore logs x y ⊎ (IsBefore logs y x ⊎ ((x.0 ≡ y.0) × (x.1 ≡ y.1)))
total logs x y =
    elim (three (clock_at logs x) (clock_at logs y)) [
      | inl l ↦ inl (inl l)
      | inr r ↦ elim r [
        | inr g ↦ inr (inl (inl g))
        | inl e ↦ elim (three x.0 y.0) [
          | inl l ↦ inl (inr (e, inl l))
          | inr r ↦ elim r [
            | inr g ↦ inr (inl (inr (sym e, inl g)))
            | inl f ↦ elim (three x.1 y.1) [
              | inl l ↦ inl (inr (e, inr (f, l)))
              | inr r ↦ elim r [ inr g ↦ inr (inl (inr (sym e, inr (sym f, g)))) | inl h ↦ inr (inr (f, h)) ]
            ]
          ]
        ]
      ]
    ]

-- Where the entry of key y stands before that of key x, y is the smaller key.
less_is : {L : Type 0} (logs : List (List (Entry L))) (x y : Key) → x.0 ≡ clock_at logs (place_of_key x) →
    y.0 ≡ clock_at logs (place_of_key y) → IsBefore logs (place_of_key y) (place_of_key x) →
    is_lt (by_key y x) ≡ true
less_is logs x y f g b =
    elim b [
      | inl l ↦
          let lt : y.0 < x.0 = omega (arith, l, f, g) in
          let e : nat_cmp y.0 x.0 ≡ Less = sym (nat_cmp_is y.0 x.0 Less lt) in
          ap (λ o. is_lt (ordering_then (ordering_then o (nat_cmp y.1 x.1)) (nat_cmp y.2 x.2))) e
      | inr h ↦
          let s = h.0 in
          let eq : y.0 ≡ x.0 = omega (arith, s, f, g) in
          let e : nat_cmp y.0 x.0 ≡ Equal = sym (nat_cmp_is y.0 x.0 Equal eq) in
          elim h.1 [
            | inl l ↦
                let e1 : nat_cmp y.1 x.1 ≡ Less = sym (nat_cmp_is y.1 x.1 Less l) in
                ap (λ o. is_lt (ordering_then (ordering_then o (nat_cmp y.1 x.1)) (nat_cmp y.2 x.2))) e
                ∙ ap (λ o. is_lt (ordering_then o (nat_cmp y.2 x.2))) e1
            | inr i ↦
                let e1 : nat_cmp y.1 x.1 ≡ Equal = sym (nat_cmp_is y.1 x.1 Equal i.0) in
                let e2 : nat_cmp y.2 x.2 ≡ Less = sym (nat_cmp_is y.2 x.2 Less i.1) in
                ap (λ o. is_lt (ordering_then (ordering_then o (nat_cmp y.1 x.1)) (nat_cmp y.2 x.2))) e
                ∙ (ap (λ o. is_lt (ordering_then o (nat_cmp y.2 x.2))) e1 ∙ ap is_lt e2)
          ]
    ]

-- Of two keys of different entries the one that isn't greater is of the entry that stands before.
pair_before : {L : Type 0} (logs : List (List (Entry L))) (x y : Key) →
    x.0 ≡ clock_at logs (place_of_key x) → y.0 ≡ clock_at logs (place_of_key y) →
    is_lt (by_key y x) ≡ false → (x.1 ≡ y.1 → x.2 ≡ y.2 → ⊥) →
    IsBefore logs (place_of_key x) (place_of_key y)
pair_before logs x y f g le ne =
    elim (total logs (place_of_key x) (place_of_key y)) [
      | inl b ↦ b
      | inr r ↦ elim r [
        | inl b ↦ absurd (true≢false (sym (less_is logs x y f g b) ∙ le))
        | inr s ↦ absurd (ne s.0 s.1)
      ]
    ]

-- The clocks of a log by place, and how many there are.
clock_in : {L : Type 0} (entries : List (Entry L)) (place : ℕ) →
    get_or (map (λ e. e.clock) entries) place 0 ≡ first_clock (entries_at entries place)
clock_in [] place = refl
clock_in (e ∷ entries) zero = refl
clock_in (e ∷ entries) (suc place) = clock_in entries place

count_in : {L : Type 0} (entries : List (Entry L)) → length (map (λ e. e.clock) entries) ≡ length entries
count_in [] = refl
count_in (e ∷ entries) = ap suc (count_in entries)

clocks-of-log : {L : Type 0} (logs : List (Log L)) (actor : ℕ) →
    clocks_at (clocks_of logs) actor ≡ map (λ e. e.clock) (log_of (entries_of logs) actor)
clocks-of-log [] actor = refl
clocks-of-log (log ∷ logs) zero = refl
clocks-of-log (log ∷ logs) (suc actor) = clocks-of-log logs actor

clock-is : {L : Type 0} (logs : List (Log L)) (actor place : ℕ) →
    get_or (clocks_at (clocks_of logs) actor) place 0 ≡ clock_at (entries_of logs) (actor, place)
clock-is logs actor place =
    ap (λ cs. get_or cs place 0) (clocks-of-log logs actor) ∙ clock_in (log_of (entries_of logs) actor) place

count-is : {L : Type 0} (logs : List (Log L)) (actor : ℕ) →
    length (clocks_at (clocks_of logs) actor) ≡ length (log_of (entries_of logs) actor)
count-is logs actor = ap (λ cs. length cs) (clocks-of-log logs actor) ∙ count_in (log_of (entries_of logs) actor)

-- What holds of keys, said of their places in a list.
place_has : (ks : List Key) (c a k : ℕ) → Contains ks (c, a, k) → Has (map place_of_key ks) a k
place_has [] c a k h = let l = h.1 in absurd (omega (arith, l))
place_has (x ∷ ks) c a k (zero, l, e) = inl (ap (λ (y : Key). y.1) e, ap (λ (y : Key). y.2) e)
place_has (x ∷ ks) c a k (suc n, l, e) = inr (place_has ks c a k (n, omega (arith, l), e))

before_all : {L : Type 0} (logs : List (List (Entry L))) (x : ℕ × ℕ) (ks : List Key) →
    ((k : ℕ) (d : Key) → k < length ks → IsBefore logs x (place_of_key (get_or ks k d))) →
    IsBeforeAll logs x (map place_of_key ks)
before_all logs x [] h = tt
before_all logs x (y ∷ ks) h = (h 0 y (omega arith), before_all logs x ks (λ k d lt. h (suc k) d (omega (arith, lt))))

are_of : {L : Type 0} (logs : List (List (Entry L))) (ks : List Key) →
    ((k : ℕ) (d : Key) → k < length ks → (get_or ks k d).2 < length (log_of logs (get_or ks k d).1)) →
    AreOf logs (map place_of_key ks)
are_of logs [] h = tt
are_of logs (y ∷ ks) h = (h 0 y (omega arith), are_of logs ks (λ k d lt. h (suc k) d (omega (arith, lt))))

ordered_places : {L : Type 0} (logs : List (List (Entry L))) (ks : List Key) →
    ((i j : ℕ) (d : Key) → i < j → j < length ks →
    IsBefore logs (place_of_key (get_or ks i d)) (place_of_key (get_or ks j d))) →
    AreInOrder logs (map place_of_key ks)
ordered_places logs [] h = tt
ordered_places logs (x ∷ ks) h = (
  before_all logs (place_of_key x) ks (λ k d lt. h 0 (suc k) d (omega arith) (omega (arith, lt))),
  ordered_places logs ks (λ i j d l m. h (suc i) (suc j) d (omega (arith, l)) (omega (arith, m))),
)

-- What a key tells, counted from actor 0.
told_of : {L : Type 0} (logs : List (Log L)) (x : Key) → Tells (clocks_of logs) 0 x →
    (x.2 < length (log_of (entries_of logs) x.1)) × (x.0 ≡ clock_at (entries_of logs) (place_of_key x))
told_of logs x h =
    let e : x.1 ≡ 0 + h.0 = h.1 in
    let same : h.0 ≡ x.1 = omega (arith, e) in (
      subst (λ n. x.2 < n) (count-is logs x.1) (subst (λ b. x.2 < length (clocks_at (clocks_of logs) b)) same h.2),
      subst (λ b. x.0 ≡ get_or (clocks_at (clocks_of logs) b) x.2 0) same h.3 ∙ clock-is logs x.1 x.2,
    )

from_zero : (logs : List (List ℕ)) (a k : ℕ) →
    Contains (keys_of 0 logs) (get_or (clocks_at logs a) k 0, 0 + a, k) →
    Contains (keys_of 0 logs) (get_or (clocks_at logs a) k 0, a, k)
from_zero logs a k h =
    let e : 0 + a ≡ a = omega arith in
    subst (λ b. Contains (keys_of 0 logs) (get_or (clocks_at logs a) k 0, b, k)) e h

-- The places of the sorted keys of all entries are the merge.
pub merge_of_keys : {L : Type 0} (logs : List (Log L)) (ks ks' : List Key) (ps : List (ℕ × ℕ)) →
    ks ≡ keys_of 0 (clocks_of logs) → IsPermutation ks ks' → IsSorted by_key ks' →
    ps ≡ map place_of_key ks' → IsMerge (entries_of logs) ps
merge_of_keys {L} logs ks ks' ps is perm sorted out =
    let all : List Key = keys_of 0 (clocks_of logs) in
    let p : IsPermutation all ks' = subst (λ l. IsPermutation l ks') is perm in
    let tells : (k : ℕ) (d : Key) → k < length ks' → Tells (clocks_of logs) 0 (get_or ks' k d) =
    All-permutation (Tells (clocks_of logs) 0) all ks' p
    (λ k d lt. all_at (Tells (clocks_of logs) 0) all k d (keys_tell 0 (clocks_of logs)) lt) in
    let told : (k : ℕ) (d : Key) → k < length ks' →
    ((get_or ks' k d).2 < length (log_of (entries_of logs) (get_or ks' k d).1))
    × ((get_or ks' k d).0 ≡ clock_at (entries_of logs) (place_of_key (get_or ks' k d)))
    = λ k d lt. told_of logs (get_or ks' k d) (tells k d lt) in
    let apart = IsDistinct-IsPermutation same_entry flips all ks' p (keys_distinct 0 (clocks_of logs)) in
    subst (λ l. IsMerge (entries_of logs) l) (sym out)
    (record {
      all = λ a k lt.
          let lt' = subst (λ n. k < n) (sym (count-is logs a)) lt in
          place_has ks' (get_or (clocks_at (clocks_of logs) a) k 0) a k
          (Contains-permutation all ks' (get_or (clocks_at (clocks_of logs) a) k 0, a, k) p
          (from_zero (clocks_of logs) a k (keys_have 0 (clocks_of logs) a k lt')));
      only = are_of (entries_of logs) ks' (λ k d lt. (told k d lt).0);
      ordered = ordered_places (entries_of logs) ks' (λ i j d lt le.
          pair_before (entries_of logs) (get_or ks' i d) (get_or ks' j d) (told i d (omega (arith, lt, le))).1
          (told j d le).1
          (sorted_far (λ x y. is_lt (by_key x y)) (ranks_by by_key_total (λ x. x)) ks' sorted i j d
          (omega (arith, lt)) le)
          (λ e f. true≢false (sym (same_place (get_or ks' i d) (get_or ks' j d) e f)
          ∙ distinct_at ks' i j d apart lt le)));
    })

-- One more entry adds its key at the end,
entry_keys_push : (a k : ℕ) (cs : List ℕ) (c : ℕ) →
    entry_keys a k (cs ++ c ∷ []) ≡ entry_keys a k cs ++ (c, a, k + length cs) ∷ []
entry_keys_push a k [] c =
    let e : k ≡ k + length {A = ℕ} [] = omega arith in ap (λ j. (c, a, j) ∷ []) e
entry_keys_push a k (x ∷ cs) c =
    let e : suc k + length cs ≡ k + length (x ∷ cs) = omega arith in
    ap (λ l. (x, a, k) ∷ l) (entry_keys_push a (suc k) cs c ∙ ap (λ j. entry_keys a (suc k) cs ++ (c, a, j) ∷ []) e)

-- and one more log its keys.
keys_push : {L : Type 0} (a : ℕ) (logs : List (Log L)) (log : Log L) →
    keys_of a (clocks_of (logs ++ log ∷ []))
    ≡ keys_of a (clocks_of logs) ++ entry_keys (a + length logs) 0 (map (λ e. e.clock) log.entries)
keys_push {L} a [] log =
    let e : a ≡ a + length {A = Log L} [] = omega arith in
    append-nil (entry_keys a 0 (map (λ e. e.clock) log.entries))
    ∙ ap (λ j. entry_keys j 0 (map (λ e. e.clock) log.entries)) e
keys_push a (x ∷ logs) log =
    let e : suc a + length logs ≡ a + length (x ∷ logs) = omega arith in
    let old = entry_keys a 0 (map (λ e. e.clock) x.entries) in
    let new = map (λ e. e.clock) log.entries in
    ap (λ l. old ++ l) (keys_push (suc a) logs log)
    ∙ (sym (append_assoc old (keys_of (suc a) (clocks_of logs)) (entry_keys (suc a + length logs) 0 new))
    ∙ ap (λ j. (old ++ keys_of (suc a) (clocks_of logs)) ++ entry_keys j 0 new) e)

-- The clocks of one entry more.
map-take-suc : {L : Type 0} (log : List (Entry L)) (i : ℕ) (d : Entry L) → i < length log →
    map (λ e. e.clock) (take (suc i) log) ≡ map (λ e. e.clock) (take i log) ++ (get_or log i d).clock ∷ []
map-take-suc [] i d lt = absurd (omega arith)
map-take-suc (x ∷ log) zero d lt = refl
map-take-suc (x ∷ log) (suc i) d lt = ap (λ l. x.clock ∷ l) (map-take-suc log i d (omega arith))

map-take-more : {L : Type 0} (log : List (Entry L)) (i : ℕ) (d : Entry L) → i < length log →
    map (λ e. e.clock) (take (i + 1) log) ≡ map (λ e. e.clock) (take i log) ++ (get_or log i d).clock ∷ []
map-take-more log i d lt =
    let one : i + 1 ≡ suc i = omega arith in
    ap (λ n. map (λ e. e.clock) (take n log)) one ∙ map-take-suc log i d lt

map-length : {L : Type 0} (log : List (Entry L)) → length (map (λ e. e.clock) log) ≡ length log
map-length [] = refl
map-length (x ∷ log) = ap suc (map-length log)

-- The loops that collect keys: the next entry of a log,
pub push_step : {L : Type 0} (old keys keys' : List Key) (a i : ℕ) (log : List (Entry L)) (d : Entry L) →
    i < length log → keys ≡ old ++ entry_keys a 0 (map (λ e. e.clock) (take i log)) →
    keys' ≡ keys ++ ((get_or log i d).clock, a, i) ∷ [] →
    keys' ≡ old ++ entry_keys a 0 (map (λ e. e.clock) (take (i + 1) log))
push_step old keys keys' a i log d lt was now =
    let seen = map (λ e. e.clock) (take i log) in
    let c : ℕ = (get_or log i d).clock in
    let long = length-take-le i log (omega (arith, lt)) in
    let same = map-length (take i log) in
    let count : 0 + length seen ≡ i = omega (arith, long, same) in
    now ∙ (ap (λ l. l ++ (c, a, i) ∷ []) was ∙ (append_assoc old (entry_keys a 0 seen) ((c, a, i) ∷ []) ∙
    ap (λ l. old ++ l) (ap (λ j. entry_keys a 0 seen ++ (c, a, j) ∷ []) (sym count)
    ∙ (sym (entry_keys_push a 0 seen c) ∙ ap (entry_keys a 0) (sym (map-take-more log i d lt))))))

-- and the next log.
pub all_step : {L : Type 0} (keys keys' : List Key) (a : ℕ) (logs : List (Log L)) (log : Log L) →
    a < length logs → log ≡ get_or logs a log → keys ≡ keys_of 0 (clocks_of (take a logs)) →
    keys' ≡ keys ++ entry_keys a 0 (map (λ e. e.clock) log.entries) →
    keys' ≡ keys_of 0 (clocks_of (take (a + 1) logs))
all_step keys keys' a logs log lt is was now =
    let long = length-take-le a logs (omega (arith, lt)) in
    let count : 0 + length (take a logs) ≡ a = omega (arith, long) in
    let new = map (λ e. e.clock) log.entries in
    now ∙ (ap (λ l. l ++ entry_keys a 0 new) was
    ∙ (ap (λ j. keys_of 0 (clocks_of (take a logs)) ++ entry_keys j 0 new) (sym count)
    ∙ (sym (keys_push 0 (take a logs) log)
    ∙ ap (λ l. keys_of 0 (clocks_of l)) (ap (λ w. take a logs ++ w ∷ []) is ∙ sym (take_more logs a log lt)))))
