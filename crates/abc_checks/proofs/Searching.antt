-- A search along arrows finds just the nodes that a way leads to.
use Rattle.std.proofs.Common.{◌≡◌, ◌≢◌, ◌⊎◌, ◌<◌, ◌≤◌, ◌+◌, ℕ, zero, suc, ◌++◌, ◌↔◌, Bool, true, false, List, [], ◌∷◌, length, get_or, set, refl, sym, ◌∙◌, ap, subst, inl, inr, arith, if◌then◌else◌, get_or-set_other, get_or-set_same, length-append, sum_by, replicate}
use Rattle.std.proofs.lemmas.List.{length-set, length-replicate}
use Rattle.std.proofs.lemmas.List.Sums.{sum_by-set}
use Rattle.abc_checks.specs.Graphs.{Member, Arrow, Path, arrow, arrows, Search, mark, mark_all}

abbrev pub Marked : Search → ℕ → Type 0
Marked s j = get_or s.marked j false ≡ true

abbrev pub weight : Bool → ℕ
weight b = if b then 0 else 1

-- how many nodes have no mark
abbrev pub unmarked : List Bool → ℕ
unmarked m = sum_by weight m

-- every arrow from a node leads to a marked one
abbrev pub Followed : List (List ℕ) → Search → ℕ → Type 0
Followed g s j = (k : ℕ) → Arrow g j k → Marked s k

-- the search from a node, as far as it has come
pub record Searching (g : List (List ℕ)) (start : ℕ) (s : Search) : Type 0 where
  pub size : length s.marked ≡ length g
  pub sound : (j : ℕ) → Marked s j → Path g start j
  pub closed : (j : ℕ) → Marked s j → Member j s.waiting ⊎ Followed g s j
  pub begun : Followed g s start
  pub waits : (j : ℕ) → Member j s.waiting → Marked s j

-- what marking some nodes does
pub record Grown (xs : List ℕ) (s t : Search) : Type 0 where
  pub size : length t.marked ≡ length s.marked
  pub kept : (j : ℕ) → Marked s j → Marked t j
  pub marks : (j : ℕ) → Member j xs → j < length s.marked → Marked t j
  pub only : (j : ℕ) → Marked t j → Marked s j ⊎ Member j xs
  pub waits : (j : ℕ) → Marked t j → Marked s j ⊎ Member j t.waiting
  pub held : (j : ℕ) → Member j s.waiting → Member j t.waiting
  pub fresh : (j : ℕ) → Member j t.waiting → Member j s.waiting ⊎ Marked t j
  pub falls : unmarked t.marked + length t.waiting ≤ unmarked s.marked + length s.waiting

-- ---- Lists

in_range : (m : List Bool) (i : ℕ) (d : Bool) → get_or m i d ≢ d → i < length m
in_range [] i d h = absurd (h refl)
in_range (x ∷ m) zero d h = omega arith
in_range (x ∷ m) (suc i) d h = omega (arith, in_range m i d h)

any_default : (m : List Bool) (i : ℕ) (a b : Bool) → i < length m → get_or m i a ≡ get_or m i b
any_default [] i a b h = absurd (omega arith)
any_default (x ∷ m) zero a b h = refl
any_default (x ∷ m) (suc i) a b h = any_default m i a b (omega arith)

member_left : (j : ℕ) (xs ys : List ℕ) → Member j xs → Member j (xs ++ ys)
member_left j (x ∷ xs) ys h = elim h [ inl e ↦ inl e | inr more ↦ inr (member_left j xs ys more) ]
member_left j [] ys h = absurd h

member_right : (j : ℕ) (xs ys : List ℕ) → Member j ys → Member j (xs ++ ys)
member_right j [] ys h = h
member_right j (x ∷ xs) ys h = inr (member_right j xs ys h)

member_either : (j : ℕ) (xs ys : List ℕ) → Member j (xs ++ ys) → Member j xs ⊎ Member j ys
member_either j [] ys h = inr h
member_either j (x ∷ xs) ys h =
    elim h [
      | inl e ↦ inl (inl e)
      | inr more ↦ elim (member_either j xs ys more) [ inl l ↦ inl (inr l) | inr r ↦ inr r ]
    ]

false_true : {A : Type 0} → false ≡ true → A
false_true h = cc

-- ---- One mark

marked_true : (s : Search) (j : ℕ) → get_or s.marked j true ≡ true → j < length s.marked → Marked s j
marked_true s j h at = any_default s.marked j false true at ∙ h

stayed : (x : ℕ) (s : Search) → get_or s.marked x true ≡ true → Grown (x ∷ []) s s
stayed x s h = record {
  size = refl;
  kept = λ j m. m;
  marks = λ j is at. elim is [ inl e ↦ subst (λ (k : ℕ). Marked s k) e (marked_true s x h (subst (λ (k : ℕ). k < length s.marked) (sym e) at)) | inr never ↦ absurd never ];
  only = λ j m. inl m;
  waits = λ j m. inl m;
  held = λ j m. m;
  fresh = λ j m. inl m;
  falls = omega arith;
}

unfold_mark : (x : ℕ) (s : Search) → Search
unfold_mark x s = record { marked = set s.marked x true; waiting = s.waiting ++ x ∷ [] }

abbrev after_mark : ℕ → Search → Search
after_mark x s = record { marked = set s.marked x true; waiting = s.waiting ++ x ∷ [] }

mark_fits : (x : ℕ) (s : Search) → get_or s.marked x true ≡ false → x < length s.marked
mark_fits x s h = in_range s.marked x true (λ (e : get_or s.marked x true ≡ true). cc)

mark_itself : (x : ℕ) (s : Search) → x < length s.marked → get_or (set s.marked x true) x false ≡ true
mark_itself x s at = get_or-set_same s.marked x true false at

same_or_not : (j x : ℕ) → (x ≡ j) ⊎ (j ≢ x)
same_or_not j x = grind arith

marking : (x : ℕ) (s : Search) → get_or s.marked x true ≡ false → Grown (x ∷ []) s (after_mark x s)
marking x s h =
    let at : x < length s.marked = mark_fits x s h in
    record {
      size = length-set s.marked x true;
      kept = λ j m. elim (same_or_not j x) [
        | inl e ↦ subst (λ (k : ℕ). get_or (set s.marked x true) k false ≡ true) e (mark_itself x s at)
        | inr ne ↦ get_or-set_other s.marked x j true false ne ∙ m
      ];
      marks = λ j is lt. elim is [ inl e ↦ subst (λ (k : ℕ). get_or (set s.marked x true) k false ≡ true) e (mark_itself x s at) | inr never ↦ absurd never ];
      only = λ j m. elim (same_or_not j x) [
        | inl e ↦ inr (inl e)
        | inr ne ↦ inl (sym (get_or-set_other s.marked x j true false ne) ∙ m)
      ];
      waits = λ j m. elim (same_or_not j x) [
        | inl e ↦ inr (member_right j s.waiting (x ∷ []) (inl e))
        | inr ne ↦ inl (sym (get_or-set_other s.marked x j true false ne) ∙ m)
      ];
      held = λ j m. member_left j s.waiting (x ∷ []) m;
      fresh = λ j m. elim (member_either j s.waiting (x ∷ []) m) [
        | inl l ↦ inl l
        | inr r ↦ inr (elim r [ inl e ↦ subst (λ (k : ℕ). get_or (set s.marked x true) k false ≡ true) e (mark_itself x s at) | inr never ↦ absurd never ])
      ];
      falls =
          let moved : unmarked (set s.marked x true) + weight (get_or s.marked x true) ≡ unmarked s.marked + weight true = sum_by-set weight s.marked x true true at in
          let one : weight (get_or s.marked x true) ≡ 1 = ap weight h in
          omega (arith, length-append s.waiting (x ∷ []));
    }

one_mark : (x : ℕ) (s : Search) (b : Bool) → get_or s.marked x true ≡ b → Grown (x ∷ []) s (if b then s else after_mark x s)
one_mark x s true h = stayed x s h
one_mark x s false h = marking x s h

then_more : (x : ℕ) (xs : List ℕ) (s t u : Search) → Grown (x ∷ []) s t → Grown xs t u → Grown (x ∷ xs) s u
then_more x xs s t u a b = record {
  size = b.size ∙ a.size;
  kept = λ j m. b.kept j (a.kept j m);
  marks = λ j is at. elim is [
    | inl e ↦ b.kept j (a.marks j (inl e) at)
    | inr more ↦ b.marks j more (subst (λ (n : ℕ). j < n) (sym a.size) at)
  ];
  only = λ j m. elim (b.only j m) [
    | inl n ↦ elim (a.only j n) [ inl o ↦ inl o | inr is ↦ elim is [ inl e ↦ inr (inl e) | inr never ↦ absurd never ] ]
    | inr more ↦ inr (inr more)
  ];
  waits = λ j m. elim (b.waits j m) [
    | inl n ↦ elim (a.waits j n) [ inl o ↦ inl o | inr w ↦ inr (b.held j w) ]
    | inr w ↦ inr w
  ];
  held = λ j m. b.held j (a.held j m);
  fresh = λ j m. elim (b.fresh j m) [
    | inl w ↦ elim (a.fresh j w) [ inl o ↦ inl o | inr n ↦ inr (b.kept j n) ]
    | inr n ↦ inr n
  ];
  falls = omega (arith, a.falls, b.falls);
}

none_marked : (s : Search) → Grown [] s s
none_marked s = record {
  size = refl;
  kept = λ j m. m;
  marks = λ j is at. absurd is;
  only = λ j m. inl m;
  waits = λ j m. inl m;
  held = λ j m. m;
  fresh = λ j m. inl m;
  falls = omega arith;
}

pub grown : (xs : List ℕ) (s : Search) → Grown xs s (mark_all xs s)
grown [] s = none_marked s
grown (x ∷ xs) s = then_more x xs s (mark x s) (mark_all xs (mark x s)) (one_mark x s (get_or s.marked x true) refl) (grown xs (mark x s))

-- ---- The search

one_more : (g : List (List ℕ)) (i j k : ℕ) → Path g i j → Arrow g j k → Path g i k
one_more g i j k (arrow a) b = arrows a (arrow b)
one_more g i j k (arrows a p) b = arrows a (one_more g _ j k p b)

marked_fits : (s : Search) (j : ℕ) → Marked s j → j < length s.marked
marked_fits s j m = in_range s.marked j false (λ (e : get_or s.marked j false ≡ false). false_true (sym e ∙ m))

no_mark : (n j : ℕ) → get_or (replicate n false) j false ≡ false
no_mark zero j = refl
no_mark (suc n) zero = refl
no_mark (suc n) (suc j) = no_mark n j

-- it begins with the arrows of its first node
pub begins : (g : List (List ℕ)) (start : ℕ) (s : Search) → s.marked ≡ replicate (length g) false → s.waiting ≡ [] → Searching g start (mark_all (get_or g start []) s)
begins g start s none empty =
    let xs : List ℕ = get_or g start [] in
    let grew : Grown xs s (mark_all xs s) = grown xs s in
    let count : length s.marked ≡ length g = ap length none ∙ length-replicate (length g) false in
    let clean : (j : ℕ) → Marked s j → ⊥ = λ j m. false_true (sym (no_mark (length g) j) ∙ (subst (λ (n : List Bool). get_or n j false ≡ true) none m)) in
    record {
      size = grew.size ∙ count;
      sound = λ j m. elim (grew.only j m) [ inl o ↦ absurd (clean j o) | inr is ↦ arrow (subst (λ (n : ℕ). j < n) (grew.size ∙ count) (marked_fits (mark_all xs s) j m), is) ];
      closed = λ j m. elim (grew.waits j m) [ inl o ↦ absurd (clean j o) | inr w ↦ inl w ];
      begun = λ k a. grew.marks k a.1 (subst (λ (n : ℕ). k < n) (sym count) a.0);
      waits = λ j w. elim (grew.fresh j w) [ inl o ↦ absurd (subst (λ (n : List ℕ). Member j n) empty o) | inr m ↦ m ];
    }

-- the arrows of a node that waited are followed
pub goes_on : (g : List (List ℕ)) (start node : ℕ) (s t : Search) → Searching g start s → s.waiting ≡ t.waiting ++ node ∷ [] → s.marked ≡ t.marked
    → Searching g start (mark_all (get_or g node []) t)
goes_on g start node s t so took same =
    let xs : List ℕ = get_or g node [] in
    let grew : Grown xs t (mark_all xs t) = grown xs t in
    let count : length t.marked ≡ length g = ap length (sym same) ∙ so.size in
    let back : (j : ℕ) → Marked t j → Marked s j = λ j m. subst (λ (n : List Bool). get_or n j false ≡ true) (sym same) m in
    let forth : (j : ℕ) → Marked s j → Marked t j = λ j m. subst (λ (n : List Bool). get_or n j false ≡ true) same m in
    let here : Path g start node = so.sound node (so.waits node (subst (λ (n : List ℕ). Member node n) (sym took) (member_right node t.waiting (node ∷ []) (inl refl)))) in
    let followed : Followed g (mark_all xs t) node = λ k a. grew.marks k a.1 (subst (λ (n : ℕ). k < n) (sym count) a.0) in
    record {
      size = grew.size ∙ count;
      sound = λ j m. elim (grew.only j m) [
        | inl o ↦ so.sound j (back j o)
        | inr is ↦ one_more g start node j here (subst (λ (n : ℕ). j < n) (grew.size ∙ count) (marked_fits (mark_all xs t) j m), is)
      ];
      closed = λ j m. elim (grew.waits j m) [
        | inl o ↦ elim (so.closed j (back j o)) [
          | inl w ↦ elim (member_either j t.waiting (node ∷ []) (subst (λ (n : List ℕ). Member j n) took w)) [
            | inl l ↦ inl (grew.held j l)
            | inr r ↦ inr (elim r [ inl e ↦ subst (λ (k : ℕ). Followed g (mark_all xs t) k) e followed | inr never ↦ absurd never ])
          ]
          | inr f ↦ inr (λ k a. grew.kept k (forth k (f k a)))
        ]
        | inr w ↦ inl w
      ];
      begun = λ k a. grew.kept k (forth k (so.begun k a));
      waits = λ j w. elim (grew.fresh j w) [
        | inl o ↦ grew.kept j (forth j (so.waits j (subst (λ (n : List ℕ). Member j n) (sym took) (member_left j t.waiting (node ∷ []) o))))
        | inr m ↦ m
      ];
    }

pub falls_on : (g : List (List ℕ)) (node : ℕ) (w : List ℕ) (t : Search) → w ≡ t.waiting ++ node ∷ []
    → unmarked (mark_all (get_or g node []) t).marked + length (mark_all (get_or g node []) t).waiting < unmarked t.marked + length w
falls_on g node w t took = omega (arith, (grown (get_or g node []) t).falls, ap length took, length-append t.waiting (node ∷ []))

reached : (g : List (List ℕ)) (s : Search) (i k : ℕ) → ((j : ℕ) → Marked s j → Followed g s j) → Followed g s i → Path g i k → Marked s k
reached g s i k all from (arrow a) = from k a
reached g s i k all from (arrows a p) = reached g s _ k all (all _ (from _ a)) p

-- when none waits, the marked nodes are those that a way leads to
pub ends : (g : List (List ℕ)) (start : ℕ) (s : Search) (k : ℕ) → Searching g start s → s.waiting ≡ [] → Marked s k ↔ Path g start k
ends g start s k so empty = (
  so.sound k,
  λ p. reached g s start k
      (λ j m. elim (so.closed j m) [ inl w ↦ absurd (subst (λ (n : List ℕ). Member j n) empty w) | inr f ↦ f ])
      so.begun p,
)
