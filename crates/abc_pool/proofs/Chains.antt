-- What a table keeps when a cell is taken off the front of a chain, or put behind its last cell.
use Rattle.std.proofs.Common.{inl, inr, ◌≡◌, ℕ, zero, suc, ◌+◌, ◌-◌, ◌<◌, ◌≤◌, List, [], ◌∷◌, ◌++◌, length, refl, sym, ap, ◌∙◌, subst, arith}
use Rattle.std.proofs.Common.{get_or-set_same, get_or-set_other}
use Rattle.std.specs.Prelude.{Option, Some, None, option_to_list, slice_set}
use Rattle.std.proofs.lemmas.Bool.{cases_eq, cases_lt}
use Rattle.abc_pool.specs.declared.cells.Cell.{Cell}
use Rattle.abc_pool.specs.declared.cells.Chain.{Chain}
use Rattle.abc_pool.specs.Tables.{no_chain, chain_at, count_at, item_of, next_of, after, items_from, items_of, cell_at}
use Rattle.abc_pool.specs.Tables.{IsTable, rest_of, linked, lengthened}
use Rattle.abc_pool.proofs.Walks.{SameNexts, SameItems, after-suc, after-same, items_from-same, items_from-more}
use Rattle.abc_pool.proofs.Links.{length-linked, item_of-linked, next_of-linked, next_of-linked_other, lengthened-empty, lengthened-some}

module _ {T : Type 0} where
  -- a cell of the table that stands in no chain
  pub record IsLoose (cells : List (Cell T)) (chains : List Chain) (x : ℕ) : Type 0 where
    pub inside : x < length cells
    pub nowhere : (c j : ℕ) → j < count_at chains c → cell_at cells chains c j ≡ x → ⊥

  -- each chain of another table is an old one without so many cells at its front
  pub record IsShifted (cells cells' : List (Cell T)) (chains chains' : List Chain) (shift : ℕ → ℕ) : Type 0 where
    pub longer : length cells ≤ length cells'
    pub counts : (c : ℕ) → count_at chains' c + shift c ≡ count_at chains c
    pub places : (c j : ℕ) → j < count_at chains' c → cell_at cells' chains' c j ≡ cell_at cells chains c (j + shift c)
    pub lasts : (c : ℕ) → (chain_at chains' c).last ≡ (chain_at chains c).last

  -- one chain of another table has one more cell at its end
  pub record IsAppended (cells cells' : List (Cell T)) (chains chains' : List Chain) (b x : ℕ) : Type 0 where
    pub as_long : length cells' ≡ length cells
    pub old : (c j : ℕ) → j < count_at chains c → cell_at cells' chains' c j ≡ cell_at cells chains c j
    pub new : cell_at cells' chains' b (count_at chains b) ≡ x
    pub more : count_at chains' b ≡ count_at chains b + 1
    pub others : (c : ℕ) → (c ≡ b → ⊥) → count_at chains' c ≡ count_at chains c
    pub last : (chain_at chains' b).last ≡ x
    pub lasts : (c : ℕ) → (c ≡ b → ⊥) → (chain_at chains' c).last ≡ (chain_at chains c).last

  module _ {cells cells' : List (Cell T)} {chains chains' : List Chain} {shift : ℕ → ℕ} (s : IsShifted cells cells' chains chains' shift) where
    -- chains without some cells at their fronts are chains of a table
    pub IsTable-shifted : IsTable cells chains → IsTable cells' chains'
    IsTable-shifted t = record {
      in_table = λ c j l.
          let n = s.counts c in
          let p = t.in_table c (j + shift c) (omega arith) in
          let q = s.places c j l in
          let m = s.longer in omega arith;
      apart = λ c d j k l m e.
          let n = s.counts c in
          let o = s.counts d in
          let h = t.apart c d (j + shift c) (k + shift d) (omega arith) (omega arith) (sym (s.places c j l) ∙ (e ∙ s.places d k m)) in
          let w = ap shift h.0 in
          let v = h.1 in
          (h.0, omega arith);
      last = λ c j e.
          let n = s.counts c in
          s.lasts c ∙ (t.last c (j + shift c) (omega arith) ∙ sym (s.places c j (omega arith)));
    }

    -- a loose cell stays loose
    pub IsLoose-shifted : (x : ℕ) → IsLoose cells chains x → IsLoose cells' chains' x
    IsLoose-shifted x loose = record {
      inside = let a = loose.inside in let b = s.longer in omega arith;
      nowhere = λ c j l e. let n = s.counts c in loose.nowhere c (j + shift c) (omega arith) (sym (s.places c j l) ∙ e);
    }

    -- the first cell of a chain that lost one is loose
    pub IsLoose-first : (a : ℕ) → shift a ≡ 1 → IsTable cells chains → IsLoose cells' chains' (chain_at chains a).first
    IsLoose-first a one t = record {
      inside = let n = s.counts a in let p = t.in_table a 0 (omega arith) in let m = s.longer in omega arith;
      nowhere = λ c j l e.
          let n = s.counts c in
          let o = s.counts a in
          let h = t.apart c a (j + shift c) 0 (omega arith) (omega arith) (sym (s.places c j l) ∙ e) in
          let w = ap shift h.0 in
          let v = h.1 in
          absurd (omega arith);
    }

  module _ {cells cells' : List (Cell T)} {chains chains' : List Chain} {b x : ℕ} (a : IsAppended cells cells' chains chains' b x) where
    -- a place that no old chain has is the new one
    is_new : (c j : ℕ) → j < count_at chains' c → count_at chains c ≤ j → (c ≡ b) × (j ≡ count_at chains b)
    is_new c j l g = elim (cases_eq c b) [
      | inl e ↦
          let n = ap (λ (d : ℕ). count_at chains' d) e in
          let o = ap (λ (d : ℕ). count_at chains d) e in
          let m = a.more in
          (e, omega arith)
      | inr d ↦ let o = a.others c d in absurd (omega arith)
    ]

    -- it has the new cell
    has_new : (c j : ℕ) → (c ≡ b) × (j ≡ count_at chains b) → cell_at cells' chains' c j ≡ x
    has_new c j h =
        ap (λ (d : ℕ). cell_at cells' chains' d j) h.0 ∙ (ap (λ (k : ℕ). cell_at cells' chains' b k) h.1 ∙ a.new)

    -- chains of which one has a loose cell more at its end are chains of a table
    pub IsTable-appended : IsTable cells chains → IsLoose cells chains x → IsTable cells' chains'
    IsTable-appended t loose = record {
      in_table = λ c j l.
          let m = a.as_long in
          elim (cases_lt j (count_at chains c)) [
            | inl o ↦ let p = t.in_table c j o in let q = a.old c j o in omega arith
            | inr n ↦ let p = has_new c j (is_new c j l n) in let q = loose.inside in omega arith
          ];
      apart = λ c d j k l m e.
          elim (cases_lt j (count_at chains c)) [
            | inl o ↦ elim (cases_lt k (count_at chains d)) [
              | inl p ↦ t.apart c d j k o p (sym (a.old c j o) ∙ (e ∙ a.old d k p))
              | inr q ↦ absurd (loose.nowhere c j o (sym (a.old c j o) ∙ (e ∙ has_new d k (is_new d k m q))))
            ]
            | inr n ↦ let h = is_new c j l n in elim (cases_lt k (count_at chains d)) [
              | inl p ↦ absurd (loose.nowhere d k p (sym (a.old d k p) ∙ (sym e ∙ has_new c j h)))
              | inr q ↦ let i = is_new d k m q in (h.0 ∙ sym i.0, h.1 ∙ sym i.1)
            ]
          ];
      last = λ c j e. elim (cases_eq c b) [
        | inl q ↦
            let n = ap (λ (d : ℕ). count_at chains' d) q in
            let m = a.more in
            let w : (c ≡ b) × (j ≡ count_at chains b) = (q, omega arith) in
            ap (λ (d : ℕ). (chain_at chains' d).last) q ∙ (a.last ∙ sym (has_new c j w))
        | inr d ↦
            let o = a.others c d in
            a.lasts c d ∙ (t.last c j (omega arith) ∙ sym (a.old c j (omega arith)))
      ];
    }

  -- the first cell is taken off chain a
  module _ (cells : List (Cell T)) (chains : List Chain) (a : ℕ) (some : 0 < count_at chains a) (inside : a < length chains) where
    -- the chain after it
    abbrev rest : Chain
    rest = rest_of cells (chain_at chains a)

    -- one cell is gone from this chain, and none from another
    abbrev pub gone : ℕ → ℕ
    gone c = count_at chains c - count_at (slice_set chains a rest) c

    same_chain : chain_at (slice_set chains a rest) a ≡ rest
    same_chain = get_or-set_same chains a rest no_chain inside

    other_chain : (c : ℕ) → (c ≡ a → ⊥) → chain_at (slice_set chains a rest) c ≡ chain_at chains c
    other_chain c d = get_or-set_other chains a c rest no_chain d

    pub gone-same : gone a ≡ 1
    gone-same = let e = ap (λ (h : Chain). h.count) same_chain in omega arith

    pub IsShifted-rest : IsShifted cells cells chains (slice_set chains a rest) gone
    IsShifted-rest = record {
      longer = omega arith;
      counts = λ c. elim (cases_eq c a) [
        | inl e ↦
            let n = ap (λ (d : ℕ). count_at chains d) e in
            let m = ap (λ (d : ℕ). count_at (slice_set chains a rest) d) e in
            let o = ap (λ (h : Chain). h.count) same_chain in omega arith
        | inr d ↦ let o = ap (λ (h : Chain). h.count) (other_chain c d) in omega arith
      ];
      places = λ c j l. elim (cases_eq c a) [
        | inl e ↦
            let one : suc j ≡ j + gone c = let g = gone-same in let w = ap gone e in omega arith in
            ap (λ (d : ℕ). cell_at cells (slice_set chains a rest) d j) e
            ∙ (ap (λ (h : Chain). after cells h.first j) same_chain
            ∙ (ap (λ (d : ℕ). cell_at cells chains d (suc j)) (sym e)
            ∙ ap (λ (k : ℕ). cell_at cells chains c k) one))
        | inr d ↦
            let o = ap (λ (h : Chain). h.count) (other_chain c d) in
            let none : j ≡ j + gone c = omega arith in
            ap (λ (h : Chain). after cells h.first j) (other_chain c d) ∙ ap (λ (k : ℕ). cell_at cells chains c k) none
      ];
      lasts = λ c. elim (cases_eq c a) [
        | inl e ↦
            ap (λ (d : ℕ). (chain_at (slice_set chains a rest) d).last) e
            ∙ (ap (λ (h : Chain). h.last) same_chain ∙ ap (λ (d : ℕ). (chain_at chains d).last) (sym e))
        | inr d ↦ ap (λ (h : Chain). h.last) (other_chain c d)
      ];
    }

  -- another table in which the chains go the same ways
  pub IsShifted-framed : (cells cells' : List (Cell T)) (chains : List Chain) → length cells ≤ length cells'
      → ((c : ℕ) → SameNexts cells cells' (chain_at chains c).first (count_at chains c))
      → IsShifted cells cells' chains chains (λ _. 0)
  IsShifted-framed cells cells' chains l same = record {
    longer = l;
    counts = λ c. omega arith;
    places = λ c j m.
        let none : j ≡ j + 0 = omega arith in
        after-same cells cells' (chain_at chains c).first (count_at chains c) j (same c) m
        ∙ ap (λ (k : ℕ). cell_at cells chains c k) none;
    lasts = λ c. refl;
  }

  -- cell x is put behind the last one of chain b
  module _ (cells : List (Cell T)) (chains : List Chain) (b x : ℕ) (inside : b < length chains) (t : IsTable cells chains) where
    abbrev chain : Chain
    chain = chain_at chains b

    abbrev cells2 : List (Cell T)
    cells2 = linked cells chain x

    abbrev chains2 : List Chain
    chains2 = slice_set chains b (lengthened chain x)

    -- the last cell of the chain stands at its last place
    last_place : (j : ℕ) → j + 1 ≡ chain.count → chain.last ≡ cell_at cells chains b j
    last_place j e = t.last b j e

    last_in : 0 < chain.count → chain.last < length cells
    last_in some =
        let p = t.last b (chain.count - 1) (omega arith) in
        let q = t.in_table b (chain.count - 1) (omega arith) in omega arith

    longer_chain : chain_at chains2 b ≡ lengthened chain x
    longer_chain = get_or-set_same chains b (lengthened chain x) no_chain inside

    other_chain2 : (c : ℕ) → (c ≡ b → ⊥) → chain_at chains2 c ≡ chain_at chains c
    other_chain2 c d = get_or-set_other chains b c (lengthened chain x) no_chain d

    -- only the last cell of chain b leads to another one
    pub SameNexts-linked : (c : ℕ) → SameNexts cells cells2 (chain_at chains c).first (count_at chains c)
    SameNexts-linked c j l =
        next_of-linked_other cells chain x last_in (cell_at cells chains c j) (λ some e.
        let p = t.last b (chain.count - 1) (omega arith) in
        let h = t.apart c b j (chain.count - 1) (omega arith) (omega arith) (e ∙ p) in
        let n = ap (λ (d : ℕ). count_at chains d) h.0 in
        let v = h.1 in
        absurd (omega arith))

    -- the steps along an old chain are the same
    old_steps : (c j : ℕ) → j < count_at chains c → after cells2 (chain_at chains c).first j ≡ cell_at cells chains c j
    old_steps c j l = after-same cells cells2 (chain_at chains c).first (count_at chains c) j (SameNexts-linked c) l

    -- the longer chain begins with the old one, if that had a cell
    old_first : (j : ℕ) → j < chain.count → (lengthened chain x).first ≡ chain.first
    old_first j l = lengthened-some chain x (λ e. omega arith)

    -- behind the old cells the new one follows
    new_step : after cells2 (lengthened chain x).first chain.count ≡ x
    new_step = elim (cases_eq chain.count 0) [
      | inl e ↦ ap (λ (k : ℕ). after cells2 (lengthened chain x).first k) e ∙ lengthened-empty chain x e
      | inr d ↦
          let some : 0 < chain.count = omega arith in
          let n : chain.count ≡ suc (chain.count - 1) = omega arith in
          ap (λ (i : ℕ). after cells2 i chain.count) (lengthened-some chain x d)
          ∙ (ap (λ (k : ℕ). after cells2 chain.first k) n
          ∙ (after-suc cells2 chain.first (chain.count - 1)
          ∙ (ap (λ (i : ℕ). next_of cells2 i) (old_steps b (chain.count - 1) (omega arith) ∙ sym (t.last b (chain.count - 1) (omega arith)))
          ∙ next_of-linked cells chain x last_in some)))
    ]

    pub IsAppended-lengthened : IsAppended cells cells2 chains chains2 b x
    IsAppended-lengthened = record {
      as_long = length-linked cells chain x;
      old = λ c j l. elim (cases_eq c b) [
        | inl e ↦
            let m : j < chain.count = let n = ap (λ (d : ℕ). count_at chains d) e in omega arith in
            ap (λ (d : ℕ). cell_at cells2 chains2 d j) e
            ∙ (ap (λ (h : Chain). after cells2 h.first j) longer_chain
            ∙ (ap (λ (i : ℕ). after cells2 i j) (old_first j m)
            ∙ (old_steps b j m
            ∙ ap (λ (d : ℕ). cell_at cells chains d j) (sym e))))
        | inr d ↦ ap (λ (h : Chain). after cells2 h.first j) (other_chain2 c d) ∙ old_steps c j l
      ];
      new = ap (λ (h : Chain). after cells2 h.first chain.count) longer_chain ∙ new_step;
      more = ap (λ (h : Chain). h.count) longer_chain;
      others = λ c d. ap (λ (h : Chain). h.count) (other_chain2 c d);
      last = ap (λ (h : Chain). h.last) longer_chain;
      lasts = λ c d. ap (λ (h : Chain). h.last) (other_chain2 c d);
    }

    -- all chains but the longer one have their items
    pub items_of-others : (c : ℕ) → items_of cells2 (chain_at chains c) ≡ items_of cells (chain_at chains c)
    items_of-others c =
        items_from-same cells cells2 (chain_at chains c).first (count_at chains c) (SameNexts-linked c)
        (λ j l. item_of-linked cells chain x last_in (cell_at cells chains c j))

    -- the items before it are the old ones
    front : items_from cells2 (lengthened chain x).first chain.count ≡ items_of cells chain
    front = elim (cases_eq chain.count 0) [
      | inl e ↦ ap (λ (k : ℕ). items_from cells2 (lengthened chain x).first k) e ∙ ap (λ (k : ℕ). items_from cells chain.first k) (sym e)
      | inr d ↦ ap (λ (i : ℕ). items_from cells2 i chain.count) (lengthened-some chain x d) ∙ items_of-others b
    ]

    -- the longer one has the item of the new cell at its end
    pub items_of-lengthened : items_of cells2 (lengthened chain x) ≡ items_of cells chain ++ option_to_list (item_of cells x)
    items_of-lengthened =
        items_from-more cells2 (lengthened chain x).first chain.count
        ∙ (ap (λ (i : ℕ). items_from cells2 (lengthened chain x).first chain.count ++ option_to_list (item_of cells2 i)) new_step
        ∙ (ap (λ (o : Option T). items_from cells2 (lengthened chain x).first chain.count ++ option_to_list o)
        (item_of-linked cells chain x last_in x)
        ∙ ap (λ (xs : List T). xs ++ option_to_list (item_of cells x)) front))
