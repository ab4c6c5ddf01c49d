-- What going over the tokens of a program finds first is its first limit.
use Rattle.std.proofs.Common.{◌≡◌, ℕ, zero, suc, ◌+◌, ◌<◌, ◌≤◌, inl, inr, Bool, true, false, List, [], ◌∷◌, ◌++◌, length, take, Option, Some, None, refl, sym, ap, ◌∙◌, subst, append_assoc, append-nil, length-append, add-one, arith}
use Rattle.std.specs.Prelude.{fold, slice_get, ◌&&◌, not, nat_le, if◌then◌else◌}
use Rattle.std.proofs.Math.Seq.{take-append_seam}
use Rattle.std.proofs.lemmas.List.Sums.{fold-append}
use Rattle.std.proofs.lemmas.Option.{slice_get_within}
use Rattle.abc_cause.specs.declared.Cause.{Cause}
use Rattle.abc_cause.specs.declared.Cause.TheVariants as cause
use Rattle.abc_grammar.specs.declared.lexemes.Lexeme.{Lexeme}
use Rattle.abc_grammar.specs.declared.limits.TheConstants.{MOST_OPEN}
use Rattle.abc_grammar.specs.Limits.{opens, open_behind, starts_item, IsTooDeep, IsTooLarge, BeginsExtraScalar}
use Rattle.abc_grammar.specs.Refusals.{IsSomeProgram, IsWithin, PassesLimit}
use Rattle.abc_grammar_laws.specs.Crowding.{Bracket, Standing, is_crowded, moved, walk, at_start, IsCrowd, BeginsExtraPart, ExtraPartsAreCrowded}
use Rattle.abc_grammar_laws.specs.Meeting.{LimitsMeet}
use Rattle.abc_grammar_laws.proofs.Walks.{walk_append, one_step}
use Rattle.abc_grammar_laws.proofs.NoneTooMany.{unlimited}
use Rattle.abc_grammar_laws.proofs.Crowded.{extra_parts_are_crowded}
use Rattle.abc_grammar_laws.proofs.Meeting.{limits_meet}
use Rattle.abc_grammar_laws.proofs.Beginnings.{beginnings_are_walked}
use Rattle.abc_limits.specs.declared.program.Limit.{Limit}
use Rattle.abc_limits.specs.declared.program.Limit.TheVariants.{Passed, Stray}
use Rattle.abc_limits.specs.declared.scalars.Written.TheVariants.{Outside}
use Rattle.abc_limits.specs.Written.{is_full, written_behind}
use Rattle.abc_limits.specs.Rooms.{Rooms, is_free, is_used_up, closes_round, ends_list, rooms_behind}
use Rattle.abc_limits.specs.Walking.{State, start, step, is_whole, limit_at, or_later, limit_from, limit_of}
use Rattle.abc_limits.specs.FirstLimit.{IsLimitOf}
use Rattle.abc_limits.proofs.Passing.{some_inj, not_both, pick, missed, none_below, order_small, and_true, got, take_none, take_more, deep_is, is_deep, set_is, is_set}
use Rattle.abc_limits.proofs.Crowds.{rooms_of, crowded_is, move, stuck}
use Rattle.abc_limits.proofs.Walks.{state_at, state_none, state_more, below_more, depth_behind, written_is, large_is, is_large}

-- ---- the tests at one token
module _ (s : State) (t : Lexeme) (k : ℕ) where
  abbrev deep : Bool
  deep = opens t && nat_le MOST_OPEN (length s.rooms.around)

  abbrev large : Bool
  large = not (starts_item t) && is_whole s.item

  abbrev stray : Bool
  stray = s.list && ends_list t

  -- what is found where the tests before fail
  abbrev by_stray : Option Limit
  by_stray = if stray then Some (Stray k) else None

  abbrev by_set : Option Limit
  by_set = if is_full s.written then Some (Passed k cause.LongSet) else by_stray

  abbrev by_parts : Option Limit
  by_parts = if is_used_up s.rooms.room then Some (Passed k cause.LongTuple) else by_set

  abbrev by_size : Option Limit
  by_size = if large then Some (Passed k cause.TooLarge) else by_parts

  -- nothing is found
  record IsMissed : Type 0 where
    pub shallow : deep ≡ false
    pub small : large ≡ false
    pub roomy : is_used_up s.rooms.room ≡ false
    pub short : is_full s.written ≡ false
    pub straight : stray ≡ false

  all_missed : limit_at s t k ≡ None → IsMissed
  all_missed e =
      let a = missed deep (Passed k cause.TooDeep) by_size e in
      let b = missed large (Passed k cause.TooLarge) by_parts a.1 in
      let c = missed (is_used_up s.rooms.room) (Passed k cause.LongTuple) by_set b.1 in
      let d = missed (is_full s.written) (Passed k cause.LongSet) by_stray c.1 in
      let f = missed stray (Stray k) None d.1 in
      record { shallow = a.0; small = b.0; roomy = c.0; short = d.0; straight = f.0 }

-- nothing is found at the first k tokens
abbrev FindsNone : List Lexeme → ℕ → Type 0
FindsNone ts k = (j : ℕ) → j < k → (t : Lexeme) → slice_get ts j ≡ Some t → limit_at (state_at ts j) t j ≡ None

-- ---- the walk over the brackets
record IsSeen (s : State) (x : Standing) : Type 0 where
  pub word : x.0 ≡ s.word
  pub list : x.1.0 ≡ s.list
  pub rooms : rooms_of x.1.1 ≡ s.rooms

record IsWalked (ts : List Lexeme) (k : ℕ) : Type 0 where
  pub standing : Standing
  pub is : walk true (Some at_start) (take k ts) ≡ Some standing
  pub seen : IsSeen (state_at ts k) standing

-- a token in a bracket that is not crowded
roomy_false : (s : State) (w c : Bool) (bs : List Bracket) → IsSeen s (w, (c, bs)) → is_used_up s.rooms.room ≡ false →
    is_crowded bs ≡ false
roomy_false s w c bs seen e = crowded_is bs ∙ ap (λ (r : Rooms). is_used_up r.room) seen.rooms ∙ e

walked_more :
    (ts : List Lexeme) (k : ℕ) (t : Lexeme) → slice_get ts k ≡ Some t → IsMissed (state_at ts k) t k →
    (w c : Bool) (bs : List Bracket) →
    walk true (Some at_start) (take k ts) ≡ Some (w, (c, bs)) → IsSeen (state_at ts k) (w, (c, bs)) →
    IsWalked ts (suc k)
walked_more ts k t stands none w c bs is seen =
    let s = state_at ts k in
    let n = move t w c bs (ap (λ (b : Bool). b && ends_list t) seen.list ∙ none.straight) in
    record {
      standing = n.next;
      is = ap (walk true (Some at_start)) (take_more ts k t stands)
          ∙ walk_append true (Some at_start) (take k ts) (t ∷ [])
          ∙ ap (λ (o : Option Standing). walk true o (t ∷ [])) is
          ∙ one_step true t [] w c bs (roomy_false s w c bs seen none.roomy)
          ∙ ap (λ (o : Option Standing). walk true o []) n.is;
      seen = subst (λ (x : State). IsSeen x n.next) (sym (state_more ts k t stands)) (record {
        word = n.word;
        list = n.list ∙ ap (λ (r : Rooms). closes_round t && is_free r) seen.rooms;
        rooms = n.rooms ∙ ap (λ (r : Rooms). rooms_behind r w t) seen.rooms
            ∙ ap (λ (b : Bool). rooms_behind s.rooms b t) seen.word;
      });
    }

walked_at : (ts : List Lexeme) (k : ℕ) → k ≤ length ts → FindsNone ts k → IsWalked ts k
walked_at ts zero le none = record {
  standing = at_start;
  is = ap (walk true (Some at_start)) (take_none ts);
  seen = subst (λ (x : State). IsSeen x at_start) (sym (state_none ts))
      (record { word = refl; list = refl; rooms = refl });
}
walked_at ts (suc k) le none =
    let g = got ts k (omega arith) in
    let h = walked_at ts k (omega arith) (λ j lt t e. none j (omega arith) t e) in
    let x = h.standing in
    walked_more ts k g.0 g.1 (all_missed (state_at ts k) g.0 k
    (none k (omega arith) g.0 g.1)) x.0 x.1.0 x.1.1 h.is h.seen

no_part : (ts : List Lexeme) (k : ℕ) → k ≤ length ts → FindsNone ts k → (j : ℕ) → j < k → ¬ BeginsExtraPart ts j
no_part ts k le none =
    let h = walked_at ts k le none in
    let parts : ExtraPartsAreCrowded = extra_parts_are_crowded in
    parts.none ts k (h.standing, h.is)

-- ---- at one token
module _ (ts : List Lexeme) (k : ℕ) (t : Lexeme) (stands : slice_get ts k ≡ Some t) where
  abbrev here : State
  here = state_at ts k

  in_range : k < length ts
  in_range = slice_get_within ts k t stands

  deep_same : deep here t k ≡ (opens t && nat_le MOST_OPEN (open_behind 0 (take k ts)))
  deep_same = ap (λ (i : ℕ). opens t && nat_le MOST_OPEN i) (depth_behind start (take k ts))

  full_same : is_full here.written ≡ is_full (fold written_behind Outside (take k ts))
  full_same = ap is_full (written_is start (take k ts))

  not_deep : deep here t k ≡ false → ¬ IsTooDeep ts k
  not_deep e h = not_both (deep here t k) (deep_same ∙ is_deep ts k t stands h) e

  not_large : large here t k ≡ false → ¬ IsTooLarge ts k
  not_large e h = not_both (large here t k) (is_large ts k t stands h) e

  not_set : is_full here.written ≡ false → ¬ BeginsExtraScalar ts k
  not_set e h = not_both (is_full here.written) (full_same ∙ is_set ts k t stands h) e

  -- no limit is passed but a part too many
  none_passed : IsMissed here t k → ¬ BeginsExtraPart ts k → (d : Cause) → ¬ PassesLimit IsSomeProgram IsTooLarge d ts k
  none_passed none part d =
      none_below IsSomeProgram IsTooLarge 7 ts k (λ lt. not_deep none.shallow) (λ lt. not_large none.small) (λ lt. part)
      (λ lt. not_set none.short) d (order_small d)

none_within : (ts : List Lexeme) (k : ℕ) → k ≤ length ts → FindsNone ts k → IsWithin IsSomeProgram IsTooLarge ts k
none_within ts k le none j lt d =
    let g = got ts j (omega arith) in
    none_passed ts j g.0 g.1 (all_missed (state_at ts j) g.0 j (none j lt g.0 g.1)) (no_part ts k le none j lt) d

module _ (ts : List Lexeme) (k : ℕ) (t : Lexeme) (stands : slice_get ts k ≡ Some t) (none : FindsNone ts k) where
  abbrev now : State
  now = state_at ts k

  le : k ≤ length ts
  le = let lt = slice_get_within ts k t stands in omega arith

  abbrev IsFound : Limit → Type 0
  IsFound limit = IsLimitOf ts limit

  found_deep : deep now t k ≡ true → IsFound (Passed k cause.TooDeep)
  found_deep e = record {
    exists = in_range ts k t stands;
    within = none_within ts k le none;
    passes = λ b. deep_is ts k t stands (sym (deep_same ts k t stands) ∙ e);
    first = none_below IsSomeProgram IsTooLarge 2 ts k (λ lt h. omega arith) (λ lt h. omega arith) (λ lt h. omega arith)
        (λ lt h. omega arith);
  }

  found_large : deep now t k ≡ false → large now t k ≡ true → IsFound (Passed k cause.TooLarge)
  found_large a e = record {
    exists = in_range ts k t stands;
    within = none_within ts k le none;
    passes = λ b. large_is ts k t stands e;
    first = none_below IsSomeProgram IsTooLarge 3 ts k (λ lt. not_deep ts k t stands a) (λ lt h. omega arith)
        (λ lt h. omega arith) (λ lt h. omega arith);
  }

  crowd : (x : Standing) → IsSeen now x → is_used_up now.rooms.room ≡ true → IsCrowd (Some x)
  crowd (w, (c, bs)) seen e = crowded_is bs ∙ ap (λ (r : Rooms). is_used_up r.room) seen.rooms ∙ e

  found_parts : deep now t k ≡ false → large now t k ≡ false → is_used_up now.rooms.room ≡ true →
      IsFound (Passed k cause.LongTuple)
  found_parts a b e =
      let h = walked_at ts k le none in
      let parts : ExtraPartsAreCrowded = extra_parts_are_crowded in
      record {
        exists = in_range ts k t stands;
        within = none_within ts k le none;
        passes = parts.first ts k (record {
          exists = in_range ts k t stands;
          crowd = subst IsCrowd (sym h.is) (crowd h.standing h.seen e);
        });
        first = none_below IsSomeProgram IsTooLarge 4 ts k (λ lt. not_deep ts k t stands a)
            (λ lt. not_large ts k t stands b)
            (λ lt h. omega arith) (λ lt h. omega arith);
      }

  no_both : BeginsExtraScalar ts k → ¬ BeginsExtraPart ts k
  no_both h (inl p) = let meet : LimitsMeet = limits_meet in meet.exprs ts k p h
  no_both h (inr p) = let meet : LimitsMeet = limits_meet in meet.variables ts k p h

  found_set : deep now t k ≡ false → large now t k ≡ false → is_full now.written ≡ true →
      IsFound (Passed k cause.LongSet)
  found_set a b e =
      let h = set_is ts k t stands (sym (full_same ts k t stands) ∙ e) in
      record {
        exists = in_range ts k t stands;
        within = none_within ts k le none;
        passes = λ b. h;
        first = none_below IsSomeProgram IsTooLarge 5 ts k (λ lt. not_deep ts k t stands a)
            (λ lt. not_large ts k t stands b)
            (λ lt. no_both h) (λ lt h. omega arith);
      }

  -- without limits there is no walk over the token
  no_walk : (x : Standing) → walk true (Some at_start) (take k ts) ≡ Some x → IsSeen now x → stray now t k ≡ true →
      walk false (Some at_start) (take (suc k) ts) ≡ None
  no_walk (w, (c, bs)) is seen e =
      let p = and_true now.list (ends_list t) e in
      ap (walk false (Some at_start)) (take_more ts k t stands) ∙ walk_append false (Some at_start) (take k ts) (t ∷ [])
      ∙ ap (λ (o : Option Standing). walk false o (t ∷ [])) (unlimited (Some at_start) (take k ts) (w, (c, bs)) is)
      ∙ ap (λ (b : Bool). walk false (moved t w b bs) []) (seen.list ∙ p.0)
      ∙ ap (λ (o : Option Standing). walk false o []) (stuck t w bs p.1)

  none_some : (x : Standing) → None ≡ Some x → ⊥
  none_some x e = cc

  found_stray : stray now t k ≡ true → IsFound (Stray k)
  found_stray e =
      let h = walked_at ts k le none in
      let gone = no_walk h.standing h.is h.seen e in
      record {
        exists = in_range ts k t stands;
        within = none_within ts k le none;
        wrong = λ b.
            let more = beginnings_are_walked (take (k + 1) ts) b in
            none_some more.0 (sym gone ∙ ap (λ (n : ℕ). walk false (Some at_start) (take n ts)) (sym (add-one k))
            ∙ more.1);
      }

  no_limit : (x : Limit) → None ≡ Some x → ⊥
  no_limit x e = cc

  found : (limit : Limit) → limit_at now t k ≡ Some limit → IsFound limit
  found =
      pick IsFound (deep now t k) (Passed k cause.TooDeep) (by_size now t k) found_deep (λ a.
      pick IsFound (large now t k) (Passed k cause.TooLarge) (by_parts now t k) (found_large a) (λ b.
      pick IsFound (is_used_up now.rooms.room) (Passed k cause.LongTuple) (by_set now t k) (found_parts a b) (λ c.
      pick IsFound (is_full now.written) (Passed k cause.LongSet) (by_stray now t k) (found_set a b) (λ d.
      pick IsFound (stray now t k) (Stray k) None found_stray (λ f x e. absurd (no_limit x e))))))

-- ---- all of them
seam : (before us : List Lexeme) (t : Lexeme) → slice_get (before ++ t ∷ us) (length before) ≡ Some t
seam [] us t = refl
seam (b ∷ before) us t = seam before us t

module _ (before us : List Lexeme) (t : Lexeme) where
  abbrev all : List Lexeme
  all = before ++ t ∷ us

  abbrev behind : State
  behind = fold step start before

  same : state_at all (length before) ≡ behind
  same = ap (fold step start) (take-append_seam before (t ∷ us))

  long : length (before ++ t ∷ []) ≡ length before + 1
  long = length-append before (t ∷ [])

  whole : (before ++ t ∷ []) ++ us ≡ all
  whole = append_assoc before (t ∷ []) us

  none_here : limit_at behind t (length before) ≡ None → (u : Lexeme) → slice_get all (length before) ≡ Some u →
      limit_at (state_at all (length before)) u (length before) ≡ None
  none_here e u stands =
      ap (λ (x : State). limit_at x u (length before)) same
      ∙ ap (λ (v : Lexeme). limit_at behind v (length before)) (some_inj (sym stands ∙ seam before us t)) ∙ e

  joined : limit_at behind t (length before) ≡ None → FindsNone all (length before) →
      FindsNone ((before ++ t ∷ []) ++ us) (length (before ++ t ∷ []))
  joined e none =
      let more : FindsNone all (suc (length before)) =
      below_more (λ (j : ℕ). (u : Lexeme) → slice_get all j ≡ Some u → limit_at (state_at all j) u j ≡ None)
      (length before)
      none (none_here e) in
      let n : length (before ++ t ∷ []) ≡ suc (length before) = let h = long in omega (arith, h) in
      subst (λ (ts : List Lexeme). FindsNone ts (length (before ++ t ∷ []))) (sym whole)
      (subst (FindsNone all) (sym n) more)

  on : IsLimitOf ((before ++ t ∷ []) ++ us) (limit_from (fold step start (before ++ t ∷ []))
      (length (before ++ t ∷ [])) us) →
      IsLimitOf all (limit_from (step behind t) (length before + 1) us)
  on h =
      subst (λ (n : ℕ). IsLimitOf all (limit_from (step behind t) n us)) long
      (subst (λ (x : State). IsLimitOf all (limit_from x (length (before ++ t ∷ [])) us))
      (fold-append step start before (t ∷ []))
      (subst (λ (ts : List Lexeme). IsLimitOf ts (limit_from (fold step start (before ++ t ∷ []))
      (length (before ++ t ∷ [])) us))
      whole h))

  go : FindsNone all (length before) → (o : Option Limit) → limit_at behind t (length before) ≡ o →
      (limit_at behind t (length before) ≡ None → IsLimitOf all (limit_from (step behind t) (length before + 1) us)) →
      IsLimitOf all (or_later o (limit_from (step behind t) (length before + 1) us))
  go none None e more = more e
  go none (Some limit) e more =
      found all (length before) t (seam before us t) none limit
      (ap (λ (x : State). limit_at x t (length before)) same ∙ e)

-- found among the tokens behind some at which nothing is found
found_behind : (before us : List Lexeme) → FindsNone (before ++ us) (length before) →
    IsLimitOf (before ++ us) (limit_from (fold step start before) (length before) us)
found_behind before [] none =
    let all : FindsNone before (length before) =
    subst (λ (ts : List Lexeme). FindsNone ts (length before)) (append-nil before) none in
    subst (λ (ts : List Lexeme). IsWithin IsSomeProgram IsTooLarge ts (length ts)) (sym (append-nil before))
    (none_within before (length before) (omega arith) all)
found_behind before (t ∷ us) none =
    go before us t none (limit_at (fold step start before) t (length before)) refl
    (λ e. on before us t (found_behind (before ++ t ∷ []) us (joined before us t e none)))

pub limit_found : (ts : List Lexeme) → IsLimitOf ts (limit_of ts)
unfolding limit_of
limit_found ts = found_behind [] ts (λ j lt t e. absurd (omega (arith, lt)))
