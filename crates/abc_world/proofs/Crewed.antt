-- One node among others.
use Rattle.std.proofs.Common.{◌≡◌, ℕ, ◌<◌, List, [], ◌∷◌, ◌++◌, length, map, get_or, set, refl, sym, ap, ◌∙◌, subst, append_assoc, append-nil}
use Rattle.std.proofs.Common.{Bool, true, false}
use Rattle.std.specs.Prelude.{Result, IfOk, OnOk, OnErr, MatchBool, Option, Some, None, slice_get}
use Rattle.std.specs.Bool.{OnFalse}
use Rattle.std.proofs.Math.Seq.{map-set_same}
use Rattle.std.proofs.lemmas.Option.{slice_get-get_or}
use Rattle.std.proofs.lemmas.Result.{IfOk-weaker, on_err_weaker, on_ok_weaker}
use Rattle.abc_value.specs.declared.grant.Grant.{Grant}
use Rattle.abc_packet.specs.declared.packets.Packet.{Packet}
use Rattle.abc_packet.specs.declared.stamped.Stamped.{Stamped}
use Rattle.abc_packet.specs.declared.log.Deed.{Deed}
use Rattle.abc_packet.specs.declared.log.Deed.TheVariants.{Asked, Arrived, Took, Turned, Passed, Stray}
use Rattle.abc_packet.specs.Outlets.{Sends, sent_on}
use Rattle.abc_shape.specs.declared.layout.Layout.{Layout}
use Rattle.abc_number.specs.Counter.{Counter}
use Rattle.abc_network.specs.Networks.{Actor, drawn_in}
use Rattle.abc_network.specs.Nodes.{NodeMachine}
use Rattle.abc_logs.specs.MicroSteps.{Makes, stamped_with}
use Rattle.abc_history.specs.Nodes.{SeenNode, Arrives}
use Rattle.abc_schedule.proofs.Law.{drop_front}
use Rattle.abc_schedule.proofs.Places.{swap-map}
use Rattle.abc_world.specs.Tables.{OnTables}
use Rattle.abc_world.specs.Kinds.{IsPass, ArrivesOn}
use Rattle.abc_world.specs.Crews.{SameNode, NodeMade, DrewOf, lists_in}
use Rattle.abc_world.proofs.Among.{place-swaps, only-one, arrives-on, stays-by-answer}

-- A node that passes a message on draws nothing.
pass-draws : {L : Type 0} (d : Deed L) → IsPass d → drawn_in d ≡ None
pass-draws Asked h = absurd h
pass-draws (Arrived link stamped drew) h = absurd h
pass-draws (Took n place) h = absurd h
pass-draws (Turned n place content) h = absurd h
pass-draws (Passed n) h = refl
pass-draws (Stray link stamped) h = absurd h

module _ {X S L : Type 0} (f : X → SeenNode S L) (machine : Layout → NodeMachine L S) where
  -- What a node passed on, it passed among the others.
  pub passed-among : (k : ℕ) (a new d : X) (nodes : List X) (links after : List (List (Stamped L)))
      (numbers : Counter) → k < length nodes → a ≡ get_or nodes k d → SameNode (f a) (f new) →
      length after ≡ length links →
      (step : Makes ((machine (f a).plan).does (f a).number) [] (f a).actor (f new).actor (lists_in links) (lists_in after))
      × IsPass step.entry.deed →
      NodeMade machine k IsPass [] (map f nodes) (map f (set nodes k new)) links after numbers numbers
  passed-among k a new d nodes links after numbers there at same many made =
      record {
        old = f a;
        new = f new;
        before = lists_in links;
        now = lists_in after;
        made = made.0;
        is = made.1;
        same = same;
        at = swap-map f k a new nodes (set nodes k new)
            (place-swaps k a new nodes (slice_get-get_or nodes k d there ∙ ap Some (sym at)));
        tables = record { many = many; queues = λ l. (get_or links l [], refl, made.0.lists l) };
        draws = subst (λ v. DrewOf numbers numbers v) (sym (pass-draws made.0.entry.deed made.1)) refl;
      }

  -- By the answer whether it did.
  pass-answer : (k : ℕ) (a new d : X) (nodes : List X) (links after : List (List (Stamped L))) →
      k < length nodes → a ≡ get_or nodes k d → SameNode (f a) (f new) →
      length after ≡ length links → (b : Bool) →
      MatchBool b ((step : Makes ((machine (f a).plan).does (f a).number) [] (f a).actor (f new).actor
      (lists_in links) (lists_in after)) × IsPass step.entry.deed)
      ((machine (f a).plan).can_pass (f a).actor.state → ⊥) →
      MatchBool b ((numbers : Counter) →
      NodeMade machine k IsPass [] (map f nodes) (map f (set nodes k new)) links after numbers numbers)
      ((n : X) → slice_get nodes k ≡ Some n → (machine (f n).plan).can_pass (f n).actor.state → ⊥)
  pass-answer k a new d nodes links after there at same many true made =
      λ numbers. passed-among k a new d nodes links after numbers there at same many made
  pass-answer k a new d nodes links after there at same many false cannot =
      λ n stands. subst (λ (x : X). (machine (f x).plan).can_pass (f x).actor.state → ⊥)
      (only-one nodes k a n (slice_get-get_or nodes k d there ∙ ap Some (sym at)) stands) cannot

  pub passed-or-not : {E : Type 0} (k : ℕ) (r : Result Bool E) (a new d : X) (nodes : List X)
      (links after : List (List (Stamped L))) → k < length nodes → a ≡ get_or nodes k d →
      SameNode (f a) (f new) → length after ≡ length links →
      IfOk r (λ b. MatchBool b ((step : Makes ((machine (f a).plan).does (f a).number) [] (f a).actor (f new).actor
      (lists_in links) (lists_in after)) × IsPass step.entry.deed)
      ((machine (f a).plan).can_pass (f a).actor.state → ⊥)) →
      IfOk r (λ b. MatchBool b ((numbers : Counter) →
      NodeMade machine k IsPass [] (map f nodes) (map f (set nodes k new)) links after numbers numbers)
      ((n : X) → slice_get nodes k ≡ Some n → (machine (f n).plan).can_pass (f n).actor.state → ⊥))
  passed-or-not k r a new d nodes links after there at same many told =
      IfOk-weaker r _ _ (pass-answer k a new d nodes links after there at same many) told

-- A node that was changed in nothing that is seen: all are seen as before.
pub not-seen : {X Y : Type 0} (f : X → Y) (k : ℕ) (x new d : X) (xs : List X) → x ≡ get_or xs k d →
    f new ≡ f x → map f (set xs k new) ≡ map f xs
not-seen f k x new d xs at same = map-set_same f xs k new d (same ∙ ap f at)

seen-as-before : {X Y L : Type 0} (f : X → Y) (k : ℕ) (x new d : X) (xs : List X) (links after : List (List (Stamped L))) →
    x ≡ get_or xs k d → (f new ≡ f x) × (after ≡ links) → (map f (set xs k new) ≡ map f xs) × (after ≡ links)
seen-as-before f k x new d xs links after at h = (not-seen f k x new d xs at h.0, h.1)

-- Where it did nothing.
pub stays-seen : {X Y L E : Type 0} (f : X → Y) (k : ℕ) (r : Result Bool E) (x new d : X) (xs : List X)
    (links after : List (List (Stamped L))) → x ≡ get_or xs k d →
    IfOk r (λ b. OnFalse b ((f new ≡ f x) × (after ≡ links))) →
    IfOk r (λ b. OnFalse b ((map f (set xs k new) ≡ map f xs) × (after ≡ links)))
stays-seen f k r x new d xs links after at told =
    IfOk-weaker r _ _ (λ b. stays-by-answer b (seen-as-before f k x new d xs links after at)) told

-- Where there was no memory.
pub refused-seen : {X Y L T E : Type 0} (f : X → Y) (k : ℕ) (r : Result T E) (x new d : X) (xs : List X)
    (links after : List (List (Stamped L))) → x ≡ get_or xs k d →
    OnErr r ((f new ≡ f x) × (after ≡ links)) → OnErr r ((map f (set xs k new) ≡ map f xs) × (after ≡ links))
refused-seen f k r x new d xs links after at told =
    on_err_weaker r (seen-as-before f k x new d xs links after at) told

-- And where an arrival was refused, the counter is as before too.
pub refused-arrival : {X Y C L T E : Type 0} (f : X → Y) (k : ℕ) (r : Result T E) (x new d : X) (xs : List X)
    (n m : C) (links after : List (List (Stamped L))) → x ≡ get_or xs k d →
    OnErr r ((f new ≡ f x) × (m ≡ n) × (after ≡ links)) →
    OnErr r ((map f (set xs k new) ≡ map f xs) × (m ≡ n) × (after ≡ links))
refused-arrival f k r x new d xs n m links after at told =
    on_err_weaker r (λ h. (not-seen f k x new d xs at h.0, h.1, h.2)) told

-- What came first on its link was taken, after an actor sent what it sent: so it was taken, and what was sent
-- stands last.
pub taken-then : {L : Type 0} (taken sends : List (ℕ × Stamped L)) (links mid after : List (List (Stamped L))) →
    ((l : ℕ) → (q : List (Stamped L)) × (get_or links l [] ≡ sent_on l taken ++ q)) →
    length mid ≡ length links → Sends (λ l. get_or links l []) sends (λ l. get_or mid l []) →
    OnTables taken [] mid after → OnTables taken sends links after
taken-then {L} taken sends links mid after first many sent tables =
    record {
      many = tables.many ∙ many;
      queues = λ l.
          let t = sent_on l taken in
          let q = (first l).0 in
          let s = sent_on l sends in
          let r = (tables.queues l).0 in
          let was : get_or mid l [] ≡ t ++ (q ++ s) =
          sent l ∙ (ap (λ v. v ++ s) (first l).1 ∙ append_assoc t q s) in
          let rest : r ≡ q ++ s =
          sym (drop_front t r (get_or mid l []) (tables.queues l).1) ∙ drop_front t (q ++ s) (get_or mid l []) was in
          (q, (first l).1, (tables.queues l).2 ∙ (append-nil r ∙ rest));
    }

module _ {X S L : Type 0} (f : X → SeenNode S L) (machine : Layout → NodeMachine L S) where
  -- A packet came to a node, and was then taken from its link.
  pub came-to : {T E : Type 0} (k link : ℕ) (x : Stamped L) (r : Result T E) (a new d : X) (nodes : List X)
      (links mid : List (List (Stamped L))) (n m : Counter) → k < length nodes → a ≡ get_or nodes k d →
      SameNode (f a) (f new) → length mid ≡ length links →
      OnOk r (Arrives ((machine (f a).plan).does (f a).number) link x (f a).actor (f new).actor (lists_in links)
      (lists_in mid) (DrewOf n m)) →
      OnOk r ((after : List (List (Stamped L))) →
      ((l : ℕ) → (q : List (Stamped L)) × (get_or links l [] ≡ sent_on l ((link, x) ∷ []) ++ q)) →
      OnTables ((link, x) ∷ []) [] mid after →
      NodeMade machine k (ArrivesOn link) ((link, x) ∷ []) (map f nodes) (map f (set nodes k new)) links after n m)
  came-to k link x r a new d nodes links mid n m there at same many told =
      on_ok_weaker r (λ (h : Arrives ((machine (f a).plan).does (f a).number) link x (f a).actor (f new).actor
      (lists_in links) (lists_in mid) (DrewOf n m)) after first tables.
      record {
        old = f a;
        new = f new;
        before = lists_in links;
        now = lists_in mid;
        made = h.made;
        is = arrives-on link x h.made.entry.deed h.made.took;
        same = same;
        at = swap-map f k a new nodes (set nodes k new)
            (place-swaps k a new nodes (slice_get-get_or nodes k d there ∙ ap Some (sym at)));
        tables = taken-then ((link, x) ∷ []) (stamped_with h.made.entry.clock h.made.sends) links mid after first many
            h.made.lists tables;
        draws = h.draws;
      }) told

-- What stands first on a link stays there, whatever a node sends.
pub stays-first : {T E N L : Type 0} (does : N → Deed L → List (ℕ × Packet L) → N → Type 0) (link : ℕ) (x : Stamped L)
    (r : Result T E) (old new : Actor N L) (links mid : List (List (Stamped L))) (drew : Option Grant → Type 0) →
    OnOk r (Arrives does link x old new (lists_in links) (lists_in mid) drew) →
    OnOk r ((q : List (Stamped L)) → get_or links link [] ≡ x ∷ q →
    (more : List (Stamped L)) × (get_or mid link [] ≡ x ∷ more))
stays-first {T} {E} {N} {L} does link x r old new links mid drew told =
    on_ok_weaker r (λ (h : Arrives does link x old new (lists_in links) (lists_in mid) drew) q stands.
    let s = sent_on link (stamped_with h.made.entry.clock h.made.sends) in
    (q ++ s, h.made.lists link ∙ ap (λ v. v ++ s) stands)) told
