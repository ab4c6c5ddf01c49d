-- One actor among others, and its links among all links.
use Rattle.std.proofs.Common.{◌≡◌, ℕ, zero, suc, ◌<◌, List, [], ◌∷◌, ◌++◌, length, get_or, set, refl, sym, ap, ◌∙◌, subst, arith, inl, inr}
use Rattle.std.proofs.Common.{Bool, true, false}
use Rattle.std.specs.Prelude.{Result, IfOk, OnOk, OnErr, MatchBool, Some, slice_get}
use Rattle.std.specs.Bool.{OnFalse}
use Rattle.std.proofs.lemmas.Bool.{cases_lt}
use Rattle.std.proofs.lemmas.List.{set-get_or}
use Rattle.std.proofs.lemmas.Option.{slice_get-get_or}
use Rattle.std.proofs.lemmas.Result.{IfOk-weaker, on_err_weaker, on_ok_weaker}
use Rattle.abc_packet.specs.declared.stamped.Stamped.{Stamped}
use Rattle.abc_packet.specs.declared.log.Deed.{Deed}
use Rattle.abc_packet.specs.declared.log.Deed.TheVariants.{Asked, Arrived, Took, Turned, Passed, Stray}
use Rattle.abc_packet.specs.Outlets.{Lists, SameLinks, SameLists, Sends, sent_on}
use Rattle.abc_body.specs.Meanings.{Meaning}
use Rattle.abc_network.specs.Networks.{Swaps}
use Rattle.abc_agent.specs.Members.{Member, SameMember, Made, MadeArrival}
use Rattle.abc_world.specs.Tables.{OnTables}
use Rattle.abc_logs.specs.MicroSteps.{taken_by, stamped_with}
use Rattle.abc_world.specs.Kinds.{ArrivesOn}
use Rattle.abc_world.specs.Teams.{AgentMade}
use Rattle.abc_world.proofs.Events.{queues-same}

-- A change at a place.
pub place-swaps : {X : Type 0} (i : ℕ) (x y : X) (xs : List X) → slice_get xs i ≡ Some x → Swaps i x y xs (set xs i y)
place-swaps i x y [] h = absurd (cc)
place-swaps zero x y (a ∷ xs) h = (cc, refl, refl)
place-swaps (suc i) x y (a ∷ xs) h = (refl, place-swaps i x y xs h)

-- Tables of the same links have as many.
pub same-many : {X Y : Type 0} (xs : List X) (ys : List Y) → SameLinks (λ l. l < length xs) (λ l. l < length ys) →
    length ys ≡ length xs
same-many xs ys h =
    elim (cases_lt (length xs) (length ys)) [
      | inl less ↦ absurd (let e : length xs < length xs = (h (length xs)).1 less in omega arith)
      | inr other ↦
          elim (cases_lt (length ys) (length xs)) [
            | inl less ↦ absurd (let e : length ys < length ys = (h (length ys)).0 less in omega arith)
            | inr none ↦ omega arith
          ]
    ]

-- Where nothing was taken, what was sent stands last.
pub nothing-taken : {L : Type 0} (sends : List (ℕ × Stamped L)) (links after : List (List (Stamped L))) →
    SameLinks (λ l. l < length links) (λ l. l < length after) →
    Sends (λ l. get_or links l []) sends (λ l. get_or after l []) → OnTables [] sends links after
nothing-taken sends links after same sent =
    record { many = same-many links after same; queues = λ l. (get_or links l [], refl, sent l) }

-- Where no list changed, the table did not.
pub same-tables : {L : Type 0} (links after : List (List (Stamped L))) →
    SameLinks (λ l. l < length links) (λ l. l < length after) →
    SameLists (λ l. get_or links l []) (λ l. get_or after l []) → after ≡ links
same-tables links after same lists = queues-same after links (same-many links after same) lists

-- An agent that was changed in nothing is the one that stood there.
pub not-changed : {X : Type 0} (i : ℕ) (x new d : X) (xs : List X) → x ≡ get_or xs i d → new ≡ x → set xs i new ≡ xs
not-changed i x new d xs at same = ap (λ v. set xs i v) (same ∙ at) ∙ set-get_or xs i d

-- What an agent made, it made among the others.
pub made-among : {B L : Type 0} (m : Meaning B L) (i : ℕ) (Is : Deed L → Type 0) (a new d : Member B L)
    (agents : List (Member B L)) (links after : List (List (Stamped L))) → i < length agents → a ≡ get_or agents i d →
    SameMember a new → SameLinks (λ l. l < length links) (λ l. l < length after) →
    (step : Made m [] a new (λ l. get_or links l []) (λ l. get_or after l [])) × Is step.entry.deed →
    AgentMade m i Is [] agents (set agents i new) links after
made-among m i Is a new d agents links after there at same lasting made =
    record {
      old = a;
      new = new;
      before = λ l. get_or links l [];
      now = λ l. get_or after l [];
      made = made.0;
      is = made.1;
      same = same;
      at = place-swaps i a new agents (slice_get-get_or agents i d there ∙ ap Some (sym at));
      tables = nothing-taken _ links after lasting made.0.lists;
    }

-- One item stands at a place.
pub only-one : {X : Type 0} (xs : List X) (i : ℕ) (x y : X) → slice_get xs i ≡ Some x → slice_get xs i ≡ Some y → x ≡ y
only-one xs i x y h k = cc

-- By the answer whether it did.
by-answer : {B L : Type 0} (m : Meaning B L) (i : ℕ) (Is : Deed L → Type 0) (Cannot : Member B L → Type 0)
    (a new d : Member B L) (agents : List (Member B L)) (links after : List (List (Stamped L))) →
    i < length agents → a ≡ get_or agents i d → SameMember a new →
    SameLinks (λ l. l < length links) (λ l. l < length after) → (b : Bool) →
    MatchBool b
    ((step : Made m [] a new (λ l. get_or links l []) (λ l. get_or after l [])) × Is step.entry.deed) (Cannot a) →
    MatchBool b (AgentMade m i Is [] agents (set agents i new) links after)
    ((x : Member B L) → slice_get agents i ≡ Some x → Cannot x)
by-answer m i Is Cannot a new d agents links after there at same lasting true made =
    made-among m i Is a new d agents links after there at same lasting made
by-answer m i Is Cannot a new d agents links after there at same lasting false cannot =
    λ x stands.
    subst Cannot (only-one agents i a x (slice_get-get_or agents i d there ∙ ap Some (sym at)) stands) cannot

-- With an answer that tells whether it did.
pub told-among : {B L E : Type 0} (m : Meaning B L) (i : ℕ) (Is : Deed L → Type 0) (Cannot : Member B L → Type 0)
    (r : Result Bool E) (a new d : Member B L) (agents : List (Member B L)) (links after : List (List (Stamped L))) →
    i < length agents → a ≡ get_or agents i d → SameMember a new →
    SameLinks (λ l. l < length links) (λ l. l < length after) →
    IfOk r (λ b. MatchBool b
    ((step : Made m [] a new (λ l. get_or links l []) (λ l. get_or after l [])) × Is step.entry.deed) (Cannot a)) →
    IfOk r (λ b. MatchBool b (AgentMade m i Is [] agents (set agents i new) links after)
    ((x : Member B L) → slice_get agents i ≡ Some x → Cannot x))
told-among {B} {L} m i Is Cannot r a new d agents links after there at same lasting told =
    IfOk-weaker r _ _ (by-answer m i Is Cannot a new d agents links after there at same lasting) told

-- Where an agent and no list changed, all is as before.
same-among : {X L : Type 0} (i : ℕ) (a new d : X) (agents : List X) (links after : List (List (Stamped L))) → a ≡ get_or agents i d →
    SameLinks (λ l. l < length links) (λ l. l < length after) →
    (new ≡ a) × SameLists (λ l. get_or links l []) (λ l. get_or after l []) →
    (set agents i new ≡ agents) × (after ≡ links)
same-among i a new d agents links after at same h =
    (not-changed i a new d agents at h.0, same-tables links after same h.1)

-- Where the answer is that it did nothing, that is so.
pub stays-by-answer : {P Q : Type 0} (b : Bool) → (P → Q) → OnFalse b P → OnFalse b Q
stays-by-answer true f h = tt
stays-by-answer false f h = f h

pub stays-among : {X L E : Type 0} (r : Result Bool E) (i : ℕ) (a new d : X) (agents : List X) (links after : List (List (Stamped L))) →
    a ≡ get_or agents i d → SameLinks (λ l. l < length links) (λ l. l < length after) →
    IfOk r (λ b. OnFalse b ((new ≡ a) × SameLists (λ l. get_or links l []) (λ l. get_or after l []))) →
    IfOk r (λ b. OnFalse b ((set agents i new ≡ agents) × (after ≡ links)))
stays-among r i a new d agents links after at same told =
    IfOk-weaker r _ _ (λ b. stays-by-answer b (same-among i a new d agents links after at same)) told

-- And so where there was no memory.
pub refused-among : {X L T E : Type 0} (r : Result T E) (i : ℕ) (a new d : X) (agents : List X) (links after : List (List (Stamped L))) →
    a ≡ get_or agents i d → SameLinks (λ l. l < length links) (λ l. l < length after) →
    OnErr r ((new ≡ a) × SameLists (λ l. get_or links l []) (λ l. get_or after l [])) →
    OnErr r ((set agents i new ≡ agents) × (after ≡ links))
refused-among r i a new d agents links after at same told =
    on_err_weaker r (same-among i a new d agents links after at same) told

-- What an agent took, it took among the others, whatever the links.
pub took-among : {B L T E : Type 0} (m : Meaning B L) (i : ℕ) (Is : Deed L → Type 0) (r : Result T E) (a new d : Member B L)
    (agents : List (Member B L)) → i < length agents → a ≡ get_or agents i d → SameMember a new →
    OnOk r ((lists : Lists L) → (step : Made m [] a new lists lists) × Is step.entry.deed) →
    OnOk r ((links : List (List (Stamped L))) → AgentMade m i Is [] agents (set agents i new) links links)
took-among {B} {L} m i Is r a new d agents there at same made =
    on_ok_weaker r (λ (h : (lists : Lists L) → (step : Made m [] a new lists lists) × Is step.entry.deed) links.
    made-among m i Is a new d agents links links there at same (λ l. ((λ x. x), (λ x. x))) (h (λ l. get_or links l []))) made

-- What an agent turned, it turned among the others.
pub turned-among : {B L T E : Type 0} (m : Meaning B L) (i : ℕ) (Is : Deed L → Type 0) (r : Result T E) (a new d : Member B L)
    (agents : List (Member B L)) (links after : List (List (Stamped L))) → i < length agents → a ≡ get_or agents i d →
    SameMember a new → SameLinks (λ l. l < length links) (λ l. l < length after) →
    OnOk r ((step : Made m [] a new (λ l. get_or links l []) (λ l. get_or after l [])) × Is step.entry.deed) →
    OnOk r (AgentMade m i Is [] agents (set agents i new) links after)
turned-among m i Is r a new d agents links after there at same lasting made =
    on_ok_weaker r (made-among m i Is a new d agents links after there at same lasting) made

-- The link of the first packet that was taken.
abbrev head-link : {L : Type 0} → List (ℕ × Stamped L) → ℕ
head-link [] = 0
head-link (s ∷ taken) = s.0

-- A deed that took a packet from a link is an arrival there.
pub arrives-on : {L : Type 0} (link : ℕ) (x : Stamped L) (d : Deed L) → taken_by d ≡ (link, x) ∷ [] → ArrivesOn link d
arrives-on link x Asked h = absurd (cc)
arrives-on link x (Arrived l stamped drew) h = ap head-link h
arrives-on link x (Took n place) h = absurd (cc)
arrives-on link x (Turned n place content) h = absurd (cc)
arrives-on link x (Passed n) h = absurd (cc)
arrives-on link x (Stray l stamped) h = ap head-link h

-- Where no list gains what is sent, nothing is sent.
nothing-sent : {X : Type 0} (xs ys : List X) → xs ≡ xs ++ ys → ys ≡ []
nothing-sent [] ys h = sym h
nothing-sent (x ∷ xs) ys h = nothing-sent xs ys (let e : xs ≡ xs ++ ys = cc in e)

-- An agent to which a packet came, which stood first on its link.
pub came-among : {B L T E : Type 0} (m : Meaning B L) (i link : ℕ) (x : Stamped L) (r : Result T E) (a new d : Member B L)
    (agents : List (Member B L)) → i < length agents → a ≡ get_or agents i d → SameMember a new →
    OnOk r (MadeArrival m link x a new) →
    OnOk r ((links after : List (List (Stamped L))) → OnTables ((link, x) ∷ []) [] links after →
    AgentMade m i (ArrivesOn link) ((link, x) ∷ []) agents (set agents i new) links after)
came-among {B} {L} m i link x r a new d agents there at same made =
    on_ok_weaker r (λ (h : MadeArrival m link x a new) links after tables.
    let step = h (λ l. get_or links l []) in
    record {
      old = a;
      new = new;
      before = λ l. get_or links l [];
      now = λ l. get_or links l [];
      made = step;
      is = arrives-on link x step.entry.deed step.took;
      same = same;
      at = place-swaps i a new agents (slice_get-get_or agents i d there ∙ ap Some (sym at));
      tables = record {
        many = tables.many;
        queues = λ l. (
          (tables.queues l).0,
          (tables.queues l).1,
          (tables.queues l).2
              ∙ ap (λ v. (tables.queues l).0 ++ v)
              (sym (nothing-sent (get_or links l []) (sent_on l (stamped_with step.entry.clock step.sends)) (step.lists l))),
        );
      };
    }) made
