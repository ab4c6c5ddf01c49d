-- Lists of what can be done next grow piece by piece.
use Rattle.std.proofs.Common.{◌≡◌, ℕ, List, [], ◌∷◌, ◌++◌, length, get_or, ◌+◌, ◌<◌, inl, inr, Bool, true, false, refl, sym, ap, ◌∙◌, subst, arith}
use Rattle.std.specs.Prelude.{MatchBool, Some, slice_get}
use Rattle.std.proofs.lemmas.List.{append_assoc, append-nil}
use Rattle.std.proofs.lemmas.Bool.{cases_eq}
use Rattle.std.proofs.lemmas.Option.{slice_get-get_or}
use Rattle.abc_world.proofs.Networked.{each-there}
use Rattle.abc_network_laws.specs.Kept.{Each}
use Rattle.abc_packet.specs.declared.stamped.Stamped.{Stamped}
use Rattle.abc_shape.specs.declared.layout.Layout.{Layout}
use Rattle.abc_shape.specs.Plans.{IsLink}
use Rattle.abc_body.specs.Meanings.{Meaning}
use Rattle.abc_network.specs.Nodes.{NodeMachine}
use Rattle.abc_world.specs.declared.event.Event.{Event}
use Rattle.abc_world.specs.declared.event.EventKind.TheVariants.{Arrive}
use Rattle.abc_world.specs.Listing.{Listed, CanMake, AreLinksInto, AreEmpty}
use Rattle.abc_world.specs.Runnings.{Running}
use Rattle.abc_world.proofs.Lacking.{some-there}

-- A list that begins with an item is not empty.
some-none : {X : Type 0} (x : X) (xs : List X) → x ∷ xs ≡ [] → ⊥
some-none x xs h = (cc)

-- Of two lists that are none together each is none.
first-none : {X : Type 0} (xs ys : List X) → xs ++ ys ≡ [] → xs ≡ []
first-none [] ys h = refl
first-none (x ∷ xs) ys h = absurd (some-none x (xs ++ ys) h)

last-none : {X : Type 0} (xs ys : List X) → xs ++ ys ≡ [] → ys ≡ []
last-none [] ys h = h
last-none (x ∷ xs) ys h = absurd (some-none x (xs ++ ys) h)

-- What each of two lists has, each of both has.
each-both : {X : Type 0} (P : X → Type 0) (xs ys : List X) → Each P xs → Each P ys → Each P (xs ++ ys)
each-both P [] ys h k = k
each-both P (x ∷ xs) ys h k = (h.0, each-both P xs ys h.1 k)

-- Nothing was added, since there is none.
pub listed-none : {X : Type 0} (Is : X → Type 0) (None : Type 0) (old : List X) → None → Listed Is None old old
listed-none Is None old none =
    record { more = []; grown = sym (append-nil old); each = tt; none = λ _. none }

-- An item was added where it is so.
pub listed-if : {X : Type 0} (Is : X → Type 0) (None : Type 0) (is : Bool) (x : X) (old new : List X) →
    MatchBool is (Is x) None → MatchBool is (new ≡ old ++ x ∷ []) (new ≡ old) → Listed Is None old new
listed-if Is None true x old new h grown =
    record { more = x ∷ []; grown = grown; each = (h, tt); none = λ e. absurd (some-none x [] e) }
listed-if Is None false x old new h grown =
    record { more = []; grown = grown ∙ sym (append-nil old); each = tt; none = λ _. h }

-- Twice something was added.
pub listed-then : {X : Type 0} (Is : X → Type 0) (One Two : Type 0) (old mid new : List X) →
    Listed Is One old mid → Listed Is Two mid new → Listed Is (One × Two) old new
listed-then Is One Two old mid new f g =
    record {
      more = f.more ++ g.more;
      grown = g.grown ∙ (ap (λ v. v ++ g.more) f.grown ∙ append_assoc old f.more g.more);
      each = each-both Is f.more g.more f.each g.each;
      none = λ e. (f.none (first-none f.more g.more e), g.none (last-none f.more g.more e));
    }

-- That there is none of one kind says so of another.
pub listed-as : {X : Type 0} (Is : X → Type 0) (One Two : Type 0) (old new : List X) → (One → Two) →
    Listed Is One old new → Listed Is Two old new
listed-as Is One Two old new f h =
    record { more = h.more; grown = h.grown; each = h.each; none = λ e. f (h.none e) }

-- One link more was looked at.
by-waits : {B L N : Type 0} (m : Meaning B L) (machine : Layout → NodeMachine L N) (blank : N) (n : Running B L N) (actor link : ℕ)
    (waits : Bool) → ((from : ℕ) × IsLink n.plan link from actor) → link < length n.net.links →
    MatchBool waits ((x : Stamped L) × (q : List (Stamped L)) × (get_or n.net.links link [] ≡ x ∷ q)) (get_or n.net.links link [] ≡ []) →
    MatchBool waits (CanMake m machine blank n (record { actor = actor; kind = Arrive link })) (get_or n.net.links link [] ≡ [])
by-waits m machine blank n actor link true ends there h =
    (ends, (h.0, h.1, slice_get-get_or n.net.links link [] there ∙ ap Some h.2))
by-waits m machine blank n actor link false ends there h = h

-- Where one more is empty, one more is.
empty-next : {B L N : Type 0} (n : Running B L N) (links : List ℕ) (place link : ℕ) → slice_get links place ≡ Some link →
    AreEmpty n links place → get_or n.net.links link [] ≡ [] → AreEmpty n links (place + 1)
empty-next n links place link stands before none i l below at x q first =
    elim (cases_eq i place) [
      | inl here ↦ (
          let same : Some l ≡ Some link = sym at ∙ (ap (λ v. slice_get links v) here ∙ stands) in
          let is : l ≡ link = cc in
          some-there n.net.links link x q (subst (λ v. slice_get n.net.links v ≡ Some (x ∷ q)) is first) none)
      | inr other ↦ before i l (omega arith) at x q first
    ]

pub arrivals-next : {B L N : Type 0} (m : Meaning B L) (machine : Layout → NodeMachine L N) (blank : N) (n : Running B L N)
    (actor link place : ℕ) (links : List ℕ) (old mid new : List Event) (waits : Bool) → AreLinksInto n.plan actor links →
    slice_get links place ≡ Some link → link < length n.net.links →
    MatchBool waits ((x : Stamped L) × (q : List (Stamped L)) × (get_or n.net.links link [] ≡ x ∷ q)) (get_or n.net.links link [] ≡ []) →
    MatchBool waits (new ≡ mid ++ record { actor = actor; kind = Arrive link } ∷ []) (new ≡ mid) →
    Listed (CanMake m machine blank n) (AreEmpty n links place) old mid →
    Listed (CanMake m machine blank n) (AreEmpty n links (place + 1)) old new
arrivals-next m machine blank n actor link place links old mid new waits into stands there looked grown listed =
    let ends = each-there (λ v. (from : ℕ) × IsLink n.plan v from actor) links place link into.end stands in
    listed-as (CanMake m machine blank n) (AreEmpty n links place × (get_or n.net.links link [] ≡ [])) (AreEmpty n links (place + 1))
    old new (λ h. empty-next n links place link stands h.0 h.1)
    (listed-then (CanMake m machine blank n) (AreEmpty n links place) (get_or n.net.links link [] ≡ []) old mid new listed
    (listed-if (CanMake m machine blank n) (get_or n.net.links link [] ≡ []) waits (record { actor = actor; kind = Arrive link }) mid new
    (by-waits m machine blank n actor link waits ends there looked) grown))

-- One more was looked at.
pub listed-next : {X : Type 0} (Is : X → Type 0) (None : ℕ → Type 0) (n : ℕ) (old mid new : List X) →
    Listed Is ((i : ℕ) → i < n → None i) old mid → Listed Is (None n) mid new →
    Listed Is ((i : ℕ) → i < n + 1 → None i) old new
listed-next Is None n old mid new f g =
    listed-as Is (((i : ℕ) → i < n → None i) × None n) ((i : ℕ) → i < n + 1 → None i) old new
    (λ h i below.
    elim (cases_eq i n) [
      | inl same ↦ subst None (sym same) h.1
      | inr other ↦ h.0 i (omega arith)
    ])
    (listed-then Is ((i : ℕ) → i < n → None i) (None n) old mid new f g)
