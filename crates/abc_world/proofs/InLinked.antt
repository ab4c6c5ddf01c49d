-- Which links end at an actor, found one after the other.
use Rattle.std.proofs.Common.{◌≡◌, ℕ, zero, suc, ◌+◌, ◌<◌, ◌==◌, List, [], ◌∷◌, ◌++◌, length, Bool, true, false, get_or, refl, sym, ap, ◌∙◌, subst, arith, inl, inr, if◌then◌else◌}
use Rattle.std.specs.Prelude.{Some, slice_get, unwrap_or, replicate}
use Rattle.std.proofs.lemmas.List.{replicate_more}
use Rattle.std.proofs.lemmas.Bool.{cases_eq, eq-eqb, ne_eqb}
use Rattle.std.proofs.lemmas.Option.{unwrap_or-slice_get, slice_get-get_or, slice_get_within}
use Rattle.abc_shape.specs.declared.layout.Layout.{Layout}
use Rattle.abc_shape.specs.declared.layout.LinkEnds.{LinkEnds}
use Rattle.abc_shape.specs.Plans.{IsLink, ListsLinks}
use Rattle.abc_network_laws.specs.Kept.{Each}
use Rattle.abc_network_laws.proofs.Lists.{each-map}
use Rattle.abc_world.specs.InLinks.{links_into, end_of}
use Rattle.abc_world.specs.Listing.{AreLinksInto}

-- One more of the same is one more.
pub more_empty : (lists lists' : List (List ℕ)) (count : ℕ) → lists ≡ replicate count [] → lists' ≡ lists ++ [] ∷ [] →
    lists' ≡ replicate (count + 1) []
more_empty lists lists' count was now =
    now ∙ (ap (λ v. v ++ [] ∷ []) was ∙ replicate_more count [])

-- What stands at a place is read there.
got : {X : Type 0} (xs : List X) (i : ℕ) (x d : X) → slice_get xs i ≡ Some x → get_or xs i d ≡ x
got xs i x d h = sym (unwrap_or-slice_get xs i d) ∙ ap (λ o. unwrap_or o d) h

-- In front of one more all stands where it stood,
front-stays : {X : Type 0} (xs : List X) (z : X) (i : ℕ) (x : X) → slice_get xs i ≡ Some x → slice_get (xs ++ z ∷ []) i ≡ Some x
front-stays [] z i x h = absurd (cc)
front-stays (y ∷ xs) z zero x h = h
front-stays (y ∷ xs) z (suc i) x h = front-stays xs z i x h

-- and that one stands last.
last-stands : {X : Type 0} (xs : List X) (z : X) → slice_get (xs ++ z ∷ []) (length xs) ≡ Some z
last-stands [] z = refl
last-stands (y ∷ xs) z = last-stands xs z

-- What all have, and one more, all have with it.
each-last : {X : Type 0} (P : X → Type 0) (xs : List X) (z : X) → Each P xs → P z → Each P (xs ++ z ∷ [])
each-last P [] z h p = (p, tt)
each-last P (x ∷ xs) z h p = (h.0, each-last P xs z h.1 p)

-- The links found end at the actor,
into-next : (ends : List LinkEnds) (actor n : ℕ) (is : Bool) → (end_of ends n == actor) ≡ is →
    Each (λ link. (link < suc n) × (end_of ends link ≡ actor)) (links_into ends actor n) → (is ≡ true → end_of ends n ≡ actor) →
    Each (λ link. (link < suc n) × (end_of ends link ≡ actor))
    (if is then links_into ends actor n ++ n ∷ [] else links_into ends actor n)
into-next ends actor n true e h ends-here =
    each-last (λ link. (link < suc n) × (end_of ends link ≡ actor)) (links_into ends actor n) n h (omega arith, ends-here refl)
into-next ends actor n false e h ends-here = h

-- by what a comparison says.
by-eqb : (a b : ℕ) (is : Bool) → (a == b) ≡ is → is ≡ true → a ≡ b
by-eqb a b is e t =
    elim (cases_eq a b) [
      | inl same ↦ same
      | inr other ↦ absurd (let no-way : true ≡ false = sym t ∙ (sym e ∙ ne_eqb a b other) in (cc))
    ]

pub into-only : (ends : List LinkEnds) (actor n : ℕ) →
    Each (λ link. (link < n) × (end_of ends link ≡ actor)) (links_into ends actor n)
into-only ends actor zero = tt
into-only ends actor (suc n) =
    into-next ends actor n (end_of ends n == actor) refl
    (each-map (λ link. (link < n) × (end_of ends link ≡ actor)) (λ link. (link < suc n) × (end_of ends link ≡ actor))
    (λ link h. (omega arith, h.1)) (links_into ends actor n) (into-only ends actor n))
    (by-eqb (end_of ends n) actor (end_of ends n == actor) refl)

-- and all that do are found.
has-next : (ends : List LinkEnds) (actor n link : ℕ) (is : Bool) →
    (place : ℕ) × (slice_get (links_into ends actor n) place ≡ Some link) →
    (place : ℕ) × (slice_get (if is then links_into ends actor n ++ n ∷ [] else links_into ends actor n) place ≡ Some link)
has-next ends actor n link true h = (h.0, front-stays (links_into ends actor n) n h.0 link h.1)
has-next ends actor n link false h = h

pub into-has : (ends : List LinkEnds) (actor n link : ℕ) → link < n → end_of ends link ≡ actor →
    (place : ℕ) × (slice_get (links_into ends actor n) place ≡ Some link)
into-has ends actor zero link below is = absurd (omega arith)
into-has ends actor (suc n) link below is =
    elim (cases_eq link n) [
      | inl same ↦ (
          let here : (end_of ends n == actor) ≡ true = eq-eqb (end_of ends n) actor (ap (end_of ends) (sym same) ∙ is) in (
            length (links_into ends actor n),
            subst (λ v. slice_get (if v then links_into ends actor n ++ n ∷ [] else links_into ends actor n)
                (length (links_into ends actor n)) ≡ Some link) (sym here)
                (last-stands (links_into ends actor n) n ∙ ap Some (sym same)),
          ))
      | inr other ↦
          has-next ends actor n link (end_of ends n == actor) (into-has ends actor n link (omega arith) is)
    ]

-- They are the links into the actor.
pub into-are : (p : Layout) (ends : List LinkEnds) (actor : ℕ) → ListsLinks p ends →
    AreLinksInto p actor (links_into ends actor (length ends))
into-are p ends actor are =
    let none : LinkEnds = record { from = 0; to = 0 } in
    record {
      end = each-map (λ link. (link < length ends) × (end_of ends link ≡ actor)) (λ link. (from : ℕ) × IsLink p link from actor)
          (λ link h.
          let e = get_or ends link none in (
            e.from,
            subst (λ v. IsLink p link e.from v) h.1
                ((are.rows link e).0 (slice_get-get_or ends link none h.0)),
          ))
          (links_into ends actor (length ends)) (into-only ends actor (length ends));
      all = λ link from is.
          let e : LinkEnds = record { from = from; to = actor } in
          let stands = (are.rows link e).1 is in
          into-has ends actor (length ends) link (slice_get_within ends link e stands)
          (ap (λ (v : LinkEnds). v.to) (got ends link e none stands));
    }
