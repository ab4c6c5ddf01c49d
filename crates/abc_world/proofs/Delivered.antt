-- The first packet of a link is taken.
use Rattle.std.proofs.Common.{◌≡◌, ℕ, ◌<◌, List, [], ◌∷◌, ◌++◌, length, get_or, refl, sym, ap, ◌∙◌, subst, inl, inr, append-nil}
use Rattle.std.specs.Prelude.{Option, Some, None, IfSome, IfNone, slice_get, MatchOption}
use Rattle.std.proofs.lemmas.Bool.{cases_eq}
use Rattle.std.proofs.lemmas.List.{get_or-set_other, length-set}
use Rattle.abc_packet.specs.declared.stamped.Stamped.{Stamped}
use Rattle.abc_packet.specs.Outlets.{sent_on}
use Rattle.abc_pool.specs.Queues.{Queues, items_in, Pops}
use Rattle.abc_schedule.proofs.Actors.{none-sent}
use Rattle.abc_schedule.proofs.OnLinks.{one-sent}
use Rattle.abc_world.specs.Tables.{OnTables}

-- What stands first and behind it.
same-first : {X : Type 0} (x y : X) (q r : List X) → x ∷ q ≡ y ∷ r → x ≡ y
same-first x y q r h = cc

-- No list is empty and begins with an item.
none-first : {X : Type 0} (x : X) (q : List X) → [] ≡ x ∷ q → ⊥
none-first x q h = cc

-- The links of which a packet was popped.
popped-tables : {L : Type 0} (links after : Queues (Stamped L)) (link : ℕ) (x : Stamped L) → link < length links.queues →
    Pops links after link x → OnTables ((link, x) ∷ []) [] links.queues after.queues
popped-tables {L} links after link x there p =
    record {
      many = ap (λ v. length v) p.queues ∙ length-set links.queues link (items_in after link);
      queues = λ l.
          elim (cases_eq l link) [
            | inl e ↦
                subst (λ v. (q : List (Stamped L)) × (get_or links.queues v [] ≡ sent_on v ((link, x) ∷ []) ++ q)
                × (get_or after.queues v [] ≡ q ++ [])) (sym e) (
                  items_in after link,
                  p.first ∙ ap (λ v. v ++ items_in after link) (sym (one-sent link link x refl)),
                  sym (append-nil (items_in after link)),
                )
            | inr ne ↦ (
              get_or links.queues l [],
              ap (λ v. v ++ get_or links.queues l []) (sym (none-sent l ((link, x) ∷ []) ((λ e. ne (sym e)), tt))),
              ap (λ v. get_or v l []) p.queues
                  ∙ (get_or-set_other links.queues link l (items_in after link) [] ne
                  ∙ sym (append-nil (get_or links.queues l []))),
            )
          ];
    }

-- The packet that stood first was taken.
pub first-taken : {L : Type 0} (links after : Queues (Stamped L)) (link : ℕ) (r : Option (Stamped L)) →
    link < length links.queues → IfSome r (Pops links after link) → IfNone r (items_in links link ≡ []) →
    (x : Stamped L) (q : List (Stamped L)) → items_in links link ≡ x ∷ q →
    OnTables ((link, x) ∷ []) [] links.queues after.queues
first-taken links after link None there pops none x q stands = absurd (none-first x q (sym none ∙ stands))
first-taken links after link (Some y) there pops none x q stands =
    subst (λ v. OnTables ((link, v) ∷ []) [] links.queues after.queues)
    (same-first y x (items_in after link) q (sym pops.first ∙ stands)) (popped-tables links after link y there pops)

-- What a list begins with, by what stands at its first place.
pub begins : {X : Type 0} (xs : List X) (x : X) → Some x ≡ slice_get xs 0 → (q : List X) × (xs ≡ x ∷ q)
begins [] x h = absurd (cc)
begins (y ∷ ys) x h = (ys, (let e : y ∷ ys ≡ x ∷ ys = cc in e))

pub begins-not : {X : Type 0} (xs : List X) → None ≡ slice_get xs 0 → xs ≡ []
begins-not [] h = refl
begins-not (y ∷ ys) h = absurd (cc)

-- The same, where it is known that one stands there.
pub found-first : {X : Type 0} (o : Option X) (x : X) (xs : List X) → o ≡ Some x →
    MatchOption o (xs ≡ []) (λ y. (q : List X) × (xs ≡ y ∷ q)) → (q : List X) × (xs ≡ x ∷ q)
found-first {X} o x xs is first = subst (λ v. MatchOption v (xs ≡ []) (λ y. (q : List X) × (xs ≡ y ∷ q))) is first

-- On each link: a packet stands first on its own, and none of it on others.
pub stands-first : {L : Type 0} (links : List (List (Stamped L))) (link : ℕ) (x : Stamped L) (q : List (Stamped L)) →
    get_or links link [] ≡ x ∷ q → (l : ℕ) →
    (r : List (Stamped L)) × (get_or links l [] ≡ sent_on l ((link, x) ∷ []) ++ r)
stands-first {L} links link x q stands l =
    elim (cases_eq l link) [
      | inl e ↦
          subst (λ v. (r : List (Stamped L)) × (get_or links v [] ≡ sent_on v ((link, x) ∷ []) ++ r)) (sym e)
          (q, stands ∙ ap (λ v. v ++ q) (sym (one-sent link link x refl)))
      | inr ne ↦ (
        get_or links l [],
        ap (λ v. v ++ get_or links l []) (sym (none-sent l ((link, x) ∷ []) ((λ e. ne (sym e)), tt))),
      )
    ]
