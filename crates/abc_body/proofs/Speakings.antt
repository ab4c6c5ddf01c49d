-- A body that can speak does so in a step, whatever the others hear.
use Rattle.std.proofs.Common.{◌≡◌, ◌≢◌, ℕ, suc, ◌+◌, ◌<◌, ◌≤◌, ◌==◌, Bool, true, false, MatchBool, refl, sym, subst, arith, inl, inr}
use Rattle.std.proofs.Common.{Option, Some, None, List, [], ◌∷◌, length}
use Rattle.std.specs.Prelude.{slice_get}
use Rattle.std.proofs.lemmas.Bool.{eq-eqb, ne_eqb}
use Rattle.std.proofs.lemmas.Bool.Decides.{eqb_tells}
use Rattle.std.proofs.lemmas.List.Elements.{All-head, All-tail}
use Rattle.std.proofs.lemmas.Option.{slice_get_within}
use Rattle.abc_body.specs.Meanings.{Meaning, HearsAll}
use Rattle.abc_body.specs.Multicasts.{place_in, AreHearers, EachMoves, Multicasts}
use Rattle.abc_body.specs.Laws.{IsSound}

-- The first hearer hears at its own place.
place_in-first : (i place : ℕ) (heard : List (ℕ × ℕ)) → place_in ((i, place) ∷ heard) i ≡ Some place
place_in-first i place heard = rw (eq-eqb i i refl) refl

-- And another at its place among the others.
place_in-other : (i j place : ℕ) (heard : List (ℕ × ℕ)) → i ≢ j → place_in ((i, place) ∷ heard) j ≡ place_in heard j
place_in-other i j place heard ne = rw (ne_eqb i j ne) refl

-- Who comes before all hearers is none of them.
place_in-below : (sender count least j : ℕ) (heard : List (ℕ × ℕ)) → AreHearers sender count least heard → j < least → place_in heard j ≡ None
place_in-below sender count least j [] are below = refl
place_in-below sender count least j (h ∷ heard) are below =
    let low = are.0 in
    let ne : h.0 ≢ j = λ e. absurd (omega arith) in
    rw (ne_eqb h.0 j ne) (place_in-below sender count (h.0 + 1) j heard are.3 (omega arith))

-- Hearers from a number on are hearers from one below.
AreHearers-lower : (sender count least lower : ℕ) (heard : List (ℕ × ℕ)) →
    lower ≤ least → AreHearers sender count least heard → AreHearers sender count lower heard
AreHearers-lower sender count least lower [] le are = tt
AreHearers-lower sender count least lower (h ∷ heard) le are = let low = are.0 in (omega arith, are.1, are.2, are.3)

module _ {B L : Type 0} (m : Meaning B L) (sender place : ℕ) (l : L) where
  -- The moves from body i on depend on the places from there on.
  EachMoves-same : (heard more : List (ℕ × ℕ)) (i : ℕ) (S S' : List B) → ((j : ℕ) → i ≤ j → place_in more j ≡ place_in heard j) →
      EachMoves m sender place heard l i S S' → EachMoves m sender place more l i S S'
  EachMoves-same heard more i [] [] same moves = tt
  EachMoves-same heard more i [] (b' ∷ S') same moves = absurd moves
  EachMoves-same heard more i (b ∷ S) [] same moves = absurd moves
  EachMoves-same heard more i (b ∷ S) (b' ∷ S') same moves = (
    subst (λ (p : Option ℕ). MatchBool (i == sender) (m.speaks b place l b') (m.hears b l p b')) (sym (same i (omega arith))) moves.0,
    EachMoves-same heard more (i + 1) S S' (λ j le. same j (omega arith)) moves.1,
  )

  module _ (count : ℕ) where
    -- How the bodies from i on move.
    record MovesFrom (i : ℕ) (S : List B) : Type 0 where
      heard : List (ℕ × ℕ)
      next : List B
      hearers : AreHearers sender count i heard
      moves : EachMoves m sender place heard l i S next

    -- The body i hears, at a place or at none, before the others.
    with_hearer : (i : ℕ) (b b' : B) (S : List B) → (i == sender) ≡ false → i ≢ sender → i < count →
        (p : Option ℕ) → m.hears b l p b' → MovesFrom (i + 1) S → MovesFrom i (b ∷ S)
    with_hearer i b b' S other ne low (Some q) hears rest = record {
      heard = (i, q) ∷ rest.heard;
      next = b' ∷ rest.next;
      hearers = (omega arith, low, ne, rest.hearers);
      moves = (
        subst (λ (t : Bool). MatchBool t (m.speaks b place l b') (m.hears b l (place_in ((i, q) ∷ rest.heard) i) b')) (sym other)
            (subst (λ (p : Option ℕ). m.hears b l p b') (sym (place_in-first i q rest.heard)) hears),
        EachMoves-same rest.heard ((i, q) ∷ rest.heard) (i + 1) S rest.next
            (λ j le. place_in-other i j q rest.heard (λ e. absurd (omega arith))) rest.moves,
      );
    }
    with_hearer i b b' S other ne low None hears rest = record {
      heard = rest.heard;
      next = b' ∷ rest.next;
      hearers = AreHearers-lower sender count (i + 1) i rest.heard (omega arith) rest.hearers;
      moves = (
        subst (λ (t : Bool). MatchBool t (m.speaks b place l b') (m.hears b l (place_in rest.heard i) b')) (sym other)
            (subst (λ (p : Option ℕ). m.hears b l p b') (sym (place_in-below sender count (i + 1) i rest.heard rest.hearers (omega arith))) hears),
        rest.moves,
      );
    }

    -- The sender speaks, before the others.
    with_sender : (i : ℕ) (b b' : B) (S : List B) → (i == sender) ≡ true → m.speaks b place l b' → MovesFrom (i + 1) S → MovesFrom i (b ∷ S)
    with_sender i b b' S own spoke rest = record {
      heard = rest.heard;
      next = b' ∷ rest.next;
      hearers = AreHearers-lower sender count (i + 1) i rest.heard (omega arith) rest.hearers;
      moves = (
        subst (λ (t : Bool). MatchBool t (m.speaks b place l b') (m.hears b l (place_in rest.heard i) b')) (sym own) spoke,
        rest.moves,
      );
    }

    -- All move, where the sender can speak so and every sound body hears.
    all_move : HearsAll m → (b' : B) (i : ℕ) (S : List B) → i + length S ≡ count → IsSound m S →
        ((k : ℕ) (b : B) → slice_get S k ≡ Some b → i + k ≡ sender → m.speaks b place l b') → MovesFrom i S
    all_move hears_all b' i [] size sound speaks = record { heard = []; next = []; hearers = tt; moves = tt }
    all_move hears_all b' i (b ∷ S) size sound speaks =
        let rest = all_move hears_all b' (i + 1) S (omega arith) (All-tail m.sound b S sound) (λ k c is at. speaks (suc k) c is (omega arith)) in
        let heard = hears_all b l (All-head m.sound b S sound) in
        elim (eqb_tells i sender) [
          | inl own ↦ let at : i ≡ sender = own.1 in with_sender i b b' S own.0 (speaks 0 b refl (omega arith)) rest
          | inr other ↦ with_hearer i b heard.1 S other.0 other.1 (omega arith) heard.0 heard.2 rest
        ]

-- Where a body of a sound system can speak, there is a multicast in which it does.
pub speaking_steps : {B L : Type 0} (m : Meaning B L) → HearsAll m →
    (S : List B) (sender : ℕ) (b b' : B) (place : ℕ) (l : L) → IsSound m S → slice_get S sender ≡ Some b → m.speaks b place l b' →
    (heard : List (ℕ × ℕ)) × (S' : List B) × Multicasts m S sender place heard l S'
speaking_steps {B} m hears_all S sender b b' place l sound is spoke =
    let same : (k : ℕ) (c : B) → slice_get S k ≡ Some c → 0 + k ≡ sender → m.speaks c place l b' =
    λ k c at here. subst (λ (x : B). m.speaks x place l b') (found k c at here) spoke in
    let r = all_move m sender place l (length S) hears_all b' 0 S (omega arith) sound same in
    (r.heard, r.next, record { exists = slice_get_within S sender b is; hearers = r.hearers; moves = r.moves })
  where
    found : (k : ℕ) (c : B) → slice_get S k ≡ Some c → 0 + k ≡ sender → b ≡ c
    found k c at here = let e : k ≡ sender = omega arith in cc
