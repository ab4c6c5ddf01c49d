-- Sendings one after another.
use Rattle.std.proofs.Common.{◌≡◌, ℕ, ◌==◌, Bool, true, false, List, [], ◌∷◌, ◌++◌, refl, append_assoc, if◌then◌else◌}
use Rattle.abc_packet.specs.declared.stamped.Stamped.{Stamped}
use Rattle.abc_packet.specs.Outlets.{sent_on, Lists, Sends}

-- The front of a list, where a test says so.
chosen : {A : Type 0} (b : Bool) (x : A) (xs ys : List A) → (if b then x ∷ (xs ++ ys) else (xs ++ ys)) ≡ (if b then x ∷ xs else xs) ++ ys
chosen true x xs ys = refl
chosen false x xs ys = refl

-- What some sendings and then others put on a link.
pub sent_after_append : {L : Type 0} (link : ℕ) (sends more : List (ℕ × Stamped L)) →
    sent_on link (sends ++ more) ≡ sent_on link sends ++ sent_on link more
sent_after_append link [] more = refl
sent_after_append link (s ∷ sends) more =
    rw (sent_after_append link sends more) (chosen (s.0 == link) s.1 (sent_on link sends) (sent_on link more))

-- Some sendings and then others are all of them.
pub Sends-append : {L : Type 0} (a b c : Lists L) (sends more : List (ℕ × Stamped L)) → Sends a sends b → Sends b more c → Sends a (sends ++ more) c
Sends-append a b c sends more first second = λ link.
    rw (second link, first link, sent_after_append link sends more) (append_assoc (a link) (sent_on link sends) (sent_on link more))
