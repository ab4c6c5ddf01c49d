-- Whether an item is there, by a test.
use Rattle.std.proofs.Common.{◌≡◌, refl}
use Rattle.std.specs.Prelude.{Bool, true, false, Option, Some, None, IsTrue, IsSome, ◌↔◌, MatchBool}
use Rattle.std.specs.Bool.{OnFalse}

-- A test that is true just where an item is there tells of that item, or that there is none.
pub item_or_none : {T : Type 0} (r : Bool) (o : Option T) → IsTrue r ↔ IsSome o → OnFalse r (o ≡ None) →
    MatchBool r ((x : T) × (o ≡ Some x)) (((x : T) × (o ≡ Some x)) → ⊥)
item_or_none true None stored free = let some = stored.0 refl in absurd (cc)
item_or_none true (Some x) stored free = (x, refl)
item_or_none false o stored free = λ p. let some = p.1 in absurd (cc)
