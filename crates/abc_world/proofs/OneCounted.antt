-- The one counter of a network answers Closed only after all.
use Rattle.std.proofs.Common.{◌≡◌, Bool, true, false, length, refl, sym, ap, ◌∙◌}
use Rattle.std.specs.Prelude.{◌↔◌}
use Rattle.std.proofs.lemmas.List.FromFn.{length-range_with_len}
use Rattle.abc_value.specs.declared.grant.Grant.{Grant}
use Rattle.abc_value.specs.declared.grant.Grant.TheVariants.{Number, Closed}
use Rattle.abc_number.specs.Counter.{Counter}
use Rattle.abc_number.specs.Draws.{Granted, first_numbers}

-- No counter is open and closed.
not-both : (b : Bool) → b ≡ true → b ≡ false → ⊥
not-both true t f = (cc)
not-both false t f = (cc)

-- After a draw a closed counter has drawn all.
pub draw-all : (old new : Counter) (grant : Grant) →
    Granted old.limit (first_numbers old.count) old.closed grant (first_numbers new.count) new.closed →
    ((grant ≡ Closed) ↔ (old.count ≡ old.limit)) → new.limit ≡ old.limit → new.closed ≡ true → new.count ≡ new.limit
draw-all old new (Number n) granted closes limit closed = absurd (not-both new.closed closed granted.4)
draw-all old new Closed granted closes limit closed =
    let same : new.count ≡ old.count =
    sym (length-range_with_len 1 new.count) ∙ (ap (λ v. length v) granted.0 ∙ length-range_with_len 1 old.count) in
    same ∙ (closes.0 refl ∙ sym limit)
