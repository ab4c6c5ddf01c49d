-- What a node that stores messages passes on, as an event of a network needs it.
use Rattle.std.proofs.Common.{◌≡◌, ℕ, ◌<◌, List, [], length, Bool, true, false}
use Rattle.std.specs.Prelude.{Result, Ok, Err, IfOk, OnErr, MatchBool}
use Rattle.std.specs.Bool.{OnFalse}
use Rattle.std.proofs.lemmas.Result.{IfOk-weaker, on_err_weaker}
use Rattle.abc_packet.specs.declared.packets.Packet.{Packet}
use Rattle.abc_packet.specs.declared.stamped.Stamped.{Stamped}
use Rattle.abc_packet.specs.declared.log.Deed.{Deed}
use Rattle.abc_packet.specs.declared.log.Deed.TheVariants.{Asked, Arrived, Took, Turned, Passed, Stray}
use Rattle.abc_packet.specs.Outlets.{SameLinks, SameLists}
use Rattle.abc_network.specs.Networks.{Actor}
use Rattle.abc_network.specs.Stores.{Store, StoreKind, StoreDoes, store_machine}
use Rattle.abc_logs.specs.MicroSteps.{Makes, taken_by}
use Rattle.abc_store.specs.Storing.{PassesBy, CanPass}
use Rattle.abc_world.specs.Crews.{lists_in}
use Rattle.abc_world.specs.Kinds.{IsPass}
use Rattle.abc_world.proofs.Among.{same-tables}

-- A micro-step that takes nothing passes a message on.
passes-is : {L : Type 0} (g : StoreKind L) (k : ℕ) (s : Store L) (d : Deed L) (o : List (ℕ × Packet L)) (t : Store L) →
    StoreDoes g k s d o t → taken_by d ≡ [] → IsPass d
passes-is g k s Asked o t row none = row
passes-is g k s (Arrived link stamped drew) o t row none = absurd (cc)
passes-is g k s (Took n place) o t row none = row
passes-is g k s (Turned n place content) o t row none = row
passes-is g k s (Passed n) o t row none = tt
passes-is g k s (Stray link stamped) o t row none = absurd (cc)

-- By the answer whether it did.
passed-by : {L : Type 0} (g : StoreKind L) (k : ℕ) (old new : Actor (Store L) L) (links after : List (List (Stamped L)))
    (made : Bool) →
    MatchBool made (PassesBy g k old new (lists_in links) (lists_in after)) (CanPass old.state → ⊥) →
    MatchBool made
    ((step : Makes ((store_machine g).does k) [] old new (lists_in links) (lists_in after)) × IsPass step.entry.deed)
    ((store_machine g).can_pass old.state → ⊥)
passed-by g k old new links after true h =
    (h, passes-is g k old.state h.entry.deed h.sends new.state h.row h.took)
passed-by g k old new links after false h = h

pub passed : {L E : Type 0} (r : Result Bool E) (g : StoreKind L) (k : ℕ) (old new : Actor (Store L) L)
    (links after : List (List (Stamped L))) →
    IfOk r (λ made. MatchBool made (PassesBy g k old new (lists_in links) (lists_in after)) (CanPass old.state → ⊥)) →
    IfOk r (λ made. MatchBool made
    ((step : Makes ((store_machine g).does k) [] old new (lists_in links) (lists_in after)) × IsPass step.entry.deed)
    ((store_machine g).can_pass old.state → ⊥))
passed r g k old new links after told = IfOk-weaker r _ _ (passed-by g k old new links after) told

-- Where all lists stayed, the table did.
stays-by : {L : Type 0} (P : Type 0) (links after : List (List (Stamped L))) → SameLinks (λ l. l < length links) (λ l. l < length after) →
    (made : Bool) → OnFalse made (P × SameLists (lists_in links) (lists_in after)) → OnFalse made (P × (after ≡ links))
stays-by P links after same true h = h
stays-by P links after same false h = (h.0, same-tables links after same h.1)

pub stays : {L E : Type 0} (P : Type 0) (r : Result Bool E) (links after : List (List (Stamped L))) →
    SameLinks (λ l. l < length links) (λ l. l < length after) →
    IfOk r (λ made. OnFalse made (P × SameLists (lists_in links) (lists_in after))) →
    IfOk r (λ made. OnFalse made (P × (after ≡ links)))
stays P r links after same told = IfOk-weaker r _ _ (stays-by P links after same) told

-- So after a refusal.
pub refused : {T L E : Type 0} (P : Type 0) (r : Result T E) (links after : List (List (Stamped L))) →
    SameLinks (λ l. l < length links) (λ l. l < length after) →
    OnErr r (P × SameLists (lists_in links) (lists_in after)) → OnErr r (P × (after ≡ links))
refused P r links after same told = on_err_weaker r (λ h. (h.0, same-tables links after same h.1)) told

-- And where a draw was refused too, told clause by clause or at once.
pub refused-each : {T L E : Type 0} (P Q : Type 0) (r : Result T E) (links after : List (List (Stamped L))) →
    SameLinks (λ l. l < length links) (λ l. l < length after) → OnErr r P → OnErr r Q →
    OnErr r (SameLists (lists_in links) (lists_in after)) → OnErr r (P × Q × (after ≡ links))
refused-each P Q (Ok v) links after same p q told = tt
refused-each P Q (Err e) links after same p q told = (p, q, same-tables links after same told)

pub refused-draw : {T L E : Type 0} (P Q : Type 0) (r : Result T E) (links after : List (List (Stamped L))) →
    SameLinks (λ l. l < length links) (λ l. l < length after) →
    OnErr r (P × Q × SameLists (lists_in links) (lists_in after)) → OnErr r (P × Q × (after ≡ links))
refused-draw P Q r links after same told = on_err_weaker r (λ h. (h.0, h.1, same-tables links after same h.2)) told
