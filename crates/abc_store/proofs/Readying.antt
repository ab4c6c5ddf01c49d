-- The copies of a message that are made before they are sent.
use Rattle.std.proofs.Common.{◌≡◌, ℕ, suc, ◌+◌, ◌<◌, ◌≤◌, List, [], ◌∷◌, ◌++◌, length, take, get_or, refl, sym, ap, ◌∙◌, arith}
use Rattle.std.specs.List.{All}
use Rattle.std.proofs.lemmas.List.{take_more}
use Rattle.std.proofs.lemmas.List.Elements.{All-head, All-tail}
use Rattle.abc_packet.specs.declared.packets.Packet.{Packet}
use Rattle.abc_packet.specs.declared.stamped.Stamped.{Stamped}
use Rattle.abc_packet.specs.Outlets.{SameLinks}
use Rattle.abc_network.specs.Stores.{StoreKind, Store, to_each}
use Rattle.abc_logs.specs.MicroSteps.{stamped_with}
use Rattle.abc_history.specs.Outs.{AreOnLinks}
use Rattle.abc_store.specs.Storing.{AreToPass, HasAll}

-- One link more is one copy more.
to_each-push : {L : Type 0} (clock : ℕ) (links : List ℕ) (link : ℕ) (p : Packet L) →
    stamped_with clock (to_each (links ++ link ∷ []) p) ≡ stamped_with clock (to_each links p) ++ (link, record { clock = clock; packet = p }) ∷ []
to_each-push clock [] link p = refl
to_each-push {L} clock (l ∷ links) link p =
    let first : ℕ × Stamped L = (l, record { clock = clock; packet = p }) in
    ap (λ sends. first ∷ sends) (to_each-push clock links link p)

-- The next copy is made.
pub copies-more : {L : Type 0} (clock i link : ℕ) (links : List ℕ) (p : Packet L) (s : Stamped L) (items more : List (ℕ × Stamped L)) →
    items ≡ stamped_with clock (to_each (take i links) p) → more ≡ items ++ (link, s) ∷ [] → s ≡ record { clock = clock; packet = p } →
    i < length links → link ≡ get_or links i 0 → more ≡ stamped_with clock (to_each (take (i + 1) links) p)
copies-more {L} clock i link links p s items more were push is there at =
    push ∙ ap (λ sends. sends ++ (link, s) ∷ []) were ∙ ap (λ x. stamped_with clock (to_each (take i links) p) ++ (link, x) ∷ []) is
    ∙ sym (to_each-push clock (take i links) link p)
    ∙ ap (λ l. stamped_with clock (to_each (take i links ++ l ∷ []) p)) at
    ∙ ap (λ ls. stamped_with clock (to_each ls p)) (sym (take_more links i 0 there))

-- There are as many copies as links.
count-of_copies : {L : Type 0} (clock : ℕ) (links : List ℕ) (p : Packet L) → length (stamped_with clock (to_each links p)) ≡ length links
count-of_copies clock [] p = refl
count-of_copies clock (l ∷ links) p = ap suc (count-of_copies clock links p)

-- So where no list of links is longer than some number, no more copies than that are made.
pub few_to_pass : {L : Type 0} (g : StoreKind L) (k : ℕ) (s : Store L) (clock most : ℕ) (sends : List (ℕ × Stamped L)) →
    AreToPass g k s clock sends → ((sender came : ℕ) → length (g.outs k sender came) ≤ most) → length sends ≤ most
few_to_pass g k s clock most sends (item, waits, are) few =
    let count = ap length are ∙ count-of_copies clock (g.outs k item.sender item.came) _ in
    let short = few item.sender item.came in
    omega arith

-- The copies are on the links.
pub on_links : {L : Type 0} (leaves : ℕ → Type 0) (clock : ℕ) (links : List ℕ) (p : Packet L) → All leaves links →
    AreOnLinks leaves (stamped_with clock (to_each links p))
on_links leaves clock [] p all = tt
on_links leaves clock (l ∷ links) p all =
    (All-head leaves l links all, on_links leaves clock links p (All-tail leaves l links all))

-- What is on some of the links is on all of them.
pub on_all_links : {L : Type 0} (leaves has now : ℕ → Type 0) (sends : List (ℕ × Stamped L)) → HasAll leaves has → SameLinks has now →
    AreOnLinks leaves sends → AreOnLinks now sends
on_all_links leaves has now [] all same on = tt
on_all_links leaves has now (s ∷ sends) all same on =
    ((same s.0).0 (all s.0 on.0), on_all_links leaves has now sends all same on.1)
