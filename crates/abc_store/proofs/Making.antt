-- One micro-step of a node, put together from what its parts did.
use Rattle.std.proofs.Common.{◌≡◌, ℕ, ◌+◌, List, [], ◌∷◌, ◌++◌, refl, sym, ap, ◌∙◌, subst, append-nil}
use Rattle.std.specs.Prelude.{Bool, Option, Some, None, Result, Ok, Err, OnOk}
use Rattle.abc_value.specs.declared.grant.Grant.{Grant}
use Rattle.abc_packet.specs.declared.packets.Packet.{Packet}
use Rattle.abc_packet.specs.declared.packets.Packet.TheVariants.{Request, Reply, Message}
use Rattle.abc_packet.specs.declared.stamped.Stamped.{Stamped}
use Rattle.abc_packet.specs.declared.log.Deed.TheVariants.{Arrived, Passed, Stray}
use Rattle.abc_packet.specs.Outlets.{Lists, Sends, SameLists, sent_on}
use Rattle.abc_network.specs.Stored.{Gains, Loses}
use Rattle.abc_network.specs.Networks.{Actor}
use Rattle.abc_network.specs.Stores.{StoreKind, Store, Item, StoreTakes, PassesItem, to_each}
use Rattle.abc_logs.specs.MicroSteps.{stamped_with}
use Rattle.abc_history.specs.Histories.{Past, Noted, entry_of}
use Rattle.abc_history.specs.Nodes.{acting, Drew}
use Rattle.abc_store.specs.declared.handling.Handling.TheVariants.{Answers, SendsOn, Nothing}
use Rattle.abc_store.specs.Handlings.{IsHandled}
use Rattle.abc_store.specs.Storing.{ArrivesBy, PassesBy, IsAsking, IsTaken, AreToPass}

-- What follows from two facts follows where both hold of an answer.
pub on_ok_both : {T E P Q R : Type 0} (r : Result T E) → (P → Q → R) → OnOk r P → OnOk r Q → OnOk r R
on_ok_both (Ok x) f p q = f p q
on_ok_both (Err e) f p q = p

-- Nothing was sent where the lists stay.
sends_nothing : {L : Type 0} (before after : Lists L) → SameLists before after → Sends before [] after
sends_nothing before after same = λ link. same link ∙ sym (append-nil (before link))

-- A row of the table is made for a packet.
arrives-by_row : {L : Type 0} (g : StoreKind L) (k link : ℕ) (stamped : Stamped L) (s s' : Store L) (old new : Past L)
    (drew : Option Grant) (sends : List (ℕ × Packet L)) (before after : Lists L) (draws : Option Grant → Type 0) →
    StoreTakes g k s link stamped.packet drew sends s' → Noted old (Arrived link stamped drew) new →
    Sends before (stamped_with new.clock sends) after → draws drew →
    ArrivesBy g k link stamped (acting s old) (acting s' new) before after draws
arrives-by_row g k link stamped s s' old new drew sends before after draws row noted sent is = record {
  made = record {
    entry = entry_of new.clock (Arrived link stamped drew);
    sends = sends;
    row = row;
    logs = (noted.clock, refl, noted.log);
    took = refl;
    lists = sent;
  };
  draws = is;
}

-- There is no row for it.
arrives-astray : {L : Type 0} (g : StoreKind L) (k link : ℕ) (stamped : Stamped L) (s : Store L) (old new : Past L)
    (before after : Lists L) (draws : Option Grant → Type 0) →
    ((drew : Option Grant) (some : List (ℕ × Packet L)) (t : Store L) → StoreTakes g k s link stamped.packet drew some t → ⊥) →
    Noted old (Stray link stamped) new → SameLists before after → draws None →
    ArrivesBy g k link stamped (acting s old) (acting s new) before after draws
arrives-astray g k link stamped s old new before after draws no_row noted same is = record {
  made = record {
    entry = entry_of new.clock (Stray link stamped);
    sends = [];
    row = (no_row, refl, refl);
    logs = (noted.clock, refl, noted.log);
    took = refl;
    lists = sends_nothing before after same;
  };
  draws = is;
}

-- A message is stored.
pub arrives-stored : {L : Type 0} (g : StoreKind L) (k : ℕ) (stamped : Stamped L) (s s' : Store L) (old new : Past L)
    (n : ℕ) (item : Item L) (lists : Lists L) → stamped.packet ≡ Message n item.sender item.content →
    IsTaken g k s item.came n item.sender → Gains s.stored n item s'.stored → s'.next ≡ s.next →
    Noted old (Arrived item.came stamped None) new →
    ArrivesBy g k item.came stamped (acting s old) (acting s' new) lists lists (λ d. d ≡ None)
arrives-stored {L} g k stamped s s' old new n item lists is (comes, (late, free)) gains next noted =
    let whole : Store L → Type 0 = λ t. t ≡ record s { stored = s'.stored } in
    let after : s' ≡ record s { stored = s'.stored } =
    ap (λ m. record { next = m; stored = s'.stored }) next in
    arrives-by_row g k item.came stamped s s' old new None [] lists lists (λ d. d ≡ None)
    (subst (λ p. StoreTakes g k s item.came p None [] s') (sym is) (record {
      late = late;
      free = free;
      comes = comes;
      no_draw = refl;
      sends = refl;
      gains = gains;
      after = after;
    })) noted (sends_nothing lists lists (λ link. refl)) refl

-- A message has no row.
pub arrives-not_stored : {L : Type 0} (g : StoreKind L) (k : ℕ) (stamped : Stamped L) (s : Store L) (old new : Past L)
    (n : ℕ) (item : Item L) (lists : Lists L) → stamped.packet ≡ Message n item.sender item.content →
    (IsTaken g k s item.came n item.sender → ⊥) → Noted old (Stray item.came stamped) new →
    ArrivesBy g k item.came stamped (acting s old) (acting s new) lists lists (λ d. d ≡ None)
arrives-not_stored g k stamped s old new n item lists is not_taken noted =
    arrives-astray g k item.came stamped s old new lists lists (λ d. d ≡ None)
    (λ drew some t row.
    let stores = subst (λ p. StoreTakes g k s item.came p drew some t) is row in
    not_taken (stores.comes, (stores.late, stores.free)))
    noted (λ link. refl) refl

-- What is asked for is a row of the table.
takes-asking : {L : Type 0} (g : StoreKind L) (k link : ℕ) (s : Store L) (p : Packet L) (drew : Option Grant)
    (sends : List (ℕ × Packet L)) → IsAsking p → g.asking k link p drew sends → StoreTakes g k s link p drew sends s
takes-asking g k link s (Request agent) drew sends kind asking = (asking, refl)
takes-asking g k link s (Reply agent grant) drew sends kind asking = (asking, refl)
takes-asking g k link s (Message n sender content) drew sends kind asking = absurd kind

-- And nothing else is, for a request or a reply.
takes-nothing : {L : Type 0} (g : StoreKind L) (k link : ℕ) (s t : Store L) (p : Packet L) (drew : Option Grant)
    (sends : List (ℕ × Packet L)) → IsAsking p → (g.asking k link p drew sends → ⊥) →
    StoreTakes g k s link p drew sends t → ⊥
takes-nothing g k link s t (Request agent) drew sends kind none row = none row.0
takes-nothing g k link s t (Reply agent grant) drew sends kind none row = none row.0
takes-nothing g k link s t (Message n sender content) drew sends kind none row = absurd kind

-- A request is answered.
pub arrives-answered : {L : Type 0} (g : StoreKind L) (k link : ℕ) (stamped : Stamped L) (packet : Packet L) (s : Store L)
    (old new : Past L) (agent back : ℕ) (drew : Grant) (before after : Lists L) (draws : Option Grant → Type 0) →
    packet ≡ stamped.packet → IsAsking packet → IsHandled g k link packet (Answers agent back) →
    Noted old (Arrived link stamped (Some drew)) new →
    Sends before (stamped_with new.clock ((back, Reply agent drew) ∷ [])) after → draws (Some drew) →
    ArrivesBy g k link stamped (acting s old) (acting s new) before after draws
arrives-answered g k link stamped packet s old new agent back drew before after draws is kind handled noted sent drawn =
    let sends = (back, Reply agent drew) ∷ [] in
    arrives-by_row g k link stamped s s old new (Some drew) sends before after draws
    (subst (λ p. StoreTakes g k s link p (Some drew) sends s) is
    (takes-asking g k link s packet (Some drew) sends kind (handled.1 drew))) noted sent drawn

-- A request or a reply is sent on.
pub arrives-sent_on : {L : Type 0} (g : StoreKind L) (k link : ℕ) (stamped : Stamped L) (packet : Packet L) (s : Store L)
    (old new : Past L) (on : ℕ) (before after : Lists L) (draws : Option Grant → Type 0) →
    packet ≡ stamped.packet → IsAsking packet → IsHandled g k link packet (SendsOn on) →
    Noted old (Arrived link stamped None) new →
    Sends before (stamped_with new.clock ((on, packet) ∷ [])) after → draws None →
    ArrivesBy g k link stamped (acting s old) (acting s new) before after draws
arrives-sent_on g k link stamped packet s old new on before after draws is kind handled noted sent drawn =
    let sends = (on, packet) ∷ [] in
    arrives-by_row g k link stamped s s old new None sends before after draws
    (subst (λ p. StoreTakes g k s link p None sends s) is
    (takes-asking g k link s packet None sends kind handled)) noted sent drawn

-- A request or a reply has no row.
pub arrives-not_handled : {L : Type 0} (g : StoreKind L) (k link : ℕ) (stamped : Stamped L) (packet : Packet L) (s : Store L)
    (old new : Past L) (before after : Lists L) (draws : Option Grant → Type 0) →
    packet ≡ stamped.packet → IsAsking packet → IsHandled g k link packet Nothing →
    Noted old (Stray link stamped) new → SameLists before after → draws None →
    ArrivesBy g k link stamped (acting s old) (acting s new) before after draws
arrives-not_handled g k link stamped packet s old new before after draws is kind handled noted same drawn =
    arrives-astray g k link stamped s old new before after draws
    (λ drew some t row. takes-nothing g k link s t packet drew some kind (handled drew some)
    (subst (λ p. StoreTakes g k s link p drew some t) (sym is) row)) noted same drawn

-- The room that a history has is no part of the actor.
acting-again : {L : Type 0} (s : Store L) (old mid : Past L) → mid.clock ≡ old.clock → mid.log ≡ old.log → acting s mid ≡ acting s old
acting-again s old mid clock log =
    ap (λ c. record { state = s; clock = c; log = mid.log }) clock
    ∙ ap (λ l. record { state = s; clock = old.clock; log = l }) log

-- An arrival after room was made, at which something may have been drawn.
pub arrives-with_room : {L : Type 0} (g : StoreKind L) (k link : ℕ) (stamped : Stamped L) (s : Store L) (old mid : Past L)
    (new : Actor (Store L) L) (before after : Lists L) (draws draws' : Option Grant → Type 0) →
    mid.clock ≡ old.clock → mid.log ≡ old.log → ((d : Option Grant) → draws d → draws' d) →
    ArrivesBy g k link stamped (acting s mid) new before after draws →
    ArrivesBy g k link stamped (acting s old) new before after draws'
arrives-with_room {L} g k link stamped s old mid new before after draws draws' clock log implies arrives =
    subst (λ (a : Actor (Store L) L). ArrivesBy g k link stamped a new before after draws') (acting-again s old mid clock log)
    (record { made = arrives.made; draws = implies _ arrives.draws })

-- The next message is passed on, after room was made.
pub passes-next : {L : Type 0} (g : StoreKind L) (k : ℕ) (s s' : Store L) (old mid new : Past L) (clock number : ℕ)
    (sends : List (ℕ × Stamped L)) (before between after : Lists L) →
    mid.clock ≡ old.clock → mid.log ≡ old.log → AreToPass g k s clock sends → number ≡ s.next → s'.next ≡ s.next + 1 →
    Loses s.stored s.next s'.stored → new.clock ≡ clock → Noted mid (Passed number) new → SameLists before between →
    Sends between sends after → PassesBy g k (acting s old) (acting s' new) before after
passes-next {L} g k s s' old mid new clock number sends before between after clocks logs (item, waits, are) is next loses at noted same sent =
    let packet = Message s.next item.sender item.content in
    let out = to_each (g.outs k item.sender item.came) packet in
    let after_one : s' ≡ record s { next = s.next + 1; stored = s'.stored } =
    ap (λ m. record { next = m; stored = s'.stored }) next in
    let copies : sends ≡ stamped_with new.clock out = are ∙ ap (λ c. stamped_with c out) (sym at) in
    let lists : Sends before sends after = λ link. sent link ∙ ap (λ q. q ++ sent_on link sends) (same link) in
    subst (λ (a : Actor (Store L) L). PassesBy g k a (acting s' new) before after) (acting-again s old mid clocks logs)
    (record {
      entry = entry_of new.clock (Passed number);
      sends = out;
      row = subst (λ n. PassesItem g k s n out s') (sym is) (record {
        item = item;
        is_next = refl;
        waits = waits;
        sends = refl;
        loses = loses;
        after = after_one;
      });
      logs = (noted.clock, refl, noted.log);
      took = refl;
      lists = subst (λ q. Sends before q after) copies lists;
    })

-- A counter at which nothing was drawn is as before.
pub none_drawn : {N : Type 0} (limit : N → ℕ) (drawn : N → List ℕ) (closed : N → Bool) (stays : N → N → Type 0) (now : N)
    (d : Option Grant) → d ≡ None → Drew limit drawn closed stays d now now
none_drawn limit drawn closed stays now d none = subst (λ o. Drew limit drawn closed stays o now now) (sym none) refl
