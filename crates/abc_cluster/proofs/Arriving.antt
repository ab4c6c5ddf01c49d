-- From what was logged, sent and drawn to one micro-step by the table.
use Rattle.std.proofs.Common.{◌≡◌, ℕ, [], List, ◌++◌, refl, sym, ap, ◌∙◌, subst, append-nil}
use Rattle.std.specs.Prelude.{Option, None}
use Rattle.abc_value.specs.declared.grant.Grant.{Grant}
use Rattle.abc_packet.specs.declared.packets.Packet.{Packet}
use Rattle.abc_packet.specs.declared.stamped.Stamped.{Stamped}
use Rattle.abc_packet.specs.declared.log.Deed.TheVariants.{Arrived, Stray}
use Rattle.abc_packet.specs.Outlets.{Lists, Sends, SameLists, sent_on}
use Rattle.abc_logs.specs.MicroSteps.{stamped_with}
use Rattle.abc_history.specs.Histories.{Past, Noted, entry_of}
use Rattle.abc_history.specs.Nodes.{Arrives, acting}
use Rattle.abc_cluster.specs.Rows.{IsRow, Takes}
use Rattle.abc_cluster.specs.Stations.{SeenStation, ArrivesAt, table_of}
use Rattle.abc_cluster.specs.declared.station.Row.TheVariants.{Other}

-- A packet that has a row: it is logged with what was drawn, and the row's packets are sent.
pub arrived : {L : Type 0} (s : SeenStation) (link : ℕ) (stamped : Stamped L) (old new : Past L) (before after : Lists L)
    (d : Option Grant) (sends : List (ℕ × Packet L)) (drew : Option Grant → Type 0) →
    Takes s link stamped.packet d sends → Noted old (Arrived link stamped d) new →
    Sends before (stamped_with new.clock sends) after → drew d →
    ArrivesAt s link stamped old new before after drew
arrived s link stamped old new before after d sends drew row noted sent drawn = record {
  made = record {
    entry = entry_of new.clock (Arrived link stamped d);
    sends = sends;
    row = row;
    logs = (noted.clock, refl, noted.log);
    took = refl;
    lists = sent;
  };
  draws = drawn;
}

-- What was made ready at the clock of the entry is what is sent.
pub sends-ready : {L : Type 0} (before after : Lists L) (clock now : ℕ) (sends : List (ℕ × Packet L))
    (ready : List (ℕ × Stamped L)) → ready ≡ stamped_with clock sends → clock ≡ now → Sends before ready after →
    Sends before (stamped_with now sends) after
sends-ready before after clock now sends ready is same sent =
    subst (λ l. Sends before l after) (is ∙ ap (λ n. stamped_with n sends) same) sent

-- A packet that has none: it is logged as a stray, and nothing is sent or drawn.
pub strayed : {L : Type 0} (s : SeenStation) (link : ℕ) (stamped : Stamped L) (old new : Past L) (lists : Lists L)
    (drew : Option Grant → Type 0) →
    IsRow s link stamped.packet Other → Noted old (Stray link stamped) new → drew None →
    ArrivesAt s link stamped old new lists lists drew
strayed s link stamped old new lists drew row noted drawn = record {
  made = record {
    entry = entry_of new.clock (Stray link stamped);
    sends = [];
    row = (row, refl);
    logs = (noted.clock, refl, noted.log);
    took = refl;
    lists = λ l. sym (append-nil (lists l));
  };
  draws = drawn;
}

-- Where nothing was drawn, what is asked of draws is what is asked of none.
pub arrives-undrawn : {L : Type 0} (s : SeenStation) (link : ℕ) (stamped : Stamped L) (old new : Past L)
    (before after : Lists L) (drew : Option Grant → Type 0) → drew None →
    ArrivesAt s link stamped old new before after (λ d. d ≡ None) →
    ArrivesAt s link stamped old new before after drew
arrives-undrawn s link stamped old new before after drew none arrives = record {
  made = arrives.made;
  draws = subst drew (sym arrives.draws) none;
}

-- Room that was made before is no change.
pub arrives-after_room : {L : Type 0} (s : SeenStation) (link : ℕ) (stamped : Stamped L) (old mid new : Past L)
    (before between after : Lists L) (drew : Option Grant → Type 0) →
    mid.clock ≡ old.clock → mid.log ≡ old.log → SameLists before between →
    ArrivesAt s link stamped mid new between after drew →
    ArrivesAt s link stamped old new before after drew
arrives-after_room s link stamped old mid new before between after drew clock log same arrives =
    let same_actor : acting (tt {0}) mid ≡ acting (tt {0}) old = search (clock, log) in
    let there = subst (λ a. Arrives (table_of s.plan s.number) link stamped a (acting tt new) between after drew) same_actor arrives in
    record {
      made = record {
        entry = there.made.entry;
        sends = there.made.sends;
        row = there.made.row;
        logs = there.made.logs;
        took = there.made.took;
        lists = λ l. there.made.lists l ∙ ap (λ q. q ++ sent_on l (stamped_with there.made.entry.clock there.made.sends)) (same l);
      };
      draws = there.draws;
    }
