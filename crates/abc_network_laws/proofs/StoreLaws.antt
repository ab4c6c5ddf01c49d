-- What a storing node owes, from facts on its plan alone.
use Rattle.std.proofs.Common.{◌≡◌, ℕ, ◌+◌, ◌<◌, ◌≤◌, List, [], ◌∷◌, refl, sym, ap, subst, arith}
use Rattle.std.proofs.Common.{inl, inr}
use Rattle.std.specs.Prelude.{Option, Some, None, ◌⊎◌, ◌==◌, if◌then◌else◌}
use Rattle.std.proofs.lemmas.Bool.{cases_eq, cases_lt}
use Rattle.abc_value.specs.declared.grant.Grant.{Grant}
use Rattle.abc_packet.specs.declared.packets.Content.{Content}
use Rattle.abc_packet.specs.declared.packets.Packet.{Packet}
use Rattle.abc_packet.specs.declared.packets.Packet.TheVariants.{Message, Reply, Request}
use Rattle.abc_packet.specs.declared.log.Deed.{Deed}
use Rattle.abc_packet.specs.declared.log.Deed.TheVariants.{Arrived, Asked, Passed, Stray, Took}
use Rattle.abc_packet.specs.declared.log.Deed.TheVariants.{Turned}
use Rattle.abc_shape.specs.declared.layout.Layout.{Layout}
use Rattle.abc_wait.specs.Waits.{item_beside}
use Rattle.abc_network.specs.Stored.{Gains, Loses}
use Rattle.abc_network.specs.Stores.{Item, Store, StoreDoes, StoreTakes, store_machine, to_each}
use Rattle.abc_network.specs.Stores.{blank_store}
use Rattle.abc_network.specs.Networks.{drawn_in, EndsAtNode}
use Rattle.abc_network_laws.specs.Counts.{IfMessage, draws_number, replies_number, taken_packets}
use Rattle.abc_network_laws.specs.Kept.{Each, HoldsHonest, Relays, sends_number, total}
use Rattle.abc_network_laws.specs.Charges.{of_packets, taken_at}
use Rattle.abc_network_laws.specs.Flows.{Carries, Ends, Goal, NotStray, ToAgent, ToNode, asks_on}
use Rattle.abc_network_laws.specs.Flows.{message_on}
use Rattle.abc_network_laws.specs.StoreFlows.{Kind, KindLaws, StoreSound, at_node, item_leads}
use Rattle.abc_network_laws.specs.StoreFlows.{lead_all, store_carries, store_flow, store_rules}
use Rattle.abc_network_laws.proofs.Maps.{gained-same, gained-other, gained-each, lost-same}
use Rattle.abc_network_laws.proofs.Maps.{lost-other, lost-each, gains-front}
use Rattle.abc_network_laws.proofs.Places.{bit-yes, bit-no, early-bit, late-bit}

-- Sendings on links that have it have it.
to-each-each : {L : Type 0} (P : ℕ → Type 0) (Q : ℕ × Packet L →
    Type 0) (p : Packet L) (ls : List ℕ) → ((l : ℕ) → P l → Q (l, p)) → Each P ls →
    Each Q (to_each ls p)
to-each-each P Q p [] f h = tt
to-each-each P Q p (l ∷ ls) f h = (f l h.0, to-each-each P Q p ls f h.1)

-- Sendings of a packet that has it have it.
to-each-all : {L : Type 0} (Q : ℕ × Packet L → Type 0) (p : Packet L) (ls : List ℕ) →
    ((l : ℕ) → Q (l, p)) → Each Q (to_each ls p)
to-each-all Q p [] f = tt
to-each-all Q p (l ∷ ls) f = (f l, to-each-all Q p ls f)

-- Sendings of a packet that does not count do not count.
to-each-none : {L : Type 0} (f : ℕ × Packet L → ℕ) (p : Packet L) (ls : List ℕ) →
    ((l : ℕ) → f (l, p) ≡ 0) → total f (to_each ls p) ≡ 0
to-each-none f p [] h = refl
to-each-none f p (l ∷ ls) h = let a = h l in let b = to-each-none f p ls h in omega arith

-- The copies of a message lead to what its links lead to.
to-each-leads : {L : Type 0} (leads : ℕ → ℕ → Goal →
    ℕ) (n k sender : ℕ) (content : Content L) (goal : Goal) (ls : List ℕ) → (k ≡ n) ⊎ (k ≡ n → ⊥) →
    of_packets (message_on leads n goal) (to_each ls (Message k sender content))
    ≡ (if k == n then lead_all leads sender goal ls else 0)
to-each-leads leads n k sender content goal [] (inl e) = sym (bit-yes k n 0 e)
to-each-leads leads n k sender content goal [] (inr e) = sym (bit-no k n 0 e)
to-each-leads leads n k sender content goal (l ∷ ls) (inl e) =
    let a = to-each-leads leads n k sender content goal ls (inl e) in
    let b = bit-yes k n (leads sender l goal) e in
    let c = bit-yes k n (lead_all leads sender goal ls) e in
    let d = bit-yes k n (lead_all leads sender goal (l ∷ ls)) e in omega arith
to-each-leads leads n k sender content goal (l ∷ ls) (inr e) =
    let a = to-each-leads leads n k sender content goal ls (inr e) in
    let b = bit-no k n (leads sender l goal) e in
    let c = bit-no k n (lead_all leads sender goal ls) e in
    let d = bit-no k n (lead_all leads sender goal (l ∷ ls)) e in omega arith

-- A node holds nothing at its start.
pub blank-holds : {L : Type 0} (g : Kind L) (n sender : ℕ) (content : Content L) →
    (store_machine g.rows).holds blank_store n sender content → ⊥
blank-holds g n sender content has = let at = has.1 in absurd (cc)

module _ {L : Type 0} (g : Kind L) (plan : Layout) (laws : KindLaws g plan) where
  -- A message that comes is stored: what it led to is what the store then has.
  stores-copies : (k l n m sender : ℕ) (content : Content L) (goal : Goal) (s : Store L)
      (st : List (ℕ × Item L)) → Gains s.stored m
      (record { sender = sender; content = content; came = l }) st → s.next ≤ m →
      item_beside s.stored m ≡ None → g.rows.accepts k l sender → (m ≡ n) ⊎ (m ≡ n → ⊥) →
      store_carries g k (record s { stored = st }) n goal
      ≡ (if m == n then g.leads sender l goal else 0) + store_carries g k s n goal
  stores-copies k l n m sender content goal s st gains low free ok (inl e) =
      let a = ap (item_leads g k goal)
      (gained-same m n (record {
        sender = sender;
        content = content;
        came = l;
      }) s.stored st gains e) in
      let b : item_leads g k goal (item_beside s.stored n) ≡ 0 =
      ap (item_leads g k goal) (subst (λ v. item_beside s.stored v ≡ None) e free) in
      let c = bit-yes m n (g.leads sender l goal) e in
      let d = laws.flow k l sender ok goal in omega arith
  stores-copies k l n m sender content goal s st gains low free ok (inr e) =
      let a = ap (item_leads g k goal)
      (gained-other m n (record {
        sender = sender;
        content = content;
        came = l;
      }) s.stored st gains e) in
      let c = bit-no m n (g.leads sender l goal) e in omega arith

  -- A message that is passed: what the store had is what its copies lead to, and the node itself is
  -- done.
  passes-copies : (k n m : ℕ) (item : Item L) (goal : Goal) (s : Store L)
      (st : List (ℕ × Item L)) → Loses s.stored m st → m ≡ s.next →
      item_beside s.stored m ≡ Some item → (m ≡ n) ⊎ (m ≡ n → ⊥) → (n < s.next) ⊎ (s.next ≤ n) →
      of_packets (message_on g.leads n goal)
      (to_each (g.rows.outs k item.sender item.came) (Message m item.sender item.content))
      + store_carries g k (record s { next = m + 1; stored = st }) n goal
      ≡ store_carries g k s n goal
  passes-copies k n m item goal s st loses next at (inl e) o =
      let a = to-each-leads g.leads n m item.sender item.content goal
      (g.rows.outs k item.sender item.came) (inl e) in
      let b = bit-yes m n (lead_all g.leads item.sender goal
      (g.rows.outs k item.sender item.came)) e in
      let c : item_leads g k goal (item_beside st n) ≡ 0 =
      ap (item_leads g k goal) (lost-same m n s.stored st loses e) in
      let d = ap (item_leads g k goal) (subst (λ v. item_beside s.stored v ≡ Some item) e at) in
      let x = early-bit n (m + 1) (at_node k goal) (omega arith) in
      let y = late-bit n s.next (at_node k goal) (omega arith) in omega arith
  passes-copies k n m item goal s st loses next at (inr e) (inl p) =
      let a = to-each-leads g.leads n m item.sender item.content goal
      (g.rows.outs k item.sender item.came) (inr e) in
      let b = bit-no m n (lead_all g.leads item.sender goal
      (g.rows.outs k item.sender item.came)) e in
      let c = ap (item_leads g k goal) (lost-other m n s.stored st loses e) in
      let x = early-bit n (m + 1) (at_node k goal) (omega arith) in
      let y = early-bit n s.next (at_node k goal) p in omega arith
  passes-copies k n m item goal s st loses next at (inr e) (inr p) =
      let a = to-each-leads g.leads n m item.sender item.content goal
      (g.rows.outs k item.sender item.came) (inr e) in
      let b = bit-no m n (lead_all g.leads item.sender goal
      (g.rows.outs k item.sender item.came)) e in
      let c = ap (item_leads g k goal) (lost-other m n s.stored st loses e) in
      let late : m + 1 ≤ n = elim (cases_lt m n) [
        | inl q ↦ omega arith
        | inr q ↦ absurd (e (omega arith))
      ] in
      let x = late-bit n (m + 1) (at_node k goal) late in
      let y = late-bit n s.next (at_node k goal) p in omega arith

  -- What it takes is what it has more.
  takes-copies : (k l n : ℕ) (goal : Goal) (s s' : Store L) (p : Packet L) (drew : Option Grant)
      (sends : List (ℕ × Packet L)) → StoreTakes g.rows k s l p drew sends s' →
      of_packets (message_on g.leads n goal) sends + store_carries g k s' n goal
      ≡ message_on g.leads n goal l p + store_carries g k s n goal
  takes-copies k l n goal s s' (Message m sender content) drew sends h =
      let a : of_packets (message_on g.leads n goal) sends ≡ 0 =
      ap (of_packets (message_on g.leads n goal)) h.sends in
      let b = ap (λ v. store_carries g k v n goal) h.after in
      let c = stores-copies k l n m sender content goal s s'.stored h.gains h.late h.free h.comes
      (cases_eq m n) in omega arith
  takes-copies k l n goal s s' (Request agent) drew sends h =
      let a = laws.asking.messages k l (Request agent) drew sends h.0 n goal in
      let b = ap (λ v. store_carries g k v n goal) h.1 in omega arith
  takes-copies k l n goal s s' (Reply agent grant) drew sends h =
      let a = laws.asking.messages k l (Reply agent grant) drew sends h.0 n goal in
      let b = ap (λ v. store_carries g k v n goal) h.1 in omega arith

  -- Each row keeps the copies for each goal.
  pub does-copies : (k : ℕ) (s : Store L) (d : Deed L) (sends : List (ℕ × Packet L))
      (s' : Store L) → StoreDoes g.rows k s d sends s' → NotStray d → (n : ℕ) (goal : Goal) →
      of_packets (message_on g.leads n goal) sends + store_carries g k s' n goal
      ≡ of_packets (message_on g.leads n goal) (taken_at d) + store_carries g k s n goal
  does-copies k s (Arrived l x drew) sends s' h ok n goal = let a =
      takes-copies k l n goal s s' x.packet drew sends h in omega arith
  does-copies k s (Stray l x) sends s' h ok n goal = absurd ok
  does-copies k s (Passed m) sends s' h ok n goal =
      let a = ap (of_packets (message_on g.leads n goal)) h.sends in
      let b = ap (λ v. store_carries g k v n goal) h.after in
      let c = passes-copies k n m h.item goal s s'.stored h.loses h.is_next h.waits (cases_eq m n)
      (cases_lt n s.next) in omega arith
  does-copies k s Asked sends s' h ok n goal = absurd h
  does-copies k s (Took m place) sends s' h ok n goal = absurd h
  does-copies k s (Turned m place content) sends s' h ok n goal = absurd h

  -- What is stored came where it may come.
  takes-sound : (k l : ℕ) (s s' : Store L) (p : Packet L) (drew : Option Grant)
      (sends : List (ℕ × Packet L)) → StoreTakes g.rows k s l p drew sends s' → StoreSound g k s →
      StoreSound g k s'
  takes-sound k l s s' (Message m sender content) drew sends h o =
      subst (StoreSound g k) (sym h.after) (record {
        among = o.among;
        low = o.low;
        items = gained-each (λ n i. (s.next ≤ n) × g.rows.accepts k i.came i.sender) m
            (record { sender = sender; content = content; came = l }) s.stored s'.stored h.gains
            (h.late, h.comes) o.items;
      })
  takes-sound k l s s' (Request agent) drew sends h o = subst (StoreSound g k) (sym h.1) o
  takes-sound k l s s' (Reply agent grant) drew sends h o = subst (StoreSound g k) (sym h.1) o

  -- After a pass what is stored is not passed yet.
  passed-sound : (k m : ℕ) (s : Store L) (st : List (ℕ × Item L)) → Loses s.stored m st →
      m ≡ s.next → StoreSound g k s → StoreSound g k (record s { next = m + 1; stored = st })
  passed-sound k m s st loses next o = record {
    among = o.among;
    low = omega arith;
    items = lost-each (λ n i. (s.next ≤ n) × g.rows.accepts k i.came i.sender) (λ n i. (m + 1 ≤ n)
        × g.rows.accepts k i.came i.sender) m s.stored st loses
        (λ n i ne h. (
          let a = h.0 in elim (cases_lt m n) [
            | inl q ↦
                (let q' : m < n = q in omega arith)
            | inr q ↦ absurd (ne (let q' : n ≤ m = q in omega arith))
          ],
          h.1,
        )) o.items;
  }

  -- Each row leads from a state that a node can have to one.
  does-sound : (k : ℕ) (s : Store L) (d : Deed L) (sends : List (ℕ × Packet L)) (s' : Store L) →
      StoreDoes g.rows k s d sends s' → NotStray d → StoreSound g k s → StoreSound g k s'
  does-sound k s (Arrived l x drew) sends s' h ok o = takes-sound k l s s' x.packet drew sends h o
  does-sound k s (Stray l x) sends s' h ok o = absurd ok
  does-sound k s (Passed m) sends s' h ok o =
      subst (StoreSound g k) (sym h.after) (passed-sound k m s s'.stored h.loses h.is_next o)
  does-sound k s Asked sends s' h ok o = absurd h
  does-sound k s (Took m place) sends s' h ok o = absurd h
  does-sound k s (Turned m place content) sends s' h ok o = absurd h

  -- A packet on a link that is there, where it may be.
  abbrev Out : ℕ × Packet L → Type 0
  Out x = (x.0 < g.links) × g.fits x.0 x.1

  -- What is sent on is on a link that is there, and fits.
  takes-fits : (k l : ℕ) (s s' : Store L) (p : Packet L) (drew : Option Grant)
      (sends : List (ℕ × Packet L)) → StoreTakes g.rows k s l p drew sends s' →
      EndsAtNode plan k l × g.fits l p → Each Out sends
  takes-fits k l s s' (Message m sender content) drew sends h fit =
      subst (Each Out) (sym h.sends) tt
  takes-fits k l s s' (Request agent) drew sends h fit =
      laws.asking.fits k l (Request agent) drew sends h.0 fit.0 fit.1
  takes-fits k l s s' (Reply agent grant) drew sends h fit =
      laws.asking.fits k l (Reply agent grant) drew sends h.0 fit.0 fit.1

  -- The same for each deed.
  does-fits : (k : ℕ) (s : Store L) (d : Deed L) (sends : List (ℕ × Packet L)) (s' : Store L) →
      StoreDoes g.rows k s d sends s' → NotStray d → StoreSound g k s →
      Each (λ x. EndsAtNode plan k x.0 × g.fits x.0 x.1) (taken_at d) → Each Out sends
  does-fits k s (Arrived l x drew) sends s' h ok o fit =
      takes-fits k l s s' x.packet drew sends h fit.0
  does-fits k s (Stray l x) sends s' h ok o fit = absurd ok
  does-fits k s (Passed m) sends s' h ok o fit =
      let item : Item L = h.item in
      let kept = o.items m item h.waits in
      let low = o.low in let next = h.is_next in
      subst (Each Out) (sym h.sends) (to-each-each (λ l. (l < g.links)
      × g.fits l (Message m item.sender item.content)) Out (Message m item.sender item.content)
      (g.rows.outs k item.sender item.came) (λ l q. q)
      (laws.out_fits k item.came item.sender m item.content kept.1 (omega arith)))
  does-fits k s Asked sends s' h ok o fit = absurd h
  does-fits k s (Took m place) sends s' h ok o fit = absurd h
  does-fits k s (Turned m place content) sends s' h ok o fit = absurd h

  -- A request or a reply is taken where it counts, and nothing else changes it.
  takes-asks : (k l a : ℕ) (s s' : Store L) (p : Packet L) (drew : Option Grant)
      (sends : List (ℕ × Packet L)) → StoreTakes g.rows k s l p drew sends s' →
      of_packets (asks_on a) sends ≡ asks_on a l p
  takes-asks k l a s s' (Message m sender content) drew sends h =
      ap (of_packets (asks_on a)) h.sends
  takes-asks k l a s s' (Request agent) drew sends h =
      laws.asking.asks k l (Request agent) drew sends h.0 a
  takes-asks k l a s s' (Reply agent grant) drew sends h =
      laws.asking.asks k l (Reply agent grant) drew sends h.0 a

  -- The same for each deed.
  does-asks : (k : ℕ) (s : Store L) (d : Deed L) (sends : List (ℕ × Packet L)) (s' : Store L) →
      StoreDoes g.rows k s d sends s' → NotStray d → (a : ℕ) →
      of_packets (asks_on a) sends ≡ of_packets (asks_on a) (taken_at d)
  does-asks k s (Arrived l x drew) sends s' h ok a = let e =
      takes-asks k l a s s' x.packet drew sends h in omega arith
  does-asks k s (Stray l x) sends s' h ok a = absurd ok
  does-asks k s (Passed m) sends s' h ok a =
      let e = ap (of_packets (asks_on a)) h.sends in
      let z = to-each-none (λ x. asks_on a x.0 x.1) (Message m h.item.sender h.item.content)
      (g.rows.outs k h.item.sender h.item.came) (λ l. refl) in omega arith
  does-asks k s Asked sends s' h ok a = absurd h
  does-asks k s (Took m place) sends s' h ok a = absurd h
  does-asks k s (Turned m place content) sends s' h ok a = absurd h

  -- A row sends the replies that it took, and the one that it drew.
  takes-replies : (k l n : ℕ) (s s' : Store L) (p : Packet L) (drew : Option Grant)
      (sends : List (ℕ × Packet L)) → StoreTakes g.rows k s l p drew sends s' →
      total (sends_number n) sends ≡ replies_number n p + draws_number n drew
  takes-replies k l n s s' (Message m sender content) drew sends h =
      let a : total (sends_number n) sends ≡ 0 = ap (total (sends_number n)) h.sends in
      let b : draws_number n drew ≡ 0 = ap (draws_number n) h.no_draw in omega arith
  takes-replies k l n s s' (Request agent) drew sends h =
      laws.asking.replies k l (Request agent) drew sends h.0 n
  takes-replies k l n s s' (Reply agent grant) drew sends h =
      laws.asking.replies k l (Reply agent grant) drew sends h.0 n

  -- The same for each deed.
  does-replies : (n k : ℕ) (s : Store L) (d : Deed L) (sends : List (ℕ × Packet L))
      (s' : Store L) → StoreDoes g.rows k s d sends s' → NotStray d →
      total (sends_number n) sends ≡ total (replies_number n) (taken_packets d)
      + draws_number n (drawn_in d)
  does-replies n k s (Arrived l x drew) sends s' h ok = let e =
      takes-replies k l n s s' x.packet drew sends h in omega arith
  does-replies n k s (Stray l x) sends s' h ok = absurd ok
  does-replies n k s (Passed m) sends s' h ok =
      let e = ap (total (sends_number n)) h.sends in
      let z = to-each-none (sends_number n) (Message m h.item.sender h.item.content)
      (g.rows.outs k h.item.sender h.item.came) (λ l. refl) in omega arith
  does-replies n k s Asked sends s' h ok = absurd h
  does-replies n k s (Took m place) sends s' h ok = absurd h
  does-replies n k s (Turned m place content) sends s' h ok = absurd h

  -- A message that fits and is new has a row.
  not-here : (k n : ℕ) (s : Store L) (o : Option (Item L)) → item_beside s.stored n ≡ o →
      store_carries g k s n (ToNode k) ≡ 0 → (n < s.next) ⊎ (s.next ≤ n) →
      (s.next ≤ n) × (item_beside s.stored n ≡ None)
  not-here k n s o e z (inl p) = absurd (let a = early-bit n s.next (at_node k (ToNode k)) p in
      let b = bit-yes k k 1 refl in omega arith)
  not-here k n s None e z (inr p) = (p, e)
  not-here k n s (Some item) e z (inr p) =
      absurd (let a = ap (item_leads g k (ToNode k)) e in let b = bit-yes k k 1 refl in omega arith)

  -- Each packet that may come to a node has a row.
  stray-row : (k l : ℕ) (s : Store L) (p : Packet L) →
      ((drew : Option Grant) (out : List (ℕ × Packet L)) (t : Store L) →
      StoreTakes g.rows k s l p drew out t → ⊥) → EndsAtNode plan k l → g.fits l p →
      ((n : ℕ) → 0 < n → message_on g.leads n (ToNode k) l p
      + store_carries g k s n (ToNode k) ≤ 1) → ⊥
  stray-row k l s (Request agent) none here fits room = let w =
      laws.asking.request_row k l agent here fits in none w.0 w.1 s (w.2, refl)
  stray-row k l s (Reply agent grant) none here fits room = let w =
      laws.asking.reply_row k l agent grant here fits in none w.0 w.1 s (w.2, refl)
  stray-row k l s (Message n sender content) none here fits room =
      let w = laws.message_row k l n sender content here fits in
      let flow = laws.flow k l sender w.1 (ToNode k) in
      let one = bit-yes k k 1 refl in
      let lead = bit-yes n n (g.leads sender l (ToNode k)) refl in
      let le = room n w.0 in
      let z : store_carries g k s n (ToNode k) ≡ 0 = omega arith in
      let q = not-here k n s (item_beside s.stored n) refl z (cases_lt n s.next) in
      none None [] (record s {
        stored =
            (n, record { sender = sender; content = content; came = l }) ∷ s.stored;
      }) (record {
        late = q.0;
        free = q.1;
        comes = w.1;
        no_draw = refl;
        sends = refl;
        gains = gains-front n (record { sender = sender; content = content; came = l }) s.stored;
        after = refl;
      })

  module _ (limit pick : ℕ) (way : ℕ → ℕ → ℕ) where
    -- What each row of a storing node keeps.
    pub store-carries : Carries (store_flow g) (store_rules g plan limit pick way)
    store-carries = record {
      sound = λ k s d sends s' h ok o fit. does-sound k s d sends s' h ok o;
      fits = λ k s d sends s' h ok o fit. does-fits k s d sends s' h ok o fit;
      copies = λ k s d sends s' h ok o fit n goal. does-copies k s d sends s' h ok n goal;
      asks = λ k s d sends s' h ok a. does-asks k s d sends s' h ok a;
      replies = λ k s d sends s' h ok n. does-replies n k s d sends s' h ok;
      strays = λ k l s x sends s' h o here fits room. stray-row k l s x.packet h.0 here fits room;
    }

  -- The law that the simulation needs.
  abbrev Held : (ℕ → ℕ → Content L → Type 0) → Store L → Type 0
  Held P s = HoldsHonest (store_machine g.rows) P s

  -- What is said of all messages that are stored, item by item.
  held-items : (P : ℕ → ℕ → Content L → Type 0) (s : Store L) → Held P s → (n : ℕ) (i : Item L) →
      item_beside s.stored n ≡ Some i → P n i.sender i.content
  held-items P s h n i at = h n i.sender i.content (i, at, refl, refl)

  -- And back: what holds of each item under its number holds of all that the store holds.
  items-held : (P : ℕ → ℕ → Content L → Type 0) (s : Store L) →
      ((n : ℕ) (i : Item L) → item_beside s.stored n ≡ Some i → P n i.sender i.content) → Held P s
  items-held P s h n sender content has =
      subst (λ v. P n sender v) has.3 (subst (λ v. P n v has.0.content) has.2 (h n has.0 has.1))

  -- What is sent or stored is what was taken or stored.
  takes-messages : (P : ℕ → ℕ → Content L →
      Type 0) (k l : ℕ) (s s' : Store L) (p : Packet L) (drew : Option Grant)
      (sends : List (ℕ × Packet L)) → StoreTakes g.rows k s l p drew sends s' → IfMessage P p →
      Held P s → Each (λ x. IfMessage P x.1) sends × Held P s'
  takes-messages P k l s s' (Message m sender content) drew sends h q held = (
    subst (Each (λ x. IfMessage P x.1)) (sym h.sends) tt,
    items-held P s' (gained-each (λ n i. P n i.sender i.content) m
        (record { sender = sender; content = content; came = l }) s.stored s'.stored h.gains q
        (held-items P s held)),
  )
  takes-messages P k l s s' (Request agent) drew sends h q held =
      (laws.asking.none P k l (Request agent) drew sends h.0, subst (Held P) (sym h.1) held)
  takes-messages P k l s s' (Reply agent grant) drew sends h q held =
      (laws.asking.none P k l (Reply agent grant) drew sends h.0, subst (Held P) (sym h.1) held)

  -- The same for each deed.
  does-messages : (P : ℕ → ℕ → Content L →
      Type 0) (k : ℕ) (s : Store L) (d : Deed L) (sends : List (ℕ × Packet L)) (s' : Store L) →
      StoreDoes g.rows k s d sends s' → Each (IfMessage P) (taken_packets d) → Held P s →
      Each (λ x. IfMessage P x.1) sends × Held P s'
  does-messages P k s (Arrived l x drew) sends s' h q held =
      takes-messages P k l s s' x.packet drew sends h q.0 held
  does-messages P k s (Stray l x) sends s' h q held =
      (subst (Each (λ y. IfMessage P y.1)) (sym h.1) tt, subst (Held P) (sym h.2) held)
  does-messages P k s (Passed m) sends s' h q held =
      let says = held-items P s held m h.item h.waits in (
        subst (Each (λ y. IfMessage P y.1)) (sym h.sends)
            (to-each-all (λ y. IfMessage P y.1) (Message m h.item.sender h.item.content)
            (g.rows.outs k h.item.sender h.item.came) (λ l. says)),
        items-held P s' (lost-each (λ n i. P n i.sender i.content)
            (λ n i. P n i.sender i.content) m s.stored s'.stored h.loses (λ n i ne y. y)
            (held-items P s held)),
      )
  does-messages P k s Asked sends s' h q held = absurd h
  does-messages P k s (Took m place) sends s' h q held = absurd h
  does-messages P k s (Turned m place content) sends s' h q held = absurd h

  -- No row makes up a reply.
  relays-replies : (n k : ℕ) (s : Store L) (d : Deed L) (sends : List (ℕ × Packet L))
      (s' : Store L) → StoreDoes g.rows k s d sends s' →
      total (sends_number n) sends ≤ total (replies_number n) (taken_packets d)
      + draws_number n (drawn_in d)
  relays-replies n k s (Arrived l x drew) sends s' h = let e =
      takes-replies k l n s s' x.packet drew sends h in omega arith
  relays-replies n k s (Stray l x) sends s' h = let e : total (sends_number n) sends ≡ 0 =
      ap (total (sends_number n)) h.1 in omega arith
  relays-replies n k s (Passed m) sends s' h = let e =
      does-replies n k s (Passed m) sends s' h tt in omega arith
  relays-replies n k s Asked sends s' h = absurd h
  relays-replies n k s (Took m place) sends s' h = absurd h
  relays-replies n k s (Turned m place content) sends s' h = absurd h

  -- A storing node makes up neither messages nor numbers.
  pub store-relays : Relays (store_machine g.rows)
  store-relays = record { messages = does-messages; replies = relays-replies }

  -- What is carried for another is not passed yet.
  carried-low : (k n : ℕ) (s : Store L) (goal : Goal) (o : Option (Item L)) →
      item_beside s.stored n ≡ o → StoreSound g k s → at_node k goal ≡ 0 →
      1 ≤ store_carries g k s n goal → s.next ≤ n
  carried-low k n s goal (Some item) e o other h = (o.items n item e).0
  carried-low k n s goal None e o other h =
      let a = ap (item_leads g k goal) e in
      elim (cases_lt n s.next) [
        | inl p ↦ absurd (let b = early-bit n s.next (at_node k goal) p in omega arith)
        | inr p ↦ p
      ]

  -- Another goal is not at the node.
  not-goal : (k : ℕ) (goal : Goal) → (goal ≡ ToNode k → ⊥) → at_node k goal ≡ 0
  not-goal k (ToAgent j) h = refl
  not-goal k (ToNode j) h = bit-no k j 1 (λ e. h (ap ToNode (sym e)))

  -- Where the next number isn't stored, none is carried for it.
  stuck-at : (k : ℕ) (s : Store L) (goal : Goal) (o : Option (Item L)) →
      item_beside s.stored s.next ≡ o →
      (((i : Item L) × (item_beside s.stored s.next ≡ Some i)) → ⊥) →
      store_carries g k s s.next goal ≡ 0
  stuck-at k s goal None e never = let a = ap (item_leads g k goal) e in
      let b = late-bit s.next s.next (at_node k goal) (omega arith) in omega arith
  stuck-at k s goal (Some i) e never = absurd (never (i, e))

  -- At the start nothing is carried.
  blank-carries : (k n : ℕ) (goal : Goal) → 0 < n → store_carries g k blank_store n goal ≡ 0
  blank-carries k n goal low = let b = late-bit n 1 (at_node k goal) (omega arith) in omega arith

  -- What a storing node owes for the end.
  pub store-ends : (limit pick : ℕ) (way : ℕ → ℕ → ℕ) →
      Ends (store_flow g) (store_rules g plan limit pick way)
  store-ends limit pick way = record {
    reaches_agents = laws.reaches_agents;
    low = λ k s n goal o h ne. (
      carried-low k n s goal (item_beside s.stored n) refl o
          (not-goal k goal ne) h,
      laws.reaches_nodes k o.among,
    );
    from_one = λ k s o. o.low;
    stored = λ k s n sender content o has.
        ((o.items n has.0 has.1).0, laws.reaches_nodes k o.among);
    stuck = λ k s goal never. stuck-at k s goal (item_beside s.stored s.next) refl never;
    blank_sound = λ k low. record {
      among = (let e = laws.nodes_are in omega arith);
      low = omega arith;
      items = λ n i at. absurd (cc);
    };
    blank_bare = λ k n goal low. blank-carries k n goal low;
    blank_holds = blank-holds g;
  }
