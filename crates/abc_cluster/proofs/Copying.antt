-- The copies of a message.
use Rattle.std.proofs.Common.{◌≡◌, ℕ, zero, suc, ◌+◌, ◌<◌, ◌≤◌, ◌==◌, List, [], ◌∷◌, ◌++◌, length, refl, sym, ap, ◌∙◌, subst, arith}
use Rattle.std.specs.Prelude.{Bool, true, false, if◌then◌else◌}
use Rattle.abc_packet.specs.declared.packets.Packet.{Packet}
use Rattle.abc_packet.specs.declared.stamped.Stamped.{Stamped}
use Rattle.abc_shape.specs.declared.layout.Layout.{Layout}
use Rattle.abc_shape.specs.Plans.{actor_of, cluster_down}
use Rattle.abc_network.specs.Links.{to_agent}
use Rattle.abc_network.specs.Nodes.{copies_from}
use Rattle.abc_logs.specs.MicroSteps.{stamped_with}
use Rattle.abc_history.specs.Outs.{HasLinksFrom, AreOnLinks}
use Rattle.abc_cluster.specs.Stations.{IsStation}

-- Some packets stamped and then others are all of them stamped.
pub stamped_with-append : {L : Type 0} (clock : ℕ) (xs ys : List (ℕ × Packet L)) →
    stamped_with clock (xs ++ ys) ≡ stamped_with clock xs ++ stamped_with clock ys
stamped_with-append clock [] ys = refl
stamped_with-append clock (x ∷ xs) ys =
    ap (λ l. (x.0, record { clock = clock; packet = x.1 }) ∷ l) (stamped_with-append clock xs ys)

-- A first item that is there or not stays the first where the list gains others.
first-append : {A : Type 0} (b : Bool) (x : A) (xs ys more : List A) → xs ≡ ys ++ more →
    (if b then xs else x ∷ xs) ≡ (if b then ys else x ∷ ys) ++ more
first-append true x xs ys more is = is
first-append false x xs ys more is = ap (λ l. x ∷ l) is

-- The copies for one agent more are those before and then that agent's.
pub copies_from-one_more : {L : Type 0} (nodes k sender i count : ℕ) (packet : Packet L) →
    copies_from nodes k sender i (suc count) packet
    ≡ copies_from nodes k sender i count packet ++ copies_from nodes k sender (i + count) 1 packet
copies_from-one_more nodes k sender i zero packet =
    let same : i ≡ i + 0 = omega arith in ap (λ j. copies_from nodes k sender j 1 packet) same
copies_from-one_more nodes k sender i (suc count) packet =
    let same : (i + 1) + count ≡ i + suc count = omega arith in
    first-append (i == sender) (to_agent nodes k i, packet) (copies_from nodes k sender (i + 1) (suc count) packet)
    (copies_from nodes k sender (i + 1) count packet) (copies_from nodes k sender (i + suc count) 1 packet)
    (copies_from-one_more nodes k sender (i + 1) count packet
    ∙ ap (λ j. copies_from nodes k sender (i + 1) count packet ++ copies_from nodes k sender j 1 packet) same)

-- The copies for so many agents are ready, and then the next one's is.
pub copies-after_one : {L : Type 0} (nodes k sender clock count : ℕ) (packet : Packet L) (before now : List (ℕ × Stamped L)) →
    before ≡ stamped_with clock (copies_from nodes k sender 0 count packet) →
    now ≡ before ++ stamped_with clock (copies_from nodes k sender count 1 packet) →
    now ≡ stamped_with clock (copies_from nodes k sender 0 (count + 1) packet)
copies-after_one nodes k sender clock count packet before now were is =
    let one : suc count ≡ count + 1 = omega arith in
    let none : 0 + count ≡ count = omega arith in
    is
    ∙ ap (λ l. l ++ stamped_with clock (copies_from nodes k sender count 1 packet)) were
    ∙ sym (stamped_with-append clock (copies_from nodes k sender 0 count packet) (copies_from nodes k sender count 1 packet))
    ∙ ap (λ j. stamped_with clock (copies_from nodes k sender 0 count packet ++ copies_from nodes k sender j 1 packet)) (sym none)
    ∙ ap (λ l. stamped_with clock l) (sym (copies_from-one_more nodes k sender 0 count packet))
    ∙ ap (λ n. stamped_with clock (copies_from nodes k sender 0 n packet)) one

-- A first packet that is there or not is on a link of the set, as the others are.
first-on_links : {L : Type 0} (has : ℕ → Type 0) (clock : ℕ) (b : Bool) (x : ℕ × Packet L) (xs : List (ℕ × Packet L)) →
    has x.0 → AreOnLinks has (stamped_with clock xs) → AreOnLinks has (stamped_with clock (if b then xs else x ∷ xs))
first-on_links has clock true x xs first others = others
first-on_links has clock false x xs first others = (first, others)

-- Copies go on the links to agents.
copies_from-on_links : {L : Type 0} (has : ℕ → Type 0) (nodes k sender clock i count : ℕ) (packet : Packet L) →
    ((agent : ℕ) → agent < i + count → has (to_agent nodes k agent)) →
    AreOnLinks has (stamped_with clock (copies_from nodes k sender i count packet))
copies_from-on_links has nodes k sender clock i zero packet links = tt
copies_from-on_links has nodes k sender clock i (suc count) packet links =
    let here : i < i + suc count = omega arith in
    first-on_links has clock (i == sender) (to_agent nodes k i, packet) (copies_from nodes k sender (i + 1) count packet)
    (links i here)
    (copies_from-on_links has nodes k sender clock (i + 1) count packet (λ agent low. links agent (omega (arith, low))))

-- A set with all links from a node of a cluster has those of its copies.
pub copies-on_links : {L : Type 0} (has : ℕ → Type 0) (p : Layout) (k sender clock : ℕ) (packet : Packet L)
    (ready : List (ℕ × Stamped L)) → ready ≡ stamped_with clock (copies_from p.nodes k sender 0 p.agents packet) →
    IsStation p k → HasLinksFrom p (actor_of p k) has → AreOnLinks has ready
copies-on_links has p k sender clock packet ready is node links = subst (AreOnLinks has) (sym is)
    (copies_from-on_links has p.nodes k sender clock 0 p.agents packet
    (λ agent low. links (to_agent p.nodes k agent) agent
    (cluster_down agent k node.shape (omega (arith, low)) node.there refl refl refl)))

-- A first item that is there or not is at most one item.
first-few : {L : Type 0} (clock : ℕ) (b : Bool) (x : ℕ × Packet L) (xs : List (ℕ × Packet L)) →
    length (stamped_with clock (if b then xs else x ∷ xs)) ≤ suc (length (stamped_with clock xs))
first-few clock true x xs = omega arith
first-few clock false x xs = omega arith

-- There are no more copies than agents to whom they go.
copies_from-few : {L : Type 0} (nodes k sender clock i count : ℕ) (packet : Packet L) →
    length (stamped_with clock (copies_from nodes k sender i count packet)) ≤ count
copies_from-few nodes k sender clock i zero packet = omega arith
copies_from-few nodes k sender clock i (suc count) packet =
    let others = copies_from-few nodes k sender clock (i + 1) count packet in
    let first = first-few clock (i == sender) (to_agent nodes k i, packet) (copies_from nodes k sender (i + 1) count packet) in
    omega arith

-- What is ready is no more than there are agents.
pub copies-few : {L : Type 0} (nodes k sender clock agents : ℕ) (packet : Packet L) (ready : List (ℕ × Stamped L)) →
    ready ≡ stamped_with clock (copies_from nodes k sender 0 agents packet) → length ready ≤ agents
copies-few nodes k sender clock agents packet ready is =
    subst (λ l. length l ≤ agents) (sym is) (copies_from-few nodes k sender clock 0 agents packet)
