-- A network in code: what it needs, what it keeps, and what it answers.
use Rattle.std.proofs.Common.{◌≡◌, ℕ, zero, suc, ◌+◌, ◌-◌, ◌<◌, ◌≤◌, List, [], ◌∷◌, length, map, get_or, sym, ap, ◌∙◌, subst, arith}
use Rattle.std.proofs.Common.{Bool, true, false}
use Rattle.std.specs.Prelude.{Option, Some, None, slice_get, MatchBool}
use Rattle.std.specs.Bool.{OnFalse}
use Rattle.std.proofs.lemmas.Option.{slice_get_within, slice_get-get_or}
use Rattle.abc_packet.specs.declared.limits.TheConstants.{MOST_CLOCK}
use Rattle.abc_value.specs.declared.grant.Grant.{Grant}
use Rattle.abc_packet.specs.declared.stamped.Stamped.{Stamped}
use Rattle.abc_packet.specs.declared.log.Deed.{Deed}
use Rattle.abc_shape.specs.declared.layout.Layout.{Layout}
use Rattle.abc_shape.specs.Plans.{IsLayout, IsLink, actor_of, link_count}
use Rattle.abc_shape.proofs.Ended.{ends-below}
use Rattle.abc_shape.proofs.Rows.{row-below}
use Rattle.abc_number.specs.Counter.{Counter}
use Rattle.abc_body.specs.Meanings.{Meaning}
use Rattle.abc_network.specs.Networks.{Net, Actor, drawn_in}
use Rattle.abc_network.specs.Nodes.{NodeMachine}
use Rattle.abc_network_laws.specs.Kept.{Each}
use Rattle.abc_history.specs.Nodes.{SeenNode}
use Rattle.abc_history.specs.Outs as Outs
use Rattle.abc_agent.specs.Members.{Member}
use Rattle.abc_agent.specs.Ways.{HasLinksFrom}
use Rattle.abc_schedule.specs.Laws.{ClocksWithin}
use Rattle.abc_world.specs.declared.event.EventKind.{EventKind}
use Rattle.abc_world.specs.declared.event.Moved.{Moved}
use Rattle.abc_world.specs.declared.event.Moved.TheVariants.{Done, NotEnabled}
use Rattle.abc_world.specs.Teams.{AreAgents, actor_in}
use Rattle.abc_world.specs.Crews.{AreNodes, NodeMade, DrewOf}
use Rattle.abc_world.specs.Runnings.{Running, rules_of, net_of, node_in, Steps, Lacks, Answers}
use Rattle.abc_world.proofs.Lacking.{from-map}

-- What all have, the one at a place has.
pub each-there : {X : Type 0} (P : X → Type 0) (xs : List X) (i : ℕ) (x : X) → Each P xs → slice_get xs i ≡ Some x → P x
each-there P [] i x h at = absurd (cc)
each-there P (y ∷ ys) zero x h at = let e : y ≡ x = cc in subst P e h.0
each-there P (y ∷ ys) (suc i) x h at = each-there P ys i x h.1 at

-- What stands at a place, changed, stands there in the list of all changed.
pub map-there : {X Y : Type 0} (f : X → Y) (xs : List X) (i : ℕ) (x : X) → slice_get xs i ≡ Some x → slice_get (map f xs) i ≡ Some (f x)
map-there f [] i x h = absurd (cc)
map-there f (y ∷ ys) zero x h = let e : y ≡ x = cc in ap (λ v. Some (f v)) e
map-there f (y ∷ ys) (suc i) x h = map-there f ys i x h

-- No place past the end has an item.
pub nothing-past : {X : Type 0} (xs : List X) (i n : ℕ) (x : X) → length xs ≡ n → n ≤ i → slice_get xs i ≡ Some x → ⊥
nothing-past xs i n x many past at = let inside = slice_get_within xs i x at in absurd (omega arith)

-- Which network a state of agents, nodes, links and counter is.
abbrev pub running : {B S L : Type 0} → Layout → ℕ → ℕ → List (Member B L) → List (SeenNode S L) → List (List (Stamped L)) →
    Counter → Running B L S
running p limit pick agents nodes links numbers =
    record { plan = p; limit = limit; pick = pick; net = net_of agents nodes links numbers }

module _ {B S L : Type 0} (p : Layout) (agents : List (Member B L)) (nodes : List (SeenNode S L))
    (links : List (List (Stamped L))) (numbers : Counter) where
  -- The clock of an agent is low where all clocks are.
  pub agent-low : ClocksWithin (MOST_CLOCK - 1) (net_of agents nodes links numbers) → (i : ℕ) (a : Member B L) →
      slice_get agents i ≡ Some a → a.actor.clock < MOST_CLOCK
  agent-low low i a at =
      let h = each-there (λ (v : Actor _ L). v.clock ≤ MOST_CLOCK - 1) (map actor_in agents) i a.actor low.agents
      (map-there actor_in agents i a at) in
      omega arith

  -- The outlet has the links that lead from an agent.
  pub agent-leads : (pick : ℕ) → IsLayout p → length links ≡ link_count p → AreAgents p pick agents → (i : ℕ) (a : Member B L) →
      slice_get agents i ≡ Some a → HasLinksFrom a.plan a.number (λ l. l < length links)
  agent-leads pick limits many are i a at link to is =
      let there = row-below p link a.number to limits (subst (λ v. IsLink v link a.number to) (are.each i a at).0 is) in
      omega arith

-- What is kept of agents and links, by the answer whether something was made.
pub agents-kept : {B L : Type 0} (p : Layout) (pick : ℕ) (agents agents' : List (Member B L)) (links links' : List (List (Stamped L)))
    (P Cannot : Type 0) (made : Bool) → length links ≡ link_count p → AreAgents p pick agents →
    (P → AreAgents p pick agents' × (length links' ≡ length links)) → MatchBool made P Cannot →
    OnFalse made ((agents' ≡ agents) × (links' ≡ links)) → AreAgents p pick agents' × (length links' ≡ link_count p)
agents-kept p pick agents agents' links links' P Cannot true many are f h stays = ((f h).0, (f h).1 ∙ many)
agents-kept p pick agents agents' links links' P Cannot false many are f h stays =
    (subst (AreAgents p pick) (sym stays.0) are, ap (λ v. length v) stays.1 ∙ many)

-- What is answered, by whether something was made.
pub answers-by : {B L N : Type 0} (m : Meaning B L) (machine : Layout → NodeMachine L N) (blank : N) (i : ℕ) (kind : EventKind)
    (old new : Running B L N) (P Cannot : Type 0) (made : Bool) (r : Moved) → MatchBool made (r ≡ Done) (r ≡ NotEnabled) →
    MatchBool made P Cannot → OnFalse made (new ≡ old) →
    (P → Steps m (rules_of machine blank old.plan old.limit old.pick) i kind old.net new.net) →
    (Cannot → Lacks m (rules_of machine blank old.plan old.limit old.pick) i kind old.net) →
    Answers m machine blank i kind old r new
answers-by m machine blank i kind old new P Cannot true r is h stays f none =
    subst (λ v. Answers m machine blank i kind old v new) (sym is) (f h)
answers-by m machine blank i kind old new P Cannot false r is h stays f none =
    subst (λ v. Answers m machine blank i kind old v new) (sym is) (none h, stays)

-- A network whose agents and links are as before is as before.
pub same-running : {B S L : Type 0} (p : Layout) (limit pick : ℕ) (agents agents' : List (Member B L)) (nodes : List (SeenNode S L))
    (links links' : List (List (Stamped L))) (numbers : Counter) → (agents' ≡ agents) × (links' ≡ links) →
    running p limit pick agents' nodes links' numbers ≡ running p limit pick agents nodes links numbers
same-running p limit pick agents agents' nodes links links' numbers h =
    ap (λ v. running p limit pick v nodes links' numbers) h.0 ∙ ap (λ v. running p limit pick agents nodes v numbers) h.1

-- A packet's clock is low where all clocks are.
pub packet-low : {B S L : Type 0} (w : Net B L S) → ClocksWithin (MOST_CLOCK - 1) w → (link : ℕ) (x : Stamped L)
    (q : List (Stamped L)) → link < length w.links → get_or w.links link [] ≡ x ∷ q → x.clock < MOST_CLOCK
packet-low {B} {S} {L} w low link x q there stands =
    let at : slice_get w.links link ≡ Some (x ∷ q) = slice_get-get_or w.links link [] there ∙ ap Some stands in
    let all : Each (λ (p : Stamped L). p.clock ≤ MOST_CLOCK - 1) (x ∷ q) =
    each-there (Each (λ (p : Stamped L). p.clock ≤ MOST_CLOCK - 1)) w.links link (x ∷ q) low.links at in
    let h = all.0 in
    omega arith

-- A link with ends is there.
pub ends-there : {X : Type 0} (p : Layout) (links : List X) (link from to : ℕ) → IsLayout p → length links ≡ link_count p →
    IsLink p link from to → link < length links
ends-there p links link from to limits many is = let there = row-below p link from to limits is in omega arith

module _ {X B S L : Type 0} (f : X → SeenNode S L) (p : Layout) (agents : List (Member B L)) (xs : List X)
    (links : List (List (Stamped L))) (numbers : Counter) where
  -- The clock of a node is low where all clocks are.
  pub node-low : ClocksWithin (MOST_CLOCK - 1) (net_of agents (map f xs) links numbers) → (k : ℕ) (n : X) →
      slice_get xs k ≡ Some n → (f n).actor.clock < MOST_CLOCK
  node-low low k n at =
      let h = each-there (λ (v : Actor S L). v.clock ≤ MOST_CLOCK - 1) (map node_in (map f xs)) k (f n).actor low.nodes
      (map-there node_in (map f xs) k (f n) (map-there f xs k n at)) in
      omega arith

  -- The outlet has the links that lead from a node.
  pub node-leads : IsLayout p → length links ≡ link_count p → AreNodes p (map f xs) → (k : ℕ) (n : X) →
      slice_get xs k ≡ Some n → Outs.HasLinksFrom (f n).plan (actor_of (f n).plan (f n).number) (λ l. l < length links)
  node-leads limits many are k n at link to is =
      let here = are.each k (f n) (map-there f xs k n at) in
      let mine = subst (λ v. IsLink v link (actor_of v (f n).number) to) here.0 is in
      let there = row-below p link (actor_of p (f n).number) to limits mine in
      omega arith

-- A node at which a link ends is there.
pub node-there : (p : Layout) (many link from actor k : ℕ) → IsLayout p → many ≡ p.nodes → p.agents + k ≡ actor →
    IsLink p link from actor → k < many
node-there p many link from actor k limits all is ends =
    let below = (ends-below p link from actor limits ends).1 in omega arith

-- What is kept of nodes and links, by the answer whether something was made.
pub nodes-kept : {S L : Type 0} (p : Layout) (nodes nodes' : List (SeenNode S L)) (links links' : List (List (Stamped L)))
    (P Cannot : Type 0) (made : Bool) → length links ≡ link_count p → AreNodes p nodes →
    (P → AreNodes p nodes' × (length links' ≡ length links)) → MatchBool made P Cannot →
    OnFalse made ((nodes' ≡ nodes) × (links' ≡ links)) → AreNodes p nodes' × (length links' ≡ link_count p)
nodes-kept p nodes nodes' links links' P Cannot true many are f h stays = ((f h).0, (f h).1 ∙ many)
nodes-kept p nodes nodes' links links' P Cannot false many are f h stays =
    (subst (AreNodes p) (sym stays.0) are, ap (λ v. length v) stays.1 ∙ many)

-- A network whose nodes, counter and links are as before is as before.
pub same-nodes : {B S L : Type 0} (p : Layout) (pick : ℕ) (agents : List (Member B L)) (nodes nodes' : List (SeenNode S L))
    (links links' : List (List (Stamped L))) (numbers numbers' : Counter) →
    (nodes' ≡ nodes) × (numbers' ≡ numbers) × (links' ≡ links) →
    running p numbers'.limit pick agents nodes' links' numbers' ≡ running p numbers.limit pick agents nodes links numbers
same-nodes p pick agents nodes nodes' links links' numbers numbers' h =
    ap (λ v. running p numbers'.limit pick agents v links' numbers') h.0
    ∙ (ap (λ (v : Counter). running p v.limit pick agents nodes links' v) h.1
    ∙ ap (λ v. running p numbers.limit pick agents nodes v numbers) h.2)

-- Whatever was drawn, the limit stays.
drew-limit : (old new : Counter) (drew : Option Grant) → DrewOf old new drew → new.limit ≡ old.limit
drew-limit old new None h = ap (λ (c : Counter). c.limit) h
drew-limit old new (Some grant) h = h.1

pub limit-stays : {S L : Type 0} (Q R : Type 0) (machine : Layout → NodeMachine L S) (k : ℕ) (Is : Deed L → Type 0) (X : Type 0)
    (taken : X → List (ℕ × Stamped L)) (nodes nodes' : List (SeenNode S L)) (links links' : List (List (Stamped L)))
    (numbers numbers' : Counter) (Cannot : Type 0) (made : Bool) →
    MatchBool made ((x : X) × NodeMade machine k Is (taken x) nodes nodes' links links' numbers numbers') Cannot →
    OnFalse made (Q × (numbers' ≡ numbers) × R) → numbers'.limit ≡ numbers.limit
limit-stays Q R machine k Is X taken nodes nodes' links links' numbers numbers' Cannot true h stays =
    drew-limit numbers numbers' (drawn_in h.1.made.entry.deed) h.1.draws
limit-stays Q R machine k Is X taken nodes nodes' links links' numbers numbers' Cannot false h stays =
    ap (λ (c : Counter). c.limit) stays.1

-- A node that can't pass, by what is seen of it at its place.
pub passes-not : {X S L : Type 0} (f : X → SeenNode S L) (machine : Layout → NodeMachine L S) (p : Layout) (xs : List X) (actor k : ℕ) →
    AreNodes p (map f xs) → p.agents + k ≡ actor →
    ((n : X) → slice_get xs k ≡ Some n → (machine (f n).plan).can_pass (f n).actor.state → ⊥) →
    (j : ℕ) (n : SeenNode S L) → actor_of p j ≡ actor → slice_get (map f xs) j ≡ Some n →
    (machine p).can_pass n.actor.state → ⊥
passes-not {X} {S} {L} f machine p xs actor k are is cannot j n at stands can =
    let found = from-map f xs j n stands in
    let plan = (are.each j n stands).0 in
    let e : p.agents + j ≡ actor = at in
    let same : j ≡ k = omega arith in
    let here : slice_get xs k ≡ Some found.0 = subst (λ v. slice_get xs v ≡ Some found.0) same found.1 in
    let could : (machine n.plan).can_pass n.actor.state = subst (λ v. (machine v).can_pass n.actor.state) (sym plan) can in
    cannot found.0 here (subst (λ (v : SeenNode S L). (machine v.plan).can_pass v.actor.state) (sym found.2) could)
