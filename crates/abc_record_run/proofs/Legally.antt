-- The record of a network that came from its start until it was still is legal, by its shape.
use Rattle.std.proofs.Common.{◌≡◌, ℕ, List, length, sym, ap, ◌∙◌, subst}
use Rattle.std.specs.Prelude.{Result, Ok, Err, IfOk}
use Rattle.abc_packet.specs.declared.log.Entry.{Entry}
use Rattle.abc_shape.specs.declared.shape.Shape.{Shape}
use Rattle.abc_shape.specs.declared.shape.Shape.TheVariants.{Cluster, Ring, Tree}
use Rattle.abc_shape.specs.declared.layout.Layout.{Layout}
use Rattle.abc_shape.specs.Plans.{IsLayout, layout_of}
use Rattle.abc_body.specs.Meanings.{Meaning}
use Rattle.abc_network.specs.Nodes.{NodeMachine, cluster_machine}
use Rattle.abc_network.specs.Stores.{store_machine, blank_store}
use Rattle.abc_network.specs.Rings.{ring_kind}
use Rattle.abc_network.specs.Trees.{tree_kind}
use Rattle.abc_net.specs.declared.record.Record.{Record}
use Rattle.abc_net.specs.Records.{logs_of}
use Rattle.abc_schedule.specs.Legal.{IsLegal}
use Rattle.abc_term.specs.declared.terms.Program.{Program}
use Rattle.abc_moves.specs.declared.label.Label.{Label}
use Rattle.abc_live_body.specs.Running.{RunningComponent}
use Rattle.abc_live_body.specs.AbcMeaning.{abc}
use Rattle.abc_live_body.specs.AbcLaws.{AreStarted}
use Rattle.abc_record_text.specs.LegalRecords.{IsLegalBy, IsLegalFor}
use Rattle.abc_world.specs.declared.world.World.{World}
use Rattle.abc_world.specs.declared.world.World.TheVariants.{OfCluster, OfRing, OfTree}
use Rattle.abc_world.specs.Listing.{IsStillIn}
use Rattle.abc_world.specs.Runnings.{Running, SameNetwork, rules_of}
use Rattle.abc_world.specs.Starting.{RunsTo, LeavesLegal, started}
use Rattle.abc_world.specs.Worlds.{IsAtStart, SameWorld, WorldRunsTo, IsStillWorld, IsRecordOf, IsWorldRecord, WorldLeavesLegal}
use Rattle.abc_world.proofs.Shaped.{of-shape}
use Rattle.abc_record_run.specs.RunRecords.{IsOfNetwork}

module _ {B L N : Type 0} (m : Meaning B L) (machine : Layout → NodeMachine L N) (blank : N) where
  -- A run from the start, told by the network's own plan, limit and pick.
  from-start : (p : Layout) (limit pick : ℕ) (bodies : List B) (a b : Running B L N) →
      a ≡ started machine blank p limit pick bodies → SameNetwork a b → RunsTo m machine blank a b →
      RunsTo m machine blank (started machine blank b.plan b.limit b.pick bodies) b
  from-start p limit pick bodies a b at same runs =
      let q : b.plan ≡ p = same.plan ∙ ap (λ (v : Running B L N). v.plan) at in
      let l : b.limit ≡ limit = same.limit ∙ ap (λ (v : Running B L N). v.limit) at in
      let k : b.pick ≡ pick = same.pick ∙ ap (λ (v : Running B L N). v.pick) at in
      let First : Running B L N → Type 0 = λ v. RunsTo m machine blank v b in
      let Plan : Layout → Type 0 = λ v. RunsTo m machine blank (started machine blank v b.limit b.pick bodies) b in
      let Limit : ℕ → Type 0 = λ v. RunsTo m machine blank (started machine blank p v b.pick bodies) b in
      let Pick : ℕ → Type 0 = λ v. RunsTo m machine blank (started machine blank p limit v bodies) b in
      subst Plan (sym q) (subst Limit (sym l) (subst Pick (sym k) (subst First at runs)))

  -- So the logs are legal by its rules.
  pub legal-logs : (p : Layout) (limit pick : ℕ) (bodies : List B) (a b : Running B L N) (logs : List (List (Entry L))) →
      a ≡ started machine blank p limit pick bodies → SameNetwork a b → RunsTo m machine blank a b →
      IsStillIn m machine blank b → LeavesLegal m machine blank b logs → length bodies ≡ p.agents →
      IsLegal m (rules_of machine blank b.plan b.limit b.pick) bodies logs
  legal-logs p limit pick bodies a b logs at same runs still leaves many =
      let q : b.plan ≡ p = same.plan ∙ ap (λ (v : Running B L N). v.plan) at in
      leaves bodies (many ∙ ap (λ v. v.agents) (sym q)) (from-start p limit pick bodies a b at same runs) still

-- By the rules of each shape.
cluster-by : {B L : Type 0} (m : Meaning B L) (bodies : List B) (p : Layout) (limit pick : ℕ) (logs : List (List (Entry L))) →
    p ≡ layout_of Cluster p.agents p.nodes → IsLegal m (rules_of (λ q. cluster_machine q.agents q.nodes) tt p limit pick) bodies logs →
    IsLegalBy m Cluster p.agents p.nodes limit pick bodies logs
cluster-by m bodies p limit pick logs is legal =
    subst (λ v. IsLegal m (rules_of (λ q. cluster_machine q.agents q.nodes) tt v limit pick) bodies logs) is legal

ring-by : {B L : Type 0} (m : Meaning B L) (bodies : List B) (p : Layout) (limit pick : ℕ) (logs : List (List (Entry L))) →
    p ≡ layout_of Ring p.agents p.nodes → IsLegal m (rules_of (λ q. store_machine (ring_kind q)) blank_store p limit pick) bodies logs →
    IsLegalBy m Ring p.agents p.nodes limit pick bodies logs
ring-by m bodies p limit pick logs is legal =
    subst (λ v. IsLegal m (rules_of (λ q. store_machine (ring_kind q)) blank_store v limit pick) bodies logs) is legal

tree-by : {B L : Type 0} (m : Meaning B L) (bodies : List B) (p : Layout) (limit pick : ℕ) (logs : List (List (Entry L))) →
    p ≡ layout_of Tree p.agents p.nodes → IsLegal m (rules_of (λ q. store_machine (tree_kind q)) blank_store p limit pick) bodies logs →
    IsLegalBy m Tree p.agents p.nodes limit pick bodies logs
tree-by m bodies p limit pick logs is legal =
    subst (λ v. IsLegal m (rules_of (λ q. store_machine (tree_kind q)) blank_store v limit pick) bodies logs) is legal

-- What a record of a world that came from its start by a run until it was still says: it is legal for the bodies, and of the network
-- that was started.
abbrev pub IsTheRecord : {B L : Type 0} → Meaning B L → Layout → ℕ → ℕ → List B → Record L → Type 0
IsTheRecord m p limit pick bodies ran =
    IsLegalBy m p.shape p.agents p.nodes limit pick bodies (logs_of ran) × IsOfNetwork p.shape p.agents p.nodes limit pick ran

-- By the rules of one shape, which are those of the network's tables.
legal-in : {B L N : Type 0} (m : Meaning B L) (p : Layout) (limit pick : ℕ) (bodies : List B) (a b : Running B L N) (ran : Record L)
    (machine : Layout → NodeMachine L N) (blank : N) (own : Shape) →
    ((q : Layout) (l k : ℕ) (logs : List (List (Entry L))) → q ≡ layout_of own q.agents q.nodes →
    IsLegal m (rules_of machine blank q l k) bodies logs → IsLegalBy m own q.agents q.nodes l k bodies logs) →
    length bodies ≡ p.agents → a ≡ started machine blank p limit pick bodies → p.shape ≡ own → SameNetwork a b →
    RunsTo m machine blank a b → IsStillIn m machine blank b → IsRecordOf b ran → LeavesLegal m machine blank b (logs_of ran) →
    IsTheRecord m p limit pick bodies ran
legal-in {B} {L} {N} m p limit pick bodies a b ran machine blank own by many at owns same runs still of leaves =
    let q : b.plan ≡ p = same.plan ∙ ap (λ (v : Running B L N). v.plan) at in
    let l : b.limit ≡ limit = same.limit ∙ ap (λ (v : Running B L N). v.limit) at in
    let k : b.pick ≡ pick = same.pick ∙ ap (λ (v : Running B L N). v.pick) at in
    let legal = legal-logs m machine blank p limit pick bodies a b (logs_of ran) at same runs still leaves many in
    let Plan : Layout → Type 0 = λ v. IsLegal m (rules_of machine blank v b.limit b.pick) bodies (logs_of ran) in
    let Limit : ℕ → Type 0 = λ v. IsLegal m (rules_of machine blank p v b.pick) bodies (logs_of ran) in
    let Pick : ℕ → Type 0 = λ v. IsLegal m (rules_of machine blank p limit v) bodies (logs_of ran) in
    let so = by p limit pick (logs_of ran) (of-shape p own owns) (subst Pick k (subst Limit l (subst Plan q legal))) in
    let By : Shape → Type 0 = λ v. IsLegalBy m v p.agents p.nodes limit pick bodies (logs_of ran) in
    let network : IsOfNetwork p.shape p.agents p.nodes limit pick ran = record {
      shape = of.shape ∙ ap (λ v. v.shape) q;
      agents = of.agents ∙ ap (λ v. v.agents) q;
      nodes = of.nodes ∙ ap (λ v. v.nodes) q;
      limit = of.limit ∙ l;
      pick = of.pick ∙ k;
    } in
    (subst By (sym owns) so, network)

-- By the shape of the world.
pub legal-record : {B L : Type 0} (m : Meaning B L) (p : Layout) (limit pick : ℕ) (bodies : List B) (w w' : World B L) (ran : Record L) →
    length bodies ≡ p.agents → IsAtStart p limit pick bodies w → SameWorld w w' → WorldRunsTo m w w' → IsStillWorld m w' →
    IsWorldRecord w' ran → WorldLeavesLegal m w' (logs_of ran) → IsTheRecord m p limit pick bodies ran
legal-record m p limit pick bodies (OfCluster a) (OfCluster b) ran many at same runs still of leaves =
    legal-in m p limit pick bodies a b ran _ tt Cluster (cluster-by m bodies) many at.0 at.1 same runs still of leaves
legal-record m p limit pick bodies (OfRing a) (OfRing b) ran many at same runs still of leaves =
    legal-in m p limit pick bodies a b ran _ blank_store Ring (ring-by m bodies) many at.0 at.1 same runs still of leaves
legal-record m p limit pick bodies (OfTree a) (OfTree b) ran many at same runs still of leaves =
    legal-in m p limit pick bodies a b ran _ blank_store Tree (tree-by m bodies) many at.0 at.1 same runs still of leaves
legal-record m p limit pick bodies (OfCluster a) (OfRing b) ran many at same runs still of leaves = absurd same
legal-record m p limit pick bodies (OfCluster a) (OfTree b) ran many at same runs still of leaves = absurd same
legal-record m p limit pick bodies (OfRing a) (OfCluster b) ran many at same runs still of leaves = absurd same
legal-record m p limit pick bodies (OfRing a) (OfTree b) ran many at same runs still of leaves = absurd same
legal-record m p limit pick bodies (OfTree a) (OfCluster b) ran many at same runs still of leaves = absurd same
legal-record m p limit pick bodies (OfTree a) (OfRing b) ran many at same runs still of leaves = absurd same

-- A record that is legal for a program's components is one of the program.
pub for-program : (p : Program) (shape : Shape) (nodes limit pick : ℕ) (bodies : List RunningComponent) (ran : Record Label) →
    IsLayout (layout_of shape (length p.components) nodes) → AreStarted p bodies →
    IsTheRecord abc (layout_of shape (length p.components) nodes) limit pick bodies ran → IsLegalFor p ran
for-program p shape nodes limit pick bodies ran limits started is =
    let count = length p.components in
    let of = is.1 in
    let whole : layout_of ran.shape ran.agents ran.nodes ≡ layout_of shape count nodes =
    ap (λ v. layout_of v ran.agents ran.nodes) of.shape ∙ (ap (λ v. layout_of shape v ran.nodes) of.agents
    ∙ ap (λ v. layout_of shape count v) of.nodes) in
    record {
      plan = subst IsLayout (sym whole) limits;
      bodies = bodies;
      started = started;
      legal = subst (λ v. IsLegalBy abc v ran.agents ran.nodes ran.limit ran.pick bodies (logs_of ran)) (sym of.shape)
          (subst (λ v. IsLegalBy abc shape v ran.nodes ran.limit ran.pick bodies (logs_of ran)) (sym of.agents)
          (subst (λ v. IsLegalBy abc shape count v ran.limit ran.pick bodies (logs_of ran)) (sym of.nodes)
          (subst (λ v. IsLegalBy abc shape count nodes v ran.pick bodies (logs_of ran)) (sym of.limit)
          (subst (λ v. IsLegalBy abc shape count nodes limit v bodies (logs_of ran)) (sym of.pick) is.0))));
    }

-- What is so of a result in two ways brings what follows from both.
pub if-ok-both : {X E : Type 0} (r : Result X E) (P Q R : X → Type 0) → IfOk r P → IfOk r Q → ((x : X) → P x → Q x → R x) → IfOk r R
if-ok-both (Ok x) P Q R p q f = f x p q
if-ok-both (Err e) P Q R p q f = tt
