-- Where all actors rest a network is still.
use Rattle.std.proofs.Common.{◌≡◌, ℕ, zero, suc, ◌+◌, ◌<◌, ◌≤◌, inl, inr, sym, List, [], ◌∷◌, length, map, get_or, refl, ap, ◌∙◌, arith}
use Rattle.std.specs.Prelude.{Option, Some, None}
use Rattle.std.proofs.lemmas.Option.{slice_get-get_or, slice_get_within, get_or_from_slice_get}
use Rattle.std.proofs.lemmas.Bool.{cases_lt}
use Rattle.abc_packet.specs.declared.stamped.Stamped.{Stamped}
use Rattle.abc_shape.specs.declared.layout.Layout.{Layout}
use Rattle.abc_shape.specs.declared.layout.LinkEnds.{LinkEnds}
use Rattle.abc_shape.specs.Plans.{IsLayout, ListsLinks, actor_of, link_count}
use Rattle.abc_shape.proofs.Ended.{ends-below}
use Rattle.abc_body.specs.Meanings.{Meaning}
use Rattle.abc_number.specs.Counter.{Counter}
use Rattle.abc_network.specs.Nodes.{NodeMachine}
use Rattle.abc_network.specs.Quiets.{IsStill}
use Rattle.abc_history.specs.Nodes.{SeenNode}
use Rattle.abc_agent.specs.Members.{Member}
use Rattle.abc_world.specs.declared.event.EventKind.TheVariants.{Ask, Arrive, Take, Turn, Pass}
use Rattle.abc_world.specs.Crews.{AreNodes}
use Rattle.abc_world.specs.Fronts.{AllAgentsRest, AllNodesRest}
use Rattle.abc_world.specs.Listing.{Rests}
use Rattle.abc_world.specs.Runnings.{rules_of, net_of, node_in}
use Rattle.abc_world.specs.Teams.{AreAgents, actor_in}
use Rattle.abc_world.proofs.Networked.{running}
use Rattle.abc_world.proofs.Seated.{length-map}

-- A list that begins with nothing is empty,
empty-by : {X : Type 0} (q : List X) → ((x : X) (rest : List X) → q ≡ x ∷ rest → ⊥) → q ≡ []
empty-by [] f = refl
empty-by (x ∷ q) f = absurd (f x q refl)

-- and what is nothing is none.
none-by : {X : Type 0} (o : Option X) → ((x : X) → o ≡ Some x → ⊥) → o ≡ None
none-by None f = refl
none-by (Some x) f = absurd (f x refl)

-- Past the last link there is nothing.
past-nothing : {X : Type 0} (qs : List (List X)) (l : ℕ) → length qs ≤ l → get_or qs l [] ≡ []
past-nothing [] l past = refl
past-nothing (q ∷ qs) zero past = absurd (let h : suc (length qs) ≤ 0 = past in omega arith)
past-nothing (q ∷ qs) (suc l) past = past-nothing qs l (let h : suc (length qs) ≤ suc l = past in omega arith)

module _ {B L S : Type 0} (m : Meaning B L) (machine : Layout → NodeMachine L S) (blank : S) (p : Layout) (limit pick : ℕ)
    (agents : List (Member B L)) (nodes : List (SeenNode S L)) (links : List (List (Stamped L))) (numbers : Counter) where
  pub rests-still : (ends : List LinkEnds) → IsLayout p → ListsLinks p ends → length links ≡ link_count p →
      AreAgents p pick agents → AreNodes p nodes →
      ((i : ℕ) → i < p.agents + p.nodes → Rests m machine blank (running p limit pick agents nodes links numbers) i) →
      IsStill m (rules_of machine blank p limit pick) (net_of agents nodes links numbers)
  rests-still ends limits are many team crew rests =
      record {
        links = λ l q stands. empty-by q (λ x rest is.
            let none : LinkEnds = record { from = 0; to = 0 } in
            let e = get_or ends l none in
            let inside = slice_get_within links l q stands in
            let count = are.count in
            let below : l < length ends = omega arith in
            let link = (are.rows l e).0 (slice_get-get_or ends l none below) in
            rests e.to (ends-below p l e.from e.to limits link).1 (Arrive l)
            ((e.from, link), (x, rest, stands ∙ ap Some is)));
        agents = λ i a stands.
            let inside = slice_get_within (map actor_in agents) i a stands in
            let mapped = length-map actor_in agents in
            let all = team.many in
            let below : i < p.agents + p.nodes = omega arith in
            record {
              no_ask = λ idle can. rests i below Ask (a, stands, (idle, can));
              no_take = none-by _ (λ content waits. rests i below Take (a, stands, (content, waits)));
              no_turn = λ granted. rests i below Turn (a, stands, granted);
            };
        nodes = λ k a stands can.
            let inside = slice_get_within (map node_in nodes) k a stands in
            let mapped = length-map node_in nodes in
            let all = crew.many in
            let below : p.agents + k < p.agents + p.nodes = omega arith in
            rests (actor_of p k) below Pass (k, a, refl, stands, can);
      }

  -- A network is still where nothing is on a link and no actor can do anything,
  pub still-parts : ((l : ℕ) → get_or links l [] ≡ []) → AllAgentsRest m (map actor_in agents) →
      AllNodesRest (machine p) (map node_in nodes) →
      IsStill m (rules_of machine blank p limit pick) (net_of agents nodes links numbers)
  still-parts empty rest pass =
      record {
        links = λ l q stands. sym (get_or_from_slice_get links l q [] stands) ∙ empty l;
        agents = rest;
        nodes = pass;
      }

  -- and only there.
  pub still-empty : IsStill m (rules_of machine blank p limit pick) (net_of agents nodes links numbers) → (l : ℕ) →
      get_or links l [] ≡ []
  still-empty still l =
      elim (cases_lt l (length links)) [
        | inl below ↦ still.links l (get_or links l []) (slice_get-get_or links l [] below)
        | inr past ↦ past-nothing links l past
      ]
