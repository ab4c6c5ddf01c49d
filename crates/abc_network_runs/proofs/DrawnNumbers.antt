-- Each draw keeps that no number was drawn twice.
use Rattle.std.proofs.Common.{ℕ, ◌<◌, ◌≤◌, List, [], ◌∷◌, sym, subst, arith, inl, inr}
use Rattle.std.specs.Prelude.{Option, Some, None}
use Rattle.abc_value.specs.declared.grant.Grant.{Grant}
use Rattle.abc_value.specs.declared.grant.Grant.TheVariants.{Number, Closed}
use Rattle.abc_body.specs.Meanings.{Meaning}
use Rattle.abc_network.specs.Networks.{Net, Rules, Event, AgentDid, NodeDid, Draws, drawn_in}
use Rattle.abc_network.specs.Networks.{Netrun, start_of}
use Rattle.abc_network_laws.specs.Kept.{Each}
use Rattle.abc_network_laws.proofs.Steps.{draws-times, draws-fresh}
use Rattle.abc_network_runs.specs.Drawn.{AreDrawnOnce, DrawsOnce}

-- A draw gives a number from 1 to the limit or none.
draws-within : (limit : ℕ) (drawn drawn' : List ℕ) (g : Option Grant) → Draws limit drawn g drawn' →
    Each (λ n. (0 < n) × (n ≤ limit)) drawn → Each (λ n. (0 < n) × (n ≤ limit)) drawn'
draws-within limit drawn drawn' None d h = subst (Each (λ n. (0 < n) × (n ≤ limit))) (sym d) h
draws-within limit drawn drawn' (Some Closed) d h =
    subst (Each (λ n. (0 < n) × (n ≤ limit))) (sym d) h
draws-within limit drawn drawn' (Some (Number k)) d h =
    subst (Each (λ n. (0 < n) × (n ≤ limit))) (sym d.3) ((d.0, d.1), h)

-- It gives none that was drawn before.
pub draws-once : (limit : ℕ) (drawn drawn' : List ℕ) (g : Option Grant) →
    Draws limit drawn g drawn' → AreDrawnOnce limit drawn → AreDrawnOnce limit drawn'
draws-once limit drawn drawn' g d h = record {
  once = λ n. let t = draws-times n limit drawn drawn' g d in
      let o = h.once n in
      elim (draws-fresh n limit drawn drawn' g d) [
        | inl none ↦ omega arith
        | inr fresh ↦ (let one = fresh.0 in let zero = fresh.1 in omega arith)
      ];
  within = draws-within limit drawn drawn' g d h.within;
}

module _ {B L N : Type 0} (m : Meaning B L) (r : Rules L N) where
  -- So does a run.
  run-draws : (es : List (Event L)) (w w' : Net B L N) → Netrun m r w es w' →
      AreDrawnOnce r.limit w.drawn → AreDrawnOnce r.limit w'.drawn
  run-draws [] w w' run h =
      subst (λ (v : Net B L N). AreDrawnOnce r.limit v.drawn) (sym run) h
  run-draws (AgentDid i e ∷ es) w w' run h =
      run-draws es run.0 w' run.2
      (draws-once r.limit w.drawn run.0.drawn (drawn_in e.deed) run.1.draws h)
  run-draws (NodeDid k e ∷ es) w w' run h =
      run-draws es run.0 w' run.2
      (draws-once r.limit w.drawn run.0.drawn (drawn_in e.deed) run.1.draws h)

  -- At the start nothing is drawn.
  pub drawn-once : DrawsOnce m r
  drawn-once = λ bodies es w run.
      run-draws es (start_of r bodies) w run (record { once = λ n. omega arith; within = tt })
