-- A path goes on by one micro-step.
use Rattle.std.proofs.Common.{◌≡◌, ℕ, ◌+◌, max, List, [], ◌∷◌, ◌++◌, refl, sym, ap, ◌∙◌, subst}
use Rattle.std.proofs.Common.{append-nil, append_assoc}
use Rattle.abc_packet.specs.declared.packets.Packet.{Packet}
use Rattle.abc_packet.specs.declared.stamped.Stamped.{Stamped}
use Rattle.abc_packet.specs.declared.log.Entry.{Entry}
use Rattle.abc_network.specs.Networks.{taken_clock}
use Rattle.abc_logs.specs.MicroSteps.{Table, stamped_with}
use Rattle.abc_logs.specs.Paths.{Path, clock_after}
use Rattle.abc_logs.specs.Laws.{GoesOn}

-- Behind the entries of a path one more stands, and what it sent stands behind what they sent.
pub path-then-step : {S L : Type 0} (does : Table S L) (s : S) (clock : ℕ)
    (entries : List (Entry L)) (sent : List (ℕ × Stamped L)) (mid : S) (e : Entry L)
    (sends : List (ℕ × Packet L)) (s' : S) →
    Path does s clock entries sent mid → does mid e.deed sends s' →
    e.clock ≡ max (clock_after clock entries) (taken_clock e.deed) + 1 →
    Path does s clock (entries ++ e ∷ []) (sent ++ stamped_with e.clock sends) s'
path-then-step does s clock [] sent mid e sends s' path row rises = (
  s',
  sends,
  [],
  subst (λ t. does t e.deed sends s') path.1 row,
  rises,
  ap (λ l. l ++ stamped_with e.clock sends) path.0 ∙ sym (append-nil (stamped_with e.clock sends)),
  (refl, refl),
)
path-then-step does s clock (f ∷ entries) sent mid e sends s' path row rises =
    let (next, now, later, first, clocked, split, rest) = path in (
      next,
      now,
      later ++ stamped_with e.clock sends,
      first,
      clocked,
      ap (λ l. l ++ stamped_with e.clock sends) split
          ∙ append_assoc (stamped_with f.clock now) later (stamped_with e.clock sends),
      path-then-step does next f.clock entries later mid e sends s' rest row rises,
    )

-- The clock behind one more entry is that entry's.
pub clock-of-last : {L : Type 0} (clock : ℕ) (entries : List (Entry L)) (e : Entry L) →
    clock_after clock (entries ++ e ∷ []) ≡ e.clock
clock-of-last clock [] e = refl
clock-of-last clock (f ∷ entries) e = clock-of-last f.clock entries e

-- A path, and then one micro-step by the table, is a path.
pub goes-on : {S L : Type 0} (does : Table S L) → GoesOn does
goes-on does start sent old new e sends was row logs =
    let (rises, clocked, grown) = logs in
    record {
      path = subst (λ l. Path does start 0 l (sent ++ stamped_with e.clock sends) new.state) (sym grown)
          (path-then-step does start 0 old.log sent old.state e sends new.state was.path row
          (rises ∙ ap (λ c. max c (taken_clock e.deed) + 1) was.clock));
      clock = clocked ∙ sym (ap (clock_after 0) grown ∙ clock-of-last 0 old.log e);
    }
