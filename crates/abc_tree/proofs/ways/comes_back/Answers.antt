use Rattle.std.proofs.Common.{◌≡◌, ◌+◌, length, true, false, refl, sym, ap, ◌∙◌}
use Rattle.std.proofs.lemmas.Bool.{eqb-true, eq-eqb}
use Rattle.std.proofs.lemmas.Option.{slice_get_read}
use Rattle.abc_tree.proofs.Linked.{back-tested, back-ends}
use Rattle.abc_tree.proofs.ways.comes_back.Goals.{then-there-here, else-there-here}
use Rattle.abc_tree.proofs.ways.comes_back.Goals as goal

-- the entries lead there and back
pub returns-then-back-here : goal.returns-then-back-here
returns-then-back-here c =
    let es = c.links-links.result.now in
    let a = c.in-Some-Some.there.now in
    let b = c.in-Some-Some.back.now in
    let here = c.agents.result + c.args.node in
    let reads_a = c.in-Some-Some.ensures.lookup in
    let reads_b = c.in-Some-Some.ensures'.lookup in
    let both : (a.from ≡ here) × (b.to ≡ here) = elim c.if-there-here.branch [
      | then-there-here w ↦ (w.if-there-here.true, eqb-true b.to here (sym w.value-is ∙ c.if-back-here.true))
      | else-there-here w ↦ absurd (w.if-there-here.false (eqb-true a.from here (sym w.value-is ∙ c.if-back-here.true)))
    ] in
    back-tested c.args.plan.now es c.args.node c.args.out c.args.link here a b c.links-links.ensures
    (sym (slice_get_read es (length es) c.args.out a refl reads_a.3.0 reads_a.1))
    (sym (slice_get_read es (length es) c.args.link b refl reads_b.3.0 reads_b.1))
    (ap (λ n. n + c.args.node) c.agents.ensures.number) both.0 both.1

-- or one of them is another's
pub returns-else-back-here : goal.returns-else-back-here
returns-else-back-here c =
    let es = c.links-links.result.now in
    let a = c.in-Some-Some.there.now in
    let b = c.in-Some-Some.back.now in
    let here = c.agents.result + c.args.node in
    let reads_a = c.in-Some-Some.ensures.lookup in
    let reads_b = c.in-Some-Some.ensures'.lookup in
    rw c.if-back-here.false (λ comes.
    let both = back-ends c.args.plan.now es c.args.node c.args.out c.args.link here a b c.links-links.ensures
    (sym (slice_get_read es (length es) c.args.out a refl reads_a.3.0 reads_a.1))
    (sym (slice_get_read es (length es) c.args.link b refl reads_b.3.0 reads_b.1))
    (ap (λ n. n + c.args.node) c.agents.ensures.number) comes in
    elim c.if-there-here.branch [
      | then-there-here w ↦ (
          let two : true ≡ false = sym (eq-eqb b.to here both.1) ∙ (sym w.value-is ∙ c.if-back-here.false) in absurd (cc))
      | else-there-here w ↦ w.if-there-here.false both.0
    ])
