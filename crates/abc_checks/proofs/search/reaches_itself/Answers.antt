use Rattle.std.proofs.Common.{◌≡◌, ◌<◌, ◌+◌, ◌++◌, ℕ, List, [], sym, ◌∙◌, subst, ap, take, ◌-◌, length, refl}
use Rattle.abc_checks.specs.Graphs.{Search, mark_all, search_of}
use Rattle.abc_checks.proofs.Searching.{Searching, unmarked, begins, goes_on, falls_on, ends}
use Rattle.abc_checks.proofs.search.reaches_itself.Goals as goal

pub loop-next-init : goal.loop-next-init
loop-next-init c =
    let g = c.args.graph.now in
    let blank : Search = record { marked = c.in_ok-vec.field-0.items; waiting = c.new.result.items } in
    subst (λ (s : Search). Searching g c.args.node s) (sym c.in_ok-mark_all.ensures)
    (subst (λ (xs : List ℕ). Searching g c.args.node (mark_all xs blank)) (sym c.arrows_of.ensures)
    (begins g c.args.node blank (c.in_ok-vec.ensures.items_if_clones_equal (λ y e. e)) c.new.ensures.items))

pub loop-next-preserved : goal.loop-next-preserved
loop-next-preserved c =
    let g = c.args.graph.now in
    let taken : Search = record { marked = c.loop-next.search.marked.items; waiting = c.pop.new.self.items } in
    subst (λ (s : Search). Searching g c.args.node s) (sym c.in_ok-mark_all-2.ensures)
    (subst (λ (xs : List ℕ). Searching g c.args.node (mark_all xs taken)) (sym c.arrows_of-in-Some.ensures)
    (goes_on g c.args.node c.in-Some.next (search_of c.loop-next.search) taken c.loop-next.invariant c.in-Some.ensures.items refl))

pub loop-next-smaller : goal.loop-next-smaller
loop-next-smaller c =
    let g = c.args.graph.now in
    let waited : List ℕ = c.loop-next.search.waiting.items in
    let taken : Search = record { marked = c.loop-next.search.marked.items; waiting = c.pop.new.self.items } in
    subst (λ (s : Search). unmarked s.marked + length s.waiting < unmarked taken.marked + length waited) (sym c.in_ok-mark_all-2.ensures)
    (subst (λ (xs : List ℕ). unmarked (mark_all xs taken).marked + length (mark_all xs taken).waiting < unmarked taken.marked + length waited) (sym c.arrows_of-in-Some.ensures)
    (falls_on g c.in-Some.next waited taken c.in-Some.ensures.items))

gone : (n : ℕ) (s t : List ℕ) → n ≡ 0 → t ≡ take (n - 1) s → s ≡ t ++ [] → s ≡ []
gone n s t z rest items =
    let none : t ≡ [] = rest ∙ ap (λ (k : ℕ). take (k - 1) s) z in
    items ∙ ap (λ (u : List ℕ). u ++ []) none

pub returns : goal.returns
returns c =
    let at_end = c.in_default.ensures in
    let found = ends c.args.graph.now c.args.node (search_of c.loop-next.search) c.args.node c.loop-next.invariant
    (gone _ c.loop-next.search.waiting.items c.pop.new.self.items at_end.cases.0 at_end.rest at_end.items) in
    (λ h. found.0 (sym c.has_marked.ensures ∙ h), λ p. c.has_marked.ensures ∙ found.1 p)
