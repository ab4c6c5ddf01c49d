use Rattle.std.proofs.Common.{◌≡◌, ℕ, List, [], ◌∷◌, ◌++◌, ◌+◌, length, length-append, Some, slice_get, All, subst, sym, ap, arith}
use Rattle.std.proofs.lemmas.List.Elements.{All-push}
use Rattle.abc_term.specs.Standing.{definitions_of}
use Rattle.abc_moves.specs.declared.live.Live.{Live}
use Rattle.abc_moves.specs.Lives.{component_in, definitions_in, program_in, StartsAs}
use Rattle.abc_moves.proofs.Starting.{each-push}
use Rattle.abc_moves.proofs.live.Live.start_all.Goals as goal

pub loop-component-preserved : goal.loop-component-preserved
loop-component-preserved c =
    let p = c.args.program.now in let lives = c.loop-component.lives in let x = c.in_ok-live.live in
    let so_far = c.loop-component.invariant in
    let one_more : length c.push.new.self ≡ length (lives ++ x ∷ []) = ap length c.in_ok-push.ensures.ok in
    let grown : length (lives ++ x ∷ []) ≡ length lives + 1 = length-append lives (x ∷ []) in
    let counted = so_far.count in
    record {
      count = omega arith;
      start = λ i l e. each-push (λ (k : ℕ) (y : Live). StartsAs p k (component_in y) × (definitions_in y ≡ definitions_of p.definitions)) lives x so_far.start
          (subst (λ (n : ℕ). StartsAs p n (component_in x) × (definitions_in x ≡ definitions_of p.definitions)) (sym so_far.count) (c.in_ok-live.ensures.component, c.in_ok-live.ensures.program)) i l
          (subst (λ (ls : List Live). slice_get ls i ≡ Some l) c.in_ok-push.ensures.ok e);
      text = subst (λ (ls : List Live). All (λ y. program_in y ≡ p.definitions) ls) (sym c.in_ok-push.ensures.ok)
          (All-push (λ y. program_in y ≡ p.definitions) lives x so_far.text c.in_ok-live.ensures.text);
    }
