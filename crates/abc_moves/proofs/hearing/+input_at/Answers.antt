use Rattle.std.proofs.Common.{◌≡◌, ◌-◌, ap, refl, sym, rules}
use Rattle.std.proofs.lemmas.Result.{IfOk-weaker}
use Rattle.abc_term.specs.declared.terms.Process.{Process as Kept}
use Rattle.abc_term.specs.Processes.{Par}
use Rattle.abc_term.specs.Standing.{process_of}
use Rattle.abc_term.specs.Substitution.{put}
use Rattle.abc_moves.specs.Arounds.{definitions_around, ins_here}
use Rattle.abc_moves.specs.Labels.{label_of}
use Rattle.abc_moves.specs.Sites.{TakesSite, taken_env, taken_process}
use Rattle.abc_moves.proofs.Beside.{takes_left, takes_right}
use Rattle.abc_moves.proofs.Coming.{comes_to}
use Rattle.abc_moves.proofs.Unfolded.{ins_called, takes_called}
use Rattle.abc_moves.proofs.hearing.+input_at.Goals as goal

pub returns-in_ok-with_beside-in-Found-3 : goal.returns-in_ok-with_beside-in-Found-3
returns-in_ok-with_beside-in-Found-3 t c =
    let bs = c.args.scope.now in let here = put bs (process_of c.args.p.now) in
    let L = put bs (process_of c.deref-in-Par.result.now) in let R = put bs (process_of c.deref-in-Found-3.result.now) in
    let is : here ≡ Par L R = search rules in
    let s = rw c.in-Found-3.is at c.in_ok-s-in-Par.ensures in
    takes_left c.args.at.now c.args.depth here L R c.args.place is (label_of c.args.label.now) c.in-Found-3.s.value c.in_ok-with_beside-in-Found-3.field-0.value _
    c.in_ok-with_beside-in-Found-3.ensures (λ X. refl) (search (rules, s))

pub returns-in_ok-with_beside-in-Found-4 : goal.returns-in_ok-with_beside-in-Found-4
returns-in_ok-with_beside-in-Found-4 t c =
    let bs = c.args.scope.now in let here = put bs (process_of c.args.p.now) in
    let L = put bs (process_of c.deref-in-Par.result.now) in let R = put bs (process_of c.deref-in-Passed-3.result.now) in
    let is : here ≡ Par L R = search rules in
    let same : c.deref-in-Found-4.result.now ≡ c.deref-in-Par.result.now = cc in
    let p = rw c.in-Passed-3.is at c.in_ok-s-in-Par.ensures in
    let s = rw c.in-Found-4.is at c.in_ok-s-in-Passed-3.ensures in
    takes_right c.args.at.now c.args.depth here L R c.args.place is (label_of c.args.label.now) c.in-Found-4.s.value c.in_ok-with_beside-in-Found-4.field-0.value _ c.in-Passed-3.n
    (search (rules, p)) (search (rules, p)) c.in_ok-with_beside-in-Found-4.ensures
    (λ X. ap (λ (P : Kept). Par (put bs (process_of P)) X) same) (search (rules, s))

pub returns-in-Some : goal.returns-in-Some
returns-in-Some t c =
    let at = c.args.at.now in let defs = definitions_around at in let e = c.in-Some.ensures in
    let l = label_of c.args.label.now in
    let d = c.args.depth in let k = c.args.place in let here = put c.args.scope.now (process_of c.args.p.now) in
    let there = put at.unbound (process_of c.in-Some.body.now) in let called = ap process_of c.in-Call.is in
    IfOk-weaker c.input_at-in-Some.result _ _
    (λ w h. comes_to (λ s. TakesSite at l (d - 1) there k s.value) (λ s. TakesSite at l d here k s.value) k (ins_here at l (d - 1) there) (ins_here at l d here)
    (λ s takes. (
      takes_called d defs l at.env.now at.interface.now c.in-Call.c c.args.scope.now at.unbound (process_of c.args.p.now) (process_of c.in-Some.body.now) k
          (taken_env at l s.value) (taken_process l s.value) e.0 e.1 at.binds_nothing called takes.0,
      takes.1,
    ))
    (sym (ins_called d defs l at.env.now at.interface.now c.in-Call.c c.args.scope.now at.unbound (process_of c.args.p.now) (process_of c.in-Some.body.now) e.0 e.1 at.binds_nothing called)) w h)
    c.input_at-in-Some.ensures
