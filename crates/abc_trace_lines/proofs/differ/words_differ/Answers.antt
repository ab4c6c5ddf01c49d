use Rattle.std.proofs.Common.{true, false, sym, ap, ◌∙◌}
use Rattle.abc_trace_lines.proofs.WordsDiffer.{key_seen, keys_more, seen_not, new_so_far, keys_so_far}
use Rattle.abc_text.specs.Meanings.{has_word}
use Rattle.abc_trace_lines.proofs.differ.words_differ.Goals as goal

pub returns-then-not-is_new : goal.returns-then-not-is_new
returns-then-not-is_new g c =
    let seen = key_seen c.loop-item.met.keys c.item-item.result.0 c.in_ok-is_new.is_new false
    c.in_ok-is_new.ensures.added c.if-not-is_new.true in
    seen_not (λ e. e.0.now) c.args.items.now c.loop-item.item-index c.item-item.result
    c.loop-item-test.true c.item-item.is
    (ap (λ ws. has_word ws c.item-item.result.0.now) (sym c.loop-item.invariant.0) ∙ seen)

pub loop-item-preserved : goal.loop-item-preserved
loop-item-preserved g c =
    let seen = key_seen c.loop-item.met.keys c.item-item.result.0 c.in_ok-is_new.is_new true
    c.in_ok-is_new.ensures.added c.if-not-is_new.false in
    let new = ap (λ ws. has_word ws c.item-item.result.0.now) (sym c.loop-item.invariant.0)
    ∙ seen in (
      keys_more _ _ _ c.in_ok-is_new.ensures.keys seen
          ∙ keys_so_far (λ e. e.0.now) c.args.items.now c.loop-item.item-index c.item-item.result _
          c.loop-item-test.true c.item-item.is c.loop-item.invariant.0,
      new_so_far (λ e. e.0.now) c.args.items.now c.loop-item.item-index c.item-item.result
          c.loop-item-test.true c.item-item.is c.loop-item.invariant.1 new,
    )
