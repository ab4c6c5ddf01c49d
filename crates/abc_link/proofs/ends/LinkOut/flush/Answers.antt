use Rattle.std.proofs.Common.{rules, ◌∷◌, [], ◌++◌, ap, ◌∙◌, arith}
use Rattle.abc_link.proofs.Moving.{Moves-one, reached}
use Rattle.abc_link.proofs.ends.LinkOut.flush.Goals as goal

pub moving-preserved : goal.moving-preserved
moving-preserved g c =
    let looked = c.is_full.ensures.looked in
    let pushes = c.push_reserved.ensures.sent in
    let into = pushes.0 ∙ ap (λ l. l ++ c.in-Some.item ∷ []) looked.1 in
    record {
      moves = Moves-one c.args.self.now c.moving.self _ c.args.pool.now c.moving.pool c.pop.new.self c.in-Some.item
          c.moving.invariant.moves (search rules) into c.in-Some.ensures.first c.pop.ensures.number c.pop.ensures.cells;
      exists = let n = c.pop.ensures.number in let e = c.moving.invariant.exists in omega arith;
      reach = reached _ _ _ _ _ _ _ c.in-Some.item c.moving.invariant.reach looked.1 looked.2 pushes.0 pushes.1;
    }
