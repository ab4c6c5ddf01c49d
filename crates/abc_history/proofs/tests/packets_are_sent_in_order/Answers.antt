use Rattle.std.proofs.Common.{◌<◌, ap, ◌∙◌, sym, subst, arith, ◌++◌, ◌∷◌, []}
use Rattle.abc_history.specs.Outs.{AreOnLinks}
use Rattle.abc_history.proofs.tests.packets_are_sent_in_order.Goals as goal

-- The outlet has four links, and the packets go on 3 and 1.
pub send_all-requires-clause-links : goal.send_all-requires-clause-links
send_all-requires-clause-links g c =
    let third = (c.make_room.ensures.links 3).0 (subst (λ n. 3 < n) (sym c.new-outlet.ensures.links) (omega arith)) in
    let first = (c.make_room.ensures.links 1).0 (subst (λ n. 1 < n) (sym c.new-outlet.ensures.links) (omega arith)) in
    let items = c.in_ok-push_back-2.ensures.items
    ∙ ap (λ l. l ++ (1, c.request-2.result) ∷ [])
    (c.in_ok-push_back.ensures.items ∙ ap (λ l. l ++ (3, c.request.result) ∷ []) c.new-ready.ensures.items) in
    subst (AreOnLinks (λ l. l < c.make_room.new.self.links)) (sym items) (third, (first, tt))
