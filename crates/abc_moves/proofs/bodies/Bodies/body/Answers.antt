use Rattle.std.proofs.Common.{◌≡◌, ◌∙◌, ◌<◌, Some, None, length, sym, ap, zero-add, arith, rules}
use Rattle.std.proofs.lemmas.Grind.{common_steps}
use Rattle.abc_moves.specs.Bodies.{place_from}
use Rattle.abc_moves.proofs.Finding.{found_within, found_body, found_none}
use Rattle.abc_moves.proofs.bodies.Bodies.body.Goals as goal

pub bounds-self-at : goal.bounds-self-at
bounds-self-at c =
    let self = c.args.self.now in let n = c.args.name.0 in let k = c.in-Some.at.now in
    let e : place_from 0 self.definitions.now n ≡ Some k = sym (self.finds n) ∙ sym c.in-Some.ensures.value in
    let h = found_within 0 self.definitions.now n k e in let high = h.1 in omega arith

pub offset_bounds-self-at : goal.offset_bounds-self-at
offset_bounds-self-at c =
    let self = c.args.self.now in let n = c.args.name.0 in let k = c.in-Some.at.now in
    let e : place_from 0 self.definitions.now n ≡ Some k = sym (self.finds n) ∙ sym c.in-Some.ensures.value in
    let h = found_within 0 self.definitions.now n k e in let high = h.1 in
    let within : k < length self.definitions.now = omega arith in
    first_of (search (rules, within), omega (arith, within), grind (arith, common_steps, within))

pub returns-in-Some : goal.returns-in-Some
returns-in-Some c =
    let self = c.args.self.now in let name = c.args.name in let k = c.in-Some.at.now in
    let e : place_from 0 self.definitions.now name.0 ≡ Some k = sym (self.finds name.0) ∙ sym c.in-Some.ensures.value in
    found_body 0 self.definitions.now name k c.index-self-at.result (e ∙ ap Some (sym (zero-add k)))

pub returns-in-None : goal.returns-in-None
returns-in-None c =
    let self = c.args.self.now in let name = c.args.name in
    let e : place_from 0 self.definitions.now name.0 ≡ None = sym (self.finds name.0) ∙ sym c.in-None.ensures.value in
    sym (found_none 0 self.definitions.now name e)
