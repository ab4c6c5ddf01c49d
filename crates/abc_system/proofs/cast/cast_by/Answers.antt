use Rattle.std.proofs.Common.{◌≡◌, ◌∙◌, ◌++◌, true, false, List, ℕ, map, refl, sym, subst}
use Rattle.abc_term.specs.Standing.{definitions_of}
use Rattle.abc_moves.specs.Labels.{label_of}
use Rattle.abc_steps.specs.Hearers.{CanHear}
use Rattle.abc_system.specs.Members.{now_in}
use Rattle.abc_system.specs.Saying.{CannotSay, IsSaidBy}
use Rattle.abc_system.proofs.Choosing.{no_output, unheard, said_there, at_some, at_none}
use Rattle.abc_system.proofs.cast.cast_by.Goals as goal

pub returns-in_default : goal.returns-in_default
returns-in_default c T =
    let defs = definitions_of c.args.definitions.now in
    let members = c.args.members.now in
    let choice = c.args.choice.now in
    no_output defs (map now_in members) choice.sender c.args.place choice.heard T
    (at_none (CannotSay defs (map now_in members) choice.sender c.args.place) (IsSaidBy defs members choice.sender c.args.place)
    c.in_ok-said.field-0 c.in_default.is c.in_ok-said.ensures)

pub returns-then-not-can_hear : goal.returns-then-not-can_hear
returns-then-not-can_hear c T =
    let defs = definitions_of c.args.definitions.now in
    let members = c.args.members.now in
    let choice = c.args.choice.now in
    unheard defs members choice.sender c.args.place c.in-Some.said choice.heard T
    (at_some (CannotSay defs (map now_in members) choice.sender c.args.place) (IsSaidBy defs members choice.sender c.args.place)
    c.in_ok-said.field-0 c.in-Some.said c.in-Some.is c.in_ok-said.ensures)
    (λ can.
    let no : false ≡ true =
    c.if-not-can_hear.ensures.1
    (subst (λ (hs : List (ℕ × ℕ)). CanHear defs choice.sender (label_of c.in-Some.said.label) 0 (map now_in members) hs)
    (sym c.as_slice.ensures) can) in
    cc)

pub returns : goal.returns
returns c =
    let defs = definitions_of c.args.definitions.now in
    let members = c.args.members.now in
    let choice = c.args.choice.now in
    let said =
    at_some (CannotSay defs (map now_in members) choice.sender c.args.place) (IsSaidBy defs members choice.sender c.args.place)
    c.in_ok-said.field-0 c.in-Some.said c.in-Some.is c.in_ok-said.ensures in
    let copied : c.extend_from_slice.new.self ≡ choice.heard =
    c.in_ok-extend_from_slice.ensures.ok ∙ (λ i. c.new-heard.ensures i ++ c.as_slice-2.ensures i) in (
      record {
        said = said_there defs members choice.sender c.args.place c.in-Some.said said;
        can =
            subst (λ (hs : List (ℕ × ℕ)). CanHear defs choice.sender (label_of c.in-Some.said.label) 0 (map now_in members) hs)
            (c.as_slice.ensures ∙ sym copied) (c.if-not-can_hear.ensures.0 refl);
      },
      refl,
      said.2,
      copied,
    )
