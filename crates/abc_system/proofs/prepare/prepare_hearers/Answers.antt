use Rattle.std.proofs.Common.{◌≡◌, ◌∙◌, ◌<◌, ◌≤◌, ℕ, length, ap, sym, subst}
use Rattle.std.proofs.Math.Seq.{map-set_same}
use Rattle.std.proofs.lemmas.List.Elements.{All-get_or}
use Rattle.abc_term.specs.Standing.{definitions_of}
use Rattle.abc_moves.specs.Labels.{label_of}
use Rattle.abc_system.specs.Members.{live_of, now_in, program_of}
use Rattle.abc_system.proofs.Changing.{item_stays}
use Rattle.abc_system.proofs.Preparing.{next_can, one_more_prepared, all_prepared}
use Rattle.abc_system.proofs.prepare.prepare_hearers.Goals as goal

pub prepare_one-requires-clause-under : goal.prepare_one-requires-clause-under
prepare_one-requires-clause-under c =
    let k = c.loop-i.i in let now = c.loop-i.members in let before = c.args.members.now in let d = c.index-members-i.result in
    let there : k < length before = c.loop-i-test.true in
    let here : k < length now = subst (λ (n : ℕ). k < n) (sym c.loop-i.auto.members) there in
    ap program_of (item_stays k before now d here there c.loop-i.invariant.stays)
    ∙ All-get_or (λ m. program_of m ≡ c.args.definitions.now) before k d there c.requires.under

pub prepare_one-requires-clause-can : goal.prepare_one-requires-clause-can
prepare_one-requires-clause-can c =
    let k = c.loop-i.i in let now = c.loop-i.members in let before = c.args.members.now in
    let there : k < length before = c.loop-i-test.true in
    let here : k < length now = subst (λ (n : ℕ). k < n) (sym c.loop-i.auto.members) there in
    next_can (definitions_of c.args.definitions.now) c.args.sender (label_of c.args.label.now) c.args.heard.now before k now
    c.loop-i.rest.now c.index-members-i.result here there c.loop-i.invariant

pub returns-in_err-rest-clause-live : goal.returns-in_err-rest-clause-live
returns-in_err-rest-clause-live c =
    map-set_same live_of c.loop-i.members c.loop-i.i c.prepare_one.new.member c.index-members-i.result c.prepare_one.ensures.live
    ∙ c.loop-i.invariant.lives

pub returns-in_err-rest-clause-now : goal.returns-in_err-rest-clause-now
returns-in_err-rest-clause-now c =
    map-set_same now_in c.loop-i.members c.loop-i.i c.prepare_one.new.member c.index-members-i.result c.prepare_one.ensures.now
    ∙ c.loop-i.invariant.seen

pub returns-in_err-rest-clause-program : goal.returns-in_err-rest-clause-program
returns-in_err-rest-clause-program c =
    map-set_same program_of c.loop-i.members c.loop-i.i c.prepare_one.new.member c.index-members-i.result c.prepare_one.ensures.program
    ∙ c.loop-i.invariant.program

pub loop-i-preserved : goal.loop-i-preserved
loop-i-preserved c =
    let k = c.loop-i.i in let now = c.loop-i.members in let before = c.args.members.now in
    let there : k < length before = c.loop-i-test.true in
    let here : k < length now = subst (λ (n : ℕ). k < n) (sym c.loop-i.auto.members) there in
    one_more_prepared (definitions_of c.args.definitions.now) c.args.sender (label_of c.args.label.now) c.args.heard.now before k now
    c.loop-i.rest.now c.in_ok-rest.rest.now c.prepare_one.new.member c.index-members-i.result here there c.loop-i.invariant
    c.prepare_one.ensures.live c.prepare_one.ensures.now c.prepare_one.ensures.program c.in_ok-rest.ensures.ready c.in_ok-rest.ensures.part

pub returns-clause-ready : goal.returns-clause-ready
returns-clause-ready c =
    let k = c.loop-i.i in let now = c.loop-i.members in let before = c.args.members.now in
    let most : length before ≤ k = c.loop-i-test.false in
    let le : length now ≤ k = subst (λ (n : ℕ). n ≤ k) (sym c.loop-i.auto.members) most in
    (all_prepared (definitions_of c.args.definitions.now) c.args.sender (label_of c.args.label.now) c.args.heard.now before k now
    c.loop-i.rest.now le most c.loop-i.invariant).1

pub returns-clause-hear : goal.returns-clause-hear
returns-clause-hear c =
    let k = c.loop-i.i in let now = c.loop-i.members in let before = c.args.members.now in
    let most : length before ≤ k = c.loop-i-test.false in
    let le : length now ≤ k = subst (λ (n : ℕ). n ≤ k) (sym c.loop-i.auto.members) most in
    (all_prepared (definitions_of c.args.definitions.now) c.args.sender (label_of c.args.label.now) c.args.heard.now before k now
    c.loop-i.rest.now le most c.loop-i.invariant).0
