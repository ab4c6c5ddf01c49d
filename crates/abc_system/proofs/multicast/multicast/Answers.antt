use Rattle.std.proofs.Common.{◌∙◌, ◌<◌, ℕ, List, All, map, ap, sym, subst}
use Rattle.std.proofs.lemmas.Option.{slice_get_within}
use Rattle.abc_term.specs.Standing.{definitions_of}
use Rattle.abc_moves.specs.Labels.{label_of}
use Rattle.abc_steps.specs.Hearers.{AllHear}
use Rattle.abc_system.specs.Members.{live_of, now_in, then_in, program_of, IsReady}
use Rattle.abc_system.proofs.Casting.{as_long, sender_in, all_ready, all_cast, same_programs, still_under}
use Rattle.abc_system.proofs.multicast.multicast.Goals as goal

pub returns-in_err-prepare_hearers-clause-program : goal.returns-in_err-prepare_hearers-clause-program
returns-in_err-prepare_hearers-clause-program c =
    still_under c.args.definitions.now c.args.members.now c.prepare_hearers.new.members c.prepare_hearers.ensures.program c.requires.under

pub make_ready-requires : goal.make_ready-requires
make_ready-requires c =
    let before = c.args.members.now in let prepared = c.prepare_hearers.new.members in
    subst (λ (n : ℕ). c.args.cast.sender < n) (sym (as_long live_of prepared before c.prepare_hearers.ensures.live))
    (slice_get_within before c.args.cast.sender c.requires.cast.said.0 c.requires.cast.said.1)

pub put_all-requires : goal.put_all-requires
put_all-requires c =
    let before = c.args.members.now in let prepared = c.prepare_hearers.new.members in
    let own = sender_in before prepared c.args.cast.sender c.requires.cast.said.0 c.prepare_hearers.ensures.live c.requires.cast.said.1 in
    subst (All IsReady) (sym (c.make_ready.ensures own.member own.at))
    (all_ready c.args.definitions.now c.args.cast.sender c.args.cast.said before prepared c.args.cast.heard c.requires.under c.requires.cast.said
    c.prepare_hearers.ensures.live c.in_ok-prepare_hearers.ensures.ready own.member own.at)

pub returns-clause-step : goal.returns-clause-step
returns-clause-step c =
    let before = c.args.members.now in let prepared = c.prepare_hearers.new.members in
    let own = sender_in before prepared c.args.cast.sender c.requires.cast.said.0 c.prepare_hearers.ensures.live c.requires.cast.said.1 in
    all_cast c.args.definitions.now c.args.cast.sender c.args.cast.said before prepared c.args.cast.heard c.requires.cast.said
    c.prepare_hearers.ensures.live
    (subst (λ (hs : List (ℕ × ℕ)). AllHear (definitions_of c.args.definitions.now) c.args.cast.sender (label_of c.args.cast.said.label) 0
    (map now_in before) hs (map then_in prepared)) c.as_slice.ensures c.in_ok-prepare_hearers.ensures.hear)
    own.member own.at c.put_all.new.members
    (c.put_all.ensures.moved ∙ ap (map then_in) (c.make_ready.ensures own.member own.at))

pub returns-clause-program : goal.returns-clause-program
returns-clause-program c =
    let before = c.args.members.now in let prepared = c.prepare_hearers.new.members in
    let own = sender_in before prepared c.args.cast.sender c.requires.cast.said.0 c.prepare_hearers.ensures.live c.requires.cast.said.1 in
    still_under c.args.definitions.now before c.put_all.new.members
    (c.put_all.ensures.program ∙ ap (map program_of) (c.make_ready.ensures own.member own.at)
    ∙ same_programs prepared c.args.cast.sender own.member c.args.cast.said.made own.at ∙ c.prepare_hearers.ensures.program)
    c.requires.under
