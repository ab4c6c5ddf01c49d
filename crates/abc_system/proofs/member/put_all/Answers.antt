use Rattle.std.proofs.Common.{◌∙◌, ◌<◌, ℕ, length, sym, subst}
use Rattle.std.proofs.Math.Seq.{map-set_same}
use Rattle.std.proofs.lemmas.List.Elements.{All-get_or}
use Rattle.abc_system.specs.Members.{now_in, then_in, program_of, IsReady}
use Rattle.abc_system.proofs.Changing.{item_stays, one_more_changed}
use Rattle.abc_system.proofs.member.put_all.Goals as goal

pub put-requires : goal.put-requires
put-requires c =
    let k = c.loop-member.member-index in
    let now = c.loop-member.members in
    let before = c.args.members.now in
    let there : k < length before = c.loop-member-test.true in
    let here : k < length now = subst (λ (n : ℕ). k < n) (sym c.loop-member.auto.members) there in
    let same = item_stays k before now c.member-item.result here there c.loop-member.invariant.0.rest in
    subst IsReady (sym same) (All-get_or IsReady before k c.member-item.result there c.requires)

pub loop-member-preserved : goal.loop-member-preserved
loop-member-preserved c =
    let k = c.loop-member.member-index in
    let now = c.loop-member.members in
    let before = c.args.members.now in
    let d = c.member-item.result in
    let there : k < length before = c.loop-member-test.true in
    let here : k < length now = subst (λ (n : ℕ). k < n) (sym c.loop-member.auto.members) there in (
      one_more_changed now_in then_in k before now c.put.new.self d here there c.loop-member.invariant.0
          c.put.ensures.moved,
      map-set_same program_of now k c.put.new.self d c.put.ensures.program ∙ c.loop-member.invariant.1,
    )
