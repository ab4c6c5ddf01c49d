use Rattle.abc_value.specs.Sets.{set_of}
use Rattle.std.proofs.Common.{length}
use Rattle.abc_phrases.proofs.Fitting.{members_few, is_set}
use Rattle.abc_phrases.proofs.literal.set_value.Goals as goal

pub unreachable-requires : goal.unreachable-requires
unreachable-requires c =
    let few = members_few c.args.opened.lexemes.now c.args.scalars.items c.args.opened.fits c.requires in
    is_set (length (set_of c.args.scalars.items)) (set_of c.args.scalars.items) c.from_scalars.result few c.from_scalars.ensures c.in-None.is
