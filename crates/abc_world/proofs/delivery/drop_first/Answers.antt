use Rattle.abc_world.proofs.Delivered.{first-taken}
use Rattle.abc_world.proofs.delivery.drop_first.Goals as goal

pub returns : goal.returns
returns g c =
    record {
      taken = first-taken c.args.links.now c.take_first-first.new.self c.args.link c.take_first-first.result
          c.requires.there c.take_first-first.ensures.first c.take_first-first.ensures.empty;
    }
