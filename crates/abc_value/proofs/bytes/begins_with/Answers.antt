use Rattle.abc_value.proofs.Words.{begins_from}
use Rattle.abc_value.proofs.bytes.begins_with.Goals as goal

pub returns : goal.returns
returns c = begins_from _ _ _ c.starts_with.ensures.value
