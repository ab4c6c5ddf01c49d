use Rattle.abc_text.proofs.Forward.{good_within}
use Rattle.abc_lexer.proofs.lexer.read_token.Goals as goal

pub split_at-requires : goal.split_at-requires
split_at-requires c = (good_within _ _ _ _ c.in-Good.ensures.0).1
