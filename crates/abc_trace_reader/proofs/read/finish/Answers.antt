use Rattle.std.proofs.Common.{sym, subst}
use Rattle.std.specs.Prelude.{All}
use Rattle.abc_text.specs.Spelling.{IsWordSpelling}
use Rattle.abc_trace_reader.proofs.Stepping.{unmapped}
use Rattle.abc_trace_reader.proofs.read.finish.Goals as goal

pub texts-requires : goal.texts-requires
texts-requires c = unmapped c.words.result.now (subst (All IsWordSpelling) (sym c.words.ensures) c.requires.words)
