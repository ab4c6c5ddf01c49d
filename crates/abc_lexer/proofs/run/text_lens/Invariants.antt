use Rattle.std.proofs.Common.{◌≡◌, ◌+◌, ◌≤◌, false, length}
use Rattle.abc_text.specs.Tokens.{text_len, text_value}
use Rattle.abc_lexer.proofs.TextLens.{more_by}
use Rattle.abc_lexer.proofs.run.text_lens.Given as goal

abbrev pub invariant-loop-first : goal.invariant-loop-first
invariant-loop-first l = record {
  lens : more_by l.len (text_len l.escape l.rest) ≡ text_len false l.bytes;
  sizes : length (text_value l.escape l.rest) + l.size ≡ length (text_value false l.bytes);
  within : l.len + length l.rest ≡ length l.bytes;
  small : l.size ≤ l.len;
}

abbrev pub decreases-loop-first : goal.decreases-loop-first
decreases-loop-first l = length l.rest
