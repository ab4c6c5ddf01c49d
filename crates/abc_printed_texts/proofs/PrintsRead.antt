-- The bytes of a print are tokens that stand for its lexemes.
use Rattle.abc_printed.specs.Forms.{pred_parts, program_parts}
use Rattle.abc_printed_texts.specs.Read.{PrintsAreRead}
use Rattle.abc_printed_texts.proofs.ReadParts.{tokens_from, good_are_read}
use Rattle.abc_printed_texts.proofs.Terms.{pred_good, program_good}

pub prints_are_read : PrintsAreRead
prints_are_read = record {
  preds = λ words p values has. (tokens_from words 0 (pred_parts p), good_are_read words (pred_parts p) has (pred_good p values));
  programs = λ words p values has. (tokens_from words 0 (program_parts p), good_are_read words (program_parts p) has (program_good p values));
}
