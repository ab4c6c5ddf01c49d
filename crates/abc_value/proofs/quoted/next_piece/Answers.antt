use Rattle.abc_value.proofs.Pieces.{no_end_byte}
use Rattle.abc_value.proofs.quoted.next_piece.Goals as goal

pub returns-then-not-is_printable : goal.returns-then-not-is_printable
returns-then-not-is_printable c = no_end_byte c.args.bytes.now c.if-first-eq34.false c.if-first-eq92.false (λ p. let f = c.if-not-is_printable.ensures.1 p in cc)
