use Rattle.abc_number.proofs.FirstNumbers.{IsStrictlyIncreasing-first_numbers, Contains-first_numbers}
use Rattle.abc_number.proofs.laws.first_numbers_are_drawn_once.Goals as goal

pub returns : goal.returns
returns c = record { rise = IsStrictlyIncreasing-first_numbers; all = Contains-first_numbers }
