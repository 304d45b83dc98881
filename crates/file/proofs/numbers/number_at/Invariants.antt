-- The loop of `number_at`: the bytes from here on are read.
use Rattle.file.proofs.Digits.{Read}
use Rattle.file.proofs.numbers.number_at.Given as goal

abbrev pub invariant-loop-i : goal.invariant-loop-i
invariant-loop-i l = Read l.bytes l.at l.width l.i l.x
