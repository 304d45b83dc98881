-- The loop of `put_number`: what is left of x, written from here on, makes up the whole.
use Rattle.file.proofs.Digits.{Put}
use Rattle.file.proofs.numbers.put_number.Given as goal

abbrev pub invariant-loop-byte : goal.invariant-loop-byte
invariant-loop-byte l = Put l.width l.x l.byte-index l.rest l.byte-items
