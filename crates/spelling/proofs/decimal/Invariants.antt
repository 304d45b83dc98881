-- The digits still to write, and then those written, are the digits of the number.
use Rattle.std.proofs.Common.{◌≡◌, ◌++◌, length}
use lib.Seq.{slice}
use Rattle.spelling.specs.Digits.{last_digits}
use Rattle.spelling.proofs.decimal.Given as goal

abbrev pub invariant-loop-i : goal.invariant-loop-i
invariant-loop-i l = record {
  room : length l.text ≡ 20;
  same : last_digits l.i l.rest ++ slice l.i l.count l.text ≡ last_digits l.count l.number;
}
