-- The letters passed are put.
use Rattle.std.proofs.Common.{◌≡◌, take}
use Rattle.replay_lines.specs.Text.{puts}
use Rattle.replay_lines.proofs.output.word.Given as goal

abbrev pub invariant-loop-letter : goal.invariant-loop-letter
invariant-loop-letter l = (l.at, l.out.bytes) ≡ puts (take l.letter-index l.word) (l.used, l.initial.out.bytes)
