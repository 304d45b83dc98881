-- The numbers passed are put.
use Rattle.std.proofs.Common.{◌≡◌, take}
use Rattle.replay_lines.specs.Text.{puts}
use Rattle.replay_lines.specs.Spelling.{spelled_all}
use Rattle.replay_lines.proofs.output.numbers.Given as goal

abbrev pub invariant-loop-value : goal.invariant-loop-value
invariant-loop-value l = (l.at, l.out.bytes) ≡ puts (spelled_all (take l.value-index l.numbers)) (l.used, l.initial.out.bytes)
