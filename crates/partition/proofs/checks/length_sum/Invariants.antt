-- The loop of `length_sum`: what is added up so far, and that it fits.
use Rattle.std.proofs.Common.{◌≡◌, ◌≤◌, ◌*◌}
use Rattle.partition.specs.Partition.{lengths}
use Rattle.partition.proofs.checks.length_sum.Given as goal

abbrev pub invariant-loop-b : goal.invariant-loop-b
invariant-loop-b l = record { so_far : l.sum ≡ lengths l.begin l.end l.b; small : l.sum ≤ 65535 * l.b }
