-- The loop of `read_column`: the cells before this one are read.
use Rattle.std.proofs.Common.{◌+◌, ◌*◌}
use Rattle.columns.proofs.Lists.{Painted}
use Rattle.file.specs.Bytes.{little}
use Rattle.file.specs.Layout.{row_size}
use Rattle.file.proofs.cores.read_column.Given as goal

abbrev pub invariant-loop-i : goal.invariant-loop-i
invariant-loop-i l = Painted (λ k. little 2 l.bytes (l.from + row_size * k)) l.m l.initial.to l.i l.to
