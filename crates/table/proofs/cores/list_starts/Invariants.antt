-- The loop of `list_starts`: i is where the rows of s begin, and the cells before s are written.
use Rattle.std.proofs.Common.{◌≡◌, length}
use Rattle.columns.proofs.Lists.{Painted}
use Rattle.table.specs.Stretch.{first_row}
use Rattle.table.proofs.cores.list_starts.Given as goal

abbrev pub invariant-loop-s : goal.invariant-loop-s
invariant-loop-s l = record {
  begin : l.i ≡ first_row l.source l.m l.s;
  written : Painted (first_row l.source l.m) (length l.fn.starts) l.fn.starts l.s l.starts;
}
