-- The loop of `count_up`.
use Rattle.std.proofs.Common.{length}
use Rattle.columns.proofs.Lists.{Painted}
use Rattle.columns.proofs.cells.count_up.Given as goal

abbrev pub invariant-loop-i : goal.invariant-loop-i
invariant-loop-i l = Painted (λ k. k) (length l.initial.a) l.initial.a l.i l.a
