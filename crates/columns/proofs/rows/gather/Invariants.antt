-- The loop of `gather`.
use Rattle.std.proofs.Common.{length, get_or}
use Rattle.columns.specs.Columns.{cell}
use Rattle.columns.proofs.Lists.{Painted}
use Rattle.columns.proofs.rows.gather.Given as goal

abbrev pub invariant-loop-i : goal.invariant-loop-i
invariant-loop-i l = Painted (λ k. cell l.a (get_or l.order k 0)) (length l.order) l.initial.to l.i l.to
