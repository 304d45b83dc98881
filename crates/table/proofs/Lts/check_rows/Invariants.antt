-- The loop of `check_rows` has passed only rows without a fault.
use Rattle.table.specs.Lts.{lts_of}
use Rattle.table.proofs.Refusals.{Right}
use Rattle.table.proofs.Lts.check_rows.Given as goal

abbrev pub invariant-loop-i : goal.invariant-loop-i
invariant-loop-i l = Right (lts_of l.self) l.i
