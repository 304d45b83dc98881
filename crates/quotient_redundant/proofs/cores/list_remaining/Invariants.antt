-- The loop of `list_remaining`: the rows before i that stay are listed.
use Rattle.table.specs.Lts.{lts_of}
use Rattle.quotient_redundant.proofs.Remaining.{Remaining}
use Rattle.quotient_redundant.proofs.cores.list_remaining.Given as goal

abbrev pub invariant-loop-i : goal.invariant-loop-i
invariant-loop-i l = Remaining (lts_of l.system) l.fn.order l.forward l.order l.i l.k
