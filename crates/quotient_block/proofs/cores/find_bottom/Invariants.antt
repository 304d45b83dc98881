-- The loop of `find_bottom`: where the walk is after so many steps, and that it has met no bottom state before.
use Rattle.quotient_block.proofs.Walks.{Walking}
use Rattle.table.specs.Lts.{lts_of}
use Rattle.quotient_block.proofs.cores.find_bottom.Given as goal

abbrev pub invariant-loop : goal.invariant-loop
invariant-loop l = Walking (lts_of l.system) l.home l.s l.counter l.u
