-- The loop of `select_rows`: of the rows seen those that stay are pushed.
use Rattle.bisimulation.specs.Quotient.{between}
use Rattle.columns.specs.Blocks.{block_of}
use Rattle.quotient.specs.Naive.{stays}
use Rattle.quotient.proofs.Picks.{RowPicking}
use Rattle.quotient.proofs.cores.select_rows.Given as goal

abbrev pub invariant-loop-i : goal.invariant-loop-i
invariant-loop-i l =
    RowPicking (stays l.inerts l.loops (block_of l.home)) (between (block_of l.home)) l.system.source.now l.system.label.now
    l.system.target.now l.i l.d l.a l.b l.c
