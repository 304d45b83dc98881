-- The loop of `select_chosen`: of the rows seen those of chosen states are pushed.
use Rattle.std.proofs.Common.{get_or}
use Rattle.bisimulation.specs.Quotient.{between}
use Rattle.columns.specs.Blocks.{block_of}
use Rattle.quotient.proofs.Picks.{RowPicking}
use Rattle.quotient_block.specs.Chosen.{of_chosen}
use Rattle.quotient_block.proofs.cores.select_chosen.Given as goal

abbrev pub invariant-loop-i : goal.invariant-loop-i
invariant-loop-i l =
    RowPicking (of_chosen l.loops (λ b. get_or l.chosen b 0) (block_of l.home)) (between (block_of l.home)) l.system.source.now
    l.system.label.now l.system.target.now l.i l.d l.a l.b l.c
