-- The loop of `choose_all`: the blocks below b have a state, which stands in their cells.
use Rattle.quotient_block.proofs.Choosing.{Choosing}
use Rattle.quotient_block.specs.Chosen.{choice}
use Rattle.table.specs.Lts.{lts_of}
use Rattle.quotient_block.proofs.cores.choose_all.Given as goal

abbrev pub invariant-loop-b : goal.invariant-loop-b
invariant-loop-b l =
    Choosing (choice l.branching (lts_of l.system) l.home l.elements l.begin) l.system.table.n l.fn.chosen l.b l.chosen
