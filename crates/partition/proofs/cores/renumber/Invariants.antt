-- The loop of `renumber`: the states so far have their number.
use Rattle.std.proofs.Common.{◌≡◌, ◌+◌}
use Rattle.partition.specs.SwapBlocks.{renumbered}
use Rattle.partition.proofs.cores.renumber.Given as goal

abbrev pub invariant-loop-s : goal.invariant-loop-s
invariant-loop-s l = l.element_to_block ≡ renumbered l.elements l.x (l.x + l.s-index) l.v l.fn.element_to_block
