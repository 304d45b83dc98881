-- The loop of `push_outer`: the pairs of the rows seen that leave the block or are visible are pushed.
use Rattle.table.specs.Lts.{lts_of}
use Rattle.signatures_branching.proofs.Outer.{Outward}
use Rattle.signatures_branching.proofs.cores.push_outer.Given as goal

abbrev pub invariant-loop-i : goal.invariant-loop-i
invariant-loop-i l =
    Outward (lts_of l.system) l.element_to_block l.b l.x l.initial.i l.i-end l.initial.pushed_labels
    l.initial.pushed_blocks l.fn.d l.i l.k l.pushed_labels l.pushed_blocks
