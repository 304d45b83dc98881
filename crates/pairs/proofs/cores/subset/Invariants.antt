-- The loop of `subset`: what is passed of self is below all that is left of other.
use Rattle.std.proofs.Common.{length}
use Rattle.columns.specs.Rows.{pair_at}
use Rattle.pairs.specs.Pairs.{end_of}
use Rattle.pairs.proofs.Walking.{SubsetWalk}
use Rattle.pairs.proofs.cores.subset.Given as goal

abbrev pub invariant-loop-l : goal.invariant-loop-l
invariant-loop-l l =
    SubsetWalk l.n (end_of l.other_labels l.other_blocks) (pair_at l.self_labels l.self_blocks) (pair_at l.other_labels l.other_blocks)
    (l.label, l.block) l.i (length l.yielded)
