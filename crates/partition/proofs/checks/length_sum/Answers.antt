-- `length_sum` meets its contract.
use Rattle.std.proofs.Common.{refl, arith}
use Rattle.partition.specs.Partition.{lengths}
use Rattle.partition.proofs.Lengths.{lengths_more}
use Rattle.partition.proofs.checks.length_sum.Goals as goal
use Rattle.partition.proofs.checks.length_sum.Goals.{then-x-z, else-x-z}

pub loop-b-init : goal.loop-b-init
unfolding lengths
loop-b-init c = record { so_far = refl; small = omega arith }

pub loop-b-preserved : goal.loop-b-preserved
loop-b-preserved c =
    let i = c.loop-b.invariant in
    let x = c.at-x.ensures in
    let z = c.at-z.ensures in
    elim c.if-x-z.branch [
      | then-x-z w ↦ record { so_far = lengths_more _ _ _ _ _ _ _ x.0 z.0 i.so_far w.sum-is; small = omega (arith, w.sum-is) }
      | else-x-z w ↦ record { so_far = lengths_more _ _ _ _ _ _ _ x.0 z.0 i.so_far (omega (arith, w.sum-is)); small = omega (arith, w.sum-is) }
    ]
