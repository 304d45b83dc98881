-- The block count of a consistent partition is the number of its blocks.
use mathlib.Core.Path.{◌≡◌}
use native.Mathlib.Omega.{arith}
use lib.ListN.{get_or}
use Rattle.partition.specs.Partition.{Partition, Consistent}
use Rattle.partition.proofs.Owned.{owned}
use Rattle.refinement.specs.Blocks.{block_count}
use Rattle.refinement.proofs.Counts.{dense_blocks}

pub count_blocks : (p : Partition) → Consistent p → block_count p.n p.element_to_block ≡ p.count
count_blocks p h =
    dense_blocks p.n p.count p.element_to_block (λ s l. (h.lies s l).known)
    (λ b l.
    let w = h.bounds b l in
    record {
      state = get_or p.elements (get_or p.begin b 0) 0;
      below = h.order.below (get_or p.begin b 0) (omega (arith, w.some, w.most));
      home = owned p h b (get_or p.begin b 0) l (omega arith) w.some;
    })
