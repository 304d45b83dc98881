-- A run on a partition in columns: the block count tells whether a round has split something.
use mathlib.Core.Path.{◌≡◌, sym, ap, ◌∙◌}
use mathlib.Core.List.{List}
use Prim.Native.Nat.{ℕ, ◌+◌, ◌≤◌, ◌<◌}
use native.Mathlib.Omega.{arith}
use Rattle.partition.specs.Partition.{Partition, Consistent}
use Rattle.refinement_partition.proofs.Counts.{count_blocks}
use Rattle.refinement.specs.Blocks.{block_count}
use Rattle.refinement.specs.Rounds.{Signature, ByBlocks, Refined}
use Rattle.refinement.specs.Runs.{Settled}
use Rattle.refinement.proofs.Ties.{Running, run_few, run_more, run_done}

module _
    (n : ℕ) (sig : Signature) (by : ByBlocks n sig) (k : ℕ) (home : List ℕ) (count : ℕ) (r : Running n sig k home)
    (e : block_count n home ≡ count)
  where
    -- fewer rounds than blocks
    pub rounds_below : 0 < n → k < count
    rounds_below h = omega (arith, run_few n sig by k home r h, e)

    -- the round has made of it the partition q
    module _ (q : Partition) (c : Consistent q) (same : q.n ≡ n) (d : Refined n sig home q.element_to_block) where
      now : block_count n q.element_to_block ≡ q.count
      now = ap (λ (x : ℕ). block_count x q.element_to_block) (sym same) ∙ count_blocks q c

      pub round_more : count < q.count → Running n sig (k + 1) q.element_to_block
      round_more l = run_more n sig by k home r q.element_to_block d (omega (arith, now, e))

      pub round_done : 0 < n → q.count ≤ count → Settled n sig k q.element_to_block
      round_done h l = run_done n sig by k home r q.element_to_block d h (omega (arith, now, e))
