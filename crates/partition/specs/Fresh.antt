-- What `BlockPartition::new` says and leaves: one block 0 of all states, order 0..n-1, all marked.
use Rattle.std.specs.Prelude.{true, [], ◌∷◌, set}
use Rattle.columns.specs.Answers.{Refusal}
use Rattle.columns.specs.Answers.{Said, leaving}
use Rattle.columns.specs.Due.{due}
use Rattle.columns.specs.Columns.{written, wiped}
use Rattle.partition.specs.Partition.{Partition, longb}
use Rattle.partition.specs.Checks.{size_tests}

unfoldable pub fresh : Partition → Partition
unfolding written wiped
fresh p =
    record {
      elements = written p.n (λ k. k) p.elements;
      element_offset = written p.n (λ k. k) p.element_offset;
      element_to_block = wiped p.n p.element_to_block;
      begin = set p.begin 0 0;
      marked_split = set p.marked_split 0 0;
      end = set p.end 0 p.n;
      n = p.n;
      count = p.count;
    }

-- 1, 7
unfoldable pub new_refusal : Partition → Refusal
unfolding due longb
new_refusal p = due (size_tests p true)

unfoldable pub new_partition : Partition → Said × Partition
unfolding leaving new_refusal fresh
new_partition p = leaving (new_refusal p) p (p.n ∷ 1 ∷ []) (fresh p)
