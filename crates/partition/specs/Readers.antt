-- What the calls say that read a partition and change nothing.
use Rattle.std.specs.Prelude.{ℕ, ◌-◌, not, cond, List, [], ◌∷◌, get_or, take, drop, eqb}
use Rattle.columns.specs.Answers.{Said, answering}
use Rattle.columns.specs.Counting.{bit}
use Rattle.partition.specs.Partition.{Partition, home_of}
use Rattle.partition.specs.Marked.{unmarkedb}
use Rattle.partition.specs.Checks.{partition_refusal, argument_refusal, state_refusal, block_refusal}

unfoldable pub num_of_blocks : Partition → Said
unfolding answering partition_refusal
num_of_blocks p = answering (partition_refusal p) (p.count ∷ [])

unfoldable pub len_of : Partition → Said
unfolding answering partition_refusal
len_of p = answering (partition_refusal p) (p.n ∷ [])

unfoldable pub block_number : Partition → ℕ → Said
unfolding answering argument_refusal
block_number p s = answering (state_refusal p s) (home_of p s ∷ [])

unfoldable pub is_element_marked : Partition → ℕ → Said
unfolding answering argument_refusal unmarkedb
is_element_marked p s = answering (state_refusal p s) (bit (not (unmarkedb p s)) ∷ [])

unfoldable pub read_block : Partition → ℕ → Said
unfolding answering argument_refusal
read_block p b = answering (block_refusal p b) (get_or p.begin b 0 ∷ get_or p.marked_split b 0 ∷ get_or p.end b 0 ∷ [])

-- the states of block b, in their order
unfoldable pub stretch : Partition → ℕ → List ℕ
stretch p b = take (get_or p.end b 0 - get_or p.begin b 0) (drop (get_or p.begin b 0) p.elements)

-- the block's stretch, and the empty part where the call is refused
unfoldable pub iter_block : Partition → ℕ → List ℕ
unfolding stretch argument_refusal
iter_block p b = cond (eqb (block_refusal p b).number 0) (stretch p b) []

-- where that part begins in `elements`: at the block's begin, and at 0 where the call is refused
unfoldable pub iter_begin : Partition → ℕ → ℕ
unfolding argument_refusal
iter_begin p b = cond (eqb (block_refusal p b).number 0) (get_or p.begin b 0) 0

unfoldable pub iter_block_refusal : Partition → ℕ → Said
unfolding answering argument_refusal
iter_block_refusal p b = answering (block_refusal p b) []
