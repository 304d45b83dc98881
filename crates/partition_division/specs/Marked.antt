-- The marked states of a block and their numbers. p is the partition that is lent, b the block, v the column of the numbers.
use Rattle.std.specs.Prelude.{ℕ, Bool, true, cond, ◌&&◌, List, ◌==◌, nat_lt, slice_index}
use Rattle.columns.specs.Counting.{many, first, all}
use Rattle.columns.specs.Columns.{length_in}
use Rattle.partition.specs.Marked.{marked_in}
use Rattle.partition.specs.Partition.{Partition}

-- state s is a marked one of block b, and its number is k; is below k
unfoldable pub numbered : Partition → ℕ → List ℕ → ℕ → ℕ → Bool
numbered p b v k s = marked_in p b s && slice_index v s == k

unfoldable pub below : Partition → ℕ → List ℕ → ℕ → ℕ → Bool
below p b v k s = marked_in p b s && nat_lt (slice_index v s) k

-- no marked state has the number k
unfoldable pub absent : Partition → ℕ → List ℕ → ℕ → Bool
absent p b v k = many p.n (numbered p b v k) == 0

-- the least missing number
unfoldable pub missing : Partition → ℕ → List ℕ → ℕ
missing p b v = first p.n (absent p b v)

-- the numbers of the marked states are dense: none is above the least missing one
unfoldable pub denseb : Partition → ℕ → List ℕ → Bool
denseb p b v = all p.n (λ s. cond (marked_in p b s) (nat_lt (slice_index v s) (missing p b v)) true)

unfoldable pub len_at : Partition → ℕ → ℕ
unfolding length_in
len_at p b = length_in p.begin p.end b
