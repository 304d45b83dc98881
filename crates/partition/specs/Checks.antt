-- The refusals of the calls that take a partition, in document 01's order.
use Rattle.std.specs.Prelude.{ℕ, Bool, true, ◌&&◌, List, [], ◌∷◌, ◌++◌}
use Rattle.columns.specs.Limits.{inconsistent, too_short}
use Rattle.columns.specs.Answers.{Refusal}
use Rattle.columns.specs.Due.{Test, test, due, states_test, index_test}
use Rattle.partition.specs.Partition.{Partition, consistentb, longb}

-- 1, 7 (`room`: the call's other slices are long enough)
abbrev pub size_tests : Partition → Bool → List Test
size_tests p room =
    states_test p.n
    ∷ test (longb p && room) too_short 0
    ∷ []

-- 1, 7, 14
abbrev pub partition_tests : Partition → Bool → List Test
partition_tests p room = size_tests p room ++ (test (consistentb p) inconsistent 0 ∷ [])

-- a call that takes the partition alone
unfoldable pub partition_refusal : Partition → Refusal
unfolding due longb consistentb
partition_refusal p = due (partition_tests p true)

-- with an argument as well, which must be below a bound
unfoldable pub argument_refusal : Partition → ℕ → ℕ → Bool → Refusal
unfolding due longb consistentb
argument_refusal p i bound room = due (partition_tests p room ++ (index_test i bound ∷ []))

-- with a state; with a block; with two blocks
abbrev pub state_refusal : Partition → ℕ → Refusal
state_refusal p s = argument_refusal p s p.n true

abbrev pub block_refusal : Partition → ℕ → Refusal
block_refusal p b = argument_refusal p b p.count true

unfoldable pub blocks_refusal : Partition → ℕ → ℕ → Refusal
unfolding due longb consistentb
blocks_refusal p l r = due (partition_tests p true ++ (index_test l p.count ∷ index_test r p.count ∷ []))
