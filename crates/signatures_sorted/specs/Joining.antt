-- States on the way to the sorted signature: what the proofs go by, nothing that the contract of an operation says.
use Rattle.std.specs.Prelude.{◌≡◌, ℕ, ◌+◌, ◌<◌, List, length, slice_index}
use Rattle.columns.specs.Rows.{pairs_of}
use Rattle.columns.specs.Sets.{Pair, pair_lt, add_all}
use Rattle.pairs.specs.Lists.{start_at}
use Rattle.pairs_merge.specs.Merged.{Heads, wide}
use Rattle.pairs_merge.specs.Rest.{merge_of}

-- the first k heads are the given lists of k states
pub record Opened (starts states : List ℕ) (k : ℕ) (high low end_high end_low : List ℕ) : Type 0 where
  pub count : k ≡ length states
  pub place : (j : ℕ) → j < k → wide high low j ≡ start_at starts (slice_index states j)
  pub end : (j : ℕ) → j < k → wide end_high end_low j ≡ start_at starts (slice_index states j + 1)

-- the first own pairs, and those of k lists, as a set
unfoldable pub joint_set : ℕ → List ℕ → List ℕ → Heads → ℕ → List Pair
unfolding add_all pair_lt pairs_of merge_of
joint_set own labels blocks d k = add_all pair_lt (pairs_of own labels blocks) (merge_of d k)
