-- Partitions of the states below n, each as the column of the states' block numbers, in any numbering.
use Rattle.std.specs.Prelude.{◌≡◌, Bool, List, ℕ, ◌<◌, eqb}
use Rattle.columns.specs.Blocks.{block_of, Finer}
use Rattle.columns.specs.Columns.{listed}
use Rattle.columns.specs.Counting.{many}
use Rattle.columns.specs.Number.{leads, number}

-- p and q have the same blocks
pub record SameBlocks (n : ℕ) (p q : List ℕ) : Type 0 where
  pub to : Finer n p q
  pub from : Finer n q p

-- two states share a block
unfoldable pub share : List ℕ → ℕ → ℕ → Bool
share p s t = eqb (block_of p s) (block_of p t)

-- how many blocks there are
unfoldable pub block_count : ℕ → List ℕ → ℕ
unfolding share leads many
block_count n p = many n (leads (share p))

-- the same blocks, numbered by least member
unfoldable pub by_least : ℕ → List ℕ → List ℕ
unfolding share number listed
by_least n p = listed n (number (share p))
