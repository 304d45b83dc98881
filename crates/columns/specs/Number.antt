-- Blocks of an equivalence of numbers, numbered by least member.
use Rattle.std.specs.Prelude.{Bool, ℕ}
use Rattle.std.proofs.Math.Dec.{eqb}
use Rattle.columns.specs.Counting.{first, many}

module _ (eq : ℕ → ℕ → Bool) where
  -- the least member of the block of s
  unfoldable pub least : ℕ → ℕ
  unfolding first
  least s = first s (λ t. eq t s)

  -- s is the least member of its block
  unfoldable pub leads : ℕ → Bool
  unfolding least
  leads s = eqb (least s) s

  -- the number of a block: how many blocks have a smaller least member
  unfoldable pub number : ℕ → ℕ
  unfolding leads many
  number s = many (least s) leads
