-- A partition, in any numbering, on its way through the rounds: what stands between the blocks of one round, and what stands at the end.
use Rattle.std.specs.Prelude.{◌≡◌, ◌⊎◌, List, ℕ, ◌≤◌, ◌<◌}
use Rattle.columns.specs.Blocks.{block_of, Finer}
use Rattle.refinement.specs.Blocks.{by_least}
use Rattle.refinement.specs.Rounds.{Signature, splitting_rounds, final}

-- q is p with the blocks numbered below b split by signature under p; `count` is meant to be the block count of p
pub record RefinedBelow (n : ℕ) (sig : Signature) (p : List ℕ) (count b : ℕ) (q : List ℕ) : Type 0 where
  pub block : Finer n q p
  pub signature : (s t : ℕ) → s < n → t < n → block_of q s ≡ block_of q t → block_of p s < b → sig p s ≡ sig p t
  pub joined :
      (s t : ℕ) → s < n → t < n → block_of p s ≡ block_of p t → (block_of p s < b → sig p s ≡ sig p t) → block_of q s ≡ block_of q t
  pub coming : (s : ℕ) → s < n → b ≤ block_of p s → block_of q s ≡ block_of p s
  pub passed : (s : ℕ) → s < n → block_of p s < b → (block_of q s < b) ⊎ (count ≤ block_of q s)

-- the run is over: k is the number of rounds that split something, and p has the blocks that they leave
pub record Settled (n : ℕ) (sig : Signature) (k : ℕ) (p : List ℕ) : Type 0 where
  pub rounds : k ≡ splitting_rounds n sig
  pub numbers : by_least n p ≡ final n sig
