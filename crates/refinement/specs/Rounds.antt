-- Refinement in rounds, by any signature: all states in one block; each round splits every block by signature under the partition that
-- the round starts with; stop when none splits. Blocks are numbered by least member after every round, so that two equal columns say
-- that nothing was split.
use Rattle.std.specs.Prelude.{◌≡◌, Bool, ◌&&◌, List}
use Prim.Native.Nat.{ℕ, zero, suc, ◌<◌}
use Rattle.std.proofs.Math.Dec.{eqb}
use Rattle.columns.specs.Blocks.{block_of, Finer}
use Rattle.columns.specs.Columns.{listed, zeros}
use Rattle.columns.specs.Counting.{first}
use Rattle.columns.specs.Number.{number}
use Rattle.columns.specs.Sets.{Pair, pair_eq, same}
use Rattle.refinement.specs.Blocks.{SameBlocks, share}

-- the signature of each state under a partition
abbrev pub Signature : Type 0
Signature = List ℕ → ℕ → List Pair

-- whether two states have one signature goes by the blocks alone, and not by their numbers
abbrev pub ByBlocks : ℕ → Signature → Type 0
ByBlocks n sig = (p q : List ℕ) → SameBlocks n p q → (s t : ℕ) → s < n → t < n → sig p s ≡ sig p t → sig q s ≡ sig q t

-- two states stay together in a round that starts with p
unfoldable pub together : Signature → List ℕ → ℕ → ℕ → Bool
unfolding share same pair_eq
together sig p s t = share p s t && same pair_eq (sig p s) (sig p t)

module _ (n : ℕ) (sig : Signature) where
  -- one round: the blocks of p split by signature, and numbered by least member
  unfoldable pub round : List ℕ → List ℕ
  unfolding together number listed
  round p = listed n (number (together sig p))

  -- the partition after k rounds
  unfoldable pub after_rounds : ℕ → List ℕ
  unfolding round
  after_rounds zero = zeros n
  after_rounds (suc k) = round (after_rounds k)

  -- the round after k rounds splits nothing
  unfoldable pub stable : ℕ → Bool
  unfolding after_rounds same
  stable k = same eqb (after_rounds (suc k)) (after_rounds k)

  -- the number of rounds that split something, and what they leave
  unfoldable pub splitting_rounds : ℕ
  unfolding stable first
  splitting_rounds = first n stable

  unfoldable pub final : List ℕ
  unfolding splitting_rounds after_rounds
  final = after_rounds splitting_rounds

  -- no block of p splits: states that share one have one signature
  abbrev pub Unsplit : List ℕ → Type 0
  Unsplit p = (s t : ℕ) → s < n → t < n → block_of p s ≡ block_of p t → sig p s ≡ sig p t

  -- q is p with every block split by signature under p: states share a block of q exactly if they share one of p and have one signature
  pub record Refined (p q : List ℕ) : Type 0 where
    pub block : Finer n q p
    pub signature : (s t : ℕ) → s < n → t < n → block_of q s ≡ block_of q t → sig p s ≡ sig p t
    pub joined : (s t : ℕ) → s < n → t < n → block_of p s ≡ block_of p t → sig p s ≡ sig p t → block_of q s ≡ block_of q t
