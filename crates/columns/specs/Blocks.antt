-- Blocks of states by a column of block numbers, in any numbering.
use Rattle.std.specs.Prelude.{◌≡◌, List, ℕ, ◌<◌, get_or}

-- the block of a state
abbrev pub block_of : List ℕ → ℕ → ℕ
block_of home s = get_or home s 0

-- of the states below n, those that share a block of p share one of q
abbrev pub Finer : ℕ → List ℕ → List ℕ → Type 0
Finer n p q = (s t : ℕ) → s < n → t < n → block_of p s ≡ block_of p t → block_of q s ≡ block_of q t
