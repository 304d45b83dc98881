-- The states of a block, numbered by their signatures as they stand: the first one gets 0, and each whose signature did not come before
-- gets the next number.
use Rattle.std.specs.Prelude.{◌≡◌, Bool, List, ℕ, ◌+◌, ◌<◌, get_or}
use Rattle.columns.specs.Counting.{many}
use Rattle.columns.specs.Number.{leads, number}
use Rattle.refinement_signing.specs.Stored.{Store, alike}

-- the states at the places i and j, counted from x, have one signature
unfoldable pub alike_at : List ℕ → Store → ℕ → ℕ → ℕ → Bool
unfolding alike
alike_at elements σ x i j = alike σ (get_or elements (x + i) 0) (get_or elements (x + j) 0)

-- the first j states from place x on have their numbers, of which there are `next`; `eq` says which places have one number
pub record Numbered (eq : ℕ → ℕ → Bool) (elements : List ℕ) (x j : ℕ) (numbers : List ℕ) (next : ℕ) : Type 0 where
  pub exact : next ≡ many j (leads eq)
  pub given : (i : ℕ) → i < j → get_or numbers (get_or elements (x + i) 0) 0 ≡ number eq i
