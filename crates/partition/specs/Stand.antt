-- Some of the states as they stand in the order: what proofs go by, nothing that the contract of an operation says.
use Rattle.std.specs.Prelude.{ℕ, ◌+◌, ◌≤◌, ◌<◌, ◌≡◌, List, length, get_or}

-- from place x on stand k states below n, none twice
pub record Stand (elements : List ℕ) (n x k : ℕ) : Type 0 where
  pub long : x + k ≤ length elements
  pub below : (i : ℕ) → i < k → get_or elements (x + i) 0 < n
  pub once : (i j : ℕ) → i < k → j < k → get_or elements (x + i) 0 ≡ get_or elements (x + j) 0 → i ≡ j
