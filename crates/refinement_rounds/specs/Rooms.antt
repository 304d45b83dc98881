-- The work slices of a round beside the partition. Of `labels` and `blocks` the first n + 1 cells are zero, for a division to work with,
-- and the signatures stand behind them; the pairs that are pushed for a state stand behind the first n + 1 cells of two columns of the
-- partition.
use Rattle.std.specs.Prelude.{◌≡◌, ℕ, ◌+◌, ◌<◌, ◌≤◌, List, length, take, drop}
use Rattle.columns.specs.Columns.{zeros, cleared}
use Rattle.refinement_signing.specs.Stored.{Store, store}

-- the first n + 1 cells are zero
abbrev pub ClearFront : ℕ → List ℕ → Type 0
ClearFront n l = take (n + 1) l ≡ zeros (n + 1)

-- the signatures that stand behind the first n + 1 cells
abbrev pub store_behind : ℕ → List ℕ → List ℕ → ℕ → List ℕ → Store
store_behind n labels blocks total begins = store n (drop (n + 1) labels) (drop (n + 1) blocks) total begins

-- room for n states and m rows
pub record Room (n m : ℕ) (elements offset begins numbers labels blocks spare : List ℕ) : Type 0 where
  pub of_elements : n + m < length elements
  pub of_offset : n + m < length offset
  pub of_begins : n ≤ length begins
  pub of_numbers : n + m < length numbers
  pub of_labels : n + m < length labels
  pub of_blocks : n + m < length blocks
  pub of_spare : n + m < length spare
  pub labels_zero : ClearFront n labels
  pub blocks_zero : ClearFront n blocks
  pub spare_zero : spare ≡ cleared spare
