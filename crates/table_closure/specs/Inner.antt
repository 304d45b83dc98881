-- Loop invariants of the list of a block's inner rows: what the proofs go by, nothing that a contract of an operation says.
use Rattle.std.specs.Prelude.{◌≡◌, ℕ, ◌-◌, ◌<◌, ◌≤◌, Bool, true, ◌&&◌, ◌⊎◌, List, length, ◌==◌, slice_index}
use Rattle.table_closure.specs.Closure.{silentb}
use Rattle.columns.specs.Counting.{members}
use Rattle.partition.specs.Stand.{Stand}
use Rattle.table.specs.Lts.{Lts}

-- row i is hidden, comes from a state of block b and leads to one; `home` has the block of each state
unfoldable pub innerb : Lts → List ℕ → ℕ → ℕ → Bool
unfolding silentb
innerb t home b i = silentb t home b i && slice_index home (slice_index t.target i) == b

-- such rows of state s
unfoldable pub inner_rows : Lts → List ℕ → ℕ → ℕ → List ℕ
unfolding members innerb
inner_rows t home b s = members t.m (λ i. (slice_index t.source i == s) && innerb t home b i)

-- the states of block b stand at the positions from x to before z, each once
pub record Stands (n : ℕ) (elements home : List ℕ) (b x z : ℕ) : Type 0 where
  pub low : x ≤ z
  pub stand : Stand elements n x (z - x)
  pub all : (s : ℕ) → s < n → slice_index home s ≡ b → (k : ℕ) × (x ≤ k) × (k < z) × (slice_index elements k ≡ s)

-- the first h cells of a column name the hidden rows that stay in block b, each once, by target, and among equals as the rows come
pub record InnerList (t : Lts) (home : List ℕ) (b : ℕ) (order : List ℕ) (h : ℕ) : Type 0 where
  pub room : h ≤ length order
  pub few : h ≤ t.m
  pub row : (j : ℕ) → j < h → slice_index order j < t.m
  pub inner : (j : ℕ) → j < h → innerb t home b (slice_index order j) ≡ true
  pub ascending : (j k : ℕ) → j < k → k < h
      → (slice_index t.target (slice_index order j) < slice_index t.target (slice_index order k))
      ⊎ ((slice_index t.target (slice_index order j) ≡ slice_index t.target (slice_index order k)) × (slice_index order j < slice_index order k))
  pub all : (i : ℕ) → i < t.m → innerb t home b i ≡ true → (j : ℕ) × (j < h) × (slice_index order j ≡ i)
