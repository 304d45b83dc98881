-- What document 01 says of reachability and of the incoming list, in terms of steps and rows.
use Rattle.std.specs.Prelude.{◌≡◌, ℕ, ◌+◌, ◌<◌, ◌≤◌, Bool, true, ◌⊎◌, ◌↔◌, List, length, nat_eq, slice_index}
use Rattle.columns.specs.Counting.{many}
use Rattle.columns.specs.Sets.{pair_lt}
use Rattle.table.specs.Lts.{Lts}
use Rattle.table.specs.Reach.{Way}
use Rattle.table.specs.Stretch.{StretchOf, listed_target, first_into}

-- the first n cells say which states s reaches, 1 for each and 0 for each other; k is how many
pub record Reached (t : Lts) (hidden : Bool) (s k : ℕ) (cells : List ℕ) : Type 0 where
  pub flag : (u : ℕ) → u < t.n → (slice_index cells u ≡ 1) ⊎ (slice_index cells u ≡ 0)
  pub exactly : (u : ℕ) → u < t.n → (slice_index cells u ≡ 1) ↔ Way t hidden s u
  pub count : k ≡ many t.n (λ u. nat_eq (slice_index cells u) 1)

-- the first m cells name the rows, each once; those into a state stand together, by ascending source, then label
pub record IncomingList (t : Lts) (cells : List ℕ) : Type 0 where
  pub row : (p : ℕ) → p < t.m → slice_index cells p < t.m
  pub once : (p q : ℕ) → p < t.m → q < t.m → slice_index cells p ≡ slice_index cells q → p ≡ q
  pub all : (i : ℕ) → i < t.m → (p : ℕ) × (p < t.m) × (slice_index cells p ≡ i)
  pub into :
      (u : ℕ) → StretchOf (listed_target t.target cells) t.m u (first_into t.target cells t.m u)
      (first_into t.target cells t.m (u + 1))
  pub ascending :
      (p q : ℕ) → p < q → q < t.m → listed_target t.target cells p ≡ listed_target t.target cells q
      → pair_lt (slice_index t.source (slice_index cells p), slice_index t.label (slice_index cells p))
      (slice_index t.source (slice_index cells q), slice_index t.label (slice_index cells q)) ≡ true

-- of a column only the first k cells are written
pub record Beyond (k : ℕ) (before after : List ℕ) : Type 0 where
  pub size : length after ≡ length before
  pub cell : (i : ℕ) → k ≤ i → slice_index after i ≡ slice_index before i
