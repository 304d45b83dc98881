-- The lists that a state takes, and what is asked of them and of the work slices where the checks are made already.
use Rattle.std.specs.Prelude.{ℕ, ◌+◌, ◌≤◌, Bool, ◌&&◌, List, map, ◌==◌, slice_index}
use Rattle.columns.specs.Counting.{members}
use Rattle.columns.specs.Sets.{Mem, pair_lt, Ascending}
use Rattle.table.specs.Hidden.{hidden_in}
use Rattle.pairs.specs.Lists.{start_at, list_at}
use Rattle.pairs.specs.Pairs.{end_of}
use Rattle.table.specs.Lts.{Lts}

-- row i is one of s, hidden, and stays in the block of s
unfoldable pub inner_row : Lts → List ℕ → ℕ → ℕ → Bool
unfolding hidden_in
inner_row t home s i = slice_index t.source i == s && hidden_in t.label t.target home (slice_index home s) i

-- the targets of these rows, in order
unfoldable pub inner_targets : Lts → List ℕ → ℕ → List ℕ
unfolding members inner_row
inner_targets t home s = map (λ i. slice_index t.target i) (members t.m (inner_row t home s))

-- the given list of state u ends where there are pairs, and ascends
pub record Takeable (starts labels blocks : List ℕ) (u : ℕ) : Type 0 where
  pub inside : start_at starts (u + 1) ≤ end_of labels blocks
  pub ascending : Ascending pair_lt (list_at starts labels blocks u)

-- so do the lists that s takes; no other is asked for
abbrev pub Takes : Lts → List ℕ → List ℕ → List ℕ → List ℕ → ℕ → Type 0
Takes t home starts labels blocks s = (u : ℕ) → Mem u (inner_targets t home s) → Takeable starts labels blocks u
