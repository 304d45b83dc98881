-- Which rows can go: hidden steps, with another row of the same label between them, lead from the same source to the same target.
use Rattle.std.specs.Prelude.{◌≡◌, ℕ, Bool, true, not, ◌&&◌, List, map, ◌==◌, ◌≢◌, slice_index}
use Rattle.columns.specs.Counting.{some, members}
use Rattle.columns.specs.Sets.{Row}
use Rattle.columns.specs.Rows.{row_in}
use Rattle.table.specs.Hidden.{tau_loop}
use Rattle.table.specs.Lts.{Lts, row_at, Step}
use Rattle.table.specs.Reach.{Way, reaches}

-- document 01's words: s reaches `from` by hidden steps, there is a row (from, a, to), and `to` reaches u by hidden steps; it is not
-- the row (s, a, u) itself, and no hidden self-loop
pub record Redundant (t : Lts) (s a u : ℕ) : Type 0 where
  pub from : ℕ
  pub to : ℕ
  pub before : Way t true s from
  pub row : Step t from a to
  pub after : Way t true to u
  pub other : from ≡ s → to ≢ u
  pub moves : a ≡ 0 → from ≢ to

-- ---- the same as tests
-- row j is no hidden self-loop
unfoldable pub moves : List ℕ → List ℕ → List ℕ → ℕ → Bool
unfolding tau_loop row_in
moves source label target j = not (tau_loop (row_in source label target j))

-- row j is not row i, has its label, and is no hidden self-loop
unfoldable pub rival : List ℕ → List ℕ → List ℕ → ℕ → ℕ → Bool
unfolding moves
rival source label target i j = not (j == i) && (slice_index label j == slice_index label i && moves source label target j)

-- row j is a witness that row i can go: hidden steps lead to it, and on from it
unfoldable pub witness : Lts → ℕ → ℕ → Bool
unfolding rival reaches
witness t i j =
    rival t.source t.label t.target i j
    && (reaches t true (slice_index t.source i) (slice_index t.source j) && reaches t true (slice_index t.target j) (slice_index t.target i))

-- row i can go
unfoldable pub redundant : Lts → ℕ → Bool
unfolding witness some
redundant t i = some t.m (witness t i)

-- row i stays
unfoldable pub remains : Lts → ℕ → Bool
unfolding redundant
remains t i = not (redundant t i)

-- the rows that stay, in their order
unfoldable pub remaining_rows : Lts → List Row
unfolding remains members row_in
remaining_rows t = map (row_at t) (members t.m (remains t))
