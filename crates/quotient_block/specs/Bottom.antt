-- The walk to a bottom state: it follows the first hidden row to another state of the block, as long as there is one. `home` has the
-- block of each state.
use Rattle.std.specs.Prelude.{ℕ, zero, suc, Bool, cond, ◌&&◌, List, ◌==◌, nat_le, slice_index}
use Rattle.columns.specs.Blocks.{block_of}
use Rattle.columns.specs.Counting.{first}
use Rattle.columns.specs.Rows.{row_in}
use Rattle.quotient.specs.Naive.{inert_step}
use Rattle.table.specs.Lts.{Lts}

-- row i is a hidden one from s to another state of its block
unfoldable pub leads_on : List ℕ → List ℕ → List ℕ → List ℕ → ℕ → ℕ → Bool
unfolding inert_step row_in
leads_on source label target home s i = slice_index source i == s && inert_step (block_of home) (row_in source label target i)

-- the first of these, m if there is none
unfoldable pub way_on : Lts → List ℕ → ℕ → ℕ
unfolding first leads_on
way_on t home s = first t.m (leads_on t.source t.label t.target home s)

-- s is a bottom state: no row leads on from it
unfoldable pub bottom : Lts → List ℕ → ℕ → Bool
unfolding way_on
bottom t home s = nat_le t.m (way_on t home s)

-- one step; a bottom state is not left
unfoldable pub next_on : Lts → List ℕ → ℕ → ℕ
unfolding bottom way_on
next_on t home s = cond (bottom t home s) s (slice_index t.target (way_on t home s))

-- where the walk from s is after k steps
unfoldable pub walked : Lts → List ℕ → ℕ → ℕ → ℕ
unfolding next_on
walked t home zero s = s
walked t home (suc k) s = next_on t home (walked t home k s)

-- the bottom state that the walk from s ends in, n if it ends in none: in n steps it comes back to a state
unfoldable pub bottom_from : Lts → List ℕ → ℕ → ℕ
unfolding walked bottom
bottom_from t home s = let u = walked t home t.n s in cond (bottom t home u) u t.n
