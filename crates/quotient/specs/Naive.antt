-- The naive quotient of rows by blocks: the rows between blocks as a set, but for those that a switch drops. `block` gives each state
-- its block.
use Rattle.std.specs.Prelude.{ℕ, Bool, not, ◌&&◌, List, [], ◌∷◌, length, ◌==◌}
use Rattle.bisimulation.specs.Quotient.{between}
use Rattle.columns.specs.Blocks.{block_of}
use Rattle.columns.specs.Sets.{Row, row_lt, collect}
use Rattle.table.specs.Hidden.{tau_loop}
use Rattle.table.specs.Lts.{Lts}

-- a hidden step inside a block between different states
unfoldable pub inert_step : (ℕ → ℕ) → Row → Bool
inert_step block r = r.1.0 == 0 && (block r.0 == block r.1.1 && not (r.0 == r.1.1))

-- neither switch drops the row: `inerts` is eliminate_inert_taus, `loops` is eliminate_tau_loops
unfoldable pub stays : Bool → Bool → (ℕ → ℕ) → Row → Bool
unfolding inert_step tau_loop
stays inerts loops block r = not (inerts && inert_step block r) && not (loops && tau_loop r)

-- the rows of the quotient, ascending
unfoldable pub naive_rows : Bool → Bool → (ℕ → ℕ) → List Row → List Row
unfolding collect row_lt between stays
naive_rows inerts loops block rows = collect row_lt (stays inerts loops block) (between block) rows

-- the header of a quotient with these rows: as many states as blocks, the labels as they were, and the block of the initial state
abbrev pub header_by : Lts → List ℕ → ℕ → List Row → List ℕ
header_by t home count rows = count ∷ t.labels ∷ length rows ∷ block_of home t.initial ∷ []
