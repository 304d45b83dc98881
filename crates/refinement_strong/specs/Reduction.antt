-- The strong reduction of a table: rounds by strong signature from one block of all states; final blocks numbered by least member, then
-- quotiented naively with both switches off. States not reachable stay.
use Rattle.std.specs.Prelude.{List, ℕ}
use Rattle.bisimulation.specs.Quotient.{quotient, Belongs}
use Rattle.columns.specs.Blocks.{block_of}
use Rattle.columns.specs.Rows.{rows_of}
use Rattle.columns.specs.Sets.{Row}
use Rattle.refinement.specs.Blocks.{block_count}
use Rattle.refinement.specs.Rounds.{splitting_rounds, final}
use Rattle.signatures.specs.Strong.{strong_signature}
use Rattle.table.specs.Lts.{Lts, rows}
use Rattle.table.specs.Tables.{table_of}

-- the final number of each state
unfoldable pub strong_blocks : Lts → List ℕ
unfolding final strong_signature
strong_blocks t = final t.n (strong_signature t)

-- the block of a state
abbrev pub strong_block : Lts → ℕ → ℕ
strong_block t = block_of (strong_blocks t)

-- a state is in block b
abbrev pub In : Lts → ℕ → ℕ → Type 0
In t = Belongs t.n (strong_block t)

-- the number of rounds that split something
unfoldable pub strong_rounds : Lts → ℕ
unfolding splitting_rounds strong_signature
strong_rounds t = splitting_rounds t.n (strong_signature t)

-- the naive quotient of a table by numbers below `count`: its initial state is the block of the initial state
unfoldable pub quotient_of : Lts → ℕ → List ℕ → Lts
unfolding table_of quotient rows_of
quotient_of t count p = table_of count t.labels (block_of p t.initial) (quotient (block_of p) (rows t))

-- the number of blocks, and the rows between them
abbrev pub strong_count : Lts → ℕ
strong_count t = block_count t.n (strong_blocks t)

abbrev pub strong_rows : Lts → List Row
strong_rows t = quotient (strong_block t) (rows t)

-- the reduced table
unfoldable pub strong_reduced : Lts → Lts
unfolding quotient_of strong_blocks block_count
strong_reduced t = quotient_of t (strong_count t) (strong_blocks t)
