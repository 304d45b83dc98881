-- What `strong_reduction` refuses, answers and leaves.
use Rattle.std.specs.Prelude.{ℕ, ◌+◌, ◌≤◌, ◌&&◌, List, [], ◌∷◌, map, length, nat_le, slice_index}
use Rattle.bisimulation.specs.Quotient.{quotient}
use Rattle.columns.specs.Answers.{Said, leaving}
use Rattle.columns.specs.Columns.{over, zeroed}
use Rattle.columns.specs.Due.{due, all_long, Roomy}
use Rattle.columns.specs.Rows.{rows_of}
use Rattle.columns.specs.Answers.{Refusal}
use Rattle.refinement.specs.Blocks.{block_count}
use Rattle.refinement_strong.specs.Reduction.{strong_blocks, strong_block, strong_rounds, strong_count, strong_rows}
use Rattle.table.specs.Checks.{works_long, rows_long, bad_row, table_tests}
use Rattle.table.specs.Lts.{Lts, Valid}
use Rattle.table.specs.Tables.{Three, lengths_of, rows_over, table_by}

-- 1, 2, 3, 4, 7, 5 and 6, and nothing else; the result columns, the block column and the work slices by their lengths
unfoldable pub reduction_refusal : Lts → List ℕ → ℕ → List ℕ → Refusal
unfolding due rows_long bad_row all_long
reduction_refusal t results block works =
    due (table_tests t (all_long t.m results && (nat_le t.n block && works_long t works)))

-- n, labels, m and initial state of the reduced table, and the rounds that split something
abbrev pub reduction_numbers : Lts → List ℕ
reduction_numbers t = strong_count t ∷ t.labels ∷ length (strong_rows t) ∷ strong_block t t.initial ∷ strong_rounds t ∷ []

-- what the call is lent: three result columns, the block column, and the work slices
abbrev pub Slices : Type 0
Slices = Three × (List ℕ × List (List ℕ))

-- the lengths that the checks go by
abbrev pub result_lengths : Slices → List ℕ
result_lengths lent = lengths_of lent.0

abbrev pub work_lengths : Slices → List ℕ
work_lengths lent = map (λ l. length l) lent.1.1

-- the rows of the reduced table go over the first cells of the result, the number of each state's block over those of the block column,
-- and every cell of every work slice is zero
unfoldable pub reduction_left : Lts → Slices → Slices
unfolding rows_over over strong_blocks
reduction_left t lent =
    (rows_over (strong_rows t) lent.0, (over (strong_blocks t) lent.1.0, zeroed lent.1.1))

unfoldable pub strong_reduction : Lts → Slices → Said × Slices
unfolding leaving reduction_refusal reduction_left strong_rounds strong_blocks block_count quotient rows_of
strong_reduction t lent =
    let refusal = reduction_refusal t (lengths_of lent.0) (length lent.1.0) (map (λ l. length l) lent.1.1) in
    leaving refusal lent (reduction_numbers t) (reduction_left t lent)

-- the table that an answer's numbers and the result columns make
abbrev pub answered_table : List ℕ → Slices → Lts
answered_table values left = table_by (slice_index values 0) (slice_index values 1) (slice_index values 2) (slice_index values 3) left.0

-- a right table, and room in the result columns, in the block column and in the work slices
pub record Ready (t : Lts) (results : List ℕ) (block : ℕ) (works : List ℕ) : Type 0 where
  pub valid : Valid t
  pub fits : Roomy t.m results
  pub long : t.n ≤ block
  pub wide : Roomy (t.n + t.m + 1) works

-- the same of what a call is lent
abbrev pub ReadyFor : Lts → Slices → Type 0
ReadyFor t lent = Ready t (result_lengths lent) (length lent.1.0) (work_lengths lent)
