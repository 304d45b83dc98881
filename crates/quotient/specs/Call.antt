-- `quotient_lts_naive` as it is called: what it refuses, says and leaves.
use Rattle.std.specs.Prelude.{ℕ, Bool, List, map, length}
use Rattle.columns.specs.Blocks.{block_of}
use Rattle.columns.specs.Answers.{Refusal}
use Rattle.columns.specs.Answers.{Said, leaving}
use Rattle.columns.specs.Columns.{zeroed}
use Rattle.columns.specs.Due.{due, all_long}
use Rattle.columns.specs.Rows.{rows_of}
use Rattle.columns.specs.Sets.{Row}
use Rattle.partition.specs.Partition.{Partition, longb, consistentb}
use Rattle.table.specs.Checks.{rows_long, bad_row, call_room}
use Rattle.table.specs.Lts.{Lts, rows}
use Rattle.table.specs.Tables.{Three, lengths_of, rows_over}
use Rattle.table_partition.specs.Checks.{both_tests}
use Rattle.quotient.specs.Naive.{naive_rows, header_by}

-- 1, 2, 3, 4, 7 (three result columns of m cells, and the work slices), 5 and 6, 14
unfoldable pub quotient_refusal : Lts → Partition → Three → List (List ℕ) → Refusal
unfolding due rows_long bad_row all_long longb consistentb
quotient_refusal t p out work = due (both_tests t p (call_room t t.m (lengths_of out) (map length work)))

-- the rows of the quotient by the blocks of a partition
unfoldable pub rows_between : Bool → Bool → Lts → Partition → List Row
unfolding naive_rows rows_of
rows_between inerts loops t p = naive_rows inerts loops (block_of p.element_to_block) (rows t)

-- the header, the rows over the first cells of the result columns, and the work zero
unfoldable pub quotient_lts_naive : Bool → Bool → Lts → Partition → Three → List (List ℕ) → Said × (Three × List (List ℕ))
unfolding leaving quotient_refusal rows_between rows_over
quotient_lts_naive inerts loops t p out work =
    let kept = rows_between inerts loops t p in
    leaving (quotient_refusal t p out work) (out, work) (header_by t p.element_to_block p.count kept) (rows_over kept out, zeroed work)
