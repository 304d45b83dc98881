-- `remove_redundant_transitions` as it is called: what it refuses, says and leaves.
use Rattle.std.specs.Prelude.{ℕ, List, [], ◌∷◌, map, length}
use Rattle.columns.specs.Answers.{Refusal}
use Rattle.columns.specs.Answers.{Said, leaving}
use Rattle.columns.specs.Columns.{zeroed}
use Rattle.columns.specs.Due.{due, all_long}
use Rattle.table.specs.Checks.{rows_long, bad_row, call_room, table_tests}
use Rattle.table.specs.Lts.{Lts}
use Rattle.table.specs.Tables.{Three, lengths_of, rows_over}
use Rattle.quotient_redundant.specs.Redundant.{remaining_rows}

-- 1, 2, 3, 4, 7 (three result columns of m cells, and the work slices), 5 and 6
unfoldable pub remove_refusal : Lts → Three → List (List ℕ) → Refusal
unfolding due rows_long bad_row all_long
remove_refusal t out work = due (table_tests t (call_room t t.m (lengths_of out) (map length work)))

-- the table's header with the number of rows that stay, these over the first cells of the result columns, and the work zero
unfoldable pub remove_redundant_transitions : Lts → Three → List (List ℕ) → Said × (Three × List (List ℕ))
unfolding leaving remove_refusal remaining_rows rows_over
remove_redundant_transitions t out work =
    let l = remaining_rows t in
    leaving (remove_refusal t out work) (out, work) (t.n ∷ t.labels ∷ length l ∷ t.initial ∷ []) (rows_over l out, zeroed work)
