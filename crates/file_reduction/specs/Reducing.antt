-- What `reduce_file` refuses, answers and leaves.
use Rattle.std.specs.Prelude.{ℕ, true, List, [], ◌∷◌, ◌++◌, length}
use Rattle.bisimulation.specs.Quotient.{quotient}
use Rattle.columns.specs.Answers.{Said, leaving}
use Rattle.columns.specs.Columns.{over}
use Rattle.columns.specs.Due.{Test, due, room_test}
use Rattle.columns.specs.Rows.{rows_of}
use Rattle.file.specs.Bytes.{little}
use Rattle.file.specs.Input.{header_in, table_in, file_tests}
use Rattle.file.specs.Output.{output_bytes, output_size}
use Rattle.refinement.specs.Blocks.{block_count}
use Rattle.refinement_strong.specs.Reduction.{strong_blocks, strong_rounds, strong_count, strong_rows, strong_reduced}
use Rattle.table.specs.Checks.{rows_long, bad_row}
use Rattle.table.specs.Lts.{Lts}
use Rattle.table.specs.declared.Table.{Table}

-- the output file: the reduced table, and the block of each state
unfoldable pub reduced_bytes : Lts → List ℕ
unfolding output_bytes strong_reduced strong_blocks
reduced_bytes t = output_bytes (strong_reduced t) (strong_blocks t)

-- how many bytes that are
abbrev pub reduced_size : Lts → ℕ
reduced_size t = output_size (length (strong_rows t)) t.n

-- bytes written; states, labels and rows of the source; blocks and rows of the result; the rounds that split something
abbrev pub file_numbers : Lts → List ℕ
file_numbers t = reduced_size t ∷ t.n ∷ t.labels ∷ t.m ∷ strong_count t ∷ length (strong_rows t) ∷ strong_rounds t ∷ []

-- 13, 1, 2, 3, 4, 5 and 6, then 16 with the number of bytes needed; the output by its length
abbrev pub reduce_tests : List ℕ → ℕ → List Test
reduce_tests input room = file_tests input true ++ (room_test (reduced_size (table_in input)) room ∷ [])

-- the output file goes over the first bytes
unfoldable pub reduce_file : List ℕ → List ℕ → Said × List ℕ
unfolding leaving due little header_in table_in rows_long bad_row over reduced_bytes strong_blocks strong_rounds block_count quotient rows_of
reduce_file input output =
    let t = table_in input in
    leaving (due (reduce_tests input (length output))) output (file_numbers t) (over (reduced_bytes t) output)

-- ---- its parts
-- once the file is checked
unfoldable pub reduce_table : Lts → List ℕ → Said × List ℕ
unfolding leaving due over reduced_bytes strong_blocks strong_rounds block_count quotient rows_of
reduce_table t output =
    leaving (due (room_test (reduced_size t) (length output) ∷ [])) output (file_numbers t) (over (reduced_bytes t) output)

-- once a table with this header is reduced to u in so many rounds
unfoldable pub put_file : Table → ℕ → Lts → List ℕ → List ℕ → Said × List ℕ
unfolding leaving due over output_bytes
put_file t rounds u blocks output =
    let needed = output_size u.m (length blocks) in
    leaving (due (room_test needed (length output) ∷ [])) output
    (needed ∷ t.n ∷ t.labels ∷ t.m ∷ u.n ∷ u.m ∷ rounds ∷ []) (over (output_bytes u blocks) output)
