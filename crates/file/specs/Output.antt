-- The bytes of a file: an input file with kinds 1 and 2, an output file with kinds 1, 2 and 3, and what writing one leaves.
use Rattle.std.specs.Prelude.{◌≡◌, ℕ, ◌+◌, ◌*◌, List, [], ◌∷◌, ◌++◌, length, take, nat_le, slice_index}
use Rattle.columns.specs.Answers.{Refusal}
use Rattle.columns.specs.Answers.{Said, leaving}
use Rattle.columns.specs.Columns.{laid, over}
use Rattle.columns.specs.Due.{due, states_test, Roomy, room_test}
use Rattle.table.specs.Lts.{Lts, Valid}
use Rattle.table.specs.Checks.{rows_long, bad_row, table_tests}
use Rattle.file.specs.Bytes.{bytes_of, words}
use Rattle.file.specs.Layout.{
  header_kind,
  rows_kind,
  blocks_kind,
  header_size,
  row_size,
  block_size,
  input_entries,
  input_header,
  input_rows,
  output_entries,
  output_header,
  output_rows,
}

-- ---- bodies
-- kind 1: n, labels, m and the initial state
unfoldable pub header_bytes : Lts → List ℕ
unfolding words
header_bytes t = words (t.n ∷ t.labels ∷ t.m ∷ t.initial ∷ [])

-- kind 2: m rows
unfoldable pub row_bytes : List ℕ → List ℕ → List ℕ → ℕ → List ℕ
unfolding words
row_bytes source label target i = words (slice_index source i ∷ slice_index label i ∷ slice_index target i ∷ [])

unfoldable pub rows_bytes : Lts → List ℕ
unfolding laid row_bytes
rows_bytes t = laid (row_bytes t.source t.label t.target) t.m

-- both, one after the other
unfoldable pub table_bytes : Lts → List ℕ
unfolding header_bytes rows_bytes
table_bytes t = header_bytes t ++ rows_bytes t

-- ---- files
-- an entry of the contents: kind, offset and length
unfoldable pub entry : ℕ → ℕ → ℕ → List ℕ
unfolding bytes_of
entry kind offset size = bytes_of 2 kind ++ (bytes_of 4 offset ++ bytes_of 4 size)

-- an input file: its contents, then kinds 1 and 2
unfoldable pub input_contents : ℕ → List ℕ
unfolding bytes_of entry
input_contents m =
    bytes_of 2 input_entries ++ (entry header_kind input_header header_size ++ entry rows_kind input_rows (row_size * m))

unfoldable pub input_bytes : Lts → List ℕ
unfolding input_contents table_bytes
input_bytes t = input_contents t.m ++ table_bytes t

-- these bytes are the input file of a table, and columns of these lengths have room for its rows
pub record FileOf (s columns : List ℕ) : Type 0 where
  pub table : Lts
  pub valid : Valid table
  pub bytes : s ≡ input_bytes table
  pub room : Roomy table.m columns

-- an output file: its contents, then kinds 1, 2 and 3, the block of each of k source states
abbrev pub output_blocks : ℕ → ℕ
output_blocks m = output_rows + row_size * m

unfoldable pub output_contents : ℕ → ℕ → List ℕ
unfolding bytes_of entry
output_contents m k =
    bytes_of 2 output_entries
    ++ (entry header_kind output_header header_size
    ++ (entry rows_kind output_rows (row_size * m) ++ entry blocks_kind (output_blocks m) (block_size * k)))

unfoldable pub output_bytes : Lts → List ℕ → List ℕ
unfolding output_contents table_bytes words
output_bytes t blocks = output_contents t.m (length blocks) ++ (table_bytes t ++ words blocks)

-- how many bytes that are
abbrev pub output_size : ℕ → ℕ → ℕ
output_size m k = output_blocks m + block_size * k

-- ---- writing
-- 1 (for k as for n), 2, 3, 4, 7 (the blocks are a column of k cells), 5, 6 and 16; the blocks and the bytes by their lengths
unfoldable pub write_refusal : Lts → ℕ → ℕ → ℕ → Refusal
unfolding due rows_long bad_row
write_refusal t k blocks room =
    due (states_test k ∷ (table_tests t (nat_le k blocks) ++ (room_test (output_size t.m k) room ∷ [])))

-- the file of the table and the first k blocks goes over the first bytes; how many is said
unfoldable pub write_file : Lts → ℕ → List ℕ → List ℕ → Said × List ℕ
unfolding leaving write_refusal over output_bytes
write_file t k blocks bytes =
    leaving (write_refusal t k (length blocks) (length bytes)) bytes (output_size t.m k ∷ [])
    (over (output_bytes t (take k blocks)) bytes)
