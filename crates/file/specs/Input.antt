-- An input file: the table that stands in it, its refusal, and what reading it leaves.
use Rattle.std.specs.Prelude.{ℕ, ◌+◌, ◌*◌, Bool, cond, ◌&&◌, List, [], ◌∷◌, ◌++◌, length, ◌==◌, nat_le}
use Rattle.columns.specs.Answers.{Refusal}
use Rattle.columns.specs.Answers.{Said, leaving}
use Rattle.columns.specs.Columns.{listed}
use Rattle.columns.specs.Due.{Test, test, due, all_long, states_test, labels_test}
use Rattle.columns.specs.Limits.{max_rows, wrong_rows, wrong_contents}
use Rattle.table.specs.declared.Table.{Table}
use Rattle.table.specs.Lts.{Lts, lts}
use Rattle.table.specs.Checks.{rows_long, bad_row, table_tests}
use Rattle.table.specs.Tables.{Three, lengths_of, columns_in, columns_over, header_values}
use Rattle.file.specs.Bytes.{little}
use Rattle.file.specs.Layout.{
  header_kind,
  rows_kind,
  header_size,
  row_size,
  input_entries,
  entries_at,
  header_kind_at,
  header_offset_at,
  header_length_at,
  rows_kind_at,
  rows_offset_at,
  rows_length_at,
  input_header,
  states_at,
  labels_at,
  row_count_at,
  initial_at,
  input_rows,
  first_source,
  first_label,
  first_target,
  largest_input,
}

-- ---- the table in a file
unfoldable pub header_in : List ℕ → Table
unfolding little
header_in s =
    record { n = little 2 s states_at; labels = little 2 s labels_at; m = little 2 s row_count_at; initial = little 2 s initial_at }

-- a field of each of m rows, where the first row's stands at `from`
unfoldable pub column : List ℕ → ℕ → ℕ → List ℕ
unfolding listed little
column s from m = listed m (λ i. little 2 s (from + row_size * i))

-- a header, and the rows that stand in a file
unfoldable pub with_rows : Table → List ℕ → Lts
unfolding column
with_rows t s = lts t (column s first_source t.m) (column s first_label t.m) (column s first_target t.m)

unfoldable pub table_in : List ℕ → Lts
unfolding header_in with_rows
table_in s = with_rows (header_in s) s

-- ---- its refusal: 13, in document 01's order
-- a field of the contents is there whole, and holds this value
abbrev pub field_test : ℕ → List ℕ → ℕ → ℕ → Test
field_test width s at value = test (nat_le (at + width) (length s) && little width s at == value) wrong_contents at

-- the fields of the contents in byte order, but for the length of kind 2
abbrev pub field_tests : List ℕ → List Test
field_tests s =
    field_test 2 s entries_at input_entries
    ∷ field_test 2 s header_kind_at header_kind
    ∷ field_test 4 s header_offset_at input_header
    ∷ field_test 4 s header_length_at header_size
    ∷ field_test 2 s rows_kind_at rows_kind
    ∷ field_test 4 s rows_offset_at input_rows
    ∷ []

-- how many bytes m rows have, and where they end
abbrev pub rows_length : List ℕ → ℕ
rows_length s = row_size * (header_in s).m

abbrev pub named_end : List ℕ → ℕ
named_end s = input_rows + rows_length s

-- a file that has no room for a header; the length of kind 2; a file shorter than named, and a longer one
abbrev pub length_tests : List ℕ → List Test
length_tests s =
    test (nat_le input_rows (length s)) wrong_contents (length s)
    ∷ test (little 4 s rows_length_at == rows_length s) wrong_contents rows_length_at
    ∷ test (nat_le (named_end s) (length s)) wrong_contents (length s)
    ∷ test (nat_le (length s) (named_end s)) wrong_contents (named_end s)
    ∷ []

abbrev pub contents_tests : List ℕ → List Test
contents_tests s = field_tests s ++ length_tests s

-- 13, then 1, 2, 3, 4, 7 (`room`: there are columns for the rows), 5 and 6
abbrev pub file_tests : List ℕ → Bool → List Test
file_tests s room = contents_tests s ++ table_tests (table_in s) room

-- the columns for the rows are given by their lengths
unfoldable pub file_refusal : List ℕ → List ℕ → Refusal
unfolding due little header_in table_in rows_long bad_row all_long
file_refusal s columns = due (file_tests s (all_long (header_in s).m columns))

-- ---- the refusal of a file of which only the front is held, and the rest is counted
-- the tests of the lengths and of the contents, of a file of `size` bytes: s are all of them or the first
abbrev pub sized_length_tests : List ℕ → ℕ → List Test
sized_length_tests s size =
    test (nat_le input_rows size) wrong_contents size
    ∷ test (little 4 s rows_length_at == rows_length s) wrong_contents rows_length_at
    ∷ test (nat_le (named_end s) size) wrong_contents size
    ∷ test (nat_le size (named_end s)) wrong_contents (named_end s)
    ∷ []

abbrev pub sized_tests : List ℕ → ℕ → List Test
sized_tests s size = field_tests s ++ sized_length_tests s size

-- 1, 2, 3
abbrev pub count_tests : Table → List Test
count_tests t = states_test t.n ∷ labels_test t.labels ∷ test (nat_le t.m max_rows) wrong_rows 0 ∷ []

-- of a file of more bytes than the longest input, whose contents and header are held: 13, 1, 2, 3. If its lengths agree it has more rows
-- than a table may have, so that 3 is due at the latest
unfoldable pub long_refusal : List ℕ → ℕ → Refusal
unfolding due little header_in
long_refusal front size = due (sized_tests front size ++ count_tests (header_in front))

-- of any file of which `front` is at least as much as the longest input, or all there is
unfoldable pub held_refusal : List ℕ → ℕ → List ℕ → Refusal
unfolding file_refusal long_refusal
held_refusal front size columns = cond (nat_le size largest_input) (file_refusal front columns) (long_refusal front size)

-- ---- reading: the header is said, and the rows go over the first cells of three columns
unfoldable pub read_file : List ℕ → Three → Said × Three
unfolding leaving file_refusal header_in columns_over table_in
read_file s out = leaving (file_refusal s (lengths_of out)) out (header_values (header_in s)) (columns_over (columns_in (table_in s)) out)
