-- The refusals of the calls that take a table, in document 01's order.
use Rattle.std.specs.Prelude.{ℕ, ◌+◌, ◌-◌, Bool, not, ◌&&◌, ◌||◌, List, [], ◌∷◌, ◌++◌, length, ◌==◌, nat_le, nat_lt, slice_index}
use Rattle.columns.specs.Limits.{max_rows, not_above, too_short, wrong_field, wrong_initial, wrong_rows}
use Rattle.columns.specs.Answers.{Refusal}
use Rattle.columns.specs.Counting.{first}
use Rattle.columns.specs.Due.{Test, test, due, all_long, states_test, labels_test, index_test}
use Rattle.columns.specs.Sets.{row_lt}
use Rattle.columns.specs.Rows.{row_in}
use Rattle.table.specs.Lts.{Lts}

-- every column has m cells
unfoldable pub rows_long : Lts → Bool
unfolding all_long
rows_long t = all_long t.m (length t.source ∷ length t.label ∷ length t.target ∷ [])

-- every work slice of these lengths has n + m + 1 cells
abbrev pub works_long : Lts → List ℕ → Bool
works_long t lengths = all_long (t.n + t.m + 1) lengths

-- a call's result columns have so many cells, and its work slices n + m + 1
abbrev pub call_room : Lts → ℕ → List ℕ → List ℕ → Bool
call_room t cells results work = all_long cells results && works_long t work

-- the fields of row i are in range
unfoldable pub fieldsb : Lts → ℕ → Bool
fieldsb t i =
    nat_lt (slice_index t.source i) t.n && (nat_lt (slice_index t.label i) t.labels && nat_lt (slice_index t.target i) t.n)

-- row i is the first, or above the one before
unfoldable pub aboveb : List ℕ → List ℕ → List ℕ → ℕ → Bool
unfolding row_lt row_in
aboveb source label target i = i == 0 || row_lt (row_in source label target (i - 1)) (row_in source label target i)

-- the lowest row that fails one of the two, m if there is none
unfoldable pub bad_row : Lts → ℕ
unfolding first fieldsb aboveb
bad_row t = first t.m (λ i. not (fieldsb t i && aboveb t.source t.label t.target i))

-- 1, 2, 3, 4, 7 (`room`: the call's other slices are long enough)
abbrev pub header_tests : Lts → Bool → List Test
header_tests t room =
    states_test t.n
    ∷ labels_test t.labels
    ∷ test (nat_le t.m max_rows) wrong_rows 0
    ∷ test (nat_lt t.initial t.n) wrong_initial 0
    ∷ test (rows_long t && room) too_short 0
    ∷ []

-- 5 for the lowest bad row if it has a field out of range, else 6
abbrev pub row_tests : Lts → List Test
row_tests t =
    test (nat_le t.m (bad_row t) || fieldsb t (bad_row t)) wrong_field (bad_row t)
    ∷ test (nat_le t.m (bad_row t)) not_above (bad_row t)
    ∷ []

-- 1, 2, 3, 4, 7, 5 and 6
abbrev pub table_tests : Lts → Bool → List Test
table_tests t room = header_tests t room ++ row_tests t

-- a call that takes the table, and an argument that is below a bound
unfoldable pub table_argument_refusal : Lts → ℕ → ℕ → Bool → Refusal
unfolding due rows_long bad_row
table_argument_refusal t i bound room = due (table_tests t room ++ (index_test i bound ∷ []))
