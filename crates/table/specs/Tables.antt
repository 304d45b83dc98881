-- A list of rows as a table, and over three lent columns; and what an answer says that holds the header of a table.
use Rattle.std.specs.Prelude.{ℕ, List, [], ◌∷◌, length}
use Rattle.columns.specs.Answers.{Answer, Said, said_by}
use Rattle.columns.specs.Columns.{over}
use Rattle.columns.specs.Rows.{first_of, second_of, third_of}
use Rattle.columns.specs.Sets.{Row}
use Rattle.table.specs.declared.Table.{Table}
use Rattle.table.specs.Lts.{Lts}

-- three columns of rows: sources, labels and targets
abbrev pub Three : Type 0
Three = List ℕ × (List ℕ × List ℕ)

abbrev pub lengths_of : Three → List ℕ
lengths_of out = length out.0 ∷ length out.1.0 ∷ length out.1.1 ∷ []

-- those of a list of rows, and those of a table
abbrev pub columns_of : List Row → Three
columns_of l = (first_of l, (second_of l, third_of l))

abbrev pub columns_in : Lts → Three
columns_in t = (t.source, (t.label, t.target))

-- columns written over the first cells of others, and rows over those of three columns
unfoldable pub columns_over : Three → Three → Three
unfolding over
columns_over c out = (over c.0 out.0, (over c.1.0 out.1.0, over c.1.1 out.1.1))

unfoldable pub rows_over : List Row → Three → Three
unfolding columns_over
rows_over l out = columns_over (columns_of l) out

-- the table of a header and three columns, and that of a list of rows
abbrev pub table_by : ℕ → ℕ → ℕ → ℕ → Three → Lts
table_by n labels m initial c =
    record { n = n; labels = labels; m = m; initial = initial; source = c.0; label = c.1.0; target = c.1.1 }

unfoldable pub table_of : ℕ → ℕ → ℕ → List Row → Lts
table_of n labels initial l = table_by n labels (length l) initial (columns_of l)

-- n, labels, m and the initial state
abbrev pub header_values : Table → List ℕ
header_values t = t.n ∷ t.labels ∷ t.m ∷ t.initial ∷ []

abbrev pub said_table : Answer Table → Said
said_table a = said_by header_values a
