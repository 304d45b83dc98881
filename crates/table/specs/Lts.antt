-- A transition table as a header and three columns, its rows, and what holds of one that is checked.
use Rattle.std.specs.Prelude.{◌≡◌, ℕ, ◌<◌, ◌≤◌, true, List, length, slice_index_or}
use Rattle.columns.specs.Limits.{max_labels, max_rows, max_states}
use Rattle.columns.specs.Rows.{row_in, rows_of}
use Rattle.columns.specs.Sets.{Row, StepIn, row_lt}
use Rattle.table.specs.declared.Lts as code
use Rattle.table.specs.declared.Table.{Table}

-- a header, and three columns whose first m cells are the rows
pub record Lts : Type 0 where
  pub n : ℕ
  pub labels : ℕ
  pub m : ℕ
  pub initial : ℕ
  pub source : List ℕ
  pub label : List ℕ
  pub target : List ℕ

abbrev pub lts : Table → List ℕ → List ℕ → List ℕ → Lts
lts t source label target =
    record { n = t.n; labels = t.labels; m = t.m; initial = t.initial; source = source; label = label; target = target }

-- the table that is lent to be read
abbrev pub lts_of : code.Lts → Lts
lts_of t = lts t.table t.source.now t.label.now t.target.now

-- row i of the table: (source, (label, target))
abbrev pub row_at : Lts → ℕ → Row
row_at t i = row_in t.source t.label t.target i

-- all rows, in their order
abbrev pub rows : Lts → List Row
rows t = rows_of t.m t.source t.label t.target

-- a step from s to u under label a
abbrev pub Step : Lts → ℕ → ℕ → ℕ → Type 0
Step t s a u = StepIn (rows t) s a u

-- every column has m cells
pub record RowsLong (t : Lts) : Type 0 where
  pub source : t.m ≤ length t.source
  pub label : t.m ≤ length t.label
  pub target : t.m ≤ length t.target

-- the fields of row i are in range
pub record Fields (t : Lts) (i : ℕ) : Type 0 where
  pub source : slice_index_or t.source i 0 < t.n
  pub label : slice_index_or t.label i 0 < t.labels
  pub target : slice_index_or t.target i 0 < t.n

-- what a call may go by once the table is checked
pub record Valid (t : Lts) : Type 0 where
  pub some_states : 1 ≤ t.n
  pub few_states : t.n ≤ max_states
  pub some_labels : 1 ≤ t.labels
  pub few_labels : t.labels ≤ max_labels
  pub few_rows : t.m ≤ max_rows
  pub initial : t.initial < t.n
  pub long : RowsLong t
  pub fields : (i : ℕ) → i < t.m → Fields t i
  pub ascending : (i j : ℕ) → i < j → j < t.m → row_lt (row_at t i) (row_at t j) ≡ true
