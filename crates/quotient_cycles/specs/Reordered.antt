-- Hidden cycles taken out: states that reach each other by hidden steps become one, and the new states are numbered in the reversed
-- hidden order, so that hidden rows to another state lead to smaller numbers.
use Rattle.std.specs.Prelude.{ℕ, Bool, true, List}
use Rattle.bisimulation.specs.Quotient.{quotient}
use Rattle.columns.specs.Rows.{rows_of}
use Rattle.columns.specs.Sets.{Row}
use Rattle.quotient.specs.Naive.{naive_rows}
use Rattle.quotient_components.specs.Components.{components, component}
use Rattle.table.specs.Lts.{Lts, rows}
use Rattle.table.specs.Tables.{table_of}
use Rattle.table_order.specs.Order.{sort_place}

-- the naive quotient by components; `eliminate` is both of its switches
unfoldable pub merged : Lts → Bool → Lts
unfolding table_of components component naive_rows rows_of
merged t eliminate =
    table_of (components t) t.labels (component t t.initial) (naive_rows eliminate eliminate (component t) (rows t))

-- the place of a component in the reversed hidden order
unfoldable pub new_place : Lts → Bool → ℕ → ℕ
unfolding sort_place merged
new_place t eliminate b = sort_place (merged t eliminate) true true b

-- the new number of a state
unfoldable pub new_number : Lts → Bool → ℕ → ℕ
unfolding new_place component
new_number t eliminate s = new_place t eliminate (component t s)

-- the rows of the quotient, renumbered
unfoldable pub new_rows : Lts → Bool → List Row
unfolding quotient new_place merged rows_of
new_rows t eliminate = quotient (new_place t eliminate) (rows (merged t eliminate))

-- the table that comes out
unfoldable pub reordered_table : Lts → Bool → Lts
unfolding table_of components new_number new_rows
reordered_table t eliminate = table_of (components t) t.labels (new_number t eliminate t.initial) (new_rows t eliminate)
