-- `tau_cycle_elimination_and_reorder` as it is called: what it refuses, says and leaves.
use Rattle.std.specs.Prelude.{ℕ, Bool, List, [], ◌∷◌, map, length}
use Rattle.columns.specs.Answers.{Answer, Refusal}
use Rattle.columns.specs.Answers.{Said, said_by, leaving}
use Rattle.columns.specs.Columns.{zeroed}
use Rattle.columns.specs.Due.{all_long}
use Rattle.quotient_components.specs.Components.{components}
use Rattle.table.specs.Checks.{call_room, table_argument_refusal}
use Rattle.table.specs.Lts.{Lts}
use Rattle.table.specs.Tables.{Three, lengths_of, rows_over}
use Rattle.quotient_cycles.specs.declared.Reordered.{Reordered}
use Rattle.quotient_cycles.specs.Reordered.{new_number, new_rows}

-- n, labels, m and the initial state of the result, and the new number of the state that is given
abbrev pub reordered_values : Reordered → List ℕ
reordered_values r = r.table.n ∷ r.table.labels ∷ r.table.m ∷ r.table.initial ∷ r.state ∷ []

abbrev pub said_reordered : Answer Reordered → Said
said_reordered a = said_by reordered_values a

-- 1, 2, 3, 4, 7 (three result columns of m cells, and the work slices), 5 and 6, 8
unfoldable pub reorder_refusal : Lts → ℕ → Three → List (List ℕ) → Refusal
unfolding table_argument_refusal all_long
reorder_refusal t state out work = table_argument_refusal t state t.n (call_room t t.m (lengths_of out) (map length work))

-- the rows over the first cells of the result columns, and the work zero
unfoldable pub tau_cycle_elimination_and_reorder : Lts → ℕ → Bool → Three → List (List ℕ) → Said × (Three × List (List ℕ))
unfolding leaving reorder_refusal components new_number new_rows rows_over
tau_cycle_elimination_and_reorder t state eliminate out work =
    let l = new_rows t eliminate in
    leaving (reorder_refusal t state out work) (out, work)
    (components t ∷ t.labels ∷ length l ∷ new_number t eliminate t.initial ∷ new_number t eliminate state ∷ [])
    (rows_over l out, zeroed work)
