-- The incoming list: all row numbers by target, then source, then label.
use Rattle.std.specs.Prelude.{ℕ, ◌&&◌, List, [], ◌∷◌, length, nat_le}
use Rattle.columns.specs.Answers.{Refusal}
use Rattle.columns.specs.Answers.{Said, leaving}
use Rattle.columns.specs.Columns.{listed, over, sort_by, cleared}
use Rattle.columns.specs.Due.{due, all_long}
use Rattle.columns.specs.Sets.{Row}
use Rattle.columns.specs.Rows.{row_in}
use Rattle.table.specs.Lts.{Lts}
use Rattle.table.specs.Checks.{rows_long, works_long, bad_row, table_tests}

unfoldable pub incoming_order : Lts → List ℕ
unfolding sort_by listed
incoming_order t = sort_by t.target t.source t.label (listed t.m (λ k. k))

-- row i as it is sorted: (target, (source, label))
abbrev pub back_row : Lts → ℕ → Row
back_row t i = row_in t.target t.source t.label i

-- 1, 2, 3, 4, 7, 5 and 6; the result and the work slice by their lengths
unfoldable pub incoming_refusal : Lts → ℕ → ℕ → Refusal
unfolding due rows_long bad_row all_long
incoming_refusal t result spare = due (table_tests t (nat_le t.m result && works_long t (spare ∷ [])))

-- the list goes over the first cells of the result, and the work slice is zero
unfoldable pub incoming_rows : Lts → List ℕ → List ℕ → Said × (List ℕ × List ℕ)
unfolding leaving incoming_refusal over incoming_order
incoming_rows t result spare =
    leaving (incoming_refusal t (length result) (length spare)) (result, spare) (t.m ∷ [])
    (over (incoming_order t) result, cleared spare)
