-- `tau_scc_decomposition` as it is called: what it refuses, says and leaves.
use Rattle.std.specs.Prelude.{ℕ, List, [], ◌∷◌, map, length}
use Rattle.columns.specs.Answers.{Refusal}
use Rattle.columns.specs.Answers.{Said, leaving}
use Rattle.columns.specs.Columns.{written, zeroed}
use Rattle.columns.specs.Due.{due, all_long}
use Rattle.table.specs.Checks.{rows_long, bad_row, call_room, table_tests}
use Rattle.table.specs.Lts.{Lts}
use Rattle.quotient_components.specs.Components.{components, component}

-- 1, 2, 3, 4, 7 (a result column of n cells, and the work slices), 5 and 6
unfoldable pub decomposition_refusal : Lts → List ℕ → List (List ℕ) → Refusal
unfolding due rows_long bad_row all_long
decomposition_refusal t numbers work = due (table_tests t (call_room t t.n (length numbers ∷ []) (map length work)))

-- how many components there are, each state's number over the first n cells, and the work zero
unfoldable pub tau_scc_decomposition : Lts → List ℕ → List (List ℕ) → Said × (List ℕ × List (List ℕ))
unfolding leaving decomposition_refusal components component written
tau_scc_decomposition t numbers work =
    leaving (decomposition_refusal t numbers work) (numbers, work) (components t ∷ [])
    (written t.n (component t) numbers, zeroed work)
