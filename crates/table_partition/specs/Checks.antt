-- The refusals of the calls that take a table and a partition of its states, in document 01's order.
use Rattle.std.specs.Prelude.{ℕ, Bool, ◌&&◌, List, [], ◌∷◌, ◌++◌}
use Rattle.columns.specs.Limits.{inconsistent}
use Rattle.columns.specs.Answers.{Refusal}
use Rattle.columns.specs.Due.{Test, test, due, index_test}
use Rattle.partition.specs.Partition.{Partition, longb, consistentb}
use Rattle.table.specs.Checks.{rows_long, bad_row, table_tests}
use Rattle.table.specs.Lts.{Lts}

-- 1, 2, 3, 4, 7 (`room`: the call's other slices are long enough), 5 and 6, 14
abbrev pub both_tests : Lts → Partition → Bool → List Test
both_tests t p room = table_tests t (longb p && room) ++ (test (consistentb p) inconsistent 0 ∷ [])

-- a call that takes both, and an argument that is below a bound
unfoldable pub both_argument_refusal : Lts → Partition → ℕ → ℕ → Bool → Refusal
unfolding due rows_long bad_row longb consistentb
both_argument_refusal t p i bound room = due (both_tests t p room ++ (index_test i bound ∷ []))
