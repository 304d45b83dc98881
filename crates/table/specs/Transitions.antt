-- The calls that name the rows of a state: those that leave it, as a run, and those that lead to it, one after the other.
use Rattle.std.specs.Prelude.{ℕ, ◌+◌, true, List, [], ◌∷◌, ◌++◌}
use Rattle.columns.specs.Answers.{Answer, Refusal, Said, answering, said_by}
use Rattle.columns.specs.Due.{due, index_test}
use Rattle.table.specs.declared.cores.Stretch.{Stretch}
use Rattle.table.specs.Lts.{Lts}
use Rattle.table.specs.Checks.{rows_long, bad_row, table_tests, table_argument_refusal}
use Rattle.table.specs.Stretch.{first_row, next_incoming}

-- the first row of a run, and the row after its last
abbrev pub stretch_values : Stretch → List ℕ
stretch_values r = r.first ∷ r.end ∷ []

abbrev pub said_stretch : Answer Stretch → Said
said_stretch a = said_by stretch_values a

-- the table's refusals, then 8 for a state that is not below n, and for a row above m
unfoldable pub next_refusal : Lts → ℕ → ℕ → Refusal
unfolding due rows_long bad_row
next_refusal t u from = due (table_tests t true ++ (index_test u t.n ∷ index_test from (t.m + 1) ∷ []))

-- the rows of s are those from the first whose source is s or above to before the first whose source is above s
unfoldable pub outgoing_transitions : Lts → ℕ → Said
unfolding answering table_argument_refusal first_row
outgoing_transitions t s =
    answering (table_argument_refusal t s t.n true) (first_row t.source t.m s ∷ first_row t.source t.m (s + 1) ∷ [])

-- the least row at or after `from` that leads to u, m if there is none
unfoldable pub next_incoming_row : Lts → ℕ → ℕ → Said
unfolding answering next_refusal next_incoming
next_incoming_row t u from = answering (next_refusal t u from) (next_incoming t.target t.m u from ∷ [])
