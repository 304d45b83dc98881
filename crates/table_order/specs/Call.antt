-- The whole call: what refuses it, what it says, and what it leaves in the columns.
use Rattle.std.specs.Prelude.{ℕ, Bool, cond, ◌&&◌, List, [], ◌∷◌, length, nat_le}
use Rattle.columns.specs.Answers.{Refusal}
use Rattle.columns.specs.Answers.{Said, done, refused, unless}
use Rattle.columns.specs.Columns.{written, cleared}
use Rattle.columns.specs.Due.{due, all_long}
use Rattle.columns.specs.Limits.{cyclic}
use Rattle.table.specs.Lts.{Lts}
use Rattle.table.specs.Checks.{rows_long, works_long, bad_row, table_tests}
use Rattle.table_order.specs.Order.{sort_place, has_cycle}

-- 1, 2, 3, 4, 7, 5 and 6; a result column of n cells and two work slices, by their lengths
unfoldable pub sort_refusal : Lts → ℕ → ℕ → ℕ → Refusal
unfolding due rows_long bad_row all_long
sort_refusal t places marks stack = due (table_tests t (nat_le t.n places && works_long t (marks ∷ stack ∷ [])))

-- the places go over the first n cells; a cycle leaves them as they were
unfoldable pub sorted : Lts → Bool → Bool → List ℕ → List ℕ
unfolding has_cycle written sort_place
sorted t hidden reversed places = cond (has_cycle t hidden) places (written t.n (sort_place t hidden reversed) places)

-- 11 at 0 for a cycle; a call that the checks refuse leaves everything as it was, any other one leaves the work zero
unfoldable pub sort_topological : Lts → Bool → Bool → List ℕ → List ℕ → List ℕ → Said × (List ℕ × (List ℕ × List ℕ))
unfolding unless sort_refusal has_cycle sorted
sort_topological t hidden reversed places marks stack =
    unless (sort_refusal t (length places) (length marks) (length stack)) (places, (marks, stack))
    (cond (has_cycle t hidden) (refused cyclic 0) (done []), (sorted t hidden reversed places, (cleared marks, cleared stack)))
