-- Loop invariants of the numbering: what the proofs go by, nothing that a contract of an operation says.
use Rattle.std.specs.Prelude.{ℕ, cond, List, ◌==◌, nat_lt}
use Rattle.columns.specs.Columns.{listed}
use Rattle.columns.specs.Number.{least}
use Rattle.table.specs.Lts.{Lts}
use Rattle.quotient_components.specs.Components.{linked, component}

-- the components whose least member is below k are numbered, and the cell of every other state has n
unfoldable pub numbered_below : Lts → ℕ → List ℕ
unfolding linked least component listed
numbered_below t k = listed t.n (λ u. cond (nat_lt (least (linked t) u) k) (component t u) t.n)

-- x where both marks are set, else y
unfoldable pub if_both : ℕ → ℕ → ℕ → ℕ → ℕ
if_both f b x y = cond (f == 0) y (cond (b == 0) y x)
