-- `lay_rows` meets its contract.
use Rattle.table.specs.Tables.{rows_over}
use Rattle.quotient.proofs.cores.lay_rows.Goals as goal

pub returns-clause-fact : goal.returns-clause-fact
unfolding rows_over
returns-clause-fact c =
    let e = c.row_set-r.ensures in
    (e.value, λ i. (e.x_value i, (e.y_value i, e.z_value i)))
