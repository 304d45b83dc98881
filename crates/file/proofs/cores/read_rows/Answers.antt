-- `read_rows` meets its contract.
use Rattle.table.specs.Tables.{columns_over}
use Rattle.file.specs.Input.{with_rows}
use Rattle.file.proofs.cores.read_rows.Goals as goal

pub returns : goal.returns
unfolding with_rows columns_over
returns c = λ i. (c.read_column.ensures i, (c.read_column-2.ensures i, c.read_column-3.ensures i))
