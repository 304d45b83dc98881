-- `swap_cells` meets its contract.
use Rattle.std.proofs.Common.{rules}
use Rattle.columns.specs.Columns.{swapped}
use Rattle.columns.proofs.cells.swap_cells.Goals as goal

pub returns : goal.returns
unfolding swapped
returns c = search rules
