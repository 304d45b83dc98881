-- `copy` meets its contract.
use Rattle.std.proofs.Common.{rules}
use Rattle.columns.specs.Columns.{over}
use Rattle.columns.proofs.cells.copy.Goals as goal

pub returns : goal.returns
unfolding over
returns c = search rules
