-- `system` meets its contract: each column of the rows is the slice that it asks for.
use Rattle.replay_calls.proofs.headers.system.Goals as goal

pub returns-clause-rows : goal.returns-clause-rows
returns-clause-rows c = (c.column.ensures, c.column-2.ensures, c.column-3.ensures)
