-- `six_columns` meets its contract: each column is the slice that it asks for.
use Rattle.replay_calls.proofs.headers.six_columns.Goals as goal

pub returns-clause-states : goal.returns-clause-states
returns-clause-states c = (c.column.ensures, c.column-2.ensures, c.column-3.ensures)

pub returns-clause-blocks : goal.returns-clause-blocks
returns-clause-blocks c = (c.column-4.ensures, c.column-5.ensures, c.column-6.ensures)
