-- `stretch` meets its contract.
use Rattle.replay_lines.proofs.Telling.{told_on}
use Rattle.replay_calls.proofs.tables.stretch.Goals as goal

pub returns-in_err-rows : goal.returns-in_err-rows
returns-in_err-rows c = told_on _ c.args.answer _ _ c.in_err-rows.was c.from_residual.ensures.1
