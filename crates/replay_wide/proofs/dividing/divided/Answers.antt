-- `divided` meets its contract.
use Rattle.replay_lines.proofs.Telling.{told_on}
use Rattle.replay_wide.proofs.dividing.divided.Goals as goal

pub returns-in_err-division : goal.returns-in_err-division
returns-in_err-division c = told_on _ c.args.answer _ _ c.in_err-division.was c.from_residual.ensures.1
