-- `reduced` meets its contract.
use Rattle.replay_lines.proofs.Telling.{coded_on}
use Rattle.replay_files.proofs.answers.reduced.Goals as goal

pub returns-in_err-done : goal.returns-in_err-done
returns-in_err-done g c = coded_on g.R.Coded.code _ _ _ _ c.in_err-done.was c.from_residual.ensures.1
