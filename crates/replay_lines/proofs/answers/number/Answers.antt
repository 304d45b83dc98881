-- `number` meets its contract.
use Rattle.replay_lines.proofs.Telling.{coded_on}
use Rattle.replay_lines.proofs.answers.number.Goals as goal

pub returns-in_err-value : goal.returns-in_err-value
returns-in_err-value g c = coded_on g.R.Coded.code _ _ _ _ c.in_err-value.was c.from_residual.ensures.1
