-- `header` meets its contract.
use Rattle.replay_lines.proofs.Telling.{coded_on}
use Rattle.replay_calls.proofs.answers.header.Goals as goal

pub returns-in_err-header : goal.returns-in_err-header
returns-in_err-header g c = coded_on g.R.Coded.code _ _ _ _ c.in_err-header.was c.from_residual.ensures.1
