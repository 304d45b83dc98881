-- `plain` meets its contract.
use Rattle.replay_lines.proofs.Telling.{coded_on}
use Rattle.replay_lines.proofs.answers.plain.Goals as goal

pub returns-in_err-answer : goal.returns-in_err-answer
returns-in_err-answer g c = coded_on g.R.Coded.code _ _ _ _ c.in_err-answer.was c.from_residual.ensures.1
