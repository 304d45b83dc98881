-- `partition` meets its contract.
use Rattle.replay_lines.proofs.Telling.{coded_on}
use Rattle.replay_lines.proofs.answers.partition.Goals as goal

pub returns-in_err-partition : goal.returns-in_err-partition
returns-in_err-partition g c = coded_on g.R.Coded.code _ _ _ _ c.in_err-partition.was c.from_residual.ensures.1
