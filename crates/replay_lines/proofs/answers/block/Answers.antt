-- `block` meets its contract.
use Rattle.replay_lines.proofs.Telling.{coded_on}
use Rattle.replay_lines.proofs.answers.block.Goals as goal

pub returns-in_err-block : goal.returns-in_err-block
returns-in_err-block g c = coded_on g.R.Coded.code _ _ _ _ c.in_err-block.was c.from_residual.ensures.1
