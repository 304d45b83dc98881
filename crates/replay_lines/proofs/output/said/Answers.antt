-- Each arm writes the text of its case.
use Rattle.std.proofs.Common.{arith}
use Rattle.spelling.specs.Texts.{text}
use Rattle.replay_lines.proofs.Putting.{puts_as, puts_then}
use Rattle.replay_lines.proofs.Telling.{coded_refused, coded_done}
use Rattle.replay_lines.proofs.output.said.Goals as goal

pub returns-in-Err : goal.returns-in-Err
returns-in-Err g c = puts_as _ _ _ c.refused.ensures (coded_refused g.R.Coded.code _ _ c.in-Err.is)

pub returns-in-Ok : goal.returns-in-Ok
unfolding text
returns-in-Ok g c = puts_as _ _ _ (puts_then (text "done") _ _ c.word-at.ensures c.numbers.ensures)
    (coded_done g.R.Coded.code _ _ _ c.in-Ok.is c.min.ensures (omega arith))
