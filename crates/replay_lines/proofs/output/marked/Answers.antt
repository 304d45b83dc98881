-- A byte, and the digits of a number.
use Rattle.replay_lines.proofs.Putting.{put_then, puts_as}
use Rattle.replay_lines.proofs.output.marked.Goals as goal

pub returns : goal.returns
returns c = put_then _ _ _ c.byte-at.ensures (puts_as _ _ _ c.word.ensures c.decimal-count.ensures.text_value)
