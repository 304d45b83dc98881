-- Two texts, one after the other.
use Rattle.spelling.specs.Texts.{text}
use Rattle.replay_lines.specs.Slices.{column_text}
use Rattle.replay_lines.proofs.Putting.{puts_then}
use Rattle.replay_lines.proofs.slices.bytes.Goals as goal

pub returns : goal.returns
unfolding text column_text
returns c = puts_then (text " |") _ _ c.word-at.ensures c.byte_cells.ensures
