-- Three texts, one after the other.
use Rattle.spelling.specs.Texts.{text}
use Rattle.replay_lines.specs.Slices.{part_text}
use Rattle.replay_lines.proofs.Putting.{puts_then}
use Rattle.replay_lines.proofs.slices.part.Goals as goal

pub returns : goal.returns
unfolding text part_text
returns c = puts_then _ _ _ (puts_then (text "part") _ _ c.word-a.ensures c.number-b.ensures) c.cells.ensures
