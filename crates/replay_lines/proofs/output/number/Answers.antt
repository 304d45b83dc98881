-- A blank is the mark.
use Rattle.replay_lines.specs.Spelling.{spelled}
use Rattle.replay_lines.proofs.output.number.Goals as goal

pub returns : goal.returns
unfolding spelled
returns c = c.marked.ensures
