use Rattle.std.proofs.Common.{rules}
use Rattle.replay_lines.specs.Places.{in_line}
use Rattle.replay_lines.proofs.input.in_line.Goals as goal

pub returns : goal.returns
unfolding in_line
returns c = search rules
