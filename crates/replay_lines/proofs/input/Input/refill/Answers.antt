use Rattle.std.proofs.Common.{rules}
use Rattle.replay_lines.specs.Places.{filled}
use Rattle.replay_lines.proofs.input.Input.refill.Goals as goal

pub returns-then-end-eq0 : goal.returns-then-end-eq0
unfolding filled
returns-then-end-eq0 c = search rules

pub returns-else-end-eq0 : goal.returns-else-end-eq0
unfolding filled
returns-else-end-eq0 c = search rules
