use Rattle.std.proofs.Common.{arith}
use Rattle.std.proofs.lemmas.Grind.{common_steps}
use Rattle.replay_lines.specs.Runs.{ascends}
use Rattle.replay_lines.proofs.runs.Run.ascends.Goals as goal
use Rattle.replay_lines.proofs.runs.Run.ascends.Goals.{then-self-x, else-self-x}
use borrow.Author.Tests.{tests}

pub returns-then-self-eq1 : goal.returns-then-self-eq1
unfolding ascends
returns-then-self-eq1 c = grind (arith, common_steps, tests)

pub returns-else-self-eq1 : goal.returns-else-self-eq1
unfolding ascends
returns-else-self-eq1 c = grind (arith, common_steps, tests)

pub returns-else-x-self : goal.returns-else-x-self
unfolding ascends
returns-else-x-self c = grind (arith, common_steps, tests)
