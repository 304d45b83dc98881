use Rattle.std.proofs.Common.{arith}
use Rattle.std.proofs.lemmas.Grind.{common_steps}
use borrow.Author.Tests.{tests}
use Rattle.replay_lines.specs.Runs.{repeats}
use Rattle.replay_lines.proofs.runs.Run.repeats.Goals as goal

pub returns-then-self-eq0 : goal.returns-then-self-eq0
unfolding repeats
returns-then-self-eq0 c = grind (arith, common_steps, tests)

pub returns-else-self-eq0 : goal.returns-else-self-eq0
unfolding repeats
returns-else-self-eq0 c = grind (arith, common_steps, tests)
