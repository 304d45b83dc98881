use Rattle.std.proofs.Common.{arith}
use borrow.Author.Tests.{tests}
use Rattle.replay_slots.specs.Sizes.{bounded}
use Rattle.std.proofs.lemmas.Grind.{common_steps}
use Rattle.replay_slots.proofs.cells.plus.Goals as goal

pub returns-then-b-lt1000000000000 : goal.returns-then-b-lt1000000000000
unfolding bounded
returns-then-b-lt1000000000000 c = grind (arith, common_steps, tests)

pub returns-else-a-lt1000000000000 : goal.returns-else-a-lt1000000000000
unfolding bounded
returns-else-a-lt1000000000000 c = grind (arith, common_steps, tests)
