-- The last cell stays the last, so the next one fits too.
use Rattle.std.proofs.Common.{refl, arith}
use Rattle.replay_lines.specs.Runs.{last_cell}
use Rattle.replay_lines.proofs.Running.{last_rest, second_last}
use Rattle.replay_lines.proofs.runs.Run.rest.Goals as goal

pub overflow_add-result : goal.overflow_add-result
overflow_add-result c = omega (arith, second_last c.args.self 4294967295 c.requires.0 c.requires.1)

pub returns : goal.returns
unfolding last_cell
returns c = (refl, last_rest _ _ _ c.requires.0)
