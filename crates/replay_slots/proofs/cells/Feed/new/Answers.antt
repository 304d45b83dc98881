use Rattle.std.proofs.Common.{ap, arith}
use Rattle.replay_lines.specs.declared.runs.Run.{Run}
use Rattle.replay_lines.proofs.Running.{last_equal}
use Rattle.replay_slots.proofs.cells.Feed.new.Goals as goal

pub returns : goal.returns
returns c = last_equal _ _ (ap (λ (r : Run). r.step) c.none-run.ensures) (omega (arith, ap (λ (r : Run). r.first) c.none-run.ensures))
