-- No cell of the run is above the largest.
use Rattle.std.proofs.Common.{◌≤◌}
use Rattle.replay_lines.specs.Runs.{last_cell}
use Rattle.replay_slots.proofs.cells.read_cells.Given as goal

abbrev pub invariant-loop-i : goal.invariant-loop-i
invariant-loop-i g l = last_cell l.feed.run ≤ l.most
