-- What is left to write of all cells is the last run and the cells to come.
use Rattle.std.proofs.Common.{◌≡◌, ◌≤◌, drop}
use Rattle.replay_lines.specs.Text.{puts}
use Rattle.replay_lines.specs.Slices.{rest_text, cells_text}
use Rattle.replay_lines.proofs.slices.byte_cells.Given as goal

abbrev pub invariant-loop-cell : goal.invariant-loop-cell
invariant-loop-cell l = record {
  short_run : l.shown.run.count ≤ l.cell-index;
  same : puts (rest_text l.short l.shown.run (drop l.cell-index l.cells)) (l.shown.used, l.out.bytes)
      ≡ puts (cells_text l.short l.cells) (l.used, l.initial.out.bytes);
}
