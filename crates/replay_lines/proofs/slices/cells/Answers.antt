use Rattle.std.proofs.Common.{ap, arith}
use Rattle.replay_lines.specs.declared.runs.Run.{Run}
use Rattle.replay_lines.proofs.Showing.{shown_none, shown_turn, shown_end}
use Rattle.replay_lines.proofs.slices.cells.Goals as goal

pub loop-cell-init : goal.loop-cell-init
loop-cell-init c =
    record { short_run = omega (arith, ap (λ (r : Run). r.count) c.none-run.ensures); same = shown_none _ _ _ _ c.none-run.ensures }

pub loop-cell-preserved : goal.loop-cell-preserved
loop-cell-preserved c =
    let turn = c.loop-cell in
    record {
      short_run = omega (arith, c.show_cell-shown.ensures.longer);
      same = shown_turn c.args.cells.now turn.cell-index _ _ _ _ _ _ (omega arith) c.from.ensures c.show_cell-shown.ensures turn.invariant.same;
    }

pub returns : goal.returns
returns c = shown_end c.args.cells.now c.loop-cell.cell-index _ _ _ _ (omega arith) c.show_run.ensures c.loop-cell.invariant.same
