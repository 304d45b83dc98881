-- `case::between` meets its contract: there is such a part, or not.
use mathlib.Core.Path.{refl}
use Rattle.replay_slots.proofs.Parts.{part_there, part_missing, fits_beyond, fits_turned}
use Rattle.replay_slots.proofs.case.between.Goals.{then-start-end+else-end-cells, else-start-end}
use Rattle.replay_slots.proofs.case.between.Goals as goal

pub returns-then-end-cells : goal.returns-then-end-cells
returns-then-end-cells g c = let a = c.args in
    part_there a.start a.end c.if-start-end.true c.if-end-cells.true refl refl

pub returns : goal.returns
returns g c = let a = c.args in
    part_missing a.start a.end
    (elim c.if-start-end.branch [
      | then-start-end+else-end-cells w ↦ fits_beyond a.cells.now a.start a.end w.if-end-cells.false
      | else-start-end w ↦ fits_turned a.cells.now a.start a.end w.if-start-end.false
    ])
    refl refl
