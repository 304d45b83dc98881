-- `held::show` meets its contract, by those of what it calls.
use Rattle.replay_slots.proofs.Showing.{slice_shown}
use Rattle.replay_slots.proofs.held.show.Goals as goal

pub returns : goal.returns
returns c = let a = c.args in
    slice_shown a.case a.k a.array.now _ c.length.ensures c.between.ensures.cells
    c.column.ensures
