-- `texts::show` meets its contract, by those of what it calls.
use Rattle.replay_slots.proofs.Showing.{slice_shown}
use Rattle.replay_slots.proofs.texts.show.Goals as goal

pub returns : goal.returns
returns c = let a = c.args in
    slice_shown a.case 0 a.array.now _ c.length.ensures
    c.between.ensures.cells
    c.bytes.ensures
