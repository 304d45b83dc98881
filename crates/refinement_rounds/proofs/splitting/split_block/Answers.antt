-- `split_block` meets its contract.
use Rattle.std.proofs.Common.{refl}
use Rattle.refinement_rounds.proofs.OneBlock.{read_ready, read_divided}
use Rattle.refinement_rounds.proofs.Rooms.{parts-behind}
use Rattle.refinement_rounds.proofs.splitting.split_block.Goals as goal

pub partition_marked_with-requires-clause-dividable : goal.partition_marked_with-requires-clause-dividable
partition_marked_with-requires-clause-dividable c =
    let g = c.requires.sound in
    read_ready _ g.0 _ g.1 _ _ c.at-x.ensures.0 c.at-z.ensures.0 _ _ _ c.number_block.ensures.numbered _ c.mark_all.ensures

pub returns-clause-fact : goal.returns-clause-fact
returns-clause-fact c =
    let a = c.args in
    let g = c.requires.sound in
    let numbered = rw (parts-behind a.n a.labels.now a.blocks.now a.d a.begins.now) at c.number_block.ensures.numbered in
    read_divided _ g.0 _ g.1 _ _ c.at-x.ensures.0 c.at-z.ensures.0 _ _ _ numbered _ c.mark_all.ensures _ c.partition_marked_with.ensures.0
    refl
