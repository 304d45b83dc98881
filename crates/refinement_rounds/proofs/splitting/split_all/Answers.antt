-- `split_all` meets its contract.
use Rattle.std.proofs.Common.{refl, arith, ◌∙◌}
use Rattle.refinement_rounds.proofs.AllBlocks.{all-next}
use Rattle.refinement_rounds.proofs.splitting.split_all.Goals as goal

pub loop-b-preserved : goal.loop-b-preserved
loop-b-preserved c =
    let i = c.loop-b.invariant in
    let q = c.split_block-c.ensures in
    record {
      divided = all-next _ _ c.requires.sound _ _ refl i.divided (omega arith) _ (rw (i.labels, i.blocks) at q.fact);
      labels = q.labels_value.0 ∙ i.labels;
      blocks = q.labels_value.1 ∙ i.blocks;
      spare = q.labels_value.2 ∙ i.spare;
    }
