-- The loop of `split_all`: the blocks below b are divided, and the work slices are as they were.
use Rattle.std.proofs.Common.{◌≡◌}
use Rattle.partition.specs.Partition.{parts}
use Rattle.refinement_rounds.specs.Rooms.{store_behind}
use Rattle.refinement_rounds.specs.Splitting.{stored_signature}
use Rattle.refinement_rounds.proofs.AllBlocks.{Splitting}
use Rattle.refinement_rounds.proofs.splitting.split_all.Given as goal

abbrev pub invariant-loop-b : goal.invariant-loop-b
invariant-loop-b l =
    let i = l.initial in
    record {
      divided : Splitting (stored_signature (store_behind l.n i.labels i.blocks l.d l.begins))
          (parts i.elements i.element_offset i.element_to_block i.begin i.marked_split i.end l.n l.count) l.b
          (parts l.elements l.element_offset l.element_to_block l.begin l.marked_split l.end l.n l.c);
      labels : l.labels ≡ i.labels;
      blocks : l.blocks ≡ i.blocks;
      spare : l.spare ≡ i.spare;
    }
