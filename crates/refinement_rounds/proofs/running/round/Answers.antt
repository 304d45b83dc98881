-- `round` meets its contract.
use Rattle.std.proofs.Common.{refl}
use Rattle.refinement_rounds.proofs.Rooms.{lent-cell, lent_length, lent-store, sound_front}
use Rattle.refinement_rounds.proofs.Steps.{by_signatures}
use Rattle.refinement_rounds.proofs.running.round.Goals as goal

pub split_all-requires-clause-sound : goal.split_all-requires-clause-sound
split_all-requires-clause-sound c =
    let a = c.args in
    let w = c.requires.room_now in
    let s = c.sign_all-d in
    sound_front _ c.requires.valid.1 _ _ (lent_length _ _ a.elements.now s.new.pushed_labels w.of_elements s.auto.pushed_labels)
    (lent_length _ _ a.element_offset.now s.new.pushed_blocks w.of_offset s.auto.pushed_blocks)
    (lent-cell _ _ a.elements.now s.new.pushed_labels w.of_elements)
    (lent-cell _ _ a.element_offset.now s.new.pushed_blocks w.of_offset)

pub returns-clause-fact : goal.returns-clause-fact
returns-clause-fact c =
    let a = c.args in
    let w = c.requires.room_now in
    let s = c.sign_all-d in
    let stored = lent-store _ _ a.labels.now a.blocks.now s.new.labels s.new.blocks s.result s.new.begins w.of_labels w.of_blocks in
    by_signatures _ _ _ _ _ _ refl (rw stored at s.ensures.0) c.split_all.ensures.fact
