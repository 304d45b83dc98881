-- The loop of `run`: `rounds` rounds have split something, and the partition is what they leave.
use Rattle.partition.specs.Partition.{parts}
use Rattle.refinement_rounds.specs.Rooms.{Room}
use Rattle.refinement_rounds.proofs.Steps.{RoundsGoing}
use Rattle.signatures.specs.Strong.{strong_signature}
use Rattle.table.specs.Lts.{lts_of}
use Rattle.refinement_rounds.proofs.running.run.Given as goal

abbrev pub invariant-loop-rounds : goal.invariant-loop-rounds
invariant-loop-rounds l = record {
  going : RoundsGoing (strong_signature (lts_of l.system)) l.rounds
      (parts l.elements l.element_offset l.element_to_block l.begin l.marked_split l.end l.system.table.n l.count);
  room : Room l.system.table.n l.system.table.m l.elements l.element_offset l.begins l.numbers l.labels l.blocks l.spare;
}
