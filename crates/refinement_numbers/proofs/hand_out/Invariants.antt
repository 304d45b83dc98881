-- The loop of `hand_out`: the states below s have their numbers.
use Rattle.refinement_numbers.proofs.Hands.{Hand}
use Rattle.refinement_numbers.proofs.hand_out.Given as goal

abbrev pub invariant-loop-s : goal.invariant-loop-s
invariant-loop-s l = Hand l.n l.element_to_block l.initial.block l.initial.notes l.s l.block l.notes l.next
