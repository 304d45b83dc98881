-- The loop of `write_block`: i elements are written. An element has at most five bytes, its separator two.
use Rattle.std.proofs.Common.{◌+◌}
use Rattle.partition_display.specs.Display.{element_text}
use Rattle.partition_display.proofs.Writes.{Joining}
use Rattle.partition_display.proofs.writers.write_block.Given as goal

abbrev pub invariant-loop-i : goal.invariant-loop-i
invariant-loop-i l = Joining (λ k. element_text l.elements l.split (l.from + k)) 7 l.initial.text l.initial.next l.text l.next l.i
