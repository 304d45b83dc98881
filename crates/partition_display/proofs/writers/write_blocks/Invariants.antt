-- The loop of `write_blocks`: b blocks are written. A block has at most 65,535 elements of seven bytes, two braces, and a separator of
-- two bytes.
use Rattle.std.proofs.Common.{◌+◌, ◌*◌, get_or}
use Rattle.partition_display.specs.Display.{block_text}
use Rattle.partition_display.proofs.Writes.{Joining}
use Rattle.partition_display.proofs.writers.write_blocks.Given as goal

abbrev pub invariant-loop-b : goal.invariant-loop-b
invariant-loop-b l =
    Joining
    (λ k.
    block_text l.columns.elements.now (get_or l.columns.begin.now k 0) (get_or l.columns.marked_split.now k 0)
    (get_or l.columns.end.now k 0))
    (7 * 65535 + 4) l.initial.text l.initial.next l.text l.next l.b
