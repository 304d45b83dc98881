-- `write_element` meets its contract.
use borrow.Author.Tests.{le-leb, lt-leb}
use Rattle.partition_display.proofs.Writes.{wrote_none, wrote_then}
use Rattle.partition_display.specs.Display.{element_text}
use Rattle.partition_display.proofs.writers.write_element.Goals as goal

pub returns-then-k-split-clause-wrote : goal.returns-then-k-split-clause-wrote
unfolding element_text
returns-then-k-split-clause-wrote c =
    rw (lt-leb _ _ c.if-k-split.true, ← c.at-x.ensures.0) (wrote_then c.write_number-next.ensures.wrote (wrote_none _ _))

pub returns-clause-wrote : goal.returns-clause-wrote
unfolding element_text
returns-clause-wrote c =
    rw (le-leb _ _ c.if-k-split.false, ← c.at-x.ensures.0) (wrote_then c.write_number-next.ensures.wrote c.write_byte.ensures.wrote)
