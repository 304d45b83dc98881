-- `write_separator` meets its contract.
use borrow.Author.Tests.{eq-eqb, ne_eqb}
use Rattle.partition_display.proofs.Writes.{wrote_none, wrote_then}
use Rattle.partition_display.specs.Display.{separator}
use Rattle.partition_display.proofs.writers.write_separator.Goals as goal

pub returns-then-k-eq0-clause-wrote : goal.returns-then-k-eq0-clause-wrote
unfolding separator
returns-then-k-eq0-clause-wrote c = rw (eq-eqb _ 0 c.if-k-eq0.true) (wrote_none _ _)

pub returns-clause-wrote : goal.returns-clause-wrote
unfolding separator
returns-clause-wrote c = rw (ne_eqb _ 0 c.if-k-eq0.false) (wrote_then c.write_byte-next.ensures.wrote c.write_byte.ensures.wrote)
