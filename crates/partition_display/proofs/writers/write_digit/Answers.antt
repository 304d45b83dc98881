-- `write_digit` meets its contract.
use borrow.Author.Tests.{lt-ltb, le-ltb}
use Rattle.partition_display.proofs.Writes.{wrote_none}
use Rattle.partition_display.specs.Display.{digit}
use Rattle.partition_display.proofs.writers.write_digit.Goals as goal

pub returns-then-x-unit-clause-wrote : goal.returns-then-x-unit-clause-wrote
unfolding digit
returns-then-x-unit-clause-wrote c = rw (lt-ltb _ _ c.if-x-unit.true) (wrote_none _ _)

pub returns-clause-wrote : goal.returns-clause-wrote
unfolding digit
returns-clause-wrote c = rw (le-ltb _ _ c.if-x-unit.false) c.write_byte.ensures.wrote
