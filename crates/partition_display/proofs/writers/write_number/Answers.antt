-- `write_number` meets its contract.
use Rattle.partition_display.proofs.Writes.{wrote_then}
use Rattle.partition_display.specs.Display.{decimal}
use Rattle.partition_display.proofs.writers.write_number.Goals as goal

pub returns-clause-wrote : goal.returns-clause-wrote
unfolding decimal
returns-clause-wrote c =
    wrote_then (wrote_then (wrote_then c.write_digit-a.ensures.wrote c.write_digit-b.ensures.wrote) c.write_digit-c.ensures.wrote)
    c.write_byte.ensures.wrote
