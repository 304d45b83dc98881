-- `blank` is the literal.
use Rattle.std.proofs.Common.{rules}
use Rattle.partition_records.specs.Tables.{blank}
use Rattle.partition_records.proofs.records.empty_table.Goals as goal

pub returns : goal.returns
unfolding blank
returns c = search rules
