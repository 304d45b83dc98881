-- The loop of `put_rows`: the rows before this one are stored.
use Rattle.file.specs.Layout.{output_rows}
use Rattle.file.specs.Output.{row_bytes}
use Rattle.file.proofs.Stores.{Stored}
use Rattle.file.proofs.cores.put_rows.Given as goal

abbrev pub invariant-loop-i : goal.invariant-loop-i
invariant-loop-i l = Stored (row_bytes l.system.source.now l.system.label.now l.system.target.now) output_rows l.initial.bytes l.i l.bytes
