-- `put_rows` meets its contract.
use Rattle.std.proofs.Common.{◌≡◌, refl, arith}
use Rattle.columns.specs.Columns.{laid}
use Rattle.file.specs.Layout.{output_rows, row_size}
use Rattle.file.specs.Output.{row_bytes, rows_bytes}
use Rattle.file.proofs.Outputs.{length_row}
use Rattle.file.proofs.Stores.{stored_more}
use Rattle.file.proofs.cores.put_rows.Goals as goal

pub loop-i-init : goal.loop-i-init
unfolding laid
loop-i-init c = refl

pub loop-i-preserved : goal.loop-i-preserved
unfolding row_bytes
loop-i-preserved c =
    let a = c.args in
    stored_more (row_bytes a.system.now.source.now a.system.now.label.now a.system.now.target.now) output_rows _ row_size c.loop-i.i _ _ _
    (length_row a.system.now.source.now a.system.now.label.now a.system.now.target.now) refl c.put_words.ensures c.loop-i.invariant

pub returns : goal.returns
unfolding rows_bytes
returns c =
    let e : c.loop-i.i ≡ c.args.system.now.table.m = omega arith in
    rw e at c.loop-i.invariant
