-- `row_count` meets its contract.
use Rattle.std.proofs.Common.{arith}
use Rattle.table.specs.Lts.{lts_of}
use Rattle.table.proofs.Stretches.{rising}
use Rattle.signatures_sorted.proofs.Pushed.{few_rows, rows_counted}
use Rattle.signatures_sorted.proofs.cores.row_count.Goals as goal

pub rows_of-rows-requires : goal.rows_of-rows-requires
rows_of-rows-requires c =
    let v = c.requires.0 in
    (v.long.source, rising (lts_of c.args.system.now) v, omega (arith, c.requires.1, v.few_states))

pub overflow_sub-result : goal.overflow_sub-result
overflow_sub-result c =
    let r = rows_counted (lts_of c.args.system.now) c.args.state in
    omega (arith, c.rows_of-rows.ensures.0, c.rows_of-rows.ensures.1)

pub returns : goal.returns
returns c =
    let r = rows_counted (lts_of c.args.system.now) c.args.state in
    let f = few_rows (lts_of c.args.system.now) c.args.state in
    (omega (arith, c.rows_of-rows.ensures.0, c.rows_of-rows.ensures.1), omega (arith, c.rows_of-rows.ensures.0, c.rows_of-rows.ensures.1))
